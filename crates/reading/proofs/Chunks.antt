-- Bytes as the code cuts them: in pairs, and a last byte without another. Assumes nothing.
use Rattle.std.proofs.Common.{◌≡◌, ℕ, suc, ◌*◌, ◌/◌, ◌%◌, ◌<◌, Some, None, List, [], ◌∷◌, ◌++◌, map, drop, flat_map, length, refl, ap, ◌∙◌, arith}
use Rattle.std.specs.Prelude.{slice_get, slice_index}
use Rattle.std.specs.Simd.{first_chunks}
use Rattle.reading.specs.RowBytes.{pair_numbers, set_number}
use Rattle.reading.specs.AnswerBytes.{numbers_in}

-- the number of a pair that is an array
abbrev pub of_array : (ℕ → ℕ → ℕ) → List ℕ → ℕ
of_array number pair = number (slice_index pair 0) (slice_index pair 1)

pub pairs_by_chunks : (number : ℕ → ℕ → ℕ) (bytes : List ℕ) → map (of_array number) (first_chunks 2 (length bytes / 2) bytes) ≡ pair_numbers number bytes
unfolding pair_numbers
pairs_by_chunks number [] = refl
pairs_by_chunks number (high ∷ []) = refl
pairs_by_chunks number (high ∷ (low ∷ bytes)) =
    let more : length (high ∷ (low ∷ bytes)) / 2 ≡ suc (length bytes / 2) = omega arith in
    ap (λ (k : ℕ). map (of_array number) (first_chunks 2 k (high ∷ (low ∷ bytes)))) more ∙ ap (λ (xs : List ℕ). number high low ∷ xs) (pairs_by_chunks number bytes)

-- the two numbers of an answer
abbrev pub answer : List ℕ → List ℕ
answer pair = slice_index pair 0 % 16 ∷ (set_number (slice_index pair 0 / 16) (slice_index pair 1) ∷ [])

pub answers_by_chunks : (bytes : List ℕ) → flat_map answer (first_chunks 2 (length bytes / 2) bytes) ++ map (λ (first : ℕ). first % 16) (drop (length bytes / 2 * 2) bytes) ≡ numbers_in bytes
unfolding numbers_in
answers_by_chunks [] = refl
answers_by_chunks (first ∷ []) = refl
answers_by_chunks (first ∷ (second ∷ bytes)) =
    let more : length (first ∷ (second ∷ bytes)) / 2 ≡ suc (length bytes / 2) = omega arith in
    let twice : suc (length bytes / 2) * 2 ≡ suc (suc (length bytes / 2 * 2)) = omega arith in
    (λ j. flat_map answer (first_chunks 2 (more j) (first ∷ (second ∷ bytes))) ++ map (λ (b : ℕ). b % 16) (drop (more j * 2) (first ∷ (second ∷ bytes))))
    ∙ (λ j. flat_map answer (first_chunks 2 (suc (length bytes / 2)) (first ∷ (second ∷ bytes))) ++ map (λ (b : ℕ). b % 16) (drop (twice j) (first ∷ (second ∷ bytes))))
    ∙ ap (λ (xs : List ℕ). first % 16 ∷ (set_number (first / 16) second ∷ xs)) (answers_by_chunks bytes)

-- the bytes behind the last pair, of which there is one at most
pub one_left : (cut : List ℕ) (first : ℕ) → length cut < 2 → slice_get cut 0 ≡ Some first → cut ≡ first ∷ []
one_left [] first h e = cc
one_left (x ∷ []) first h e = cc
one_left (x ∷ (y ∷ cut)) first h e = absurd (omega arith)

pub none_left : (cut : List ℕ) → slice_get cut 0 ≡ None → cut ≡ []
none_left [] e = refl
none_left (x ∷ cut) e = cc
