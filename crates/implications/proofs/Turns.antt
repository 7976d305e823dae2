-- The implications of a row in turn. Assumes nothing.
use Rattle.std.proofs.Common.{◌≡◌, ℕ, zero, suc, ◌-◌, ◌/◌, ◌<◌, ◌≤◌, List, [], ◌∷◌, length, take, drop, get_or, Option, Some, None, MatchOption, refl, sym, ap, ◌∙◌, subst, arith}
use Rattle.std.specs.Simd.{first_chunks}
use Rattle.std.proofs.Math.Seq.{take-length}
use Rattle.attributes.specs.Numbers.{set_in}
use Rattle.contexts.specs.Values.{implication_at}
use Rattle.contexts.specs.declared.implication.Implication.{Implication as Pair}
use Rattle.implications.specs.Places.{no_implication, HasFirst, NextImplication}
use Rattle.implications.specs.Values.{implications_in}

-- a row of fewer than two numbers has none
pub implications_none : (n : ℕ) (row : List ℕ) → length row < 2 → implications_in n row ≡ []
unfolding implications_in
implications_none n [] h = refl
implications_none n (p ∷ []) h = refl
implications_none n (p ∷ (c ∷ row)) h = absurd (omega (arith, h))

-- the first two numbers make the first, and the rest the others
pub implications_first : (n : ℕ) (row : List ℕ) → 2 ≤ length row
    → implications_in n row ≡ (record { premise = set_in n (get_or row 0 0); conclusion = set_in n (get_or row 1 0) }) ∷ implications_in n (take (length row - 2) (drop 2 row))
unfolding implications_in
implications_first n [] h = absurd (omega (arith, h))
implications_first n (p ∷ []) h = absurd (omega (arith, h))
implications_first n (p ∷ (c ∷ row)) h =
    let same : suc (suc (length row)) - 2 ≡ length row = omega arith in
    rw (same, take-length row) refl

-- a row cut in pairs
abbrev pub pairs_in : List ℕ → List (List ℕ)
pairs_in row = first_chunks 2 (length row / 2) row

-- a pair alone is a row of one implication, that at its place
pair_alone : (n : ℕ) (row : List ℕ) (k : ℕ) → k < length row / 2 → implications_in n (get_or (pairs_in row) k []) ≡ get_or (implications_in n row) k no_implication ∷ []
unfolding implications_in
pair_alone n [] k h = absurd (omega arith)
pair_alone n (p ∷ []) k h = absurd (omega arith)
pair_alone n (p ∷ (c ∷ row)) zero h = let more : length (p ∷ (c ∷ row)) / 2 ≡ suc (length row / 2) = omega arith in rw more refl
pair_alone n (p ∷ (c ∷ row)) (suc k) h = let more : length (p ∷ (c ∷ row)) / 2 ≡ suc (length row / 2) = omega arith in rw more (pair_alone n row k (omega (arith, h)))

-- so the first implication of the pair is the one at its place
pub read_at : (n m : ℕ) (row rest pair : List ℕ) (k : ℕ) → k < length row / 2 → pair ≡ get_or (pairs_in row) k [] → (found : Option Pair) → NextImplication n pair found m rest
    → MatchOption found (length row / 2 ≤ k) (λ i. (k < length row / 2) × (implication_at n i ≡ get_or (implications_in n row) k no_implication))
read_at n m row rest pair k inside at None next =
    let empty : get_or (implications_in n row) k no_implication ∷ [] ≡ [] = sym (pair_alone n row k inside) ∙ ap (implications_in n) (sym at) ∙ next.found in
    cc
read_at n m row rest pair k inside at (Some i) next =
    let same : get_or (implications_in n row) k no_implication ∷ [] ≡ implication_at n i ∷ implications_in n rest = sym (pair_alone n row k inside) ∙ ap (implications_in n) (sym at) ∙ next.found.first in
    (inside, cc)

-- a turn of a loop over the implications of n attributes, and its end
pub turn : (m n k : ℕ) (row rest : List ℕ) (i : Pair) → m ≡ n → NextImplication m row (Some i) k rest → (k ≡ n) × HasFirst n row i rest
turn m n k row rest i e next = (next.width ∙ e, subst (λ (n : ℕ). HasFirst n row i rest) e next.found)

pub ended : (m n k : ℕ) (row rest : List ℕ) → m ≡ n → NextImplication m row None k rest → implications_in n row ≡ []
ended m n k row rest e next = subst (λ (n : ℕ). implications_in n row ≡ []) e next.found
