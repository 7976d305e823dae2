-- The first number of a part of a row that has an attribute that is not there. Assumes nothing.
use Rattle.std.proofs.Common.{◌≡◌, ℕ, ◌+◌, ◌^◌, Bool, true, false, cond, nat_le, List, [], ◌∷◌, Some, Option, sym, refl, ap, ◌∙◌, add_assoc, arith}
use Rattle.std.specs.List.{position, position_from}
use Rattle.std.specs.Option.{option_map}
use Rattle.std.proofs.lemmas.Iterator.Adapters.{position_from-zero}
use Rattle.exploration.specs.Row.{attributes_in, first_from}

module _ (p : ℕ → Bool) (at : ℕ) where
  later : (k : ℕ) (xs : List ℕ) → option_map (λ (i : ℕ). at + i) (position_from p k xs) ≡ position_from p (at + k) xs
  later k [] = refl
  later k (x ∷ xs) = go (p x) (later (k + 1) xs ∙ ap (λ (i : ℕ). position_from p i xs) (sym (add_assoc at k 1)))
    where
      go : (b : Bool) → option_map (λ (i : ℕ). at + i) (position_from p (k + 1) xs) ≡ position_from p (at + k + 1) xs
          → option_map (λ (i : ℕ). at + i) (cond b (Some k) (position_from p (k + 1) xs)) ≡ cond b (Some (at + k)) (position_from p (at + k + 1) xs)
      go true rest = refl
      go false rest = rest

-- the place in a part, counted from where the part begins
placed : (limit at : ℕ) (xs : List ℕ) → option_map (λ (i : ℕ). at + i) (position (nat_le limit) xs) ≡ first_from limit at xs
placed limit at xs =
    let same : at + 0 ≡ at = omega arith in
    ap (option_map (λ (i : ℕ). at + i)) (position_from-zero (nat_le limit) xs) ∙ later (nat_le limit) at 0 xs ∙ ap (λ (i : ℕ). first_from limit i xs) same

-- a search of a part of a row, with the limit that the number of attributes sets
pub searched : (row part whole : List ℕ) (n limit at : ℕ) (found r : Option ℕ) → n ≡ attributes_in row → limit ≡ 2 ^ n → part ≡ whole → r ≡ position (nat_le limit) part → r ≡ found
    → option_map (λ (i : ℕ). at + i) found ≡ first_from (2 ^ attributes_in row) at whole
searched row part whole n limit at found r width is_limit is_part is_first is_found =
    ap (option_map (λ (i : ℕ). at + i)) (sym is_found ∙ is_first) ∙ placed limit at part ∙ (λ j. first_from ((is_limit ∙ ap (λ (k : ℕ). 2 ^ k) width) j) at (is_part j))
