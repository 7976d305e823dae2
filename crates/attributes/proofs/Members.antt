-- Members of a list: of one more element, of two lists, and what holds of each. Assumes nothing.
use Rattle.std.proofs.Common.{◌≡◌, ℕ, zero, suc, ◌<◌, ◌⊎◌, List, ◌∷◌, length, get_or, refl, inl, inr, arith}
use Rattle.std.specs.List.{ContainsAt, AllByRecursion}
use Rattle.std.proofs.ByRecursion.{all_has_itself, All-weaker}

pub has_here : {X : Type 0} (x : X) (xs : List X) → ContainsAt (x ∷ xs) x
has_here x xs = (0, omega arith, λ _. refl)

pub has_there : {X : Type 0} (y : X) (xs : List X) (x : X) → ContainsAt xs x → ContainsAt (y ∷ xs) x
has_there y xs x h = (suc h.0, omega (arith, h.1), h.2)

pub has_cases : {X : Type 0} (y : X) (xs : List X) (x : X) → ContainsAt (y ∷ xs) x → (y ≡ x) ⊎ ContainsAt xs x
has_cases {X} y xs x h = go h.0 h.1 h.2
  where
    go : (k : ℕ) → k < length (y ∷ xs) → ((d : X) → get_or (y ∷ xs) k d ≡ x) → (y ≡ x) ⊎ ContainsAt xs x
    go zero l e = inl (e x)
    go (suc k) l e = inr (k, omega arith, e)

-- what holds of each member holds of all
pub all_from_has : {X : Type 0} (P : X → Type 0) (xs : List X) → ((x : X) → ContainsAt xs x → P x) → AllByRecursion P xs
all_from_has P xs h = All-weaker (ContainsAt xs) P h xs (all_has_itself xs)
