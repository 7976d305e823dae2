-- Lists of implications: what respects them, what follows from them, and which lists tell a context. Definitions only.
use Rattle.std.specs.Prelude.{◌≡◌, ℕ, ◌≤◌, Bool, true, ◌&&◌, List, [], ◌∷◌, length}
use Rattle.std.specs.List.{AllByRecursion}
use Rattle.attributes.specs.Sets.{Set, subset}
use Rattle.contexts.specs.Contexts.{Context, OfWidth, Implication, respects, holds}

-- both sides say of n attributes whether they are in
abbrev pub Over : ℕ → Implication → Type 0
Over n i = (length i.premise ≡ n) × (length i.conclusion ≡ n)

-- the set respects each implication of the list
unfoldable pub respects_all : Set → List Implication → Bool
respects_all s [] = true
respects_all s (i ∷ is) = respects s i && respects_all s is

-- each implication of the list holds for the context
unfoldable pub all_hold : Context → List Implication → Bool
all_hold t [] = true
all_hold t (i ∷ is) = holds t i && all_hold t is

-- r is the closure of s under the list: of the sets of n attributes that contain s and respect the list, the least
pub record Closure (n : ℕ) (is : List Implication) (s r : Set) : Type 0 where
  pub width : length r ≡ n
  pub contains : subset s r ≡ true
  pub respected : respects_all r is ≡ true
  pub least : (t : Set) → length t ≡ n → subset s t ≡ true → respects_all t is ≡ true → subset r t ≡ true

-- an implication follows from a list if it holds in every context of n attributes in which the whole list holds
abbrev pub Follows : ℕ → List Implication → Implication → Type 0
Follows n is i = (t : Context) → OfWidth n t → all_hold t is ≡ true → holds t i ≡ true

-- a list is complete for a context if it holds there, and whatever holds there follows from it
pub record Complete (n : ℕ) (t : Context) (is : List Implication) : Type 0 where
  pub sound : all_hold t is ≡ true
  pub all : (i : Implication) → Over n i → holds t i ≡ true → Follows n is i

-- a list is least for a context if it is complete, and no complete list has fewer implications
pub record Least (n : ℕ) (t : Context) (is : List Implication) : Type 0 where
  pub complete : Complete n t is
  pub fewest : (others : List Implication) → AllByRecursion (Over n) others → Complete n t others → length is ≤ length others
