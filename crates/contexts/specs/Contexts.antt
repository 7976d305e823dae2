-- Contexts, what their objects have in common, and implications tested on them. Definitions only.
use Rattle.std.specs.Prelude.{◌≡◌, ℕ, Bool, true, cond, not, ◌&&◌, ◌||◌, List, [], ◌∷◌, length}
use Rattle.std.specs.List.{AllByRecursion}
use Rattle.attributes.specs.Sets.{Set, subset, meet, everything}

-- a context: for each object the set of its attributes
abbrev pub Context : Type 0
Context = List Set

-- each object says of n attributes whether it has them
abbrev pub OfWidth : ℕ → Context → Type 0
OfWidth n t = AllByRecursion (λ (s : Set). length s ≡ n) t

-- the attributes that all objects with the attributes s have in common; all n if there is no such object
unfoldable pub common : ℕ → Context → Set → Set
common n [] s = everything n
common n (o ∷ os) s = cond (subset s o) (meet o (common n os s)) (common n os s)

-- an implication: what has all attributes of the premise has all attributes of the conclusion
pub record Implication : Type 0 where
  pub premise : Set
  pub conclusion : Set

-- a set respects an implication if it lacks an attribute of the premise or has all of the conclusion
unfoldable pub respects : Set → Implication → Bool
respects s i = not (subset i.premise s) || subset i.conclusion s

-- an implication holds for a context if all objects respect it
unfoldable pub holds : Context → Implication → Bool
holds [] i = true
holds (o ∷ os) i = respects o i && holds os i
