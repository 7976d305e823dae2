-- The lectic order of attribute sets, as a test on two sets and as the enumeration of all sets. Definitions only.
use Rattle.std.specs.Prelude.{ℕ, zero, suc, Bool, true, false, List, [], ◌∷◌, ◌++◌, map}
use Rattle.attributes.specs.Sets.{Set}

-- of two sets that comes first that lacks the lowest attribute in which they differ
unfoldable pub precedes : Set → Set → Bool
precedes [] ys = false
precedes (x ∷ xs) [] = false
precedes (false ∷ xs) (false ∷ ys) = precedes xs ys
precedes (false ∷ xs) (true ∷ ys) = true
precedes (true ∷ xs) (false ∷ ys) = false
precedes (true ∷ xs) (true ∷ ys) = precedes xs ys

-- all sets of n attributes: those without the first attribute before those with it, each half in the same order
unfoldable pub sets : ℕ → List Set
sets zero = [] ∷ []
sets (suc n) = map (λ s. false ∷ s) (sets n) ++ map (λ s. true ∷ s) (sets n)
