-- The text of an attribute set: the numbers of its attributes with a space between, or a dash. Definitions only.
use Rattle.std.specs.Prelude.{ℕ, suc, Bool, true, false, cond, List, [], ◌∷◌, ◌++◌, codes, decimal, ◌==◌}
use Rattle.attributes.specs.Sets.{Set}
use Rattle.attributes.specs.Numbers.{number_of}

-- the attributes of the set, of which the first has the number c; a space before each but the very first
unfoldable pub listed : Bool → ℕ → Set → List ℕ
listed first c [] = []
listed first c (false ∷ s) = listed first (suc c) s
listed first c (true ∷ s) = cond first [] (codes " ") ++ (decimal c ++ listed false (suc c) s)

unfoldable pub written : Set → List ℕ
written s = cond (number_of s == 0) (codes "-") (listed true 0 s)
