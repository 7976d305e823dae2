-- An attribute set as a number: attribute c is in it if 2 ^ c stands in the number. Definitions only.
use Rattle.std.specs.Prelude.{ℕ, zero, suc, ◌+◌, ◌*◌, ◌/◌, ◌%◌, true, false, [], ◌∷◌, ◌==◌}
use Rattle.attributes.specs.Sets.{Set}

-- the set of the lowest n attributes that a number stands for
unfoldable pub set_in : ℕ → ℕ → Set
set_in zero m = []
set_in (suc n) m = (m % 2 == 1) ∷ set_in n (m / 2)

-- the number that stands for a set
unfoldable pub number_of : Set → ℕ
number_of [] = 0
number_of (true ∷ s) = 1 + 2 * number_of s
number_of (false ∷ s) = 2 * number_of s
