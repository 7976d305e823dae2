-- Attribute sets: for each attribute, from attribute 0 on, whether it is in the set. Definitions only.
use Rattle.std.specs.Prelude.{ℕ, zero, suc, Bool, true, false, not, ◌&&◌, ◌||◌, List, [], ◌∷◌, slice_index_or}

abbrev pub Set : Type 0
Set = List Bool

-- every attribute of the first set is in the second
unfoldable pub subset : Set → Set → Bool
subset [] ys = true
subset (x ∷ xs) [] = not x && subset xs []
subset (x ∷ xs) (y ∷ ys) = (not x || y) && subset xs ys

-- the attributes that both sets have
unfoldable pub meet : Set → Set → Set
meet [] ys = []
meet (x ∷ xs) [] = []
meet (x ∷ xs) (y ∷ ys) = (x && y) ∷ meet xs ys

-- the attributes that one of the sets has
unfoldable pub join : Set → Set → Set
join [] ys = []
join (x ∷ xs) [] = []
join (x ∷ xs) (y ∷ ys) = (x || y) ∷ join xs ys

-- the attributes that are not in the set
unfoldable pub complement : Set → Set
complement [] = []
complement (x ∷ s) = not x ∷ complement s

-- whether attribute c is in the set
abbrev pub has : Set → ℕ → Bool
has s c = slice_index_or s c false

-- how many attributes are not in the set
unfoldable pub missing : Set → ℕ
missing [] = 0
missing (true ∷ s) = missing s
missing (false ∷ s) = suc (missing s)

-- all n attributes
unfoldable pub everything : ℕ → Set
everything zero = []
everything (suc n) = true ∷ everything n
