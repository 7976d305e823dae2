-- Answers from bytes, two for each: the first is the kind plus 16 times the object's higher attributes, the second its low eight attributes.
-- Definitions only.
use Rattle.std.specs.Prelude.{ℕ, ◌/◌, ◌%◌, List, [], ◌∷◌}
use Rattle.reading.specs.RowBytes.{set_number}

-- the numbers of the answers, two for each: the kind and the object; a last byte without another gives a kind alone
unfoldable pub numbers_in : List ℕ → List ℕ
numbers_in [] = []
numbers_in (first ∷ []) = first % 16 ∷ []
numbers_in (first ∷ (second ∷ bytes)) = first % 16 ∷ (set_number (first / 16) second ∷ numbers_in bytes)
