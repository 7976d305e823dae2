-- Contexts and lists as bytes, a pair for each object and two pairs for each implication, and the rows that are read from them. Definitions only.
use Rattle.std.specs.Prelude.{◌≡◌, ◌≤◌, ℕ, ◌+◌, ◌-◌, ◌*◌, ◌/◌, ◌%◌, cond, List, [], ◌∷◌, length, take, drop, ◌==◌, nat_lt, slice_index}

-- a set in two bytes: its higher attributes, and the low eight
abbrev pub set_number : ℕ → ℕ → ℕ
set_number high low = high * 256 + low

-- an object in two bytes: 1 plus 16 times its higher attributes, and the low eight. Any other pair is read as a number that has an attribute
-- that is not there, so that its row is at fault
abbrev pub object_number : ℕ → ℕ → ℕ
object_number high low = cond (high % 16 == 1) (high / 16 * 256 + low) 65536

-- the numbers of the pairs, by what a pair stands for; a last byte without another is none
unfoldable pub pair_numbers : (ℕ → ℕ → ℕ) → List ℕ → List ℕ
pair_numbers number [] = []
pair_numbers number (high ∷ []) = []
pair_numbers number (high ∷ (low ∷ bytes)) = number high low ∷ pair_numbers number bytes

-- each result of the function at a pair is the number of its two bytes
abbrev pub ComputesNumber : (List ℕ → ℕ → Type 0) → (ℕ → ℕ → ℕ) → Type 0
ComputesNumber post number = (pair : List ℕ) (r : ℕ) → post pair r → r ≡ number (slice_index pair 0) (slice_index pair 1)

-- the row of a context whose objects are these bytes, a pair each. A last byte without another is counted as an object, which is cut short
abbrev pub context_from : ℕ → List ℕ → List ℕ
context_from n bytes = n ∷ ((length bytes - length bytes / 2) ∷ pair_numbers object_number bytes)

-- the count of a list, in its first two bytes
abbrev pub list_count : List ℕ → ℕ
list_count bytes = set_number (slice_index bytes 0) (slice_index bytes 1)

-- the row of the list that begins these bytes: its count, and then two pairs for each implication. A list without a whole count is cut short
abbrev pub list_from : ℕ → List ℕ → List ℕ
list_from n bytes = cond (nat_lt (length bytes) 2) (n ∷ []) (n ∷ (list_count bytes ∷ pair_numbers set_number (take (4 * list_count bytes) (drop 2 bytes))))

-- the bytes behind it
abbrev pub behind : List ℕ → List ℕ
behind bytes = drop (4 * list_count bytes) (drop 2 bytes)

-- the count of the list that begins these bytes, the bytes that it takes up, and those behind it
pub record SplitsList (bytes : List ℕ) (count : ℕ) (list rest : List ℕ) : Type 0 where
  pub whole : 2 ≤ length bytes
  pub counted : count ≡ list_count bytes
  pub taken : list ≡ take (4 * list_count bytes) (drop 2 bytes)
  pub left : rest ≡ behind bytes
