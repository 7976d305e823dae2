-- Where objects stand in a context: the first that breaks an implication, the last that has some attributes. Definitions only.
use Rattle.std.specs.Prelude.{◌≡◌, ℕ, suc, ◌<◌, ◌≤◌, true, false, [], length, slice_index_or}
use Rattle.attributes.specs.Sets.{Set, subset}
use Rattle.contexts.specs.Contexts.{Context, Implication, respects}

-- at place k stands the first object that breaks the implication
pub record FirstBreaking (t : Context) (i : Implication) (k : ℕ) : Type 0 where
  pub inside : k < length t
  pub breaks : respects (slice_index_or t k []) i ≡ false
  pub before : (j : ℕ) → j < k → respects (slice_index_or t j []) i ≡ true

-- no object from place i up to place k has all attributes of s
abbrev pub NoneWith : Context → Set → ℕ → ℕ → Type 0
NoneWith t s i k = (j : ℕ) → i ≤ j → j < k → subset s (slice_index_or t j []) ≡ false

-- at place k stands the last object before `end` that has all attributes of s
pub record LastWith (t : Context) (s : Set) (end k : ℕ) : Type 0 where
  pub inside : k < end
  pub has_all : subset s (slice_index_or t k []) ≡ true
  pub behind : NoneWith t s (suc k) end
