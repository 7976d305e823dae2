-- What is proved of the definitions. Statements only; their proofs are owed by functions whose contracts they are.
use Rattle.std.specs.Prelude.{◌≡◌, ℕ, ◌^◌, ◌<◌, true, false, ◌≢◌, ◌⊎◌, [], length, nat_lt, slice_index_or}
use Rattle.attributes.specs.Sets.{Set, subset}
use Rattle.attributes.specs.Lectic.{precedes, sets}

-- the enumeration lists every set of n attributes once, and of two places the earlier has the set that precedes
pub record LecticAgrees (n : ℕ) : Type 0 where
  pub count : length (sets n) ≡ 2 ^ n
  pub wide : (i : ℕ) → i < 2 ^ n → length (slice_index_or (sets n) i []) ≡ n
  pub listed : (s : Set) → length s ≡ n → (i : ℕ) × (i < 2 ^ n) × (slice_index_or (sets n) i [] ≡ s)
  pub once : (i j : ℕ) → i < 2 ^ n → j < 2 ^ n → slice_index_or (sets n) i [] ≡ slice_index_or (sets n) j [] → i ≡ j
  pub ordered : (i j : ℕ) → i < 2 ^ n → j < 2 ^ n → precedes (slice_index_or (sets n) i []) (slice_index_or (sets n) j []) ≡ nat_lt i j

-- the lectic test is a strict order, of two sets of n attributes one precedes unless they are equal, and a proper subset precedes
pub record OrderLaws (n : ℕ) : Type 0 where
  pub irreflexive : (s : Set) → precedes s s ≡ false
  pub asymmetric : (s t : Set) → precedes s t ≡ true → precedes t s ≡ false
  pub transitive : (s t u : Set) → precedes s t ≡ true → precedes t u ≡ true → precedes s u ≡ true
  pub total : (s t : Set) → length s ≡ n → length t ≡ n → (s ≡ t) ⊎ ((precedes s t ≡ true) ⊎ (precedes t s ≡ true))
  pub subset_first : (s t : Set) → length s ≡ n → length t ≡ n → subset s t ≡ true → s ≢ t → precedes s t ≡ true
