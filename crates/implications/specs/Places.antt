-- What walks over a list of implications find. Definitions only.
use Rattle.std.specs.Prelude.{◌≡◌, ℕ, ◌^◌, ◌<◌, true, false, List, [], ◌∷◌, length, get_or, slice_index_or, Option, MatchOption}
use Rattle.std.specs.List.{ContainsAt}
use Rattle.attributes.specs.Sets.{Set, join, subset}
use Rattle.contexts.specs.Contexts.{Implication, respects}
use Rattle.contexts.specs.Values.{implication_at}
use Rattle.contexts.specs.declared.implication.Implication.{Implication as Pair}
use Rattle.implications.specs.Implications.{respects_all}
use Rattle.implications.specs.Values.{implications_in}

-- stands past the end of a list
abbrev pub no_implication : Implication
no_implication = record { premise = []; conclusion = [] }

-- at place k stands the first implication that the set breaks
pub record FirstBroken (is : List Implication) (s : Set) (k : ℕ) : Type 0 where
  pub inside : k < length is
  pub breaks : respects s (slice_index_or is k no_implication) ≡ false
  pub before : (j : ℕ) → j < k → respects s (slice_index_or is j no_implication) ≡ true

-- i stands for the first implication that the set breaks
pub record IsFirstBroken (n : ℕ) (is : List Implication) (s : Set) (i : Pair) : Type 0 where
  pub place : ℕ
  pub broken : FirstBroken is s place
  pub value : implication_at n i ≡ slice_index_or is place no_implication
  pub conclusion : i.conclusion.bits < 2 ^ n

-- g is s with the conclusion of the first implication that s breaks
pub record Repaired (is : List Implication) (s g : Set) : Type 0 where
  pub place : ℕ
  pub broken : FirstBroken is s place
  pub added : g ≡ join s (get_or is place no_implication).conclusion

-- a pass over the list made g of s: nothing was added that a set with s that respects the list could lack, and g has the conclusions of all
-- implications whose premises s has
pub record Passed (n : ℕ) (is : List Implication) (s g : Set) : Type 0 where
  pub contains : subset s g ≡ true
  pub inside : (t : Set) → length t ≡ n → subset s t ≡ true → respects_all t is ≡ true → subset g t ≡ true
  pub applied : (i : Implication) → ContainsAt is i → subset i.premise s ≡ true → subset i.conclusion g ≡ true

-- i is the first implication of a row, and `rest` has those behind it
pub record HasFirst (n : ℕ) (row : List ℕ) (i : Pair) (rest : List ℕ) : Type 0 where
  pub premise : i.premise.bits < 2 ^ n
  pub conclusion : i.conclusion.bits < 2 ^ n
  pub first : implications_in n row ≡ implication_at n i ∷ implications_in n rest

-- the first implication of a row and then those behind it; none of a row that has none
pub record NextImplication (n : ℕ) (row : List ℕ) (next : Option Pair) (m : ℕ) (rest : List ℕ) : Type 0 where
  pub width : m ≡ n
  pub found : MatchOption next (implications_in n row ≡ []) (λ i. HasFirst n row i rest)
