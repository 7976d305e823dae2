-- How two lists differ. Definitions only.
use Rattle.std.specs.Prelude.{◌≡◌, ℕ, ◌^◌, ◌<◌, Bool, true, false, not, ◌&&◌, List, length, slice_index_or}
use Rattle.std.specs.List.{AllByRecursion}
use Rattle.attributes.specs.Numbers.{set_in}
use Rattle.attributes.specs.Sets.{Set}
use Rattle.contexts.specs.Contexts.{Implication, respects}
use Rattle.contexts.specs.Values.{implication_at}
use Rattle.implications.specs.Implications.{respects_all, Follows}
use Rattle.implications.specs.Places.{no_implication}
use Rattle.premises.specs.Laws.{IsFirst}
use Rattle.comparisons.specs.declared.Comparison.{Comparison}
use Rattle.comparisons.specs.declared.Comparison.TheVariants.{Same, OneSaysMore, OtherSaysMore, EachSaysMore}
use Rattle.comparisons.specs.declared.Difference.{Difference}

-- two lists say the same if each follows from the other
pub record Equivalent (n : ℕ) (is js : List Implication) : Type 0 where
  pub there : AllByRecursion (Follows n is) js
  pub back : AllByRecursion (Follows n js) is

-- the set respects the list and breaks the implication
abbrev pub tells_apart : List Implication → Implication → Set → Bool
tells_apart is i s = respects_all s is && not (respects s i)

-- the implication at this place of one list is its first that does not follow from the other; of the sets that respect the other and break
-- it, the witness is lectically first
pub record FirstDifference (n : ℕ) (one other : List Implication) (place : ℕ) (i : Implication) (witness : Set) : Type 0 where
  pub inside : place < length one
  pub there : i ≡ slice_index_or one place no_implication
  pub before : (j : ℕ) → j < place → Follows n other (slice_index_or one j no_implication)
  pub fails : Follows n other i → ⊥
  pub first : IsFirst n (tells_apart other i) witness

-- what a difference of the code says; its sets have no attribute that is not there
pub record Differs (n : ℕ) (one other : List Implication) (d : Difference) : Type 0 where
  pub difference : FirstDifference n one other d.place (implication_at n d.implication) (set_in n d.witness.bits)
  pub premise : d.implication.premise.bits < 2 ^ n
  pub conclusion : d.implication.conclusion.bits < 2 ^ n
  pub witness : d.witness.bits < 2 ^ n

-- what each result of a comparison says
abbrev pub Compared : ℕ → List Implication → List Implication → Comparison → Type 0
Compared n one other Same = Equivalent n one other
Compared n one other (OneSaysMore d) = Differs n one other d × AllByRecursion (Follows n one) other
Compared n one other (OtherSaysMore d) = AllByRecursion (Follows n other) one × Differs n other one d
Compared n one other (EachSaysMore d e) = Differs n one other d × Differs n other one e

abbrev pub is_same : Comparison → Bool
is_same Same = true
is_same (OneSaysMore d) = false
is_same (OtherSaysMore d) = false
is_same (EachSaysMore d e) = false

-- the same sets are closed under both lists
abbrev pub SameClosed : ℕ → List Implication → List Implication → Type 0
SameClosed n one other = (s : Set) → length s ≡ n → respects_all s one ≡ respects_all s other
