-- The branches of the search for the first open set. Definitions only.
use Rattle.std.specs.Prelude.{◌≡◌, ℕ, Bool, true, false, List, length, Some, None, Option, slice_set}
use Rattle.attributes.specs.Lectic.{precedes}
use Rattle.attributes.specs.Sets.{Set, subset}
use Rattle.contexts.specs.Contexts.{Implication}
use Rattle.implications.specs.Implications.{Closure}
use Rattle.premises.specs.Respecting.{Agree}

-- t lies in the branch in which the attributes below i are those of s: it contains s, and unless the branch is past `from` it does not precede it
pub record InBranch (n i : ℕ) (s from : Set) (past : Bool) (t : Set) : Type 0 where
  pub wide : length t ≡ n
  pub agrees : Agree i s t
  pub contains : subset s t ≡ true
  pub reached : past ≡ false → precedes t from ≡ false

-- q lies in the branch and passes the test, and what lies before it in the branch does not
pub record FirstInBranch (n i : ℕ) (s from : Set) (past : Bool) (test : Set → Bool) (q : Set) : Type 0 where
  pub inside : InBranch n i s from past q
  pub passes : test q ≡ true
  pub before : (t : Set) → InBranch n i s from past t → precedes t q ≡ true → test t ≡ false

-- what the search of a branch finds
abbrev pub FoundInBranch : (n i : ℕ) (s from : Set) (past : Bool) (test : Set → Bool) → Option Set → Type 0
FoundInBranch n i s from past test None = (t : Set) → InBranch n i s from past t → test t ≡ false
FoundInBranch n i s from past test (Some q) = FirstInBranch n i s from past test q

-- m is the closure of s with attribute i added, and agrees with s below i
pub record ClosedWith (n : ℕ) (is : List Implication) (s : Set) (i : ℕ) (m : Set) : Type 0 where
  pub closed : Closure n is (slice_set s i true) m
  pub agrees : Agree i s m
