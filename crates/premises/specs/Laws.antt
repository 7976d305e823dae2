-- What is proved of the first set that passes a test, and of the first open set. Statements only; their proofs are owed by functions whose
-- contracts they are.
use Rattle.std.specs.Prelude.{◌≡◌, ℕ, Bool, true, false, List, ◌++◌, length, Some, None}
use Rattle.attributes.specs.Sets.{Set}
use Rattle.attributes.specs.Lectic.{precedes, sets}
use Rattle.contexts.specs.Contexts.{Context, OfWidth, Implication, common}
use Rattle.premises.specs.Open.{is_open, first, first_open, first_open_from}

-- the lectically first set of n attributes that passes: each set of n attributes that precedes it fails
pub record IsFirst (n : ℕ) (test : Set → Bool) (s : Set) : Type 0 where
  pub wide : length s ≡ n
  pub passes : test s ≡ true
  pub earlier : (t : Set) → length t ≡ n → precedes t s ≡ true → test t ≡ false

-- a search through all sets of n attributes finds the first that passes, and nothing exactly if none passes
pub record FirstLaws (n : ℕ) (test : Set → Bool) : Type 0 where
  pub found : (s : Set) → first test (sets n) ≡ Some s → IsFirst n test s
  pub only : (s : Set) → IsFirst n test s → first test (sets n) ≡ Some s
  pub none : first test (sets n) ≡ None → (s : Set) → length s ≡ n → test s ≡ false
  pub nothing : ((s : Set) → length s ≡ n → test s ≡ false) → first test (sets n) ≡ None

-- a set that is not open stays so when implications are confirmed and examples named besides
abbrev pub OpennessMonotone : Type 0
OpennessMonotone =
    (n : ℕ) (t more_objects : Context) (is more : List Implication) (s : Set) → OfWidth n (t ++ more_objects)
    → is_open (common n t) is s ≡ false → is_open (common n (t ++ more_objects)) (is ++ more) s ≡ false

-- so the first open set is then found among those that do not precede the one that was first
abbrev pub SearchMayBegin : Type 0
SearchMayBegin =
    (n : ℕ) (t more_objects : Context) (is more : List Implication) (p : Set) → OfWidth n (t ++ more_objects) → first_open n (common n t) is ≡ Some p
    → first_open n (common n (t ++ more_objects)) (is ++ more) ≡ first_open_from n (common n (t ++ more_objects)) (is ++ more) p
