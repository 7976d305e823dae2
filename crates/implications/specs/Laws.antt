-- What is proved of lists of implications. Statements only; their proofs are owed by functions whose contracts they are.
use Rattle.std.specs.Prelude.{◌≡◌, ℕ, true, List, length}
use Rattle.attributes.specs.Sets.{Set, subset, meet}
use Rattle.contexts.specs.Contexts.{Implication, respects}
use Rattle.implications.specs.Implications.{respects_all, Closure, Follows}

-- an implication follows from a list exactly if each set of n attributes that respects the list respects it
pub record OneSetDecides (n : ℕ) (is : List Implication) (i : Implication) : Type 0 where
  pub each : Follows n is i → (s : Set) → length s ≡ n → respects_all s is ≡ true → respects s i ≡ true
  pub all : ((s : Set) → length s ≡ n → respects_all s is ≡ true → respects s i ≡ true) → Follows n is i

-- an implication follows from a list exactly if the closure of its premise contains its conclusion
pub record FollowsByClosure (n : ℕ) (is : List Implication) (i : Implication) (r : Set) : Type 0 where
  pub contains : Follows n is i → subset i.conclusion r ≡ true
  pub follows : subset i.conclusion r ≡ true → Follows n is i

-- a set has one closure
abbrev pub OneClosure : ℕ → List Implication → Type 0
OneClosure n is = (s r q : Set) → Closure n is s r → Closure n is s q → r ≡ q

-- what two sets share respects the implications that both respect
abbrev pub MeetRespects : List Implication → Type 0
MeetRespects is = (s t : Set) → respects_all s is ≡ true → respects_all t is ≡ true → respects_all (meet s t) is ≡ true
