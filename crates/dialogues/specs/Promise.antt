-- What an exploration promises. Statements only; their proofs are owed by functions whose contracts they are.
use Rattle.std.specs.Prelude.{◌≡◌, ℕ, ◌*◌, ◌^◌, ◌<◌, ◌≤◌, true, false, ◌≢◌, List, [], ◌∷◌, ◌++◌, length, Some, None}
use Rattle.std.specs.List.{ContainsAt, AllByRecursion}
use Rattle.attributes.specs.Sets.{Set}
use Rattle.attributes.specs.Lectic.{precedes}
use Rattle.contexts.specs.Contexts.{Context, OfWidth, Implication, holds}
use Rattle.implications.specs.Implications.{Over, all_hold, Follows, Least}
use Rattle.dialogues.specs.Dialogue.{Knowledge, nothing_known, question, Answer, always, object, taken, after, after_all, TrueAnswer, Truthful}

-- what is known after these answers
abbrev pub learnt : ℕ → List Answer → Knowledge
learnt n answers = after_all n nothing_known answers

-- a yard of n attributes, and answers that are true of it when their turn comes
pub record Honest (n : ℕ) (yard : Context) (answers : List Answer) : Type 0 where
  pub wide : OfWidth n yard
  pub truthful : Truthful n yard nothing_known answers

-- once nothing is asked, no list that is complete for the yard is shorter than what is confirmed, and the examples tell what holds there
pub record Explored (n : ℕ) (yard : Context) (k : Knowledge) : Type 0 where
  pub least : Least n yard k.confirmed
  pub examples_tell : (i : Implication) → Over n i → holds k.examples i ≡ holds yard i

abbrev pub MainPromise : Type 0
MainPromise = (n : ℕ) (yard : Context) (answers : List Answer) → Honest n yard answers → question n (learnt n answers) ≡ None → Explored n yard (learnt n answers)

-- which objects are named does not matter: two dialogues about one yard confirm the same implications
abbrev pub SameImplications : Type 0
SameImplications =
    (n : ℕ) (yard : Context) (answers others : List Answer) → Honest n yard answers → Honest n yard others
    → question n (learnt n answers) ≡ None → question n (learnt n others) ≡ None → (learnt n answers).confirmed ≡ (learnt n others).confirmed

-- a yard for which the answers are true and the question holds, and one for which they are true and it does not
pub record Unsettled (n : ℕ) (answers : List Answer) (q : Implication) : Type 0 where
  pub yes_yard : Context
  pub yes_honest : Honest n yes_yard answers
  pub yes_holds : holds yes_yard q ≡ true
  pub no_yard : Context
  pub no_honest : Honest n no_yard answers
  pub no_fails : holds no_yard q ≡ false

abbrev pub NothingSettledIsAsked : Type 0
NothingSettledIsAsked =
    (n : ℕ) (yard : Context) (answers : List Answer) → Honest n yard answers → (q : Implication) → question n (learnt n answers) ≡ Some q → Unsettled n answers q

-- what is confirmed holds in the yard, the examples stand there, and a true answer to what is asked is taken
pub record TruthKept (n : ℕ) (yard : Context) (k : Knowledge) : Type 0 where
  pub confirmed_hold : all_hold yard k.confirmed ≡ true
  pub examples_stand : (s : Set) → ContainsAt k.examples s → ContainsAt yard s
  pub truth_taken : (a : Answer) → TrueAnswer yard (question n k) a → taken n k (question n k) a ≡ true

abbrev pub TruthIsTaken : Type 0
TruthIsTaken = (n : ℕ) (yard : Context) (answers : List Answer) → Honest n yard answers → TruthKept n yard (learnt n answers)

-- each member of a list stands in relation R to each later one
abbrev pub Pairwise : {X : Type 0} → (X → X → Type 0) → List X → Type 0
Pairwise R [] = Unit {0}
Pairwise R (x ∷ xs) = AllByRecursion (R x) xs × Pairwise R xs

-- whatever is answered, at most 2 ^ n implications are confirmed and 2 ^ n examples named, and no example twice
pub record Few (n : ℕ) (k : Knowledge) : Type 0 where
  pub implications : length k.confirmed ≤ 2 ^ n
  pub examples : length k.examples ≤ 2 ^ n
  pub once : Pairwise ◌≢◌ k.examples

abbrev pub FewOfEach : Type 0
FewOfEach = (n : ℕ) (answers : List Answer) → Few n (learnt n answers)

-- a truthful dialogue has at most twice 2 ^ n answers
abbrev pub AnswersBounded : Type 0
AnswersBounded = (n : ℕ) (yard : Context) (answers : List Answer) → Honest n yard answers → length answers ≤ 2 * 2 ^ n

-- every truthful dialogue can be led on, truthfully, until nothing is asked
abbrev pub CanBeFinished : Type 0
CanBeFinished =
    (n : ℕ) (yard : Context) (answers : List Answer) → Honest n yard answers
    → (more : List Answer) × Honest n yard (answers ++ more) × (question n (learnt n (answers ++ more)) ≡ None)

-- fewer than 4096 implications before another is confirmed, and fewer than 4096 examples before another is named
abbrev pub Room : Knowledge → Answer → Type 0
Room k always = length k.confirmed < 4096
Room k (object s) = length k.examples < 4096

abbrev pub AlwaysRoom : Type 0
AlwaysRoom = (n : ℕ) (answers : List Answer) (a : Answer) → n ≤ 12 → taken n (learnt n answers) (question n (learnt n answers)) a ≡ true → Room (learnt n answers) a

-- no implication that is confirmed follows from those before and behind it
abbrev pub NoneIsSpare : Type 0
NoneIsSpare =
    (n : ℕ) (answers : List Answer) (before behind : List Implication) (i : Implication) → (learnt n answers).confirmed ≡ before ++ i ∷ behind → Follows n (before ++ behind) i → ⊥

-- the premise of what is asked next does not precede that of what was asked
abbrev pub NeverGoesBack : Type 0
NeverGoesBack =
    (n : ℕ) (answers : List Answer) (a : Answer) (q r : Implication) → question n (learnt n answers) ≡ Some q → question n (after n (learnt n answers) a) ≡ Some r
    → precedes r.premise q.premise ≡ false
