-- The dialogue: what is known, what is asked next, what an answer does, and which answers are truthful. Definitions only.
use Rattle.std.specs.Prelude.{◌≡◌, ℕ, Bool, true, false, cond, not, ◌&&◌, List, [], ◌∷◌, ◌++◌, length, Some, None, Option, ◌==◌}
use Rattle.std.specs.Option.{option_map}
use Rattle.std.specs.List.{ContainsAt}
use Rattle.attributes.specs.Sets.{Set}
use Rattle.contexts.specs.Contexts.{Context, Implication, common, respects, holds}
use Rattle.implications.specs.Implications.{respects_all}
use Rattle.premises.specs.Open.{first_open, first_open_from}

-- the implications confirmed and the examples named, each in the order in which they came
pub record Knowledge : Type 0 where
  pub confirmed : List Implication
  pub examples : Context

abbrev pub nothing_known : Knowledge
nothing_known = record { confirmed = []; examples = [] }

-- the question about a set: have all objects with its attributes also what the examples with them have?
abbrev pub about : ℕ → Knowledge → Set → Implication
about n k s = record { premise = s; conclusion = common n k.examples s }

-- what is asked next: the question about the first open set
unfoldable pub question : ℕ → Knowledge → Option Implication
question n k = option_map (about n k) (first_open n (common n k.examples) k.confirmed)

-- the same, about the first open set that does not precede a given one
unfoldable pub question_from : ℕ → Knowledge → Set → Option Implication
question_from n k from = option_map (about n k) (first_open_from n (common n k.examples) k.confirmed from)

-- "always", or an object that has the premise and not all of the conclusion
pub data Answer : Type 0 where
  always : Answer
  object : Set → Answer

-- an answer is taken if something was asked; an object must break what was asked and respect everything confirmed
abbrev pub taken : ℕ → Knowledge → Option Implication → Answer → Bool
taken n k None a = false
taken n k (Some q) always = true
taken n k (Some q) (object s) = length s == n && (not (respects s q) && respects_all s k.confirmed)

abbrev pub with_answer : Knowledge → Option Implication → Answer → Knowledge
with_answer k None a = k
with_answer k (Some q) always = record { confirmed = k.confirmed ++ q ∷ []; examples = k.examples }
with_answer k (Some q) (object s) = record { confirmed = k.confirmed; examples = k.examples ++ s ∷ [] }

-- what is known after an answer: one that is not taken changes nothing
unfoldable pub after : ℕ → Knowledge → Answer → Knowledge
after n k a = cond (taken n k (question n k) a) (with_answer k (question n k) a) k

unfoldable pub after_all : ℕ → Knowledge → List Answer → Knowledge
after_all n k [] = k
after_all n k (a ∷ as') = after_all n (after n k a) as'

-- an answer is true of a yard: what is called always holds there, and an object named stands there and breaks the question
abbrev pub TrueAnswer : Context → Option Implication → Answer → Type 0
TrueAnswer yard None a = ⊥
TrueAnswer yard (Some q) always = holds yard q ≡ true
TrueAnswer yard (Some q) (object s) = ContainsAt yard s × (respects s q ≡ false)

-- a list of answers is truthful for a yard: each is true when its turn comes
unfoldable pub Truthful : ℕ → Context → Knowledge → List Answer → Type 0
Truthful n yard k [] = Unit {0}
Truthful n yard k (a ∷ as') = TrueAnswer yard (question n k) a × Truthful n yard (after n k a) as'
