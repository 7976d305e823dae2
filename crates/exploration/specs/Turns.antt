-- A whole dialogue over a lent row: a list of answers, what became of each, and the row that is left. Definitions only.
use Rattle.std.specs.Prelude.{◌≡◌, ℕ, true, List, [], ◌∷◌, ◌++◌, is_ok, None, Ok, Err, vec_items, Option, Result}
use Rattle.attributes.specs.Numbers.{number_of, set_in}
use Rattle.contexts.specs.Contexts.{Context}
use Rattle.exploration.specs.Answers.{checked_answer, judged_row, row_after}
use Rattle.dialogues.specs.Dialogue.{Answer, after, always, object, question, taken}
use Rattle.dialogues.specs.Promise.{Explored, Honest, Room, learnt}
use Rattle.std.specs.List.{AllByRecursion}
use Rattle.exploration.specs.Row.{asked_in, attributes_in, known_in, opened, opening, row_fault}
use Rattle.contexts.specs.declared.implication.Implication.{Implication as Pair}
use Rattle.exploration.specs.declared.answer.Answer.{Answer as Given}
use Rattle.exploration.specs.declared.answer.Answer.TheVariants.{Always, Object}
use Rattle.exploration.specs.declared.dialogue.Dialogue.{Dialogue}
use Rattle.exploration.specs.declared.dialogue.NotHeld.{NotHeld}
use Rattle.exploration.specs.declared.dialogue.NotHeld.TheVariants.{Refused, OutOfMemory}
use Rattle.replies.specs.declared.turn.Turn.{Turn}

-- answers of two numbers each; a last number without another is an answer cut short
unfoldable pub answers_in : List ℕ → List (List ℕ)
answers_in [] = []
answers_in (x ∷ []) = (x ∷ []) ∷ []
answers_in (x ∷ (y ∷ rest)) = (x ∷ (y ∷ [])) ∷ answers_in rest

-- the row after all answers, each taken or refused in its turn
unfoldable pub row_after_all : List ℕ → List (List ℕ) → List ℕ
row_after_all row [] = row
row_after_all row (answer ∷ answers) = row_after_all (row_after row (judged_row row answer)) answers

-- what was asked before each answer, and what became of it
unfoldable pub turns_of : List ℕ → List (List ℕ) → List Turn
turns_of row [] = []
turns_of row (answer ∷ answers) = record { asked = asked_in row; outcome = judged_row row answer } ∷ turns_of (row_after row (judged_row row answer)) answers

-- what is told of a dialogue: what became of each answer, and what is asked at the end
pub record Told : Type 0 where
  pub turns : List Turn
  pub asked : Option Pair

abbrev pub told : Result Dialogue NotHeld → Result Told NotHeld
told (Ok dialogue) = Ok (record { turns = vec_items dialogue.turns; asked = dialogue.asked })
told (Err reason) = Err reason

-- a dialogue from nothing known: the row is opened, and then each answer is taken or refused in its turn; or the row is as it was
pub record HeldAll (n : ℕ) (row answers : List ℕ) (all : Told) (row₁ : List ℕ) : Type 0 where
  pub opens : opening n row ≡ Ok tt
  pub turns : all.turns ≡ turns_of (opened n row) (answers_in answers)
  pub left : row₁ ≡ row_after_all (opened n row) (answers_in answers)
  pub asked : all.asked ≡ asked_in row₁

abbrev pub DialogueHeld : ℕ → List ℕ → List ℕ → Result Told NotHeld → List ℕ → Type 0
DialogueHeld n row answers (Ok all) row₁ = HeldAll n row answers all row₁
DialogueHeld n row answers (Err (Refused refusal)) row₁ = (opening n row ≡ Err refusal) × (row₁ ≡ row)
DialogueHeld n row answers (Err OutOfMemory) row₁ = row₁ ≡ row

-- want of memory is told only for a row that can be opened
abbrev pub OpenedFirst : ℕ → List ℕ → Result Told NotHeld → Type 0
OpenedFirst n row (Ok all) = Unit {0}
OpenedFirst n row (Err (Refused refusal)) = Unit {0}
OpenedFirst n row (Err OutOfMemory) = opening n row ≡ Ok tt

-- an answer as two numbers, and a list of answers
abbrev pub code : Answer → List ℕ
code always = 0 ∷ (0 ∷ [])
code (object s) = 1 ∷ (number_of s ∷ [])

unfoldable pub encoded : List Answer → List ℕ
encoded [] = []
encoded (a ∷ said) = code a ++ encoded said

-- what a dialogue leaves whose answers were truthful for a yard: none was refused, the row knows what was said, and if nothing is asked any
-- more what is confirmed is least for the yard and the examples tell what holds there
pub record Kept (n : ℕ) (yard : Context) (said : List Answer) (turns : List Turn) (row : List ℕ) : Type 0 where
  pub taken : AllByRecursion (λ (t : Turn). is_ok t.outcome ≡ true) turns
  pub known : known_in row ≡ learnt n said
  pub explored : question n (known_in row) ≡ None → Explored n yard (known_in row)

-- the promise for every yard and every truthful list of answers
abbrev pub PromiseKept : ℕ → List ℕ → Result Told NotHeld → List ℕ → Type 0
PromiseKept n answers (Ok all) row = (yard : Context) (said : List Answer) → Honest n yard said → answers ≡ encoded said → Kept n yard said all.turns row
PromiseKept n answers (Err reason) row = Unit {0}

-- an answer of the code as the definitions have it
abbrev pub answer_of : ℕ → Given → Answer
answer_of n Always = always
answer_of n (Object named) = object (set_in n named.bits)

-- For every row that passes its checks, reached by a dialogue or not, and every answer that can be read: it is taken exactly if the
-- definition of the dialogue takes it, unless there is no room, and the row then knows what the definition says.
pub record AsDefined (row answer : List ℕ) (given : Given) : Type 0 where
  pub taken : is_ok (judged_row row answer) ≡ taken (attributes_in row) (known_in row) (question (attributes_in row) (known_in row)) (answer_of (attributes_in row) given)
  pub known : known_in (row_after row (judged_row row answer)) ≡ after (attributes_in row) (known_in row) (answer_of (attributes_in row) given)

abbrev pub AnswersAsDefined : Type 0
AnswersAsDefined =
    (row answer : List ℕ) (given : Given) → row_fault row ≡ None → checked_answer (attributes_in row) answer ≡ Ok given
    → Room (known_in row) (answer_of (attributes_in row) given) → AsDefined row answer given
