-- The number and the place by which each refusal is told, and replies as text. Definitions only.
use Rattle.std.specs.Prelude.{ℕ, List, ◌++◌, Some, None, Ok, Err, codes, decimal, Option, Result}
use Rattle.attributes.specs.Numbers.{set_in}
use Rattle.attributes.specs.Text.{written}
use Rattle.contexts.specs.declared.implication.Implication.{Implication}
use Rattle.replies.specs.declared.turn.Step.{Step}
use Rattle.replies.specs.declared.turn.Step.TheVariants.{Confirm, Name}
use Rattle.replies.specs.declared.reply.Refusal.{Refusal}
use Rattle.replies.specs.declared.reply.Refusal.TheVariants.{RowTooShort, TooManyImplications, TooManyExamples, TooManyAttributes, UnknownAttribute, AnswerCutShort, UnknownKind, UnknownAttributeNamed, AlwaysWithNumber, NothingAsked, NotACounterexample, BreaksConfirmed, NoRoomForImplication, NoRoomForExample}
use Rattle.replies.specs.declared.reply.Reply.{Reply}
use Rattle.replies.specs.declared.reply.Reply.TheVariants.{Question, Finished, Refused}

abbrev pub refusal_number : Refusal → ℕ
refusal_number (RowTooShort length) = 1
refusal_number TooManyImplications = 1
refusal_number TooManyExamples = 1
refusal_number TooManyAttributes = 2
refusal_number (UnknownAttribute place) = 2
refusal_number (AnswerCutShort length) = 3
refusal_number UnknownKind = 3
refusal_number UnknownAttributeNamed = 3
refusal_number AlwaysWithNumber = 3
refusal_number NothingAsked = 4
refusal_number (NotACounterexample named) = 5
refusal_number (BreaksConfirmed place) = 6
refusal_number NoRoomForImplication = 7
refusal_number NoRoomForExample = 7

abbrev pub refusal_place : Refusal → ℕ
refusal_place (RowTooShort length) = length
refusal_place TooManyImplications = 1
refusal_place TooManyExamples = 2
refusal_place TooManyAttributes = 0
refusal_place (UnknownAttribute place) = place
refusal_place (AnswerCutShort length) = length
refusal_place UnknownKind = 0
refusal_place UnknownAttributeNamed = 1
refusal_place AlwaysWithNumber = 1
refusal_place NothingAsked = 0
refusal_place (NotACounterexample named) = named.bits
refusal_place (BreaksConfirmed place) = place
refusal_place NoRoomForImplication = 1
refusal_place NoRoomForExample = 2

abbrev pub refusal_text : Refusal → List ℕ
refusal_text r = codes "refused " ++ (decimal (refusal_number r) ++ (codes " at " ++ decimal (refusal_place r)))

-- what is asked, as a reply
abbrev pub reply_with : Option Implication → Reply
reply_with None = Finished
reply_with (Some q) = Question q

abbrev pub reply_text : Reply → List ℕ
reply_text (Question q) =
    codes "all with " ++ (written (set_in 16 q.premise.bits) ++ (codes " have " ++ (written (set_in 16 q.conclusion.bits) ++ codes "?")))
reply_text Finished = codes "finished"
reply_text (Refused r) = refusal_text r

-- what became of an answer
abbrev pub outcome_text : Result Step Refusal → List ℕ
outcome_text (Ok (Confirm q)) = codes "always"
outcome_text (Ok (Name s)) = codes "not " ++ written (set_in 16 s.bits)
outcome_text (Err refusal) = refusal_text refusal
