-- Answers as numbers, and what an answer does to a lent row. Definitions only.
use Rattle.std.specs.Prelude.{ℕ, suc, ◌+◌, ◌*◌, ◌^◌, ◌<◌, cond, List, [], ◌∷◌, length, Some, None, Ok, Err, Option, Result, ◌==◌, nat_lt, slice_index, slice_set}
use Rattle.std.specs.Option.{option_map}
use Rattle.attributes.specs.Numbers.{set_in}
use Rattle.attributes.specs.Sets.{Set}
use Rattle.attributes.specs.declared.set.AttributeSet.{AttributeSet}
use Rattle.contexts.specs.Contexts.{Implication, respects}
use Rattle.contexts.specs.Values.{implication_at}
use Rattle.contexts.specs.declared.implication.Implication.{Implication as Pair}
use Rattle.exploration.specs.Row.{asked_in, attributes_in, known_in, row_fault}
use Rattle.exploration.specs.declared.counts.Counts.{Counts}
use Rattle.exploration.specs.declared.answer.Answer.{Answer as Given}
use Rattle.exploration.specs.declared.answer.Answer.TheVariants.{Always, Object}
use Rattle.replies.specs.Refusals.{reply_with}
use Rattle.replies.specs.declared.reply.Refusal.{Refusal}
use Rattle.replies.specs.declared.reply.Refusal.TheVariants.{AnswerCutShort, UnknownKind, UnknownAttributeNamed, AlwaysWithNumber, NothingAsked, NotACounterexample, BreaksConfirmed, NoRoomForImplication, NoRoomForExample}
use Rattle.replies.specs.declared.reply.Reply.{Reply}
use Rattle.replies.specs.declared.reply.Reply.TheVariants.{Refused}
use Rattle.replies.specs.declared.turn.Step.{Step}
use Rattle.replies.specs.declared.turn.Step.TheVariants.{Confirm, Name}

-- an answer is two numbers: 0 and 0 for always, or 1 and the object
abbrev pub checked_answer : ℕ → List ℕ → Result Given Refusal
checked_answer n answer =
    cond (nat_lt (length answer) 2) (Err (AnswerCutShort (length answer)))
    (cond (slice_index answer 0 == 0) (cond (slice_index answer 1 == 0) (Ok Always) (Err AlwaysWithNumber))
    (cond (slice_index answer 0 == 1) (cond (nat_lt (slice_index answer 1) (2 ^ n)) (Ok (Object (record { bits = slice_index answer 1 }))) (Err UnknownAttributeNamed))
    (Err UnknownKind)))

-- the place of the first implication that a set breaks
unfoldable pub first_broken : Set → List Implication → Option ℕ
first_broken s [] = None
first_broken s (i ∷ is) = cond (respects s i) (option_map suc (first_broken s is)) (Some 0)

abbrev pub unless_broken : AttributeSet → Option ℕ → Result AttributeSet Refusal
unless_broken named None = Ok named
unless_broken named (Some place) = Err (BreaksConfirmed place)

-- an object must break what is asked and respect what is confirmed
abbrev pub checked_object : ℕ → List Implication → Pair → AttributeSet → Result AttributeSet Refusal
checked_object n confirmed asked named =
    cond (respects (set_in n named.bits) (implication_at n asked)) (Err (NotACounterexample named))
    (unless_broken named (first_broken (set_in n named.bits) confirmed))

-- what is to be written, if there is room for it
abbrev pub checked_room : Counts → Step → Result Step Refusal
checked_room counts (Confirm q) = cond (nat_lt counts.implications 4096) (Ok (Confirm q)) (Err NoRoomForImplication)
checked_room counts (Name s) = cond (nat_lt counts.examples 4096) (Ok (Name s)) (Err NoRoomForExample)

abbrev pub named_if_room : Counts → Result AttributeSet Refusal → Result Step Refusal
named_if_room counts (Ok named) = checked_room counts (Name named)
named_if_room counts (Err refusal) = Err refusal

-- what an answer does to what is asked: the first refusal that applies, or what is to be written
abbrev pub judged : ℕ → List Implication → Counts → Option Pair → Given → Result Step Refusal
judged n confirmed counts None answer = Err NothingAsked
judged n confirmed counts (Some asked) Always = checked_room counts (Confirm asked)
judged n confirmed counts (Some asked) (Object named) = named_if_room counts (checked_object n confirmed asked named)

abbrev pub judged_given : ℕ → List Implication → Counts → Option Pair → Result Given Refusal → Result Step Refusal
judged_given n confirmed counts asked (Err refusal) = Err refusal
judged_given n confirmed counts asked (Ok answer) = judged n confirmed counts asked answer

-- what is to be written has no attribute that is not there
abbrev pub StepBounded : ℕ → Step → Type 0
StepBounded n (Confirm q) = (q.premise.bits < 2 ^ n) × (q.conclusion.bits < 2 ^ n)
StepBounded n (Name s) = s.bits < 2 ^ n

-- there is room for what is to be written
abbrev pub RoomFor : Counts → Step → Type 0
RoomFor counts (Confirm q) = counts.implications < 4096
RoomFor counts (Name s) = counts.examples < 4096

-- the counts after it
abbrev pub raised : Counts → Step → Counts
raised counts (Confirm q) = record { implications = counts.implications + 1; examples = counts.examples }
raised counts (Name s) = record { implications = counts.implications; examples = counts.examples + 1 }

-- the row after an answer that was taken: one entry more behind the others, and one count raised
abbrev pub written : List ℕ → Counts → Step → List ℕ
written row counts (Confirm q) =
    slice_set (slice_set (slice_set row (3 + 2 * counts.implications) q.premise.bits) (3 + (2 * counts.implications + 1)) q.conclusion.bits) 1 (counts.implications + 1)
written row counts (Name s) = slice_set (slice_set row (8195 + counts.examples) s.bits) 2 (counts.examples + 1)

abbrev pub counts_in : List ℕ → Counts
counts_in row = record { implications = slice_index row 1; examples = slice_index row 2 }

abbrev pub unless_fault : Option Refusal → Result Step Refusal → Result Step Refusal
unless_fault None judgement = judgement
unless_fault (Some fault) judgement = Err fault

-- what an answer does to a row: the first refusal of all that applies, or what is to be written
abbrev pub judged_row : List ℕ → List ℕ → Result Step Refusal
judged_row row answer =
    unless_fault (row_fault row)
    (judged_given (attributes_in row) (known_in row).confirmed (counts_in row) (asked_in row) (checked_answer (attributes_in row) answer))

-- the row after an answer: a refusal leaves it as it was
abbrev pub row_after : List ℕ → Result Step Refusal → List ℕ
row_after row (Err refusal) = row
row_after row (Ok step) = written row (counts_in row) step

-- the reply to an answer: the refusal, or what is asked next
abbrev pub reply_after : List ℕ → Result Step Refusal → Reply
reply_after row (Err refusal) = Refused refusal
reply_after row (Ok step) = reply_with (asked_in (written row (counts_in row) step))

-- where to look for what is asked next: from the premise of what was asked
abbrev pub premise_of : Option Pair → AttributeSet
premise_of None = record { bits = 0 }
premise_of (Some q) = q.premise
