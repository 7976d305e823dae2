-- What is known, as a lent row of numbers: how many attributes there are, the count of the implications confirmed, the count of the
-- examples named, room for 4,096 implications of two sets each, and room for 4,096 examples. Definitions only.
use Rattle.std.specs.Prelude.{ℕ, ◌*◌, ◌^◌, ◌<◌, cond, List, length, take, drop, IfSome, Some, None, Ok, Err, Option, Result, nat_le, nat_lt, slice_index, slice_set}
use Rattle.std.specs.List.{position_from}
use Rattle.std.specs.Option.{option_map}
use Rattle.contexts.specs.Values.{objects_in, pair_of}
use Rattle.contexts.specs.declared.implication.Implication.{Implication as Pair}
use Rattle.implications.specs.Values.{implications_in}
use Rattle.dialogues.specs.Dialogue.{Knowledge, question}
use Rattle.exploration.specs.declared.counts.Counts.{Counts}
use Rattle.replies.specs.declared.reply.Refusal.{Refusal}
use Rattle.replies.specs.declared.reply.Refusal.TheVariants.{RowTooShort, TooManyImplications, TooManyExamples, TooManyAttributes, UnknownAttribute}
use Rattle.replies.specs.declared.reply.Reply.{Reply}
use Rattle.replies.specs.declared.reply.Reply.TheVariants.{Refused}
use Rattle.replies.specs.Refusals.{reply_with}

abbrev pub attributes_in : List ℕ → ℕ
attributes_in row = slice_index row 0

-- the numbers of the implications, two for each, and those of the examples
abbrev pub implication_part : List ℕ → List ℕ
implication_part row = take (2 * slice_index row 1) (drop 3 row)

abbrev pub example_part : List ℕ → List ℕ
example_part row = take (slice_index row 2) (drop 8195 row)

-- what a row says of n attributes, and what it knows
abbrev pub known_of : ℕ → List ℕ → Knowledge
known_of n row = record { confirmed = implications_in n (implication_part row); examples = objects_in n (example_part row) }

abbrev pub known_in : List ℕ → Knowledge
known_in row = known_of (attributes_in row) row

-- the counts, or the first refusal of number 1 that applies
abbrev pub checked_row : List ℕ → Result Counts Refusal
checked_row row =
    cond (nat_lt (length row) 12291) (Err (RowTooShort (length row)))
    (cond (nat_lt 4096 (slice_index row 1)) (Err TooManyImplications)
    (cond (nat_lt 4096 (slice_index row 2)) (Err TooManyExamples)
    (Ok (record { implications = slice_index row 1; examples = slice_index row 2 }))))

-- the place of the first number that is not below the limit, counted from a given one
abbrev pub first_from : ℕ → ℕ → List ℕ → Option ℕ
first_from limit = position_from (λ m. nat_le limit m)

abbrev pub unknown_at : Option ℕ → Option ℕ → Option Refusal
unknown_at (Some place) later = Some (UnknownAttribute place)
unknown_at None (Some place) = Some (UnknownAttribute place)
unknown_at None None = None

-- the first number of the row that has an attribute that is not there
abbrev pub unknown_attribute : List ℕ → Option Refusal
unknown_attribute row =
    unknown_at (first_from (2 ^ attributes_in row) 3 (implication_part row)) (first_from (2 ^ attributes_in row) 8195 (example_part row))

abbrev pub fault_or : Result Counts Refusal → Option Refusal → Option Refusal
fault_or (Ok counts) later = later
fault_or (Err fault) later = Some fault

-- the first refusal of number 2 that applies
abbrev pub attribute_fault : List ℕ → Option Refusal
attribute_fault row = cond (nat_lt 12 (attributes_in row)) (Some TooManyAttributes) (unknown_attribute row)

-- the first refusal that applies to the row
abbrev pub row_fault : List ℕ → Option Refusal
row_fault row = fault_or (checked_row row) (attribute_fault row)

-- a question of the code says nothing beyond n attributes
abbrev pub Bounded : ℕ → Option Pair → Type 0
Bounded n asked = IfSome asked (λ (q : Pair). (q.premise.bits < 2 ^ n) × (q.conclusion.bits < 2 ^ n))

-- what is asked next with what a row knows, as the code has it
abbrev pub asked_in : List ℕ → Option Pair
asked_in row = option_map pair_of (question (attributes_in row) (known_in row))

abbrev pub reply_unless : Option Refusal → Reply → Reply
reply_unless None reply = reply
reply_unless (Some fault) reply = Refused fault

-- the reply to a row: the first refusal that applies, or what is asked next
abbrev pub asked_of : List ℕ → Reply
asked_of row = reply_unless (row_fault row) (reply_with (asked_in row))

-- opening a row for n attributes: the first refusal that applies, if one does
abbrev pub opening : ℕ → List ℕ → Result (Unit {0}) Refusal
opening n row = cond (nat_lt (length row) 12291) (Err (RowTooShort (length row))) (cond (nat_lt 12 n) (Err TooManyAttributes) (Ok tt))

-- the row after it: n and two counts of 0, and all else as it was; or all as it was
abbrev pub opened : ℕ → List ℕ → List ℕ
opened n row = cond (nat_lt (length row) 12291) row (cond (nat_lt 12 n) row (slice_set (slice_set (slice_set row 0 n) 1 0) 2 0))
