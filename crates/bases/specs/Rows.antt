-- Contexts and lists as lent rows of numbers: how many attributes there are, the count of the rows, and then a number for each object, or
-- two for each implication. Definitions only.
use Rattle.std.specs.Prelude.{◌≡◌, ℕ, ◌*◌, ◌/◌, ◌^◌, min, cond, List, [], ◌∷◌, ◌++◌, length, take, drop, Some, None, Option, Ok, Err, Result, nat_lt, slice_index}
use Rattle.std.specs.List.{flat_map, prefix_len}
use Rattle.attributes.specs.Numbers.{number_of}
use Rattle.contexts.specs.Contexts.{Context, Implication}
use Rattle.contexts.specs.Values.{objects_in}
use Rattle.implications.specs.Values.{implications_in}
use Rattle.bases.specs.Bases.{Base}
use Rattle.bases.specs.declared.refusal.Refusal.{Refusal}
use Rattle.bases.specs.declared.refusal.Refusal.TheVariants.{OutputTooShort, TooManyAttributes, RowAtFault}

abbrev pub attributes_in : List ℕ → ℕ
attributes_in row = slice_index row 0

abbrev pub count_in : List ℕ → ℕ
count_in row = slice_index row 1

-- how many numbers at the front are below the limit
abbrev pub sound_front : ℕ → List ℕ → ℕ
sound_front limit row = prefix_len (λ m. nat_lt m limit) row

-- how many rows of so many numbers each stand whole at the front and have only attributes that are there; 4,096 at most
abbrev pub sound_rows : ℕ → List ℕ → ℕ
sound_rows width row = min (sound_front (2 ^ attributes_in row) (drop 2 row) / width) 4096

-- the first refusal that applies to an input and to an output with room for so many numbers: 1, then 2, then 8.
-- An input without a count is cut short at its first row
abbrev pub fault : ℕ → List ℕ → ℕ → Option Refusal
fault width input room =
    cond (nat_lt room 8194) (Some (OutputTooShort room))
    (cond (nat_lt 12 (attributes_in input)) (Some TooManyAttributes)
    (cond (nat_lt (length input) 2) (Some (RowAtFault 0))
    (cond (nat_lt (sound_rows width input) (count_in input)) (Some (RowAtFault (sound_rows width input))) None)))

-- the refusal, or that the base is written
abbrev pub result_of : Option Refusal → Result Unit Refusal
result_of None = Ok tt
result_of (Some refusal) = Err refusal

-- the context and the list that a row has
abbrev pub context_in : List ℕ → Context
context_in row = objects_in (attributes_in row) (take (count_in row) (drop 2 row))

abbrev pub implication_part : List ℕ → List ℕ
implication_part row = take (2 * count_in row) (drop 2 row)

abbrev pub list_in : List ℕ → List Implication
list_in row = implications_in (attributes_in row) (implication_part row)

-- the numbers of an implication, and of a list
abbrev pub two_numbers : Implication → List ℕ
two_numbers i = number_of i.premise ∷ (number_of i.conclusion ∷ [])

abbrev pub numbers_of : List Implication → List ℕ
numbers_of is = flat_map two_numbers is

-- the list's numbers, and what stands behind them as it was
abbrev pub numbers_then : List Implication → List ℕ → List ℕ
numbers_then is before = numbers_of is ++ drop (2 * length is) before

-- the base of the context is written to a part of a row, so many implications, and what stands behind them is as it was
pub record WrittenPart (n : ℕ) (u : Context) (count : ℕ) (before after : List ℕ) : Type 0 where
  pub base : List Implication
  pub is_base : Base n u base
  pub counted : length base ≡ count
  pub part : after ≡ numbers_then base before

-- the base of the context is written: n, the count and its numbers, and what stands behind them is as it was
pub record WrittenBase (n : ℕ) (u : Context) (before after : List ℕ) : Type 0 where
  pub base : List Implication
  pub is_base : Base n u base
  pub row : after ≡ n ∷ (length base ∷ numbers_then base (drop 2 before))

-- the output after a refusal is as it was
abbrev pub Output : Option Refusal → ℕ → Context → List ℕ → List ℕ → Type 0
Output None n u before after = WrittenBase n u before after
Output (Some refusal) n u before after = after ≡ before
