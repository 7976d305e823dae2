-- A dialogue worked out by hand: the yard, what is asked in turn, and what the foreman answers. Definitions only.
use Rattle.std.specs.Prelude.{◌≡◌, ℕ, ◌<◌, Bool, false, not, ◌||◌, List, [], ◌∷◌, map, length, take, Some, None, Option, ◌==◌, slice_index_or}
use Rattle.attributes.specs.Sets.{Set}
use Rattle.contexts.specs.Contexts.{Context, Implication, respects}
use Rattle.premises.specs.Open.{first}
use Rattle.dialogues.specs.Dialogue.{Knowledge, nothing_known, question, Answer, always, object, after_all, Truthful}

-- 0 tank, 1 heated, 2 steam connection, 3 drip tray, 4 hazard plate
abbrev pub features : List ℕ
features = 0 ∷ 1 ∷ 2 ∷ 3 ∷ 4 ∷ []

abbrev pub among : List ℕ → ℕ → Bool
among [] c = false
among (x ∷ xs) c = x == c || among xs c

-- the set of the features with these numbers
abbrev pub with : List ℕ → Set
with cs = map (among cs) features

abbrev pub yard : Context
yard = map with ((0 ∷ 1 ∷ 2 ∷ []) ∷ (0 ∷ 3 ∷ []) ∷ (0 ∷ 1 ∷ 2 ∷ 3 ∷ []) ∷ (0 ∷ 3 ∷ 4 ∷ []) ∷ [] ∷ (2 ∷ []) ∷ [])

-- what is asked about, what it is asked to imply, and the answer
pub record Row : Type 0 where
  pub asked : Implication
  pub answer : Answer

abbrev pub implies : List ℕ → List ℕ → Implication
implies ps cs = record { premise = with ps; conclusion = with cs }

abbrev pub row : List ℕ → List ℕ → Answer → Row
row ps cs a = record { asked = implies ps cs; answer = a }

abbrev pub names : List ℕ → Answer
names cs = object (with cs)

abbrev pub table : List Row
table =
    row [] features (names (0 ∷ 1 ∷ 2 ∷ []))
    ∷ row [] (0 ∷ 1 ∷ 2 ∷ []) (names (0 ∷ 3 ∷ []))
    ∷ row [] (0 ∷ []) (names [])
    ∷ row (4 ∷ []) features (names (0 ∷ 3 ∷ 4 ∷ []))
    ∷ row (4 ∷ []) (0 ∷ 3 ∷ 4 ∷ []) always
    ∷ row (3 ∷ []) (0 ∷ 3 ∷ []) always
    ∷ row (2 ∷ []) (0 ∷ 1 ∷ 2 ∷ []) (names (2 ∷ []))
    ∷ row (1 ∷ []) (0 ∷ 1 ∷ 2 ∷ []) always
    ∷ row (0 ∷ 2 ∷ []) (0 ∷ 1 ∷ 2 ∷ []) always
    ∷ row (0 ∷ 1 ∷ 2 ∷ 3 ∷ []) features (names (0 ∷ 1 ∷ 2 ∷ 3 ∷ []))
    ∷ []

abbrev pub answers : List Row → List Answer
answers rows = map (λ (r : Row). r.answer) rows

abbrev pub known_at : ℕ → Knowledge
known_at i = after_all 5 nothing_known (answers (take i table))

-- the answer of a foreman who goes through the yard in order and names the first object that breaks what is asked
abbrev pub first_named : Option Set → Answer
first_named None = always
first_named (Some s) = object s

abbrev pub foreman : Implication → Answer
foreman q = first_named (first (λ (s : Set). not (respects s q)) yard)

-- each row is what is asked after the answers before it; then nothing is asked, and these are the implications confirmed;
-- and the answers are those of the foreman, and truthful for the yard
pub record WorkedDialogue : Type 0 where
  pub asks : (i : ℕ) → i < length table → question 5 (known_at i) ≡ Some (slice_index_or table i (row [] [] always)).asked
  pub ends : question 5 (known_at (length table)) ≡ None
  pub confirms : (known_at (length table)).confirmed ≡ implies (4 ∷ []) (0 ∷ 3 ∷ 4 ∷ []) ∷ implies (3 ∷ []) (0 ∷ 3 ∷ []) ∷ implies (1 ∷ []) (0 ∷ 1 ∷ 2 ∷ []) ∷ implies (0 ∷ 2 ∷ []) (0 ∷ 1 ∷ 2 ∷ []) ∷ []
  pub answered : answers table ≡ map (λ (r : Row). foreman r.asked) table
  pub truthful : Truthful 5 yard nothing_known (answers table)
