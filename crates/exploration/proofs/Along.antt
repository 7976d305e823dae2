-- A dialogue answer by answer. Assumes nothing.
use Rattle.std.proofs.Common.{◌≡◌, ℕ, ◌+◌, ◌<◌, ◌≤◌, min, List, [], ◌∷◌, ◌++◌, length, sym, refl, ap, ◌∙◌, append_assoc, append-nil, arith, length-append}
use Rattle.std.specs.Int.{div_ceil}
use Rattle.exploration.specs.Answers.{judged_row, row_after}
use Rattle.exploration.specs.Row.{asked_in}
use Rattle.exploration.specs.Standings.{Stands}
use Rattle.exploration.specs.Turns.{answers_in, row_after_all, turns_of}
use Rattle.replies.specs.declared.turn.Turn.{Turn}
use Rattle.exploration.specs.declared.standing.Standing.{Standing}

-- the first two numbers, or the one that is left, are the first answer
first_answer : (answer rest : List ℕ) → length answer ≡ min 2 (length (answer ++ rest)) → 0 < length (answer ++ rest) → answers_in (answer ++ rest) ≡ answer ∷ answers_in rest
unfolding answers_in
first_answer [] rest two some = absurd (omega arith)
first_answer (x ∷ []) [] two some = refl
first_answer (x ∷ []) (y ∷ rest) two some = absurd (omega arith)
first_answer (x ∷ (y ∷ [])) rest two some = refl
first_answer (x ∷ (y ∷ (z ∷ answer))) rest two some = absurd (omega arith)

-- what was done so far, and what is left, make up the whole
pub record Held (start : List ℕ) (answers : List ℕ) (row : List ℕ) (standing : Standing) (turns : List Turn) (left : List ℕ) : Type 0 where
  pub stands : Stands row standing
  pub rows : row_after_all row (answers_in left) ≡ row_after_all start (answers_in answers)
  pub all : turns ++ turns_of row (answers_in left) ≡ turns_of start (answers_in answers)

module _ (start answers : List ℕ) where
  pub held_more : (row : List ℕ) (standing : Standing) (turns : List Turn) (left : List ℕ) → Held start answers row standing turns left
      → (answer rest : List ℕ) → left ≡ answer ++ rest → length answer ≡ min 2 (length left) → 0 < length left
      → (row₁ : List ℕ) (then : Standing) (turn : Turn) → row₁ ≡ row_after row (judged_row row answer) → Stands row₁ then
      → turn.asked ≡ asked_in row → turn.outcome ≡ judged_row row answer → Held start answers row₁ then (turns ++ turn ∷ []) rest
  unfolding row_after_all turns_of
  held_more row standing turns left h answer rest cut two some row₁ then turn row_is s asked outcome =
      let next : answers_in left ≡ answer ∷ answers_in rest = ap answers_in cut ∙ first_answer answer rest (two ∙ ap (λ (xs : List ℕ). min 2 (length xs)) cut) (omega (arith, ap (λ (xs : List ℕ). length xs) cut)) in
      let turn_is : turn ≡ record { asked = asked_in row; outcome = judged_row row answer } = λ j. record { asked = asked j; outcome = outcome j } in
      record {
        stands = s;
        rows = ap (λ (x : List ℕ). row_after_all x (answers_in rest)) row_is ∙ sym (ap (row_after_all row) next) ∙ h.rows;
        all =
            append_assoc turns (turn ∷ []) (turns_of row₁ (answers_in rest))
            ∙ (λ j. turns ++ turn_is j ∷ turns_of (row_is j) (answers_in rest))
            ∙ sym (ap (λ (as' : List (List ℕ)). turns ++ turns_of row as') next)
            ∙ h.all;
      }

  -- with nothing left, all is done
  pub held_rows : (row : List ℕ) (standing : Standing) (turns : List Turn) → Held start answers row standing turns [] → row ≡ row_after_all start (answers_in answers)
  unfolding row_after_all answers_in
  held_rows row standing turns h = h.rows

  pub held_turns : (row : List ℕ) (standing : Standing) (turns : List Turn) → Held start answers row standing turns [] → turns ≡ turns_of start (answers_in answers)
  unfolding turns_of answers_in
  held_turns row standing turns h = sym (append-nil turns) ∙ h.all

-- and there is room for the turns that are left
pub room_more : (turns turns₁ most most₁ : ℕ) (left answer rest : List ℕ) → turns + div_ceil (length left) 2 ≤ most → left ≡ answer ++ rest → length answer ≡ min 2 (length left) → 0 < length left
    → turns₁ ≡ turns + 1 → most₁ ≡ most → turns₁ + div_ceil (length rest) 2 ≤ most₁
room_more turns turns₁ most most₁ left answer rest room cut two some more same = omega (arith, ap (λ (xs : List ℕ). length xs) cut, length-append answer rest)
