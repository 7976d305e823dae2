-- A row that was opened passes its checks and knows nothing. Assumes nothing.
use Rattle.std.proofs.Common.{◌≡◌, ℕ, ◌*◌, ◌^◌, ◌≤◌, Bool, true, false, cond, ltb, ◌≢◌, List, [], length, get_or, take, drop, set, None, Ok, Err, Result, sym, refl, ap, ◌∙◌, subst, arith}
use Rattle.std.proofs.lemmas.List.{length-set, get_or-set_same, get_or-set_other}
use Rattle.std.proofs.lemmas.Bool.{ltb-false, le-ltb}
use Rattle.contexts.specs.Values.{objects_in}
use Rattle.implications.specs.Values.{implications_in}
use Rattle.exploration.specs.Answers.{counts_in}
use Rattle.dialogues.specs.Dialogue.{nothing_known}
use Rattle.exploration.specs.Row.{attribute_fault, attributes_in, checked_row, example_part, fault_or, first_from, implication_part, known_in, opened, opening, row_fault}
use Rattle.replies.specs.declared.reply.Refusal.{Refusal}
use Rattle.replies.specs.declared.reply.Refusal.TheVariants.{RowTooShort, TooManyAttributes}
use Rattle.exploration.proofs.Rows.{no_ok, few_enough}
use Rattle.exploration.proofs.Taken.{checked}

pub record Opened (n : ℕ) (row : List ℕ) : Type 0 where
  pub width : attributes_in row ≡ n
  pub few : n ≤ 12
  pub counts : checked_row row ≡ Ok (counts_in row)
  pub clean : attribute_fault row ≡ None
  pub known : known_in row ≡ nothing_known

module _ (n : ℕ) (row : List ℕ) (long : 12291 ≤ length row) (few : n ≤ 12) where
  zero_row : List ℕ
  zero_row = set (set (set row 0 n) 1 0) 2 0

  is_opened : opened n row ≡ zero_row
  unfolding zero_row
  is_opened = λ j. cond (le-ltb (length row) 12291 long j) row (cond (le-ltb 12 n few j) row (set (set (set row 0 n) 1 0) 2 0))

  zero_length : length zero_row ≡ length row
  unfolding zero_row
  zero_length = length-set (set (set row 0 n) 1 0) 2 0 ∙ length-set (set row 0 n) 1 0 ∙ length-set row 0 n

  zero_width : attributes_in zero_row ≡ n
  unfolding zero_row
  zero_width =
      let a : ◌≢◌ {A = ℕ} 0 2 = omega arith in
      let b : ◌≢◌ {A = ℕ} 0 1 = omega arith in
      get_or-set_other (set (set row 0 n) 1 0) 2 0 0 0 a ∙ get_or-set_other (set row 0 n) 1 0 0 0 b ∙ get_or-set_same row 0 n 0 (omega arith)

  zero_implications : get_or zero_row 1 0 ≡ 0
  unfolding zero_row
  zero_implications =
      let a : ◌≢◌ {A = ℕ} 1 2 = omega arith in
      get_or-set_other (set (set row 0 n) 1 0) 2 1 0 0 a ∙ get_or-set_same (set row 0 n) 1 0 0 (omega (arith, length-set row 0 n))

  zero_examples : get_or zero_row 2 0 ≡ 0
  unfolding zero_row
  zero_examples = get_or-set_same (set (set row 0 n) 1 0) 2 0 0 (omega (arith, length-set (set row 0 n) 1 0, length-set row 0 n))

  no_implications : implication_part zero_row ≡ []
  no_implications = ap (λ (k : ℕ). take (2 * k) (drop 3 zero_row)) zero_implications

  no_examples : example_part zero_row ≡ []
  no_examples = ap (λ (k : ℕ). take k (drop 8195 zero_row)) zero_examples

  zero_known : known_in zero_row ≡ nothing_known
  unfolding implications_in
  zero_known = λ j. record { confirmed = implications_in (attributes_in zero_row) (no_implications j); examples = objects_in (attributes_in zero_row) (no_examples j) }

  zero_clean : attribute_fault zero_row ≡ None
  zero_clean =
      few_enough zero_row None None (omega (arith, zero_width)) (sym (ap (first_from (2 ^ attributes_in zero_row) 3) no_implications)) (sym (ap (first_from (2 ^ attributes_in zero_row) 8195) no_examples))

  zero_opened : Opened n (opened n row)
  zero_opened =
      let at : Opened n zero_row =
      record {
        width = zero_width;
        few = few;
        counts = checked zero_row (omega (arith, zero_length)) (omega (arith, zero_implications)) (omega (arith, zero_examples));
        clean = zero_clean;
        known = zero_known;
      }
      in
      subst (Opened n) (sym is_opened) at

open_parts : (n : ℕ) (row : List ℕ) → opening n row ≡ Ok tt → (12291 ≤ length row) × (n ≤ 12)
open_parts n row = go (ltb (length row) 12291) refl (ltb 12 n) refl
  where
    go : (a : Bool) → ltb (length row) 12291 ≡ a → (b : Bool) → ltb 12 n ≡ b → ◌≡◌ {A = Result (Unit {0}) Refusal} (cond a (Err (RowTooShort (length row))) (cond b (Err TooManyAttributes) (Ok tt))) (Ok tt) → (12291 ≤ length row) × (n ≤ 12)
    go true p b q e = absurd (no_ok e)
    go false p true q e = absurd (no_ok e)
    go false p false q e = (ltb-false (length row) 12291 p, ltb-false 12 n q)

pub is_open_row : (n : ℕ) (row : List ℕ) → opening n row ≡ Ok tt → Opened n (opened n row)
is_open_row n row e = let p = open_parts n row e in zero_opened n row p.0 p.1

pub opened_fault : (n : ℕ) (row : List ℕ) → opening n row ≡ Ok tt → row_fault (opened n row) ≡ None
opened_fault n row e = let o = is_open_row n row e in λ j. fault_or (o.counts j) (o.clean j)
