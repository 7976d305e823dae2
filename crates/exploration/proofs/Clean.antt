-- A row that has no attribute that is not there keeps none. Assumes nothing.
use Rattle.std.proofs.Common.{◌≡◌, ℕ, ◌+◌, ◌^◌, ◌<◌, ◌≤◌, Bool, true, false, cond, ltb, nat_le, List, [], ◌∷◌, ◌++◌, Some, None, Ok, Option, sym, refl, ap, ◌∙◌, arith}
use Rattle.std.proofs.lemmas.Bool.{ltb-false, lt-leb}
use Rattle.std.specs.List.{AllByRecursion}
use Rattle.std.proofs.lemmas.Option.{none-some}
use Rattle.exploration.specs.Answers.{RoomFor, written, StepBounded}
use Rattle.exploration.specs.Row.{attribute_fault, attributes_in, checked_row, example_part, first_from, implication_part, unknown_at}
use Rattle.replies.specs.declared.turn.Step.{Step}
use Rattle.replies.specs.declared.turn.Step.TheVariants.{Confirm, Name}
use Rattle.replies.specs.declared.reply.Refusal.TheVariants.{TooManyAttributes}
use Rattle.exploration.specs.declared.counts.Counts.{Counts}
use Rattle.exploration.proofs.Rows.{few_enough}
use Rattle.exploration.proofs.Taken.{stepped, implication_numbers, example_numbers}

pub record Clean (row : List ℕ) : Type 0 where
  pub few : attributes_in row ≤ 12
  pub implications : first_from (2 ^ attributes_in row) 3 (implication_part row) ≡ None
  pub examples : first_from (2 ^ attributes_in row) 8195 (example_part row) ≡ None

pub clean_parts : (row : List ℕ) → attribute_fault row ≡ None → Clean row
clean_parts row = go (ltb 12 (attributes_in row)) refl (first_from (2 ^ attributes_in row) 3 (implication_part row)) refl (first_from (2 ^ attributes_in row) 8195 (example_part row)) refl
  where
    go : (b : Bool) → ltb 12 (attributes_in row) ≡ b → (o : Option ℕ) → first_from (2 ^ attributes_in row) 3 (implication_part row) ≡ o
        → (p : Option ℕ) → first_from (2 ^ attributes_in row) 8195 (example_part row) ≡ p → cond b (Some TooManyAttributes) (unknown_at o p) ≡ None → Clean row
    go true e o f p g h = absurd (none-some _ (sym h))
    go false e (Some i) f p g h = absurd (none-some _ (sym h))
    go false e None f (Some i) g h = absurd (none-some _ (sym h))
    go false e None f None g h = record { few = ltb-false 12 (attributes_in row) e; implications = f; examples = g }

-- numbers below the limit behind such numbers
none_more : (limit at : ℕ) (xs ys : List ℕ) → first_from limit at xs ≡ None → AllByRecursion (λ (m : ℕ). m < limit) ys → first_from limit at (xs ++ ys) ≡ None
none_more limit at [] [] e h = refl
none_more limit at [] (y ∷ ys) e h = ap (λ (b : Bool). cond b (Some at) (first_from limit (at + 1) ys)) (lt-leb limit y h.0) ∙ none_more limit (at + 1) [] ys refl h.1
none_more limit at (x ∷ xs) ys e h = go (nat_le limit x) (λ f. none_more limit (at + 1) xs ys f h) e
  where
    go : (b : Bool) → (first_from limit (at + 1) xs ≡ None → first_from limit (at + 1) (xs ++ ys) ≡ None)
        → cond b (Some at) (first_from limit (at + 1) xs) ≡ None → cond b (Some at) (first_from limit (at + 1) (xs ++ ys)) ≡ None
    go true later f = absurd (none-some at (sym f))
    go false later f = later f

bounded_implication : (n : ℕ) (step : Step) → StepBounded n step → AllByRecursion (λ (m : ℕ). m < 2 ^ n) (implication_numbers step)
bounded_implication n (Confirm q) b = (b.0, (b.1, tt))
bounded_implication n (Name s) b = tt

bounded_example : (n : ℕ) (step : Step) → StepBounded n step → AllByRecursion (λ (m : ℕ). m < 2 ^ n) (example_numbers step)
bounded_example n (Confirm q) b = tt
bounded_example n (Name s) b = (b, tt)

pub clean_step : (row : List ℕ) (counts : Counts) (step : Step) → checked_row row ≡ Ok counts → RoomFor counts step → StepBounded (attributes_in row) step → attribute_fault row ≡ None
    → attribute_fault (written row counts step) ≡ None
clean_step row counts step e room b f =
    let c = clean_parts row f in
    let after = stepped row counts step e room in
    let n : ℕ = attributes_in row in
    few_enough (written row counts step) None None (omega (arith, after.width, c.few))
    (sym (none_more (2 ^ n) 3 (implication_part row) (implication_numbers step) c.implications (bounded_implication n step b)) ∙ sym (λ j. first_from (2 ^ after.width j) 3 (after.implications j)))
    (sym (none_more (2 ^ n) 8195 (example_part row) (example_numbers step) c.examples (bounded_example n step b)) ∙ sym (λ j. first_from (2 ^ after.width j) 8195 (after.examples j)))
