-- A judgement from where an exploration stands is the judgement of the row. Assumes nothing.
use Rattle.std.proofs.Common.{◌≡◌, ℕ, List, is_some, Ok, Err, Option, Result, sym, ap, ◌∙◌, subst}
use Rattle.std.specs.Option.{option_map}
use Rattle.attributes.specs.Numbers.{set_in}
use Rattle.contexts.specs.Values.{implication_at, pair_of}
use Rattle.contexts.specs.declared.implication.Implication.{Implication as Pair}
use Rattle.contexts.proofs.Walks.{objects_width}
use Rattle.implications.specs.Values.{implications_in}
use Rattle.dialogues.specs.Dialogue.{Knowledge, question, question_from}
use Rattle.exploration.specs.Answers.{RoomFor, checked_answer, counts_in, judged_given, raised, judged_row, premise_of, row_after, unless_fault, written, StepBounded}
use Rattle.exploration.specs.Row.{Bounded, asked_in, attribute_fault, attributes_in, checked_row, example_part, fault_or, implication_part, known_in, known_of}
use Rattle.exploration.specs.Standings.{Stands}
use Rattle.replies.specs.declared.turn.Step.{Step}
use Rattle.replies.specs.declared.reply.Refusal.{Refusal}
use Rattle.exploration.specs.declared.counts.Counts.{Counts}
use Rattle.exploration.specs.declared.standing.Standing.{Standing}
use Rattle.exploration.proofs.Judged.{Taken, judged_taken}
use Rattle.exploration.proofs.Clean.{clean_step}
use Rattle.exploration.proofs.Next.{next_asked}
use Rattle.exploration.proofs.Taken.{Stepped, counts_are, learnt_from, stepped}

-- what was judged is the judgement of the row, and a step that was judged was asked for, finds room, and says nothing beyond n attributes
pub record Judgement (row answer : List ℕ) (standing : Standing) (outcome : Result Step Refusal) : Type 0 where
  pub stands : Stands row standing
  pub is : outcome ≡ judged_row row answer
  pub taken : (step : Step) → outcome ≡ Ok step → Taken standing.n.value standing.counts standing.asked step

pub judgement : {row part : List ℕ} {standing : Standing} {outcome : Result Step Refusal} (answer : List ℕ) → Stands row standing → part ≡ implication_part row
    → outcome ≡ judged_given standing.n.value (implications_in standing.n.value part) standing.counts standing.asked (checked_answer standing.n.value answer)
    → Judgement row answer standing outcome
judgement {row} {part} {standing} answer stands is_part is_judged =
    let w : standing.n.value ≡ attributes_in row = stands.width in
    record {
      stands = stands;
      is =
          is_judged
          ∙ (λ j. judged_given (w j) (implications_in (w j) (is_part j)) (counts_are row standing.counts stands.counts j) (stands.asked j) (checked_answer (w j) answer))
          ∙ sym (ap (λ f. unless_fault f (judged_given (attributes_in row) (known_in row).confirmed (counts_in row) (asked_in row) (checked_answer (attributes_in row) answer))) (λ j. fault_or (stands.counts j) (stands.clean j)));
      taken = λ step e. judged_taken standing.n.value (implications_in standing.n.value part) standing.counts standing.asked answer step standing.bound (sym is_judged ∙ e);
    }

module _ {row answer : List ℕ} {standing : Standing} {outcome : Result Step Refusal} (judged : Judgement row answer standing outcome) where
  pub refused_row : {refusal : Refusal} → outcome ≡ Err refusal → row ≡ row_after row (judged_row row answer)
  refused_row e = ap (row_after row) (sym e ∙ judged.is)

  module _ {step : Step} (e : outcome ≡ Ok step) where
    pub step_fits : RoomFor standing.counts step
    step_fits = (judged.taken step e).room

    pub taken_row : written row standing.counts step ≡ row_after row (judged_row row answer)
    taken_row = ap (λ (k : Counts). written row k step) (counts_are row standing.counts judged.stands.counts) ∙ ap (row_after row) (sym e ∙ judged.is)

    after : Stepped row standing.counts step
    after = stepped row standing.counts step judged.stands.counts step_fits

    -- the counts are those of the row behind it
    pub counts_then : (row₁ : List ℕ) → row₁ ≡ written row standing.counts step → (counts : Counts) → counts ≡ raised standing.counts step → checked_row row₁ ≡ Ok counts
    counts_then row₁ is_row counts is_counts = ap checked_row is_row ∙ after.counts_then ∙ ap Ok (sym is_counts)

    -- what is found from the premise just asked about is what is asked then
    asked_then : (row₁ : List ℕ) → row₁ ≡ written row standing.counts step → (found : Option Pair) → Bounded standing.n.value found
        → option_map (implication_at standing.n.value) found ≡ question_from standing.n.value (known_of standing.n.value row₁) (set_in standing.n.value (premise_of standing.asked).bits)
        → found ≡ asked_in row₁
    asked_then row₁ is_row found bound value =
        let n : ℕ = attributes_in row in
        let learnt : Knowledge = learnt_from n (known_in row) step in
        let width : standing.n.value ≡ n = judged.stands.width in
        let width_then : attributes_in row₁ ≡ n = ap attributes_in is_row ∙ after.width in
        let known_then : known_in row₁ ≡ learnt = ap known_in is_row ∙ after.known in
        next_asked n (known_in row) step standing.asked found (objects_width n (example_part row)) judged.stands.asked (ap is_some (judged.taken step e).question.1)
        (ap (λ (m : ℕ). option_map (implication_at m) found) (sym width) ∙ value
        ∙ (λ j. question_from (width j) (known_of ((width ∙ sym width_then) j) row₁) (set_in (width j) (premise_of standing.asked).bits))
        ∙ ap (λ (k : Knowledge). question_from n k (set_in n (premise_of standing.asked).bits)) known_then)
        (subst (λ (m : ℕ). Bounded m found) width bound)
        ∙ (λ j. option_map pair_of (question (sym width_then j) (sym known_then j)))

    -- and the exploration stands behind it
    pub stands_then : (row₁ : List ℕ) → row₁ ≡ written row standing.counts step → (then : Standing) → then.n.value ≡ standing.n.value → then.counts ≡ raised standing.counts step
        → option_map (implication_at standing.n.value) then.asked ≡ question_from standing.n.value (known_of standing.n.value row₁) (set_in standing.n.value (premise_of standing.asked).bits)
        → Stands row₁ then
    stands_then row₁ is_row then same_n is_counts value =
        record {
          width = same_n ∙ judged.stands.width ∙ sym after.width ∙ sym (ap attributes_in is_row);
          counts = counts_then row₁ is_row then.counts is_counts;
          clean =
              ap attribute_fault is_row
              ∙ clean_step row standing.counts step judged.stands.counts step_fits (subst (λ (m : ℕ). StepBounded m step) judged.stands.width (judged.taken step e).bounded) judged.stands.clean;
          asked = asked_then row₁ is_row then.asked (subst (λ (m : ℕ). Bounded m then.asked) same_n then.bound) value;
        }
