-- What a row's entries do with an answer is what the definition of the dialogue does, for every row. Assumes nothing.
use Rattle.std.proofs.Common.{◌≡◌, ℕ, Bool, true, false, not, ◌&&◌, ◌⊎◌, List, length, is_ok, Some, None, Ok, Err, Option, Result, sym, refl, ap, ◌∙◌, inl, inr}
use Rattle.std.proofs.lemmas.Bool.{and_cases, cases_Bool, cond-true, cond-false, eq-eqb, not-false}
use Rattle.std.specs.Option.{option_map}
use Rattle.attributes.specs.Numbers.{set_in}
use Rattle.attributes.specs.Sets.{Set}
use Rattle.attributes.specs.declared.set.AttributeSet.{AttributeSet}
use Rattle.attributes.proofs.Numbers.{length_set_in, number_of_set_in}
use Rattle.contexts.specs.Contexts.{Implication, respects}
use Rattle.contexts.specs.Values.{implication_at, pair_of}
use Rattle.contexts.proofs.Walks.{objects_width}
use Rattle.implications.specs.Implications.{respects_all}
use Rattle.std.proofs.lemmas.Option.{none-some}
use Rattle.exploration.specs.Answers.{checked_answer, checked_object, counts_in, judged, judged_given, judged_row, named_if_room, row_after}
use Rattle.dialogues.specs.Dialogue.{Knowledge, Answer, question, taken, with_answer, after}
use Rattle.dialogues.specs.Promise.{Room}
use Rattle.exploration.specs.Row.{attribute_fault, attributes_in, checked_row, example_part, fault_or, known_in, row_fault}
use Rattle.exploration.specs.Turns.{AnswersAsDefined, AsDefined, answer_of, code}
use Rattle.exploration.specs.declared.answer.Answer.{Answer as Given}
use Rattle.exploration.specs.declared.answer.Answer.TheVariants.{Always, Object}
use Rattle.replies.specs.declared.turn.Step.{Step}
use Rattle.replies.specs.declared.reply.Refusal.{Refusal}
use Rattle.exploration.specs.declared.counts.Counts.{Counts}
use Rattle.dialogues.proofs.Asked.{asks, asks_concluded}
use Rattle.exploration.proofs.Broken.{object_not_taken}
use Rattle.exploration.proofs.Judged.{GivenBounded, answer_bounded}
use Rattle.exploration.proofs.Spoken.{Ready, judged_known, judged_step, ready_step, pair_back, coded}

-- a row without a fault is ready
ready_row : (row : List ℕ) → row_fault row ≡ None → Ready (attributes_in row) row (known_in row)
ready_row row = go (checked_row row) refl
  where
    go : (r : Result Counts Refusal) → checked_row row ≡ r → fault_or r (attribute_fault row) ≡ None → Ready (attributes_in row) row (known_in row)
    go (Err refusal) e f = absurd (none-some _ (sym f))
    go (Ok counts) e f = record { tally = counts; counts = e; width = refl; clean = f; known = refl }

-- a refusal leaves the row
refused_leaves : (row : List ℕ) (r : Result Step Refusal) → is_ok r ≡ false → row_after row r ≡ row
refused_leaves row (Ok step) h = cc
refused_leaves row (Err refusal) h = refl

not_named : (counts : Counts) (r : Result AttributeSet Refusal) → is_ok r ≡ false → is_ok (named_if_room counts r) ≡ false
not_named counts (Ok s) h = cc
not_named counts (Err refusal) h = refl

-- an answer that can be read is read the same from its own numbers
own_numbers : (n : ℕ) (g : Given) → GivenBounded n g → checked_answer n (code (answer_of n g)) ≡ Ok g
own_numbers n Always b = refl
own_numbers n (Object s) b =
    coded n (set_in n s.bits) (length_set_in n s.bits) ∙ ap (λ (m : ℕ). Ok (Object (record { bits = m }))) (number_of_set_in n s.bits b)

module _ (row answer : List ℕ) (g : Given) (ready : Ready (attributes_in row) row (known_in row)) (read : checked_answer (attributes_in row) answer ≡ Ok g) where
  n : ℕ
  n = attributes_in row

  k : Knowledge
  k = known_in row

  a : Answer
  a = answer_of (attributes_in row) g

  judgement : judged_row row answer ≡ judged n k.confirmed (counts_in row) (option_map pair_of (question n k)) g
  unfolding n k
  judgement = judged_known (attributes_in row) row (known_in row) ready answer ∙ ap (judged_given (attributes_in row) (known_in row).confirmed (counts_in row) (option_map pair_of (question (attributes_in row) (known_in row)))) read

  own : judged_row row answer ≡ judged_row row (code a)
  unfolding n k a
  own =
      judgement
      ∙ sym (judged_known (attributes_in row) row (known_in row) ready (code a)
      ∙ ap (judged_given (attributes_in row) (known_in row).confirmed (counts_in row) (option_map pair_of (question (attributes_in row) (known_in row)))) (own_numbers (attributes_in row) g (answer_bounded (attributes_in row) answer g read)))

  -- what both say once it is known whether the definition takes it
  when_refused : is_ok (judged_row row answer) ≡ false → taken n k (question n k) a ≡ false → AsDefined row answer g
  unfolding n k a after
  when_refused h t =
      record {
        taken = h ∙ sym t;
        known = ap known_in (refused_leaves row (judged_row row answer) h) ∙ sym (cond-false (taken n k (question n k) a) (with_answer k (question n k) a) k t);
      }

  -- an object that the definition does not take is refused
  not_taken : (q : Implication) → length q.premise ≡ n → length q.conclusion ≡ n → (h : Given) → taken n k (Some q) (answer_of n h) ≡ false
      → is_ok (judged n k.confirmed (counts_in row) (Some (pair_of q)) h) ≡ false
  unfolding n k
  not_taken q wide_p wide_c Always t = cc
  not_taken q wide_p wide_c (Object s) t =
      let set : Set = set_in (attributes_in row) s.bits in
      let rest : (not (respects set q) && respects_all set (known_in row).confirmed) ≡ false =
      sym (ap (λ (b : Bool). b && (not (respects set q) && respects_all set (known_in row).confirmed)) (eq-eqb (length set) (attributes_in row) (length_set_in (attributes_in row) s.bits))) ∙ t
      in
      let same : implication_at (attributes_in row) (pair_of q) ≡ q = pair_back (attributes_in row) q wide_p wide_c in
      let why : (respects set (implication_at (attributes_in row) (pair_of q)) ≡ true) ⊎ (respects_all set (known_in row).confirmed ≡ false) =
      elim (and_cases (not (respects set q)) (respects_all set (known_in row).confirmed) rest) [
        | inl h ↦ inl (ap (respects set) same ∙ not-false (respects set q) h)
        | inr h ↦ inr h
      ]
      in
      not_named (counts_in row) (checked_object (attributes_in row) (known_in row).confirmed (pair_of q) s) (object_not_taken (attributes_in row) (known_in row).confirmed (pair_of q) s why)

  as_defined : Room (known_in row) (answer_of (attributes_in row) g) → AsDefined row answer g
  unfolding n k a after
  as_defined room = go (question (attributes_in row) (known_in row)) refl
    where
      go : (o : Option Implication) → question (attributes_in row) (known_in row) ≡ o → AsDefined row answer g
      go None e =
          when_refused (ap is_ok (judgement ∙ ap (λ (o : Option Implication). judged (attributes_in row) (known_in row).confirmed (counts_in row) (option_map pair_of o) g) e))
          (ap (λ (o : Option Implication). taken (attributes_in row) (known_in row) o (answer_of (attributes_in row) g)) e)
      go (Some q) e =
          let about = asks (attributes_in row) (known_in row).confirmed (known_in row).examples q e in
          let wide_c = asks_concluded (attributes_in row) (known_in row).examples (objects_width (attributes_in row) (example_part row)) (known_in row).confirmed q about in
          let at : taken (attributes_in row) (known_in row) (question (attributes_in row) (known_in row)) (answer_of (attributes_in row) g) ≡ taken (attributes_in row) (known_in row) (Some q) (answer_of (attributes_in row) g) =
          ap (λ (o : Option Implication). taken (attributes_in row) (known_in row) o (answer_of (attributes_in row) g)) e
          in
          elim (cases_Bool (taken (attributes_in row) (known_in row) (Some q) (answer_of (attributes_in row) g))) [
            | inl t ↦ record {
              taken = ap is_ok (own ∙ judged_step (attributes_in row) row (known_in row) ready q e about.wide wide_c (answer_of (attributes_in row) g) t room) ∙ sym (at ∙ t);
              known =
                  ap (λ (r : Result Step Refusal). known_in (row_after row r)) own
                  ∙ (ready_step (attributes_in row) row (known_in row) ready q e about.wide wide_c (answer_of (attributes_in row) g) t room).known
                  ∙ sym (cond-true (taken (attributes_in row) (known_in row) (question (attributes_in row) (known_in row)) (answer_of (attributes_in row) g))
                  (with_answer (known_in row) (question (attributes_in row) (known_in row)) (answer_of (attributes_in row) g)) (known_in row) (at ∙ t)
                  ∙ ap (λ (o : Option Implication). with_answer (known_in row) o (answer_of (attributes_in row) g)) e);
            }
            | inr t ↦ when_refused
                (ap is_ok (judgement ∙ ap (λ (o : Option Implication). judged (attributes_in row) (known_in row).confirmed (counts_in row) (option_map pair_of o) g) e) ∙ not_taken q about.wide wide_c g t) (at ∙ t)
          ]

pub answers_as_defined : AnswersAsDefined
answers_as_defined row answer g fault read room = as_defined row answer g (ready_row row fault) read room
