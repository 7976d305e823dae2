-- The next question is found from the premise just asked about. Assumes nothing.
use Rattle.std.proofs.Common.{◌≡◌, ℕ, true, false, [], ◌∷◌, length, is_some, Some, None, Option, sym, refl, ap, ◌∙◌}
use Rattle.std.proofs.lemmas.Bool.{true≢false}
use Rattle.std.specs.Option.{option_map}
use Rattle.std.proofs.ByRecursion.{has_append_left, All-append}
use Rattle.attributes.specs.Lectic.{sets}
use Rattle.attributes.specs.Numbers.{set_in, number_of}
use Rattle.attributes.specs.Sets.{Set}
use Rattle.attributes.proofs.Numbers.{length_set_in, set_in_number_of}
use Rattle.attributes.proofs.Sets.{subset_refl}
use Rattle.contexts.specs.Contexts.{Context, OfWidth, Implication, common}
use Rattle.contexts.proofs.CommonAttributes.{common_fewer}
use Rattle.contexts.specs.Values.{implication_at, pair_of}
use Rattle.contexts.specs.declared.implication.Implication.{Implication as Pair}
use Rattle.premises.specs.Open.{first, first_open, is_open}
use Rattle.premises.proofs.First.{first_laws}
use Rattle.premises.proofs.From.{begin_at}
use Rattle.exploration.specs.Answers.{premise_of}
use Rattle.dialogues.specs.Dialogue.{Knowledge, about, question, question_from}
use Rattle.exploration.specs.Row.{Bounded}
use Rattle.replies.specs.declared.turn.Step.{Step}
use Rattle.replies.specs.declared.turn.Step.TheVariants.{Confirm, Name}
use Rattle.exploration.proofs.Replies.{paired}
use Rattle.exploration.proofs.Taken.{learnt_from}

-- the premise of a question is the first open set
premise_open : (n : ℕ) (k : Knowledge) (q : Implication) → question n k ≡ Some q → first_open n (common n k.examples) k.confirmed ≡ Some q.premise
unfolding question
premise_open n k q = go (first_open n (common n k.examples) k.confirmed)
  where
    go : (o : Option Set) → option_map (about n k) o ≡ Some q → o ≡ Some q.premise
    go None e = cc
    go (Some s) e = let same : about n k s ≡ q = cc in ap (λ (i : Implication). Some i.premise) same

unopened : (n : ℕ) (k : Knowledge) (q : Implication) → question n k ≡ Some q → first (is_open (common n k.examples) k.confirmed) (sets n) ≡ Some q.premise
unfolding first_open
unopened n k q e = premise_open n k q e

next_from : (n : ℕ) (k : Knowledge) (q : Implication) (step : Step) → OfWidth n k.examples → question n k ≡ Some q
    → question n (learnt_from n k step) ≡ question_from n (learnt_from n k step) q.premise
unfolding question question_from
next_from n k q (Confirm i) w e =
    ap (option_map (about n (learnt_from n k (Confirm i))))
    (begin_at n (common n k.examples) (common n k.examples) k.confirmed (learnt_from n k (Confirm i)).confirmed q.premise
    (λ j m. has_append_left k.confirmed _ j m) (λ s. subset_refl (common n k.examples s)) (premise_open n k q e))
next_from n k q (Name s) w e =
    let t : Context = (learnt_from n k (Name s)).examples in
    ap (option_map (about n (learnt_from n k (Name s))))
    (begin_at n (common n k.examples) (common n t) k.confirmed k.confirmed q.premise (λ j m. m)
    (λ r. common_fewer n k.examples t r (All-append _ k.examples (set_in n s.bits ∷ []) w (length_set_in n s.bits, tt)) (λ o m. has_append_left k.examples _ o m)) (premise_open n k q e))

-- so what is found from there is what is asked next
pub next_asked : (n : ℕ) (k : Knowledge) (step : Step) (asked found : Option Pair) → OfWidth n k.examples → asked ≡ option_map pair_of (question n k) → is_some asked ≡ true
    → option_map (implication_at n) found ≡ question_from n (learnt_from n k step) (set_in n (premise_of asked).bits) → Bounded n found
    → found ≡ option_map pair_of (question n (learnt_from n k step))
next_asked n k step asked found w e some f b = go (question n k) refl
  where
    go : (o : Option Implication) → question n k ≡ o → found ≡ option_map pair_of (question n (learnt_from n k step))
    go None h = let z : true ≡ false = sym some ∙ ap is_some (e ∙ ap (option_map pair_of) h) in absurd (true≢false z)
    go (Some q) h =
        let wide : length q.premise ≡ n = ((first_laws n (is_open (common n k.examples) k.confirmed)).found q.premise (unopened n k q h)).wide in
        let from : (premise_of asked).bits ≡ number_of q.premise = ap (λ (o : Option Pair). (premise_of o).bits) (e ∙ ap (option_map pair_of) h) in
        let back : set_in n (number_of q.premise) ≡ q.premise = ap (λ (m : ℕ). set_in m (number_of q.premise)) (sym wide) ∙ set_in_number_of q.premise in
        paired n found (question n (learnt_from n k step))
        (f ∙ ap (question_from n (learnt_from n k step)) (ap (set_in n) from ∙ back) ∙ sym (next_from n k q step w h)) b
