-- What the judgement of an answer tells. Assumes nothing.
use Rattle.std.proofs.Common.{◌≡◌, ℕ, ◌^◌, ◌<◌, Bool, true, false, cond, eqb, ltb, List, length, get_or, Some, None, Ok, Err, Option, Result, sym, refl, ap, ◌∙◌, arith}
use Rattle.std.proofs.lemmas.Bool.{ltb-true}
use Rattle.attributes.specs.Numbers.{set_in}
use Rattle.attributes.specs.declared.set.AttributeSet.{AttributeSet}
use Rattle.contexts.specs.Contexts.{Implication, respects}
use Rattle.contexts.specs.Values.{implication_at}
use Rattle.contexts.specs.declared.implication.Implication.{Implication as Pair}
use Rattle.exploration.specs.Answers.{RoomFor, checked_answer, checked_object, first_broken, judged, judged_given, named_if_room, unless_broken, StepBounded}
use Rattle.exploration.specs.Row.{Bounded}
use Rattle.exploration.specs.declared.answer.Answer.{Answer as Given}
use Rattle.exploration.specs.declared.answer.Answer.TheVariants.{Always, Object}
use Rattle.replies.specs.declared.turn.Step.{Step}
use Rattle.replies.specs.declared.turn.Step.TheVariants.{Confirm, Name}
use Rattle.replies.specs.declared.reply.Refusal.{Refusal}
use Rattle.replies.specs.declared.reply.Refusal.TheVariants.{AnswerCutShort, AlwaysWithNumber, NotACounterexample, NoRoomForExample, NoRoomForImplication, UnknownAttributeNamed, UnknownKind}
use Rattle.exploration.specs.declared.counts.Counts.{Counts}
use Rattle.exploration.proofs.Rows.{no_ok}

-- an answer that was read says nothing beyond n attributes
abbrev pub GivenBounded : ℕ → Given → Type 0
GivenBounded n Always = Unit {0}
GivenBounded n (Object s) = s.bits < 2 ^ n

pub answer_bounded : (n : ℕ) (answer : List ℕ) (a : Given) → checked_answer n answer ≡ Ok a → GivenBounded n a
answer_bounded n answer a = go (ltb (length answer) 2) (eqb (get_or answer 0 0) 0) (eqb (get_or answer 1 0) 0) (eqb (get_or answer 0 0) 1) (ltb (get_or answer 1 0) (2 ^ n)) refl a
  where
    go : (short kind0 zero1 kind1 below : Bool) → ltb (get_or answer 1 0) (2 ^ n) ≡ below → (a : Given)
        → cond short (Err (AnswerCutShort (length answer))) (cond kind0 (cond zero1 (Ok Always) (Err AlwaysWithNumber)) (cond kind1 (cond below (Ok (Object (record { bits = get_or answer 1 0 }))) (Err UnknownAttributeNamed)) (Err UnknownKind))) ≡ Ok a
        → GivenBounded n a
    go true kind0 zero1 kind1 below p a e = absurd (no_ok e)
    go false kind0 zero1 kind1 below p Always e = tt
    go false true true kind1 below p (Object s) e = let z : ◌≡◌ {A = ℕ} 0 1 = cc in absurd (omega arith)
    go false true false kind1 below p (Object s) e = absurd (no_ok e)
    go false false zero1 true true p (Object s) e =
        let same : ◌≡◌ {A = AttributeSet} (record { bits = get_or answer 1 0 }) s = cc in
        rw (← same) (ltb-true (get_or answer 1 0) (2 ^ n) p)
    go false false zero1 true false p (Object s) e = absurd (no_ok e)
    go false false zero1 false below p (Object s) e = absurd (no_ok e)

object_is : (n : ℕ) (is : List Implication) (q : Pair) (s r : AttributeSet) → checked_object n is q s ≡ Ok r → r ≡ s
object_is n is q s r = go (respects (set_in n s.bits) (implication_at n q)) (first_broken (set_in n s.bits) is)
  where
    go : (b : Bool) (o : Option ℕ) → cond b (Err (NotACounterexample s)) (unless_broken s o) ≡ Ok r → r ≡ s
    go true o e = absurd (no_ok e)
    go false None e = cc
    go false (Some k) e = absurd (no_ok e)

-- an answer that is taken was asked for, finds room, and says nothing beyond n attributes
pub record Taken (n : ℕ) (counts : Counts) (asked : Option Pair) (step : Step) : Type 0 where
  pub question : (q : Pair) × (asked ≡ Some q)
  pub room : RoomFor counts step
  pub bounded : StepBounded n step

room_left : (k : ℕ) (step r : Step) (refusal : Refusal) → cond (ltb k 4096) (Ok step) (Err refusal) ≡ Ok r → (k < 4096) × (step ≡ r)
room_left k step r refusal = go (ltb k 4096) refl
  where
    go : (b : Bool) → ltb k 4096 ≡ b → cond b (Ok step) (Err refusal) ≡ Ok r → (k < 4096) × (step ≡ r)
    go true p e = (ltb-true k 4096 p, cc)
    go false p e = absurd (no_ok e)

step_taken : (n : ℕ) (is : List Implication) (counts : Counts) (asked : Option Pair) (a : Given) (step : Step) → Bounded n asked → GivenBounded n a
    → judged n is counts asked a ≡ Ok step → Taken n counts asked step
step_taken n is counts None a step b g e = absurd (no_ok e)
step_taken n is counts (Some q) Always step b g e =
    let left = room_left counts.implications (Confirm q) step NoRoomForImplication e in
    record { question = (q, refl); room = rw (← left.1) left.0; bounded = rw (← left.1) b }
step_taken n is counts (Some q) (Object s) step b g e = go (checked_object n is q s) (object_is n is q s) e
  where
    go : (r : Result AttributeSet Refusal) → ((t : AttributeSet) → r ≡ Ok t → t ≡ s) → named_if_room counts r ≡ Ok step → Taken n counts (Some q) step
    go (Err refusal) same h = absurd (no_ok h)
    go (Ok t) same h =
        let left = room_left counts.examples (Name t) step NoRoomForExample h in
        let named : Name s ≡ step = ap Name (sym (same t refl)) ∙ left.1 in
        record { question = (q, refl); room = rw (← named) left.0; bounded = rw (← named) g }

pub judged_taken : (n : ℕ) (is : List Implication) (counts : Counts) (asked : Option Pair) (answer : List ℕ) (step : Step) → Bounded n asked
    → judged_given n is counts asked (checked_answer n answer) ≡ Ok step → Taken n counts asked step
judged_taken n is counts asked answer step b = go (checked_answer n answer) refl
  where
    go : (r : Result Given Refusal) → checked_answer n answer ≡ r → judged_given n is counts asked r ≡ Ok step → Taken n counts asked step
    go (Err refusal) p e = absurd (no_ok e)
    go (Ok a) p e = step_taken n is counts asked a step b (answer_bounded n answer a p) e
