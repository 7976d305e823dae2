-- How many implications, examples and answers there can be, and that no implication is spare. Assumes nothing.
use Rattle.std.proofs.Common.{◌≡◌, ℕ, ◌+◌, ◌^◌, ◌≤◌, true, [], length, Some, None, Option, sym, refl, ◌∙◌, arith, pow_mono}
use Rattle.std.proofs.lemmas.List.{length_push}
use Rattle.std.proofs.lemmas.Bool.{both_ways, cond-true}
use Rattle.attributes.specs.Sets.{Set}
use Rattle.contexts.specs.Contexts.{Implication}
use Rattle.dialogues.specs.Dialogue.{Knowledge, nothing_known, question, Answer, always, object, taken, with_answer, after}
use Rattle.dialogues.specs.Promise.{learnt, Few, FewOfEach, AnswersBounded, Room, AlwaysRoom, NoneIsSpare}
use Rattle.dialogues.proofs.Finish.{nothing_fits}
use Rattle.dialogues.proofs.Least.{none_spare}
use Rattle.dialogues.proofs.Pairs.{at_most_sets}
use Rattle.dialogues.proofs.Reached.{Reached, reached_after, reached_learnt}
use Rattle.dialogues.proofs.Run.{run_bound}
use Rattle.dialogues.proofs.Truth.{counted}

few : (n : ℕ) (k : Knowledge) → Reached n [] k → Few n k
few n k reached =
    record {
      implications = rw reached.confirmed (run_bound n k.examples [] reached.rules reached.run);
      examples = at_most_sets n (λ (s : Set). s) k.examples reached.wide reached.once;
      once = reached.once;
    }

pub few_of_each : FewOfEach
few_of_each n answers = few n (learnt n answers) (reached_learnt n answers)

pub answers_bounded : AnswersBounded
answers_bounded n yard answers honest =
    let bound = few_of_each n answers in
    let count : length (learnt n answers).confirmed + length (learnt n answers).examples ≡ 0 + 0 + length answers = counted n yard honest.wide nothing_known (nothing_fits yard) answers honest.truthful in
    omega (arith, bound.implications, bound.examples, count)

-- an answer that is taken leaves no more than 2 ^ n of each kind
room : (n : ℕ) (k : Knowledge) (o : Option Implication) (a : Answer) → 2 ^ n ≤ 4096 → taken n k o a ≡ true → Few n (with_answer k o a) → Room k a
room n k None a small t f = absurd (both_ways _ refl t)
room n k (Some q) always small t f = omega (arith, length_push k.confirmed q, f.implications)
room n k (Some q) (object s) small t f = omega (arith, length_push k.examples s, f.examples)

-- so there was room for it
pub room_taken : (n : ℕ) (k : Knowledge) (a : Answer) → n ≤ 12 → Reached n [] k → taken n k (question n k) a ≡ true → Room k a
unfolding after
room_taken n k a small reached t =
    let known_then = few n (after n k a) (reached_after n [] k reached a) in
    room n k (question n k) a (pow_mono {j = 12} small) t (rw (cond-true (taken n k (question n k) a) (with_answer k (question n k) a) k t) at known_then)

pub always_room : AlwaysRoom
always_room n answers a small t = room_taken n (learnt n answers) a small (reached_learnt n answers) t

pub none_is_spare : NoneIsSpare
none_is_spare n answers before behind i e f =
    let k : Knowledge = learnt n answers in
    let reached = reached_learnt n answers in
    none_spare n k.examples reached.wide [] reached.rules reached.run before behind i (sym reached.confirmed ∙ e) f
