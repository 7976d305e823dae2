use Rattle.std.proofs.Common.{◌≡◌, ℕ, List, [], length, min, vec_items, vec_len, vec_capacity, sym, ap, ◌∙◌, subst}
use Rattle.std.proofs.lemmas.List.{nil_from_length}
use Rattle.std.proofs.lemmas.Option.{none-some}
use Rattle.std.specs.Slice.Iter.{chunks_rest}
use Rattle.exploration.specs.Row.{row_fault}
use Rattle.exploration.specs.Turns.{answers_in, row_after_all, turns_of}
use Rattle.replies.specs.declared.turn.Turn.{Turn}
use Rattle.exploration.proofs.Along.{Held, held_more, held_rows, held_turns, room_more}
use Rattle.exploration.proofs.Opening.{opened_fault}
use Rattle.exploration.proofs.dialogue.take_in_turn.Goals as goal

-- a row that was opened stands
pub returns-in_default-clause-held : goal.returns-in_default-clause-held
returns-in_default-clause-held c =
    absurd (none-some _ (sym (ap row_fault c.begin.ensures ∙ opened_fault c.args.n c.args.known.now (sym c.check_opening.ensures.value ∙ c.in_ok-check_opening.was)) ∙ c.in_default.ensures))

pub loop-answer-preserved : goal.loop-answer-preserved
loop-answer-preserved c =
    let step = c.in-Some.ensures.steps in
    let left : List ℕ = chunks_rest c.loop-answer.answer-iterator in
    let two : length c.in-Some.answer.now ≡ min 2 (length left) = step.1.1 ∙ ap (λ (k : ℕ). min k (length left)) c.loop-answer.invariant.by_two in
    record {
      held =
          subst (λ (ts : List Turn). Held c.begin.new.known c.args.answers.now c.take.new.known c.take.new.self ts (chunks_rest c.next.new.self)) (sym c.push_reserved.ensures.items)
          (held_more c.begin.new.known c.args.answers.now c.loop-answer.known c.loop-answer.standing (vec_items c.loop-answer.turns) left c.loop-answer.invariant.held
          c.in-Some.answer.now (chunks_rest c.next.new.self) step.1.0 two step.1.2
          c.take.new.known c.take.new.self c.take.result c.take.ensures.after c.take.ensures.stands c.take.ensures.asked c.take.ensures.outcome);
      by_two = step.0 ∙ c.loop-answer.invariant.by_two;
      room =
          room_more (vec_len c.loop-answer.turns) (vec_len c.push_reserved.new.self) (vec_capacity c.loop-answer.turns) (vec_capacity c.push_reserved.new.self) left c.in-Some.answer.now (chunks_rest c.next.new.self)
          c.loop-answer.invariant.room step.1.0 two step.1.2 c.push_reserved.ensures.len c.push_reserved.ensures.capacity;
    }

pub returns-clause-held : goal.returns-clause-held
returns-clause-held c =
    let start : List ℕ = c.begin.new.known in
    let answers : List ℕ = c.args.answers.now in
    let held : Held start answers c.loop-answer.known c.loop-answer.standing (vec_items c.loop-answer.turns) [] =
    subst (Held start answers c.loop-answer.known c.loop-answer.standing (vec_items c.loop-answer.turns)) (nil_from_length (chunks_rest c.loop-answer.answer-iterator) c.in-None.ensures.steps.1.0) c.loop-answer.invariant.held
    in
    record {
      opens = sym c.check_opening.ensures.value ∙ c.in_ok-check_opening.was;
      turns = held_turns start answers c.loop-answer.known c.loop-answer.standing (vec_items c.loop-answer.turns) held ∙ ap (λ (row : List ℕ). turns_of row (answers_in answers)) c.begin.ensures;
      left = held_rows start answers c.loop-answer.known c.loop-answer.standing (vec_items c.loop-answer.turns) held ∙ ap (λ (row : List ℕ). row_after_all row (answers_in answers)) c.begin.ensures;
      asked = held.stands.asked;
    }
