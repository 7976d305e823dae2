use Rattle.std.proofs.Common.{ℕ, refl, ap, ◌∙◌}
use Rattle.attributes.specs.Numbers.{set_in}
use Rattle.attributes.specs.declared.set.AttributeSet.{AttributeSet}
use Rattle.dialogues.specs.Dialogue.{question_from}
use Rattle.exploration.specs.Row.{known_of}
use Rattle.exploration.proofs.Judging.{judgement, step_fits, refused_row, taken_row, counts_then, stands_then}
use Rattle.exploration.proofs.standing.Standing.take.Goals as goal

pub returns-in_default-clause-after : goal.returns-in_default-clause-after
returns-in_default-clause-after c = refused_row (judgement c.args.answer.now c.requires c.implications.ensures c.judge-outcome.ensures) c.in_default.is

pub returns-in_default-clause-outcome : goal.returns-in_default-clause-outcome
returns-in_default-clause-outcome c = (judgement c.args.answer.now c.requires c.implications.ensures c.judge-outcome.ensures).is

pub add-requires-clause-room : goal.add-requires-clause-room
add-requires-clause-room c = step_fits (judgement c.args.answer.now c.requires c.implications.ensures c.judge-outcome.ensures) c.in-Ok.is

pub invariant_of-row-2 : goal.invariant_of-row-2
invariant_of-row-2 c =
    record {
      checked =
          counts_then (judgement c.args.answer.now c.requires c.implications.ensures c.judge-outcome.ensures) c.in-Ok.is c.add.new.known c.add.ensures.known c.add.new.self c.add.ensures.counts;
    }

pub returns-clause-after : goal.returns-clause-after
returns-clause-after c = c.add.ensures.known ∙ taken_row (judgement c.args.answer.now c.requires c.implications.ensures c.judge-outcome.ensures) c.in-Ok.is

pub returns-clause-stands : goal.returns-clause-stands
returns-clause-stands c =
    let n : ℕ = c.args.self.now.n.value in
    stands_then (judgement c.args.answer.now c.requires c.implications.ensures c.judge-outcome.ensures) c.in-Ok.is c.add.new.known c.add.ensures.known _ refl c.add.ensures.counts
    (c.ask_from-self.ensures.value ∙ ap (λ (s : AttributeSet). question_from n (known_of n c.add.new.known) (set_in n s.bits)) c.premise_of.ensures)

pub returns-clause-outcome : goal.returns-clause-outcome
returns-clause-outcome c = (judgement c.args.answer.now c.requires c.implications.ensures c.judge-outcome.ensures).is
