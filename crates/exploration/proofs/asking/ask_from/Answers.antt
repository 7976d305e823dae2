use Rattle.std.proofs.Common.{ℕ, ◌∙◌}
use Rattle.attributes.specs.Numbers.{set_in}
use Rattle.contexts.specs.Values.{objects_in}
use Rattle.implications.specs.Values.{implications_in}
use Rattle.dialogues.specs.Dialogue.{question_from}
use Rattle.exploration.proofs.asking.ask_from.Goals as goal

pub returns-clause-value : goal.returns-clause-value
unfolding question_from
returns-clause-value c =
    let n : ℕ = c.args.n.value in
    c.first_asked_from.ensures.value
    ∙ (λ j. question_from n (record { confirmed = implications_in n (c.implications.ensures j); examples = objects_in n (c.examples.ensures j) }) (set_in n c.args.from.bits))
