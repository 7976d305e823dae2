use Rattle.std.proofs.Common.{ℕ, sym, ◌∙◌}
use Rattle.implications.specs.Values.{implications_in}
use Rattle.exploration.proofs.Broken.{object_refused, object_taken}
use Rattle.exploration.proofs.answer.check_object.Goals as goal

pub returns-in-Some : goal.returns-in-Some
returns-in-Some c =
    let n : ℕ = c.args.confirmed.now.n.value in
    object_refused n (implications_in n c.args.confirmed.now.numbers.now) c.args.asked c.args.object
    (sym (c.is_respected_by.ensures n c.requires.premise c.requires.conclusion) ∙ c.if-is_respected_by.false) c.in-Some.place c.in-Some.ensures

pub returns : goal.returns
returns c =
    let n : ℕ = c.args.confirmed.now.n.value in
    object_taken n (implications_in n c.args.confirmed.now.numbers.now) c.args.asked c.args.object
    (sym (c.is_respected_by.ensures n c.requires.premise c.requires.conclusion) ∙ c.if-is_respected_by.false) c.in_default.ensures
