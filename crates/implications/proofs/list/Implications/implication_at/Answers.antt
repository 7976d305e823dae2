use Rattle.std.proofs.Common.{sym, ◌∙◌}
use Rattle.implications.proofs.Repairs.{implication_is}
use Rattle.implications.proofs.list.Implications.implication_at.Goals as goal

pub returns : goal.returns
returns c =
    record {
      value = (λ j. record { premise = c.lowest.ensures.value j; conclusion = c.lowest-2.ensures.value j }) ∙ sym (implication_is c.args.self.now.n.value c.args.self.now.numbers.now c.args.place c.requires);
      premise = c.lowest.ensures.bound;
      conclusion = c.lowest-2.ensures.bound;
    }
