use Rattle.contexts.specs.Values.{implication_at, objects_in}
use Rattle.contexts.proofs.Walks.{holds_if_none}
use Rattle.contexts.proofs.context.Context.holds.Goals as goal

pub returns : goal.returns
returns c =
    holds_if_none (objects_in c.args.self.now.n.value c.args.self.now.objects.now) (implication_at c.args.self.now.n.value c.args.implication) c.first_counterexample.result c.is_none.result
    c.first_counterexample.ensures c.is_none.ensures
