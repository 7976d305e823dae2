use Rattle.std.proofs.Common.{rules}
use Rattle.bases.specs.Rows.{WrittenBase, attributes_in, context_in}
use Rattle.bases.proofs.Filled.{context_explored}
use Rattle.bases.proofs.base_of_context.Goals as goal

pub returns-clause-meaning : goal.returns-clause-meaning
returns-clause-meaning c =
    let written : WrittenBase (attributes_in c.args.context.now) (context_in c.args.context.now) c.args.base.now c.fill.new.base = search rules in
    λ _. context_explored c.args.context.now c.args.base.now c.fill.new.base written
