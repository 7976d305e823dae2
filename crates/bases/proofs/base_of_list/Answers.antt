use Rattle.std.proofs.Common.{rules}
use Rattle.premises.specs.Forced.{respecting}
use Rattle.bases.specs.Rows.{WrittenBase, attributes_in, list_in}
use Rattle.bases.proofs.Filled.{list_shortest}
use Rattle.bases.proofs.base_of_list.Goals as goal

pub returns-clause-meaning : goal.returns-clause-meaning
returns-clause-meaning c =
    let written : WrittenBase (attributes_in c.args.list.now) (respecting (attributes_in c.args.list.now) (list_in c.args.list.now)) c.args.base.now c.fill.new.base = search rules in
    λ _. list_shortest c.args.list.now c.args.base.now c.fill.new.base written
