use Rattle.std.proofs.Common.{◌-◌}
use Rattle.premises.proofs.search.Search.+first_in_branch.Given as goal

abbrev pub decreases-first_in_branch : goal.decreases-first_in_branch
decreases-first_in_branch g l = l.self.now.confirmed.n.value - l.attribute
