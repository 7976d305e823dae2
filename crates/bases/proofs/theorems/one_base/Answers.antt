use Rattle.bases.proofs.Asked.{one_base}
use Rattle.bases.proofs.theorems.one_base.Goals as goal

pub returns : goal.returns
returns c = one_base
