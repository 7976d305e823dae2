use Rattle.implications.proofs.Respects.{one_closure}
use Rattle.implications.proofs.laws.one_closure.Goals as goal

pub returns : goal.returns
returns c = one_closure
