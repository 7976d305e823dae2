use Rattle.implications.proofs.Respects.{one_set_decides}
use Rattle.implications.proofs.laws.one_set_decides.Goals as goal

pub returns : goal.returns
returns c = one_set_decides
