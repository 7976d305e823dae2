use Rattle.implications.proofs.Respects.{follows_by_closure}
use Rattle.implications.proofs.laws.follows_by_closure.Goals as goal

pub returns : goal.returns
returns c = follows_by_closure
