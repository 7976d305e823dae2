use Rattle.exploration.proofs.Defined.{answers_as_defined}
use Rattle.exploration.proofs.theorems.answers_as_defined.Goals as goal

pub returns : goal.returns
returns c = answers_as_defined
