use Rattle.premises.proofs.First.{first_laws}
use Rattle.premises.proofs.laws.first_laws.Goals as goal

pub returns : goal.returns
returns c = first_laws
