use Rattle.contexts.proofs.CommonAttributes.{common_laws}
use Rattle.contexts.proofs.laws.common_laws.Goals as goal

pub returns : goal.returns
returns c = common_laws
