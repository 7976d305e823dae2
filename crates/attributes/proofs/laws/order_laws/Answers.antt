use Rattle.attributes.proofs.Lectic.{order_laws}
use Rattle.attributes.proofs.laws.order_laws.Goals as goal

pub returns : goal.returns
returns c = order_laws
