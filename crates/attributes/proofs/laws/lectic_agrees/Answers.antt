use Rattle.attributes.proofs.Lectic.{lectic_agrees}
use Rattle.attributes.proofs.laws.lectic_agrees.Goals as goal

pub returns : goal.returns
returns c = lectic_agrees
