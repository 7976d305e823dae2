use Rattle.attributes.proofs.Lectic.{less_precedes}
use Rattle.attributes.proofs.laws.less_precedes.Goals as goal

pub returns : goal.returns
returns c n s t = less_precedes n s.bits t.bits
