use Rattle.premises.proofs.Closures.{closure_is_common}
use Rattle.premises.proofs.laws.closure_is_common.Goals as goal

pub returns : goal.returns
returns c = closure_is_common
