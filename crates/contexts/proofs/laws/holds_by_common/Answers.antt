use Rattle.contexts.proofs.CommonAttributes.{holds_by_common}
use Rattle.contexts.proofs.laws.holds_by_common.Goals as goal

pub returns : goal.returns
returns c = holds_by_common
