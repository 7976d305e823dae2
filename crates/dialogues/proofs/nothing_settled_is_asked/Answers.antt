use Rattle.dialogues.proofs.Settled.{nothing_settled_is_asked}
use Rattle.dialogues.proofs.nothing_settled_is_asked.Goals as goal

pub returns : goal.returns
returns c = nothing_settled_is_asked
