use Rattle.dialogues.proofs.Ending.{can_be_finished}
use Rattle.dialogues.proofs.can_be_finished.Goals as goal

pub returns : goal.returns
returns c = can_be_finished
