use Rattle.dialogues.proofs.Bounds.{none_is_spare}
use Rattle.dialogues.proofs.none_is_spare.Goals as goal

pub returns : goal.returns
returns c = none_is_spare
