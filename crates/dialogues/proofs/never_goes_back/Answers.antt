use Rattle.dialogues.proofs.Settled.{never_goes_back}
use Rattle.dialogues.proofs.never_goes_back.Goals as goal

pub returns : goal.returns
returns c = never_goes_back
