use Rattle.dialogues.proofs.Finish.{same_implications}
use Rattle.dialogues.proofs.same_implications.Goals as goal

pub returns : goal.returns
returns c = same_implications
