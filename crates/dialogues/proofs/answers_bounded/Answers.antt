use Rattle.dialogues.proofs.Bounds.{answers_bounded}
use Rattle.dialogues.proofs.answers_bounded.Goals as goal

pub returns : goal.returns
returns c = answers_bounded
