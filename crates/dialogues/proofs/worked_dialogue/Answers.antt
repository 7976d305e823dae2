use Rattle.dialogues.proofs.Worked.{worked_dialogue}
use Rattle.dialogues.proofs.worked_dialogue.Goals as goal

pub returns : goal.returns
returns c = worked_dialogue
