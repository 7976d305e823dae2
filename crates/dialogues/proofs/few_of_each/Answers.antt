use Rattle.dialogues.proofs.Bounds.{few_of_each}
use Rattle.dialogues.proofs.few_of_each.Goals as goal

pub returns : goal.returns
returns c = few_of_each
