use Rattle.dialogues.proofs.Finish.{truth_is_taken}
use Rattle.dialogues.proofs.truth_is_taken.Goals as goal

pub returns : goal.returns
returns c = truth_is_taken
