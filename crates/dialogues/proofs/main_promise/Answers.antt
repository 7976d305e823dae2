use Rattle.dialogues.proofs.Finish.{main_promise}
use Rattle.dialogues.proofs.main_promise.Goals as goal

pub returns : goal.returns
returns c = main_promise
