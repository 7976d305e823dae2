use Rattle.dialogues.proofs.Bounds.{always_room}
use Rattle.dialogues.proofs.always_room.Goals as goal

pub returns : goal.returns
returns c = always_room
