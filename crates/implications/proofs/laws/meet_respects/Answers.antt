use Rattle.implications.proofs.Respects.{meet_respects}
use Rattle.implications.proofs.laws.meet_respects.Goals as goal

pub returns : goal.returns
returns c = meet_respects
