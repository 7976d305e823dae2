use Rattle.premises.proofs.From.{openness_monotone}
use Rattle.premises.proofs.laws.openness_monotone.Goals as goal

pub returns : goal.returns
returns c = openness_monotone
