use Rattle.premises.proofs.From.{search_may_begin}
use Rattle.premises.proofs.laws.search_may_begin.Goals as goal

pub returns : goal.returns
returns c = search_may_begin
