use Rattle.exploration.specs.Turns.{told}
use Rattle.exploration.proofs.Spoken.{promise_kept}
use Rattle.exploration.proofs.dialogue.take_all.Goals as goal

pub returns-clause-promise : goal.returns-clause-promise
returns-clause-promise c = promise_kept c.args.n c.args.known.now c.args.answers.now (told c.take_in_turn.result) c.take_in_turn.new.known c.take_in_turn.ensures.held
