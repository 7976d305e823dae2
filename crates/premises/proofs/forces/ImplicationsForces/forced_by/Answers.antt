use Rattle.std.proofs.Common.{ℕ, List}
use Rattle.attributes.specs.Numbers.{set_in}
use Rattle.attributes.specs.Sets.{Set}
use Rattle.attributes.proofs.Numbers.{length_set_in}
use Rattle.contexts.specs.Contexts.{Implication}
use Rattle.implications.specs.Values.{implications_in}
use Rattle.implications.proofs.Respects.{one_closure}
use Rattle.premises.specs.Forced.{closure}
use Rattle.premises.proofs.Closures.{implications_over, closure_is_common}
use Rattle.premises.proofs.forces.ImplicationsForces.forced_by.Goals as goal

pub returns-clause-value : goal.returns-clause-value
returns-clause-value c =
    let n : ℕ = c.args.self.now.n.value in
    let row : List ℕ = c.args.self.now.numbers.now in
    let is : List Implication = implications_in n row in
    let s : Set = set_in n c.args.s.bits in
    one_closure n is s (set_in n c.close.result.bits) (closure n is s) c.close.ensures.value
    (closure_is_common n is (implications_over n row) s (length_set_in n c.args.s.bits))
