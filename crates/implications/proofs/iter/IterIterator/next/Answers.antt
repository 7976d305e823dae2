use Rattle.std.proofs.Common.{ℕ, ◌-◌, List, ◌∷◌, length, take, drop, refl, sym, ◌∙◌, arith}
use Rattle.implications.specs.Values.{implications_in}
use Rattle.implications.proofs.Turns.{implications_none, implications_first}
use Rattle.implications.proofs.iter.IterIterator.next.Goals as goal

pub returns-in_default-clause-steps : goal.returns-in_default-clause-steps
returns-in_default-clause-steps c = record { width = refl; found = implications_none c.args.self.now.n.value c.args.self.now.rest.now (omega (arith, c.in_default.len_below)) }

pub returns-clause-steps : goal.returns-clause-steps
returns-clause-steps c =
    let n : ℕ = c.args.self.now.n.value in
    let row : List ℕ = c.args.self.now.rest.now in
    record {
      width = refl;
      found =
          record {
            premise = c.lowest.ensures.bound;
            conclusion = c.lowest-2.ensures.bound;
            first =
                implications_first n row c.in-len2-up.len_at_least
                ∙ sym (λ j. (record { premise = c.lowest.ensures.value j; conclusion = c.lowest-2.ensures.value j }) ∷ implications_in n (take (length row - 2) (drop 2 row)));
          };
    }
