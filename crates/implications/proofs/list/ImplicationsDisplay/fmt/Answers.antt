use Rattle.std.proofs.Common.{◌≡◌, ℕ, ◌++◌, List, codes, refl, subst, arith, rules}
use Rattle.attributes.specs.Numbers.{set_in}
use Rattle.attributes.specs.Text.{written}
use Rattle.contexts.specs.Contexts.{Implication}
use Rattle.contexts.specs.Values.{implication_at}
use Rattle.implications.specs.Values.{implications_in}
use Rattle.implications.proofs.Lines.{Lines, lines_none, lines_more, lines_all, line_is}
use Rattle.implications.proofs.Turns.{turn, ended}
use Rattle.implications.proofs.list.ImplicationsDisplay.fmt.Goals as goal

pub loop-line-init : goal.loop-line-init
loop-line-init g c =
    let n : ℕ = c.args.self.now.n.value in
    let is : List Implication = implications_in n c.args.self.now.numbers.now in
    let width : c.into_iter-line-iterator.result.n.value ≡ n = search rules in
    let all : c.args.self.now.numbers.now ≡ c.into_iter-line-iterator.result.rest.now = search rules in (
      width,
      subst (λ (row : List ℕ). Lines g.W.Write.write_str_gives is c.args.f.now c.args.f.now (implications_in n row)) all (lines_none g.W.Write.write_str_gives is c.args.f.now),
    )

pub loop-line-preserved : goal.loop-line-preserved
loop-line-preserved g c =
    let n : ℕ = c.args.self.now.n.value in
    let is : List Implication = implications_in n c.args.self.now.numbers.now in
    let first = turn _ n _ _ _ c.in-Some.line c.loop-line.invariant.0 c.in-Some.ensures.steps in
    let p : ℕ = c.in-Some.line.premise.bits in
    let q : ℕ = c.in-Some.line.conclusion.bits in (
      first.0,
      lines_more g.W.Write.write_str_gives is c.args.f.now c.loop-line.f _ c.loop-line.invariant.1 c.writeln.new.self
          ((written (set_in 16 p) ++ (codes ": " ++ written (set_in 16 q))) ++ codes "\n") (implication_at n c.in-Some.line) _ first.1.first
          (line_is n p q (implication_at n c.in-Some.line) (omega (arith, c.args.self.now.n.few)) first.1.premise first.1.conclusion refl) (λ plain. c.in_ok-writeln.ensures.writes plain refl),
    )

pub returns-clause-writes : goal.returns-clause-writes
returns-clause-writes g c plain ok =
    let n : ℕ = c.args.self.now.n.value in
    lines_all g.W.Write.write_str_gives (implications_in n c.args.self.now.numbers.now) c.args.f.now c.loop-line.f _ c.loop-line.invariant.1
    (ended _ n _ _ _ c.loop-line.invariant.0 c.in-None.ensures.steps) plain
