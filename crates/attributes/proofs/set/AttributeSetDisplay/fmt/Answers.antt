use Rattle.std.proofs.Common.{ℕ, ◌^◌, ◌<◌, true, codes, sym, ap, ◌∙◌, rules}
use Rattle.std.proofs.Output.{has_written_of_eq}
use Rattle.attributes.specs.Numbers.{set_in}
use Rattle.attributes.specs.Text.{listed, written}
use Rattle.attributes.proofs.Text.{written_none, written_some}
use Rattle.attributes.proofs.set.AttributeSetDisplay.fmt.Goals as goal

pub returns-then-self-eq0-clause-writes : goal.returns-then-self-eq0-clause-writes
returns-then-self-eq0-clause-writes g c plain ok =
    has_written_of_eq g.W.Write.write_str_gives c.args.f.now (codes "-") (written (set_in 16 c.args.self.now.bits)) c.write_str.new.self
    (sym (ap (λ (m : ℕ). written (set_in 16 m)) c.if-self-eq0.true ∙ written_none)) (c.write_str.ensures.writes plain ok)

pub returns-clause-writes : goal.returns-clause-writes
returns-clause-writes g c plain ok =
    let small : c.args.self.now.bits < 2 ^ 16 = search rules in
    has_written_of_eq g.W.Write.write_str_gives c.args.f.now (listed true 0 (set_in 16 c.args.self.now.bits)) (written (set_in 16 c.args.self.now.bits)) c.write_list.new.f
    (sym (written_some c.args.self.now.bits small c.if-self-eq0.false)) (c.write_list.ensures plain ok)
