use Rattle.std.proofs.Common.{◌≡◌, Bool, true, false, not, ◌||◌, refl, sym, ◌∙◌}
use Rattle.attributes.specs.Sets.{subset}
use Rattle.attributes.specs.Numbers.{set_in}
use Rattle.contexts.specs.Contexts.{respects}
use Rattle.contexts.proofs.Holding.{inside_test}
use Rattle.contexts.proofs.implication.Implication.is_broken_outside.Goals as goal

-- what is met outside of a premise and of a conclusion
first_is_met : (p : Bool) → p ≡ true → (c : Bool) → not p ≡ not (not (not p) || c)
first_is_met true e c = refl
first_is_met false e c = cc

second_is_met : (p c : Bool) → p ≡ false → c ≡ not (not (not p) || not c)
second_is_met false true e = refl
second_is_met false false e = refl
second_is_met true c e = cc

pub returns-then-not-meets : goal.returns-then-not-meets
unfolding respects
returns-then-not-meets c n s wide small outside =
    second_is_met c.meets.result c.meets-then-not-meets.result c.if-not-meets.true
    ∙ (λ j. not (not (sym (inside_test n s c.args.outside.bits c.args.self.premise.bits c.meets.result wide outside (c.meets.ensures n small)) j)
    || sym (inside_test n s c.args.outside.bits c.args.self.conclusion.bits c.meets-then-not-meets.result wide outside (c.meets-then-not-meets.ensures n small)) j))

pub returns-else-not-meets : goal.returns-else-not-meets
unfolding respects
returns-else-not-meets c n s wide small outside =
    first_is_met c.meets.result c.if-not-meets.false (subset (set_in n c.args.self.conclusion.bits) s)
    ∙ (λ j. not (not (sym (inside_test n s c.args.outside.bits c.args.self.premise.bits c.meets.result wide outside (c.meets.ensures n small)) j)
    || subset (set_in n c.args.self.conclusion.bits) s))
