use Rattle.std.proofs.Common.{◌≡◌, ℕ, suc, ◌-◌, true, false, List, length, is_some, Some, None, Option, sym, ◌∙◌, subst, arith, MatchOption}
use Rattle.std.proofs.lemmas.Bool.{true≢false}
use Rattle.std.specs.Option.{option_map}
use Rattle.attributes.specs.Numbers.{set_in}
use Rattle.attributes.specs.Sets.{Set, has}
use Rattle.attributes.specs.declared.set.AttributeSet.{AttributeSet}
use Rattle.attributes.proofs.Numbers.{length_set_in}
use Rattle.contexts.specs.Contexts.{Implication}
use Rattle.implications.specs.Values.{implications_in}
use Rattle.premises.specs.Respecting.{LeastInBranch, NextBranch, next_respecting}
use Rattle.premises.proofs.Stepping.{NoneFrom, next_none, next_found}
use Rattle.premises.proofs.respecting.next_respecting.Goals as goal

-- a search that found something found the next set
found_some : (n : ℕ) (is : List Implication) (s : Set) (a : ℕ) → length s ≡ n → NoneFrom n is s (suc a) → has s a ≡ false
    → (r : Option AttributeSet) → is_some r ≡ true → MatchOption r ((t : Set) → NextBranch n is s a t → ⊥) (λ (m : AttributeSet). LeastInBranch n is s a (set_in n m.bits))
    → option_map (λ (q : AttributeSet). set_in n q.bits) r ≡ next_respecting n is s
found_some n is s a w later lacks None e h = absurd (true≢false (sym e))
found_some n is s a w later lacks (Some m) e h = next_found n is s w a (set_in n m.bits) h lacks later

pub returns-then-is_some-clause-value : goal.returns-then-is_some-clause-value
returns-then-is_some-clause-value c =
    let n : ℕ = c.args.list.now.n.value in
    let is : List Implication = implications_in n c.args.list.now.numbers.now in
    let s : Set = set_in n c.args.s.bits in
    let a : ℕ = c.loop-attribute.attribute in
    let at : a ≡ suc (a - 1) = omega (arith, c.loop-attribute-test.true) in
    found_some n is s (a - 1) (length_set_in n c.args.s.bits) (subst (NoneFrom n is s) at c.loop-attribute.invariant.1)
    (sym (c.contains.ensures n c.requires) ∙ c.if-not-contains.true)
    c.least_with-next.result (sym c.is_some.ensures ∙ c.if-is_some.true) c.least_with-next.ensures.value

pub returns-clause-value : goal.returns-clause-value
returns-clause-value c =
    let n : ℕ = c.args.list.now.n.value in
    let is : List Implication = implications_in n c.args.list.now.numbers.now in
    let s : Set = set_in n c.args.s.bits in
    let end : c.loop-attribute.attribute ≡ 0 = omega (arith, c.loop-attribute-test.false) in
    next_none n is s (length_set_in n c.args.s.bits) (subst (NoneFrom n is s) end c.loop-attribute.invariant.1)
