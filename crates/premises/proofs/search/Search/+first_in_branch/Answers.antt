use Rattle.std.proofs.Common.{◌≡◌, ℕ, ◌<◌, true, false, List, length, set, is_some, Some, None, Option, sym, refl, ◌∙◌, subst, arith, length-set, rules}
use Rattle.std.proofs.lemmas.Bool.{not-true, not-false}
use Rattle.std.specs.Option.{option_map}
use Rattle.attributes.specs.Numbers.{set_in}
use Rattle.attributes.specs.Sets.{Set, has}
use Rattle.attributes.specs.declared.set.AttributeSet.{AttributeSet}
use Rattle.attributes.proofs.Numbers.{length_set_in}
use Rattle.contexts.specs.Contexts.{Implication}
use Rattle.implications.specs.Implications.{Closure}
use Rattle.implications.specs.Values.{implications_in}
use Rattle.premises.specs.Forced.{closure}
use Rattle.premises.specs.Branches.{FirstInBranch}
use Rattle.premises.specs.Open.{is_open}
use Rattle.premises.proofs.Branching.{last_found, last_none, kept_found, NoneWithout, without_some, without_none, without_before, with_found, with_none, with_even}
use Rattle.premises.proofs.Closures.{closure_is_common, implications_over}
use Rattle.premises.proofs.Open.{open_from, shut_from}
use Rattle.premises.proofs.search.Search.+first_in_branch.Goals as goal
use Rattle.premises.proofs.search.Search.+first_in_branch.Goals.{then-beyond+else-is_some, else-beyond}

some_mapped : (n : ℕ) (r : Option AttributeSet) → is_some (option_map (λ (q : AttributeSet). set_in n q.bits) r) ≡ is_some r
some_mapped n None = refl
some_mapped n (Some q) = refl

pub returns-then-lacks_forced : goal.returns-then-lacks_forced
returns-then-lacks_forced g t c =
    let n : ℕ = c.args.self.now.confirmed.n.value in
    let s : Set = set_in n c.args.s.bits in
    let from : Set = set_in n c.args.self.now.from.bits in
    let is : List Implication = implications_in n c.args.self.now.confirmed.numbers.now in
    let forced : Set → Set = g.F.Forces.forced c.args.self.now.forces.now in
    let last : n ≡ c.args.attribute = sym (c.if-attribute-get.true ∙ c.get.ensures.value) in
    let lacks = not-true _ (sym c.lacks_forced.ensures ∙ c.if-lacks_forced.true) in
    record {
      found =
          subst (λ (i : ℕ). FirstInBranch n i s from c.args.past (is_open forced is) s) last
          (last_found n s from c.args.past (length_set_in n c.args.s.bits) (is_open forced is) (length_set_in n c.args.self.now.from.bits)
          (λ e k h. c.requires.even e k (omega (arith, last))) (open_from forced is s c.requires.respected lacks));
      bound = c.requires.bound;
    }

pub returns-then-attribute-get : goal.returns-then-attribute-get
returns-then-attribute-get g t c =
    let n : ℕ = c.args.self.now.confirmed.n.value in
    let s : Set = set_in n c.args.s.bits in
    let from : Set = set_in n c.args.self.now.from.bits in
    let is : List Implication = implications_in n c.args.self.now.confirmed.numbers.now in
    let forced : Set → Set = g.F.Forces.forced c.args.self.now.forces.now in
    let last : n ≡ c.args.attribute = sym (c.if-attribute-get.true ∙ c.get.ensures.value) in
    let shut = not-false _ (sym c.lacks_forced.ensures ∙ c.if-lacks_forced.false) in
    record {
      found = rw (← last) (last_none n s from c.args.past (length_set_in n c.args.s.bits) (is_open forced is) (shut_from forced is s (λ _. shut)));
      bound = tt;
    }

pub returns-then-contains : goal.returns-then-contains
returns-then-contains g t c =
    let n : ℕ = c.args.self.now.confirmed.n.value in
    let s : Set = set_in n c.args.s.bits in
    let from : Set = set_in n c.args.self.now.from.bits in
    let is : List Implication = implications_in n c.args.self.now.confirmed.numbers.now in
    let forced : Set → Set = g.F.Forces.forced c.args.self.now.forces.now in
    record {
      found =
          kept_found n c.args.attribute s from c.args.past c.is_beyond-beyond.result (length_set_in n c.args.self.now.from.bits) c.requires.even c.is_beyond-beyond.ensures
          (sym (c.contains.ensures n c.requires.bound) ∙ c.if-contains.true) (is_open forced is) _ c.first_in_branch.ensures.found;
      bound = c.first_in_branch.ensures.bound;
    }

pub returns-then-is_some : goal.returns-then-is_some
returns-then-is_some g t c =
    let n : ℕ = c.args.self.now.confirmed.n.value in
    let s : Set = set_in n c.args.s.bits in
    let from : Set = set_in n c.args.self.now.from.bits in
    let is : List Implication = implications_in n c.args.self.now.confirmed.numbers.now in
    let forced : Set → Set = g.F.Forces.forced c.args.self.now.forces.now in
    let r : Option AttributeSet = c.first_in_branch-without.result in
    record {
      found =
          without_some n c.args.attribute s from c.args.past c.is_beyond-beyond.result (length_set_in n c.args.self.now.from.bits) c.requires.even c.is_beyond-beyond.ensures
          (sym (c.contains.ensures n c.requires.bound) ∙ c.if-contains.false) (is_open forced is) (option_map (λ (q : AttributeSet). set_in n q.bits) r)
          (some_mapped n r ∙ sym c.is_some.ensures ∙ c.if-is_some.true) c.first_in_branch-without.ensures.found;
      bound = c.first_in_branch-without.ensures.bound;
    }

pub first_in_branch-requires-2 : goal.first_in_branch-requires-2
first_in_branch-requires-2 g t c κs within =
    let n : ℕ = c.args.self.now.confirmed.n.value in
    let is : List Implication = implications_in n c.args.self.now.confirmed.numbers.now in
    let forced : Set → Set = g.F.Forces.forced c.args.self.now.forces.now in
    let closed = c.in-Some.ensures.cases in
    let less : c.args.attribute < length (set_in n c.args.s.bits) = omega (arith, length_set_in n c.args.s.bits) in (
      search rules,
      (
        search rules,
        (
          c.requires.width,
          (
            c.requires.from,
            (
              c.in-Some.ensures.bound,
              (
                omega arith,
                (
                  closed.closed.respected,
                  with_even n c.args.attribute (set_in n c.args.s.bits) (set_in n c.args.self.now.from.bits) c.args.past c.is_beyond-beyond.result
                      (length_set_in n c.args.self.now.from.bits) c.requires.even c.is_beyond-beyond.ensures
                      (sym (c.contains.ensures n c.requires.bound) ∙ c.if-contains.false) is forced (set_in n c.in-Some.with.bits) less closed.closed closed.agrees,
                ),
              ),
            ),
          ),
        ),
      ),
    )

pub returns-in_default : goal.returns-in_default
returns-in_default g t c =
    let n : ℕ = c.args.self.now.confirmed.n.value in
    let i : ℕ = c.args.attribute in
    let s : Set = set_in n c.args.s.bits in
    let from : Set = set_in n c.args.self.now.from.bits in
    let is : List Implication = implications_in n c.args.self.now.confirmed.numbers.now in
    let forced : Set → Set = g.F.Forces.forced c.args.self.now.forces.now in
    let wide : length from ≡ n = length_set_in n c.args.self.now.from.bits in
    let out : has s i ≡ false = sym (c.contains.ensures n c.requires.bound) ∙ c.if-contains.false in
    let none : NoneWithout n i s from c.args.past c.is_beyond-beyond.result wide c.requires.even c.is_beyond-beyond.ensures out (is_open forced is) =
    elim c.if-beyond.branch [
      | then-beyond+else-is_some w ↦
          without_none n i s from c.args.past c.is_beyond-beyond.result wide c.requires.even c.is_beyond-beyond.ensures out (is_open forced is)
          (option_map (λ (q : AttributeSet). set_in n q.bits) w.first_in_branch-without.result)
          (some_mapped n w.first_in_branch-without.result ∙ sym w.is_some.ensures ∙ w.if-is_some.false) w.first_in_branch-without.ensures.found
      | else-beyond w ↦ without_before n i s from c.args.past c.is_beyond-beyond.result wide c.requires.even c.is_beyond-beyond.ensures out (is_open forced is) w.if-beyond.false
    ]
    in
    let less : i < length s = omega (arith, length_set_in n c.args.s.bits) in
    let grown : Set = set s i true in
    let closed : Closure n is grown (closure n is grown) =
    closure_is_common n is (implications_over n c.args.self.now.confirmed.numbers.now) grown (length-set s i true ∙ length_set_in n c.args.s.bits)
    in
    record {
      found =
          with_none n i s from c.args.past c.is_beyond-beyond.result wide c.requires.even c.is_beyond-beyond.ensures out is forced (closure n is grown) less closed
          (λ a. c.in_default.ensures.cases (closure n is grown) (record { closed = closed; agrees = a })) none;
      bound = tt;
    }

pub returns : goal.returns
returns g t c =
    let n : ℕ = c.args.self.now.confirmed.n.value in
    let i : ℕ = c.args.attribute in
    let s : Set = set_in n c.args.s.bits in
    let from : Set = set_in n c.args.self.now.from.bits in
    let is : List Implication = implications_in n c.args.self.now.confirmed.numbers.now in
    let forced : Set → Set = g.F.Forces.forced c.args.self.now.forces.now in
    let wide : length from ≡ n = length_set_in n c.args.self.now.from.bits in
    let out : has s i ≡ false = sym (c.contains.ensures n c.requires.bound) ∙ c.if-contains.false in
    let none : NoneWithout n i s from c.args.past c.is_beyond-beyond.result wide c.requires.even c.is_beyond-beyond.ensures out (is_open forced is) =
    elim c.if-beyond.branch [
      | then-beyond+else-is_some w ↦
          without_none n i s from c.args.past c.is_beyond-beyond.result wide c.requires.even c.is_beyond-beyond.ensures out (is_open forced is)
          (option_map (λ (q : AttributeSet). set_in n q.bits) w.first_in_branch-without.result)
          (some_mapped n w.first_in_branch-without.result ∙ sym w.is_some.ensures ∙ w.if-is_some.false) w.first_in_branch-without.ensures.found
      | else-beyond w ↦ without_before n i s from c.args.past c.is_beyond-beyond.result wide c.requires.even c.is_beyond-beyond.ensures out (is_open forced is) w.if-beyond.false
    ]
    in
    let less : i < length s = omega (arith, length_set_in n c.args.s.bits) in
    let closed = c.in-Some.ensures.cases in
    record {
      found =
          with_found n i s from c.args.past c.is_beyond-beyond.result wide c.requires.even c.is_beyond-beyond.ensures out is forced (set_in n c.in-Some.with.bits) less closed.closed
          closed.agrees none (option_map (λ (q : AttributeSet). set_in n q.bits) c.first_in_branch-2.result) c.first_in_branch-2.ensures.found;
      bound = c.first_in_branch-2.ensures.bound;
    }
