use Rattle.std.proofs.Common.{◌≡◌, ℕ, ◌-◌, false, List, [], get_or, ap, ◌∙◌, inl, inr, arith}
use Rattle.std.proofs.lemmas.Bool.{cases_eq, cases_lt}
use Rattle.attributes.specs.Numbers.{set_in}
use Rattle.attributes.specs.Sets.{Set, subset}
use Rattle.contexts.specs.Values.{objects_in}
use Rattle.contexts.proofs.Walks.{tested_at}
use Rattle.contexts.proofs.context.last_with.Goals as goal
use Rattle.contexts.proofs.context.last_with.Goals.{else-place-eq1-via-then-place-eq1+else-is_subset_of-3, else-place-eq1-via-else-place-eq1}

pub returns-then-is_subset_of-2 : goal.returns-then-is_subset_of-2
returns-then-is_subset_of-2 c n few small =
    let row : List ℕ = c.args.objects.now in
    let p : ℕ = c.loop-place.place in
    let s : Set = set_in n c.args.s.bits in
    let lacks : subset s (get_or (objects_in n row) (p - 1) []) ≡ false =
    tested_at n row (p - 1) c.of_number.result.bits s c.is_subset_of.result (omega (arith, c.loop-place.invariant.0, c.requires)) (c.of_number.ensures n few) (c.is_subset_of.ensures n small) ∙ c.if-is_subset_of.false
    in
    record {
      inside = omega (arith, c.loop-place.invariant.0);
      has_all =
          tested_at n row (p - 2) c.of_number-in-loop-place.result.bits s c.is_subset_of-in-loop-place.result (omega (arith, c.loop-place.invariant.0, c.requires)) (c.of_number-in-loop-place.ensures n few)
          (c.is_subset_of-in-loop-place.ensures n small)
          ∙ c.if-is_subset_of-2.true;
      behind = λ j a b. elim (cases_eq j (p - 1)) [
        | inl e ↦ ap (λ (k : ℕ). subset s (get_or (objects_in n row) k [])) e ∙ lacks
        | inr e ↦ c.loop-place.invariant.1 n few small j (omega arith) b
      ];
    }

pub loop-place-preserved : goal.loop-place-preserved
loop-place-preserved c = (
  omega (arith, c.loop-place.invariant.0),
  λ n few small j a b.
      let row : List ℕ = c.args.objects.now in
      let p : ℕ = c.loop-place.place in
      let s : Set = set_in n c.args.s.bits in
      elim (cases_eq j (p - 1)) [
        | inl e ↦
            ap (λ (k : ℕ). subset s (get_or (objects_in n row) k [])) e
            ∙ tested_at n row (p - 1) c.of_number.result.bits s c.is_subset_of.result (omega (arith, c.loop-place.invariant.0, c.requires)) (c.of_number.ensures n few) (c.is_subset_of.ensures n small)
            ∙ c.if-is_subset_of.false
        | inr e ↦ elim (cases_eq j (p - 2)) [
          | inl f ↦
              ap (λ (k : ℕ). subset s (get_or (objects_in n row) k [])) f
              ∙ tested_at n row (p - 2) c.of_number-in-loop-place.result.bits s c.is_subset_of-in-loop-place.result (omega (arith, c.loop-place.invariant.0, c.requires)) (c.of_number-in-loop-place.ensures n few)
              (c.is_subset_of-in-loop-place.ensures n small)
              ∙ c.if-is_subset_of-2.false
          | inr f ↦ c.loop-place.invariant.1 n few small j (omega arith) b
        ]
      ],
)

pub returns : goal.returns
returns c n few small j a b =
    let row : List ℕ = c.args.objects.now in
    let s : Set = set_in n c.args.s.bits in
    elim (cases_lt j c.loop-place.place) [
      | inl before ↦ elim c.else-place-eq1.branch [
        | else-place-eq1-via-then-place-eq1+else-is_subset_of-3 w ↦
            let first : j ≡ 0 = omega (arith, c.loop-place-test.false) in
            ap (λ (k : ℕ). subset s (get_or (objects_in n row) k [])) first
            ∙ tested_at n row 0 w.of_number-then-place-eq1.result.bits s w.is_subset_of-then-place-eq1.result (omega (arith, c.requires, first)) (w.of_number-then-place-eq1.ensures n few)
            (w.is_subset_of-then-place-eq1.ensures n small)
            ∙ w.if-is_subset_of-3.false
        | else-place-eq1-via-else-place-eq1 w ↦ absurd (w.if-place-eq1.false (omega (arith, c.loop-place-test.false)))
      ]
      | inr behind ↦ c.loop-place.invariant.1 n few small j behind b
    ]
