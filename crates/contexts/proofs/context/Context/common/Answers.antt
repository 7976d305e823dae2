use Rattle.std.proofs.Common.{◌≡◌, ℕ, suc, ◌≤◌, List, length, get_or, sym, ap, ◌∙◌, arith}
use Rattle.std.proofs.lemmas.Bool.{eqb-true}
use Rattle.attributes.specs.Numbers.{set_in}
use Rattle.attributes.specs.Sets.{Set, meet}
use Rattle.attributes.proofs.Numbers.{number_of_everything, set_in_everything, length_set_in}
use Rattle.contexts.specs.Contexts.{common}
use Rattle.contexts.specs.Places.{LastWith}
use Rattle.contexts.specs.Values.{objects_in}
use Rattle.contexts.proofs.Walks.{Shared, shared_none, shared_taken, shared_skipped, shared_least}
use Rattle.contexts.proofs.context.Context.common.Goals as goal

pub loop-place-init : goal.loop-place-init
loop-place-init c =
    let n : ℕ = c.args.self.now.n.value in (
      omega arith,
      omega (arith, c.everything-shared.ensures, number_of_everything n),
      shared_none n c.args.self.now.objects.now (set_in n c.within-asked.result.bits) (length c.args.self.now.objects.now) c.everything-shared.result.bits (omega arith)
          (ap (set_in n) c.everything-shared.ensures ∙ set_in_everything n),
    )

-- the object found joins what is shared
joined : (n : ℕ) (row : List ℕ) (s : Set) (end so_far k next : ℕ) → end ≤ length row → Shared n row s so_far end → LastWith (objects_in n row) s end k
    → set_in n next ≡ meet (set_in n (get_or row k 0)) (set_in n so_far) → Shared n row s next k
joined n row s end so_far k next h at last e =
    shared_taken n row s k so_far (omega (arith, last.inside)) (shared_skipped n row s (suc k) end so_far last.inside h last.behind at) next e last.has_all

pub returns-then-eq : goal.returns-then-eq
returns-then-eq c =
    let n : ℕ = c.args.self.now.n.value in
    let row : List ℕ = c.args.self.now.objects.now in
    let asked : Set = set_in n c.within-asked.result.bits in
    let found = c.in-Some.ensures n (omega (arith, c.args.self.now.n.few)) c.within-asked.ensures.bound in
    let shared : Shared n row asked c.meet-shared.result.bits c.in-Some.place =
    joined n row asked c.loop-place.end c.loop-place.shared.bits c.in-Some.place c.meet-shared.result.bits c.loop-place.invariant.0 c.loop-place.invariant.2 found
    (c.meet-shared.ensures.value n ∙ ap (λ (o : Set). meet o (set_in n c.loop-place.shared.bits)) c.lowest.ensures.value)
    in
    record {
      value =
          shared_least n row asked (length_set_in n c.within-asked.result.bits) c.in-Some.place (ap (set_in n) (sym (eqb-true c.meet-shared.result.bits c.within-asked.result.bits (sym c.eq.ensures ∙ c.if-eq.true))) ∙ shared)
          ∙ ap (common n (objects_in n row)) c.within-asked.ensures.value;
      bound = c.within-asked.ensures.bound;
    }

pub loop-place-preserved : goal.loop-place-preserved
loop-place-preserved c =
    let n : ℕ = c.args.self.now.n.value in
    let row : List ℕ = c.args.self.now.objects.now in
    let asked : Set = set_in n c.within-asked.result.bits in
    let found = c.in-Some.ensures n (omega (arith, c.args.self.now.n.few)) c.within-asked.ensures.bound in (
      omega (arith, c.loop-place.invariant.0, found.inside),
      c.meet-shared.ensures.bound n c.lowest.ensures.bound,
      joined n row asked c.loop-place.end c.loop-place.shared.bits c.in-Some.place c.meet-shared.result.bits c.loop-place.invariant.0 c.loop-place.invariant.2 found
          (c.meet-shared.ensures.value n ∙ ap (λ (o : Set). meet o (set_in n c.loop-place.shared.bits)) c.lowest.ensures.value),
    )

pub returns : goal.returns
returns c =
    let n : ℕ = c.args.self.now.n.value in
    let row : List ℕ = c.args.self.now.objects.now in
    let asked : Set = set_in n c.within-asked.result.bits in
    let none = c.in_default.ensures n (omega (arith, c.args.self.now.n.few)) c.within-asked.ensures.bound in
    record {
      value =
          shared_skipped n row asked 0 c.loop-place.end c.loop-place.shared.bits (omega arith) c.loop-place.invariant.0 none c.loop-place.invariant.2
          ∙ ap (common n (objects_in n row)) c.within-asked.ensures.value;
      bound = c.loop-place.invariant.1;
    }
