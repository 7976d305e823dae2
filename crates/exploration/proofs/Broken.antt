-- The first confirmed implication that an object breaks. Assumes nothing.
use Rattle.std.proofs.Common.{◌≡◌, ℕ, zero, suc, Bool, true, false, cond, ◌&&◌, ◌⊎◌, List, [], ◌∷◌, is_ok, Some, None, Ok, Err, Option, sym, refl, ap, ◌∙◌, inl, inr, arith}
use Rattle.std.proofs.lemmas.Bool.{and_parts, true≢false}
use Rattle.std.specs.Option.{option_map}
use Rattle.attributes.specs.Numbers.{set_in}
use Rattle.attributes.specs.Sets.{Set}
use Rattle.attributes.specs.declared.set.AttributeSet.{AttributeSet}
use Rattle.contexts.specs.Contexts.{Implication, respects}
use Rattle.contexts.specs.Values.{implication_at}
use Rattle.contexts.specs.declared.implication.Implication.{Implication as Pair}
use Rattle.implications.specs.Implications.{respects_all}
use Rattle.implications.specs.Places.{FirstBroken}
use Rattle.exploration.specs.Answers.{checked_object, first_broken, unless_broken}
use Rattle.replies.specs.declared.reply.Refusal.TheVariants.{BreaksConfirmed, NotACounterexample}

first_broken_at : (s : Set) (is : List Implication) (k : ℕ) → FirstBroken is s k → first_broken s is ≡ Some k
unfolding first_broken
first_broken_at s [] k b = absurd (omega (arith, b.inside))
first_broken_at s (i ∷ is) zero b = ap (λ (x : Bool). cond x (option_map suc (first_broken s is)) (Some 0)) b.breaks
first_broken_at s (i ∷ is) (suc k) b =
    ap (λ (x : Bool). cond x (option_map suc (first_broken s is)) (Some 0)) (b.before 0 (omega arith))
    ∙ ap (option_map suc) (first_broken_at s is k (record { inside = omega (arith, b.inside); breaks = b.breaks; before = λ j h. b.before (suc j) (omega arith) }))

first_broken_none : (s : Set) (is : List Implication) → respects_all s is ≡ true → first_broken s is ≡ None
unfolding first_broken respects_all
first_broken_none s [] h = refl
first_broken_none s (i ∷ is) h =
    let p = and_parts (respects s i) (respects_all s is) h in
    ap (λ (x : Bool). cond x (option_map suc (first_broken s is)) (Some 0)) p.0 ∙ ap (option_map suc) (first_broken_none s is p.1)

-- an object that breaks what is asked is judged by what is confirmed
module _ (n : ℕ) (is : List Implication) (asked : Pair) (named : AttributeSet) (breaks : respects (set_in n named.bits) (implication_at n asked) ≡ false) where
  by_broken : (r : Option ℕ) → first_broken (set_in n named.bits) is ≡ r → checked_object n is asked named ≡ unless_broken named r
  by_broken r e =
      ap (λ (x : Bool). cond x (Err (NotACounterexample named)) (unless_broken named (first_broken (set_in n named.bits) is))) breaks ∙ ap (unless_broken named) e

  pub object_refused : (k : ℕ) → FirstBroken is (set_in n named.bits) k → Err (BreaksConfirmed k) ≡ checked_object n is asked named
  object_refused k b = sym (by_broken (Some k) (first_broken_at (set_in n named.bits) is k b))

  pub object_taken : respects_all (set_in n named.bits) is ≡ true → Ok named ≡ checked_object n is asked named
  object_taken h = sym (by_broken None (first_broken_none (set_in n named.bits) is h))

-- an object that breaks some confirmed implication is not taken
some_broken : (s : Set) (is : List Implication) → respects_all s is ≡ false → (k : ℕ) × (first_broken s is ≡ Some k)
unfolding first_broken respects_all
some_broken s [] h = absurd (true≢false h)
some_broken s (i ∷ is) h = go (respects s i) (some_broken s is) h
  where
    go : (b : Bool) → (respects_all s is ≡ false → (k : ℕ) × (first_broken s is ≡ Some k)) → (b && respects_all s is) ≡ false
        → (k : ℕ) × (cond b (option_map suc (first_broken s is)) (Some 0) ≡ Some k)
    go true later e = let f = later e in (suc f.0, ap (option_map suc) f.1)
    go false later e = (0, refl)

pub object_not_taken : (n : ℕ) (is : List Implication) (asked : Pair) (named : AttributeSet)
    → (respects (set_in n named.bits) (implication_at n asked) ≡ true) ⊎ (respects_all (set_in n named.bits) is ≡ false) → is_ok (checked_object n is asked named) ≡ false
object_not_taken n is asked named (inl h) = ap (λ (x : Bool). is_ok (cond x (Err (NotACounterexample named)) (unless_broken named (first_broken (set_in n named.bits) is)))) h
object_not_taken n is asked named (inr h) =
    let f = some_broken (set_in n named.bits) is h in
    ap (λ (o : Option ℕ). is_ok (cond (respects (set_in n named.bits) (implication_at n asked)) (Err (NotACounterexample named)) (unless_broken named o))) f.1
    ∙ go f.0 (respects (set_in n named.bits) (implication_at n asked))
  where
    go : (k : ℕ) (b : Bool) → is_ok {T = AttributeSet} (cond b (Err (NotACounterexample named)) (Err (BreaksConfirmed k))) ≡ false
    go k true = refl
    go k false = refl
