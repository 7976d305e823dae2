-- How far the search through the sets that respect a list has come. Assumes nothing.
use Rattle.std.proofs.Common.{◌≡◌, ℕ, suc, ◌+◌, ◌^◌, ◌<◌, Bool, true, false, not, ◌&&◌, List, [], ◌∷◌, length, IfSome, Some, None, Option, sym, ap, ◌∙◌, inl, inr, pow-suc, arith}
use Rattle.std.proofs.lemmas.Bool.{both_ways, true≢false, false_from_ne_true, and_parts, and_from, not-true, not_from_false}
use Rattle.std.specs.Option.{option_map}
use Rattle.attributes.specs.Lectic.{precedes}
use Rattle.attributes.specs.Numbers.{set_in}
use Rattle.attributes.specs.Sets.{Set, subset}
use Rattle.attributes.specs.declared.set.AttributeSet.{AttributeSet}
use Rattle.attributes.proofs.Lectic.{order_laws}
use Rattle.contexts.specs.Contexts.{Implication}
use Rattle.implications.specs.Implications.{respects_all}
use Rattle.premises.specs.Respecting.{next_respecting}
use Rattle.premises.specs.Open.{is_open, first_open_from}
use Rattle.premises.proofs.First.{first_laws}
use Rattle.premises.proofs.Open.{open_from, shut_from}

-- how many sets of the same attributes come after a set
later : Set → ℕ
later [] = 0
later (true ∷ s) = later s
later (false ∷ s) = 2 ^ length s + later s

later_few : (s : Set) → later s < 2 ^ length s
unfolding later
later_few [] = omega arith
later_few (true ∷ s) = omega (arith, later_few s, pow-suc 2 (length s))
later_few (false ∷ s) = omega (arith, later_few s, pow-suc 2 (length s))

later_less : (s t : Set) → length s ≡ length t → precedes s t ≡ true → later t < later s
unfolding later precedes
later_less [] t e p = absurd (true≢false (sym p))
later_less (x ∷ s) [] e p = absurd (true≢false (sym p))
later_less (true ∷ s) (true ∷ t) e p = later_less s t (omega arith) p
later_less (true ∷ s) (false ∷ t) e p = absurd (true≢false (sym p))
later_less (false ∷ s) (true ∷ t) e p =
    let same : length s ≡ length t = omega arith in
    omega (arith, later_few t, ap (λ (k : ℕ). 2 ^ k) same)
later_less (false ∷ s) (false ∷ t) e p =
    let same : length s ≡ length t = omega arith in
    omega (arith, later_less s t same p, ap (λ (k : ℕ). 2 ^ k) same)

-- how many steps a search that reached a set, or none, has left
pub left : Option Set → ℕ
left None = 0
left (Some s) = suc (later s)

pub next_less : (n : ℕ) (is : List Implication) (s : Set) → length s ≡ n → (r : Option Set) → r ≡ next_respecting n is s → left r < left (Some s)
unfolding left next_respecting
next_less n is s w None e = omega arith
next_less n is s w (Some t) e =
    let f = (first_laws n (λ (t : Set). precedes s t && respects_all t is)).found t (sym e) in
    omega (arith, later_less s t (w ∙ sym f.wide) (and_parts (precedes s t) (respects_all t is) f.passes).0)

-- the next set respects the list
pub next_respects : (n : ℕ) (is : List Implication) (s : Set) (r : Option AttributeSet) → option_map (λ (q : AttributeSet). set_in n q.bits) r ≡ next_respecting n is s
    → IfSome r (λ (q : AttributeSet). respects_all (set_in n q.bits) is ≡ true)
unfolding next_respecting
next_respects n is s None e = tt
next_respects n is s (Some q) e =
    let t : Set = set_in n q.bits in
    let f = (first_laws n (λ (t : Set). precedes s t && respects_all t is)).found t (sym e) in
    (and_parts (precedes s t) (respects_all t is) f.passes).1

module _ (n : ℕ) (forced : Set → Set) (is : List Implication) (from : Set) where
  -- the test by which the search from a given set goes
  test : Set → Bool
  test s = not (precedes s from) && is_open forced is s

  fails : (t : Set) → (precedes t from ≡ false → is_open forced is t ≡ false) → test t ≡ false
  unfolding test
  fails t f =
      false_from_ne_true (not (precedes t from) && is_open forced is t)
      (λ h. let p = and_parts (not (precedes t from)) (is_open forced is t) h in both_ways (is_open forced is t) (f (not-true (precedes t from) p.0)) p.1)

  -- the search stands at a set: no set from the given one up to it is open
  pub record StandsAt (q : Set) : Type 0 where
    pub wide : length q ≡ n
    pub behind : precedes q from ≡ false
    pub before : (t : Set) → length t ≡ n → precedes t q ≡ true → precedes t from ≡ false → is_open forced is t ≡ false

  -- it stands at a set, or is at its end
  abbrev pub Reached : Option Set → Type 0
  Reached None = (t : Set) → length t ≡ n → precedes t from ≡ false → is_open forced is t ≡ false
  Reached (Some q) = StandsAt q

  -- it stands at a set that respects the list, or is at its end
  pub record Searching (reached : Option AttributeSet) : Type 0 where
    pub bound : IfSome reached (λ (q : AttributeSet). q.bits < 2 ^ n)
    pub respected : IfSome reached (λ (q : AttributeSet). respects_all (set_in n q.bits) is ≡ true)
    pub stands : Reached (option_map (λ (q : AttributeSet). set_in n q.bits) reached)

module _ {n : ℕ} {forced : Set → Set} {is : List Implication} {from : Set} where
  pub stands_first : length from ≡ n → StandsAt n forced is from from
  stands_first w = record { wide = w; behind = (order_laws n).irreflexive from; before = λ t _ l b. absurd (both_ways (precedes t from) b l) }

  -- it goes on from a set that is not open
  module _ {q : Set} (at : StandsAt n forced is from q) (shut : is_open forced is q ≡ false) where
    -- what lies up to the next set is not open
    passed_by : (t : Set) → length t ≡ n → (precedes q t ≡ true → respects_all t is ≡ false) → precedes t from ≡ false → is_open forced is t ≡ false
    passed_by t w next b =
        elim ((order_laws n).total t q w at.wide) [
          | inl same ↦ ap (is_open forced is) same ∙ shut
          | inr other ↦ elim other [
            | inl p ↦ at.before t w p b
            | inr p ↦ shut_from forced is t (λ r. absurd (both_ways (respects_all t is) (next p) r))
          ]
        ]

    stands_next : (r : Option Set) → r ≡ next_respecting n is q → Reached n forced is from r
    unfolding next_respecting
    stands_next None e = λ t w.
        passed_by t w (λ p. sym (ap (λ (b : Bool). b && respects_all t is) p) ∙ (first_laws n (λ (t : Set). precedes q t && respects_all t is)).none (sym e) t w)
    stands_next (Some r) e =
        let f = (first_laws n (λ (t : Set). precedes q t && respects_all t is)).found r (sym e) in
        let p = and_parts (precedes q r) (respects_all r is) f.passes in
        record {
          wide = f.wide;
          behind = false_from_ne_true (precedes r from) (λ b. both_ways (precedes q from) at.behind ((order_laws n).transitive q r from p.0 b));
          before = λ t w l. passed_by t w (λ b. sym (ap (λ (x : Bool). x && respects_all t is) b) ∙ f.earlier t w l);
        }

    pub searching_on : (r : Option AttributeSet) → option_map (λ (q : AttributeSet). set_in n q.bits) r ≡ next_respecting n is q → IfSome r (λ (q : AttributeSet). q.bits < 2 ^ n)
        → Searching n forced is from r
    searching_on r e bound =
        record { bound = bound; respected = next_respects n is q r e; stands = stands_next (option_map (λ (q : AttributeSet). set_in n q.bits) r) e }

  -- what it has found
  pub searching_open : {q : AttributeSet} → Searching n forced is from (Some q) → subset (forced (set_in n q.bits)) (set_in n q.bits) ≡ false
      → Some (set_in n q.bits) ≡ first_open_from n forced is from
  unfolding first_open_from test
  searching_open {q} at lacks =
      let s : Set = set_in n q.bits in
      sym ((first_laws n (test n forced is from)).only s (record {
        wide = at.stands.wide;
        passes = and_from (not (precedes s from)) (is_open forced is s) (not_from_false (precedes s from) at.stands.behind) (open_from forced is s at.respected lacks);
        earlier = λ t w l. fails n forced is from t (at.stands.before t w l);
      }))

  pub searching_none : Searching n forced is from None → None ≡ first_open_from n forced is from
  unfolding first_open_from test
  searching_none at = sym ((first_laws n (test n forced is from)).nothing (λ t w. fails n forced is from t (at.stands t w)))
