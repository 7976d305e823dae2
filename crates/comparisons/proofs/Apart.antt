-- An implication that follows from a list, or the first set that tells it apart from the list. Assumes nothing.
use Rattle.std.proofs.Common.{◌≡◌, ℕ, ◌+◌, ◌<◌, true, false, not, List, [], ◌∷◌, length, drop, get_or, Some, None, sym, ◌∙◌, ap, subst, below_more, inl, inr, arith}
use Rattle.std.specs.List.{AllByRecursion}
use Rattle.std.proofs.ByRecursion.{All-from_get_or}
use Rattle.std.proofs.lemmas.List.{drop_more, length-drop}
use Rattle.std.proofs.lemmas.Bool.{and_parts, and_from, both_ways, cases_Bool, not_from_false, not-true}
use Rattle.attributes.specs.Lectic.{precedes}
use Rattle.attributes.specs.Sets.{Set, subset}
use Rattle.attributes.proofs.Lectic.{order_laws, subset_first}
use Rattle.attributes.proofs.Sets.{subset_refl, subset_trans}
use Rattle.contexts.specs.Contexts.{Implication, respects}
use Rattle.contexts.specs.Values.{implication_at}
use Rattle.contexts.specs.declared.implication.Implication.{Implication as Pair}
use Rattle.contexts.proofs.Holding.{breaks, respects_apply, respects_from}
use Rattle.implications.specs.Implications.{respects_all, Follows}
use Rattle.implications.specs.Places.{no_implication, HasFirst, NextImplication}
use Rattle.implications.specs.Values.{implications_in}
use Rattle.implications.proofs.Respects.{one_set_decides}
use Rattle.premises.specs.Laws.{IsFirst}
use Rattle.comparisons.specs.Compared.{tells_apart}
use Rattle.implications.proofs.Turns.{turn as next_turn, ended}

-- on the way from the premise to its closure: what is reached is inside each set that has the premise and respects the list
pub record Reaching (n : ℕ) (is : List Implication) (i : Implication) (r : Set) : Type 0 where
  pub contains : subset i.premise r ≡ true
  pub inside : (t : Set) → length t ≡ n → subset i.premise t ≡ true → respects_all t is ≡ true → subset r t ≡ true

module _ (n : ℕ) (is : List Implication) (i : Implication) where
  pub reaching_start : Reaching n is i i.premise
  reaching_start = record { contains = subset_refl i.premise; inside = λ t w h r. h }

  module _ (r : Set) (reached : Reaching n is i r) where
    pub reaching_more : (g : Set) → subset r g ≡ true → ((t : Set) → subset r t ≡ true → respects_all t is ≡ true → subset g t ≡ true) → Reaching n is i g
    reaching_more g larger inside =
        record {
          contains = subset_trans i.premise r g reached.contains larger;
          inside = λ t w h k. inside t (reached.inside t w h k) k;
        }

    pub reaching_follows : subset i.conclusion r ≡ true → Follows n is i
    reaching_follows h = (one_set_decides n is i).all (λ s w k. respects_from s i (λ p. subset_trans i.conclusion r s h (reached.inside s w p k)))

    -- the closure lacks an attribute of the conclusion
    module _ (wide : length r ≡ n) (closed : respects_all r is ≡ true) (lacks : subset i.conclusion r ≡ false) where
      broken : respects r i ≡ true → ⊥
      broken h = both_ways (subset i.conclusion r) lacks (respects_apply r i h reached.contains)

      pub reaching_fails : Follows n is i → ⊥
      reaching_fails f = broken ((one_set_decides n is i).each f r wide closed)

      -- what else tells the two apart contains the closure, so it does not precede it
      no_earlier : (t : Set) → length t ≡ n → precedes t r ≡ true → tells_apart is i t ≡ true → ⊥
      no_earlier t w p h =
          let parts = and_parts (respects_all t is) (not (respects t i)) h in
          let larger : subset r t ≡ true = reached.inside t w (breaks t i (not-true (respects t i) parts.1)).0 parts.0 in
          let laws = order_laws n in
          elim (subset_first r t (wide ∙ sym w) larger) [
            | inl e ↦ both_ways (precedes t r) (subst (λ (s : Set). precedes s r ≡ false) e (laws.irreflexive r)) p
            | inr q ↦ both_ways (precedes t r) (laws.asymmetric r t q) p
          ]

      pub reaching_first : IsFirst n (tells_apart is i) r
      reaching_first =
          record {
            wide = wide;
            passes = and_from (respects_all r is) (not (respects r i)) closed (elim (cases_Bool (respects r i)) [ inl h ↦ absurd (broken h) | inr h ↦ not_from_false (respects r i) h ]);
            earlier = λ t w p. elim (cases_Bool (tells_apart is i t)) [ inl h ↦ absurd (no_earlier t w p h) | inr h ↦ h ];
          }

-- a turn through a list: the implications of `rest` stand from this place on, and those before it follow
pub record Turn (n : ℕ) (one other : List Implication) (place m : ℕ) (rest : List ℕ) : Type 0 where
  pub width : m ≡ n
  pub left : implications_in n rest ≡ drop place one
  pub before : (j : ℕ) → j < place → Follows n other (get_or one j no_implication)

-- what is left begins with what stands at the place
begins : (is : List Implication) (place : ℕ) (i : Implication) (rest : List Implication) → i ∷ rest ≡ drop place is
    → (place < length is) × (i ≡ get_or is place no_implication) × (rest ≡ drop (place + 1) is)
begins is place i rest e =
    let inside : place < length is = omega (arith, ap length e, length-drop place is) in
    let same : i ∷ rest ≡ get_or is place no_implication ∷ drop (place + 1) is = e ∙ drop_more is place no_implication inside in
    (inside, cc, cc)

module _ {n : ℕ} {one other : List Implication} {place m : ℕ} {rest : List ℕ} (turn : Turn n one other place m rest) {m' : ℕ} {rest' : List ℕ} where
  pub turn_end : NextImplication m rest None m' rest' → AllByRecursion (Follows n other) one
  turn_end next =
      let none : implications_in n rest ≡ [] = ended m n m' rest rest' turn.width next in
      All-from_get_or (Follows n other) one no_implication (λ j h. turn.before j (omega (arith, ap length (sym none ∙ turn.left), length-drop place one)))

  module _ {i : Pair} (next : NextImplication m rest (Some i) m' rest') where
    pub turn_first : HasFirst n rest i rest'
    turn_first = (next_turn m n m' rest rest' i turn.width next).1

    pub turn_at : (place < length one) × (implication_at n i ≡ get_or one place no_implication) × (implications_in n rest' ≡ drop (place + 1) one)
    turn_at = begins one place (implication_at n i) (implications_in n rest') (sym turn_first.first ∙ turn.left)

    pub turn_more : Follows n other (implication_at n i) → Turn n one other (place + 1) m' rest'
    turn_more f =
        record {
          width = next.width ∙ turn.width;
          left = turn_at.2;
          before = below_more _ place turn.before (subst (Follows n other) turn_at.1 f);
        }
