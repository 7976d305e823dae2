-- What every dialogue keeps, whatever is answered: its confirmed implications are a run of its examples, and no example is named twice. Assumes nothing.
use Rattle.std.proofs.Common.{◌≡◌, ℕ, true, false, cond, not, ◌&&◌, eqb, ◌≢◌, List, [], ◌∷◌, ◌++◌, length, Some, None, Option, sym, refl, ap, ◌∙◌, subst, inl, inr, append_assoc, append-nil}
use Rattle.std.specs.List.{ContainsAt}
use Rattle.std.proofs.ByRecursion.{All-push, has_append_left, has_append_right, has_push_cases}
use Rattle.std.proofs.lemmas.Bool.{and_parts, both_ways, cond_both, eqb-true, not-true}
use Rattle.attributes.specs.Sets.{Set, subset}
use Rattle.attributes.proofs.Members.{all_from_has}
use Rattle.contexts.specs.Contexts.{Context, OfWidth, Implication, respects, holds}
use Rattle.contexts.proofs.CommonAttributes.{common_inside}
use Rattle.contexts.proofs.Holding.{breaks}
use Rattle.implications.specs.Implications.{respects_all, all_hold}
use Rattle.implications.proofs.Respects.{all_hold_has, object_respects, objects_hold, all_hold_push}
use Rattle.dialogues.specs.Dialogue.{Knowledge, nothing_known, question, Answer, always, object, taken, with_answer, after, after_all}
use Rattle.dialogues.specs.Promise.{learnt, Pairwise}
use Rattle.dialogues.proofs.Pairs.{pairwise_push}
use Rattle.dialogues.proofs.Asked.{Asks, asks, asks_holds}
use Rattle.dialogues.proofs.Run.{Run, run_push, run_grows}

-- k is reached by answers from the implications is
pub record Reached (n : ℕ) (is : List Implication) (k : Knowledge) : Type 0 where
  pub wide : OfWidth n k.examples
  pub once : Pairwise ◌≢◌ k.examples
  pub hold : all_hold k.examples k.confirmed ≡ true
  pub rules : List Implication
  pub confirmed : k.confirmed ≡ is ++ rules
  pub run : Run n k.examples is rules

module _ (n : ℕ) (is : List Implication) (k : Knowledge) (reached : Reached n is k) (q : Implication) (asked : question n k ≡ Some q) where
  facts : Asks n k.confirmed k.examples q
  facts = asks n k.confirmed k.examples q asked

  pub reached_always : Reached n is (with_answer k (Some q) always)
  reached_always =
      record {
        wide = reached.wide;
        once = reached.once;
        hold = all_hold_push k.examples k.confirmed q reached.hold (asks_holds n k.examples reached.wide k.confirmed q facts);
        rules = reached.rules ++ q ∷ [];
        confirmed = ap (λ (l : List Implication). l ++ q ∷ []) reached.confirmed ∙ append_assoc is reached.rules (q ∷ []);
        run = run_push n k.examples is reached.rules q reached.run (subst (λ (l : List Implication). Asks n l k.examples q) reached.confirmed facts);
      }

  -- an object that breaks what is asked was not named before
  new : (s : Set) → respects s q ≡ false → ContainsAt k.examples s → ⊥
  new s e m =
      let parts = breaks s q e in
      both_ways (subset q.conclusion s) parts.1 (rw facts.concludes (common_inside n k.examples q.premise s m parts.0))

  pub reached_object : (s : Set) → length s ≡ n → respects s q ≡ false → respects_all s k.confirmed ≡ true → Reached n is (with_answer k (Some q) (object s))
  reached_object s w e r =
      record {
        wide = wide;
        once = pairwise_push ◌≢◌ k.examples s reached.once (all_from_has (λ (o : Set). o ≢ s) k.examples (λ o m f. new s e (rw f at m)));
        hold = hold;
        rules = reached.rules;
        confirmed = reached.confirmed;
        run = run_grows n k.examples more wide (λ o m. has_append_left k.examples (s ∷ []) o m) is reached.rules still reached.run;
      }
    where
      more : Context
      more = k.examples ++ s ∷ []

      wide : OfWidth n more
      wide = All-push (λ (o : Set). length o ≡ n) k.examples s reached.wide w

      hold : all_hold more k.confirmed ≡ true
      hold = objects_hold more k.confirmed (λ o m. elim (has_push_cases k.examples s o m) [ inl h ↦ object_respects k.examples k.confirmed reached.hold o h | inr f ↦ rw f at r ])

      still : (i : Implication) → ContainsAt reached.rules i → holds more i ≡ true
      still i m = all_hold_has more k.confirmed hold i (subst (λ (l : List Implication). ContainsAt l i) (sym reached.confirmed) (has_append_right is reached.rules i m))

pub reached_after : (n : ℕ) (is : List Implication) (k : Knowledge) → Reached n is k → (answer : Answer) → Reached n is (after n k answer)
unfolding after
reached_after n is k reached answer = go (question n k) refl answer
  where
    named : (q : Implication) → question n k ≡ Some q → (s : Set) → taken n k (Some q) (object s) ≡ true → Reached n is (with_answer k (Some q) (object s))
    named q e s t =
        let parts = and_parts (eqb (length s) n) (not (respects s q) && respects_all s k.confirmed) t in
        let more = and_parts (not (respects s q)) (respects_all s k.confirmed) parts.1 in
        reached_object n is k reached q e s (eqb-true (length s) n parts.0) (not-true (respects s q) more.0) more.1

    go : (o : Option Implication) → question n k ≡ o → (answer : Answer) → Reached n is (cond (taken n k o answer) (with_answer k o answer) k)
    go None e answer = reached
    go (Some q) e always = reached_always n is k reached q e
    go (Some q) e (object s) = cond_both (taken n k (Some q) (object s)) (with_answer k (Some q) (object s)) k (Reached n is) (named q e s) (λ _. reached)

pub reached_all : (n : ℕ) (is : List Implication) (k : Knowledge) → Reached n is k → (answers : List Answer) → Reached n is (after_all n k answers)
unfolding after_all
reached_all n is k reached [] = reached
reached_all n is k reached (answer ∷ answers) = reached_all n is (after n k answer) (reached_after n is k reached answer) answers

-- a dialogue may start from any implications and examples that fit each other
pub reached_start : (n : ℕ) (k : Knowledge) → OfWidth n k.examples → Pairwise ◌≢◌ k.examples → all_hold k.examples k.confirmed ≡ true → Reached n k.confirmed k
reached_start n k wide once hold = record { wide = wide; once = once; hold = hold; rules = []; confirmed = sym (append-nil k.confirmed); run = tt }

pub reached_learnt : (n : ℕ) (answers : List Answer) → Reached n [] (learnt n answers)
unfolding all_hold
reached_learnt n answers = reached_all n [] nothing_known (reached_start n nothing_known tt tt refl) answers
