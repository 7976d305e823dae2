-- Sets and contexts that respect lists of implications, and what follows from a list. Assumes nothing.
use Rattle.std.proofs.Common.{◌≡◌, ℕ, true, false, List, [], ◌∷◌, ◌++◌, length, Decides, sym, refl, ◌∙◌, inl, inr, arith}
use Rattle.std.specs.List.{ContainsAt, AllByRecursion}
use Rattle.std.proofs.ByRecursion.{All-append, all-has, All-push, Decides-by_and}
use Rattle.std.proofs.lemmas.Bool.{and_cases, both_ways}
use Rattle.attributes.specs.Sets.{Set, meet}
use Rattle.attributes.proofs.Members.{all_from_has, has_here, has_there}
use Rattle.attributes.proofs.Sets.{subset_trans, subset_antisym, meet_left, meet_right, meet_greatest}
use Rattle.contexts.specs.Contexts.{Context, Implication, respects, holds}
use Rattle.contexts.proofs.Holding.{respects_apply, respects_from, holds_has, has_holds}
use Rattle.implications.specs.Implications.{respects_all, all_hold, Closure}
use Rattle.implications.specs.Laws.{OneSetDecides, FollowsByClosure, OneClosure, MeetRespects}

-- a set respects a list exactly if it respects each member
respects_each : (s : Set) (is : List Implication) → Decides (respects_all s is) (AllByRecursion (λ (i : Implication). respects s i ≡ true) is)
unfolding respects_all
respects_each s is = Decides-by_and (respects s) (λ (i : Implication). respects s i ≡ true) (respects_all s) (λ i. (λ e. e, λ e. e)) refl (λ _ _. refl) is

pub respects_has : (s : Set) (is : List Implication) → respects_all s is ≡ true → (i : Implication) → ContainsAt is i → respects s i ≡ true
respects_has s is h i m = all-has (λ (i : Implication). respects s i ≡ true) is i ((respects_each s is).0 h) m

pub has_respects : (s : Set) (is : List Implication) → ((i : Implication) → ContainsAt is i → respects s i ≡ true) → respects_all s is ≡ true
has_respects s is h = (respects_each s is).1 (all_from_has (λ (i : Implication). respects s i ≡ true) is h)

pub respects_fewer : (s : Set) (is more : List Implication) → ((i : Implication) → ContainsAt is i → ContainsAt more i) → respects_all s more ≡ true → respects_all s is ≡ true
respects_fewer s is more add h = has_respects s is (λ i m. respects_has s more h i (add i m))

pub respects_append : (s : Set) (is more : List Implication) → respects_all s is ≡ true → respects_all s more ≡ true → respects_all s (is ++ more) ≡ true
respects_append s is more h k =
    (respects_each s (is ++ more)).1 (All-append (λ (i : Implication). respects s i ≡ true) is more ((respects_each s is).0 h) ((respects_each s more).0 k))

-- a set that does not respect a list breaks a member
pub breaks_member : (s : Set) (is : List Implication) → respects_all s is ≡ false → (i : Implication) × ContainsAt is i × (respects s i ≡ false)
unfolding respects_all
breaks_member s [] e = absurd (both_ways true e refl)
breaks_member s (i ∷ is) e =
    elim (and_cases (respects s i) (respects_all s is) e) [
      | inl h ↦ (i, has_here i is, h)
      | inr h ↦ let m = breaks_member s is h in (m.0, has_there i is m.0 m.1, m.2)
    ]

-- a list holds for a context exactly if each member does
hold_each : (t : Context) (is : List Implication) → Decides (all_hold t is) (AllByRecursion (λ (i : Implication). holds t i ≡ true) is)
unfolding all_hold
hold_each t is = Decides-by_and (holds t) (λ (i : Implication). holds t i ≡ true) (all_hold t) (λ i. (λ e. e, λ e. e)) refl (λ _ _. refl) is

pub all_hold_has : (t : Context) (is : List Implication) → all_hold t is ≡ true → (i : Implication) → ContainsAt is i → holds t i ≡ true
all_hold_has t is h i m = all-has (λ (i : Implication). holds t i ≡ true) is i ((hold_each t is).0 h) m

pub has_all_hold : (t : Context) (is : List Implication) → ((i : Implication) → ContainsAt is i → holds t i ≡ true) → all_hold t is ≡ true
has_all_hold t is h = (hold_each t is).1 (all_from_has (λ (i : Implication). holds t i ≡ true) is h)

pub all_hold_push : (t : Context) (is : List Implication) (i : Implication) → all_hold t is ≡ true → holds t i ≡ true → all_hold t (is ++ i ∷ []) ≡ true
all_hold_push t is i h k = (hold_each t (is ++ i ∷ [])).1 (All-push (λ (j : Implication). holds t j ≡ true) is i ((hold_each t is).0 h) k)

-- a list holds for a context exactly if each object respects the list
pub object_respects : (t : Context) (is : List Implication) → all_hold t is ≡ true → (o : Set) → ContainsAt t o → respects_all o is ≡ true
object_respects t is h o m = has_respects o is (λ i k. holds_has t i (all_hold_has t is h i k) o m)

pub objects_hold : (t : Context) (is : List Implication) → ((o : Set) → ContainsAt t o → respects_all o is ≡ true) → all_hold t is ≡ true
objects_hold t is h = has_all_hold t is (λ i k. has_holds t i (λ o m. respects_has o is (h o m) i k))

module _ (n : ℕ) (is : List Implication) (i : Implication) where
  -- the context of the one object s
  alone : (s : Set) → respects_all s is ≡ true → all_hold (s ∷ []) is ≡ true
  alone s h = objects_hold (s ∷ []) is (λ o m. all-has (λ (o : Set). respects_all o is ≡ true) (s ∷ []) o (h, tt) m)

  pub one_set_decides : OneSetDecides n is i
  one_set_decides =
      record {
        each = λ f s e h. holds_has (s ∷ []) i (f (s ∷ []) (e, tt) (alone s h)) s (0, omega arith, λ _. refl);
        all = λ f t w h. has_holds t i (λ o m. f o (all-has (λ (o : Set). length o ≡ n) t o w m) (object_respects t is h o m));
      }

  pub follows_by_closure : (r : Set) → Closure n is i.premise r → FollowsByClosure n is i r
  follows_by_closure r c =
      record {
        contains = λ f. respects_apply r i (one_set_decides.each f r c.width c.respected) c.contains;
        follows = λ h. one_set_decides.all (λ s e k. respects_from s i (λ p. subset_trans i.conclusion r s h (c.least s e p k)));
      }

pub one_closure : (n : ℕ) (is : List Implication) → OneClosure n is
one_closure n is s r q c d =
    subset_antisym r q (c.width ∙ sym d.width) (c.least q d.width d.contains d.respected) (d.least r c.width c.contains c.respected)

pub meet_respects_one : (s t : Set) (i : Implication) → respects s i ≡ true → respects t i ≡ true → respects (meet s t) i ≡ true
meet_respects_one s t i h k =
    respects_from (meet s t) i (λ p. meet_greatest i.conclusion s t
    (respects_apply s i h (subset_trans i.premise (meet s t) s p (meet_left s t)))
    (respects_apply t i k (subset_trans i.premise (meet s t) t p (meet_right s t))))

pub meet_respects : (is : List Implication) → MeetRespects is
meet_respects is s t h k = has_respects (meet s t) is (λ i m. meet_respects_one s t i (respects_has s is h i m) (respects_has t is k i m))
