-- Sets that respect an implication, and contexts for which it holds. Assumes nothing.
use Rattle.std.proofs.Common.{◌≡◌, ℕ, Bool, true, false, not, ◌||◌, length, Decides, refl, sym, ap, ◌∙◌}
use Rattle.std.specs.List.{ContainsAt, AllByRecursion}
use Rattle.std.proofs.ByRecursion.{all-has, Decides-by_and}
use Rattle.attributes.specs.Numbers.{set_in}
use Rattle.attributes.specs.Sets.{Set, complement, subset}
use Rattle.attributes.proofs.Members.{all_from_has}
use Rattle.attributes.proofs.Numbers.{length_set_in}
use Rattle.attributes.proofs.Sets.{subset_complement}
use Rattle.contexts.specs.Contexts.{Context, Implication, respects, holds}

pub respects_apply : (s : Set) (i : Implication) → respects s i ≡ true → subset i.premise s ≡ true → subset i.conclusion s ≡ true
unfolding respects
respects_apply s i = go (subset i.premise s) (subset i.conclusion s)
  where
    go : (p c : Bool) → (not p || c) ≡ true → p ≡ true → c ≡ true
    go true c e f = e
    go false c e f = cc

pub respects_from : (s : Set) (i : Implication) → (subset i.premise s ≡ true → subset i.conclusion s ≡ true) → respects s i ≡ true
unfolding respects
respects_from s i = go (subset i.premise s) (subset i.conclusion s)
  where
    go : (p c : Bool) → (p ≡ true → c ≡ true) → (not p || c) ≡ true
    go true c f = f refl
    go false c f = refl

-- a set breaks an implication if it has the premise and not all of the conclusion
pub breaks : (s : Set) (i : Implication) → respects s i ≡ false → (subset i.premise s ≡ true) × (subset i.conclusion s ≡ false)
unfolding respects
breaks s i = go (subset i.premise s) (subset i.conclusion s)
  where
    go : (p c : Bool) → (not p || c) ≡ false → (p ≡ true) × (c ≡ false)
    go true c e = (refl, e)
    go false c e = (cc, cc)

-- an implication holds exactly if each object respects it
holds_all : (t : Context) (i : Implication) → Decides (holds t i) (AllByRecursion (λ (o : Set). respects o i ≡ true) t)
unfolding holds
holds_all t i = Decides-by_and (λ (o : Set). respects o i) (λ (o : Set). respects o i ≡ true) (λ (u : Context). holds u i) (λ o. (λ e. e, λ e. e)) refl (λ _ _. refl) t

pub holds_has : (t : Context) (i : Implication) → holds t i ≡ true → (o : Set) → ContainsAt t o → respects o i ≡ true
holds_has t i h o m = all-has (λ (o : Set). respects o i ≡ true) t o ((holds_all t i).0 h) m

pub has_holds : (t : Context) (i : Implication) → ((o : Set) → ContainsAt t o → respects o i ≡ true) → holds t i ≡ true
has_holds t i h = (holds_all t i).1 (all_from_has (λ (o : Set). respects o i ≡ true) t h)

-- a set is inside another if it has nothing outside it
pub inside_test : (n : ℕ) (s : Set) (o p : ℕ) (meets : Bool) → length s ≡ n → set_in n o ≡ complement s → meets ≡ not (subset (set_in n o) (complement (set_in n p)))
    → subset (set_in n p) s ≡ not meets
inside_test n s o p meets w outside e =
    sym (subset_complement s (set_in n p) (w ∙ sym (length_set_in n p)))
    ∙ ap (λ (t : Set). subset t (complement (set_in n p))) (sym outside)
    ∙ sym (not_not (subset (set_in n o) (complement (set_in n p))))
    ∙ ap not (sym e)
  where
    not_not : (b : Bool) → not (not b) ≡ b
    not_not true = refl
    not_not false = refl
