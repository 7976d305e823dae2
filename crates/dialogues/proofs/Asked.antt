-- What is asked, by its parts; and with what is true of a yard, what its examples ask the yard itself asks. Assumes nothing.
use Rattle.std.proofs.Common.{◌≡◌, ℕ, true, false, List, length, Some, None, Option, sym, refl, ap, ◌∙◌, subst}
use Rattle.std.specs.Option.{option_map}
use Rattle.std.specs.List.{ContainsAt}
use Rattle.std.proofs.ByRecursion.{all-has}
use Rattle.attributes.specs.Sets.{Set, subset}
use Rattle.attributes.specs.Lectic.{precedes, sets}
use Rattle.attributes.proofs.Members.{all_from_has}
use Rattle.attributes.proofs.Sets.{subset_refl, subset_trans, subset_antisym}
use Rattle.contexts.specs.Contexts.{Context, OfWidth, Implication, common, holds}
use Rattle.contexts.proofs.CommonAttributes.{length_common, common_fewer, holds_by_common}
use Rattle.implications.specs.Implications.{respects_all}
use Rattle.premises.specs.Open.{is_open, first, first_open}
use Rattle.premises.specs.Laws.{IsFirst}
use Rattle.std.proofs.lemmas.Option.{none-some}
use Rattle.premises.proofs.First.{first_laws}
use Rattle.premises.proofs.Open.{open_parts, open_from, shut, shut_from, stays_shut}
use Rattle.dialogues.specs.Dialogue.{Knowledge, question}

-- the question about a context t with the implications is: its premise is the first set that respects them and is not closed
pub record Asks (n : ℕ) (is : List Implication) (t : Context) (q : Implication) : Type 0 where
  pub wide : length q.premise ≡ n
  pub concludes : q.conclusion ≡ common n t q.premise
  pub respected : respects_all q.premise is ≡ true
  pub opens : subset q.conclusion q.premise ≡ false
  pub earlier : (s : Set) → length s ≡ n → precedes s q.premise ≡ true → respects_all s is ≡ true → subset (common n t s) s ≡ true

-- each set that respects the implications is closed
abbrev pub Shut : ℕ → List Implication → Context → Type 0
Shut n is t = (s : Set) → length s ≡ n → respects_all s is ≡ true → subset (common n t s) s ≡ true

abbrev pub known : List Implication → Context → Knowledge
known is t = record { confirmed = is; examples = t }

module _ (n : ℕ) (is : List Implication) (t : Context) where
  abbrev about : Set → Implication
  about s = record { premise = s; conclusion = common n t s }

  asks_first : (s : Set) → IsFirst n (is_open (common n t) is) s → Asks n is t (about s)
  asks_first s f =
      let parts = open_parts (common n t) is s f.passes in
      record {
        wide = f.wide;
        concludes = refl;
        respected = parts.0;
        opens = parts.1;
        earlier = λ r w p. shut (common n t) is r (f.earlier r w p);
      }

  pub asks : (q : Implication) → question n (known is t) ≡ Some q → Asks n is t q
  unfolding question first_open
  asks q e = go (first (is_open (common n t) is) (sets n)) refl e
    where
      go : (o : Option Set) → first (is_open (common n t) is) (sets n) ≡ o → option_map about o ≡ Some q → Asks n is t q
      go None f g = absurd (none-some _ g)
      go (Some s) f g = let same : about s ≡ q = cc in rw same at (asks_first s ((first_laws n (is_open (common n t) is)).found s f))

  pub asked : (q : Implication) → Asks n is t q → question n (known is t) ≡ Some q
  unfolding question first_open
  asked q a =
      ap (option_map about) ((first_laws n (is_open (common n t) is)).only q.premise found)
      ∙ ap {B = Option Implication} Some (λ j. record { premise = q.premise; conclusion = sym a.concludes j })
    where
      found : IsFirst n (is_open (common n t) is) q.premise
      found =
          record {
            wide = a.wide;
            passes = open_from (common n t) is q.premise a.respected (rw a.concludes at a.opens);
            earlier = λ r w p. shut_from (common n t) is r (a.earlier r w p);
          }

  pub none_asked : question n (known is t) ≡ None → Shut n is t
  unfolding question first_open
  none_asked e = go (first (is_open (common n t) is) (sets n)) refl e
    where
      go : (o : Option Set) → first (is_open (common n t) is) (sets n) ≡ o → option_map about o ≡ None → Shut n is t
      go None f g = λ s w. shut (common n t) is s ((first_laws n (is_open (common n t) is)).none f s w)
      go (Some s) f g = absurd (none-some _ (sym g))

  pub shut_asks_none : Shut n is t → question n (known is t) ≡ None
  unfolding question first_open
  shut_asks_none h = ap (option_map about) ((first_laws n (is_open (common n t) is)).nothing (λ s w. shut_from (common n t) is s (h s w)))

-- what a context asks holds for it
module _ (n : ℕ) (t : Context) (wide : OfWidth n t) (is : List Implication) (q : Implication) (a : Asks n is t q) where
  pub asks_concluded : length q.conclusion ≡ n
  asks_concluded = ap length a.concludes ∙ length_common n t q.premise wide

  pub asks_holds : holds t q ≡ true
  asks_holds = holds_by_common n t q asks_concluded ∙ subst (λ (c : Set). subset q.conclusion c ≡ true) a.concludes (subset_refl q.conclusion)

-- t: the examples, which stand in the yard u
module _ (n : ℕ) (t u : Context) (wide : OfWidth n u) (stand : (o : Set) → ContainsAt t o → ContainsAt u o) where
  -- a set that is closed among the examples is closed in the yard
  pub stays_closed : (s : Set) → subset (common n t s) s ≡ true → subset (common n u s) s ≡ true
  stays_closed s = subset_trans (common n u s) (common n t s) s (common_fewer n t u s wide stand)

  narrow : OfWidth n t
  narrow = all_from_has (λ (o : Set). length o ≡ n) t (λ o m. all-has (λ (o : Set). length o ≡ n) u o wide (stand o m))

  -- a question that is true of the yard is what the yard asks
  pub same_question : (is : List Implication) (q : Implication) → Asks n is t q → holds u q ≡ true → Asks n is u q
  same_question is q a h =
      record {
        wide = a.wide;
        concludes =
            subset_antisym q.conclusion (common n u q.premise) (concluded ∙ sym (length_common n u q.premise wide))
            (sym (holds_by_common n u q concluded) ∙ h) (rw a.concludes (common_fewer n t u q.premise wide stand));
        respected = a.respected;
        opens = a.opens;
        earlier = λ s w p r. stays_closed s (a.earlier s w p r);
      }
    where
      concluded : length q.conclusion ≡ n
      concluded = asks_concluded n t narrow is q a

  pub same_end : (is : List Implication) → Shut n is t → Shut n is u
  same_end is h s w r = stays_closed s (h s w r)

  -- a set that precedes what was asked about is not open once more is known
  pub passed : (is more : List Implication) → ((i : Implication) → ContainsAt is i → ContainsAt more i) → (q : Implication) → Asks n is t q → (s : Set) → length s ≡ n → precedes s q.premise ≡ true → is_open (common n u) more s ≡ false
  passed is more add q a s w p = stays_shut (common n t) (common n u) is more s add (common_fewer n t u s wide stand) (shut_from (common n t) is s (a.earlier s w p))
