-- What is asked is settled neither way by what was answered, and the questions never go back. Assumes nothing.
use Rattle.std.proofs.Common.{◌≡◌, true, false, [], ◌∷◌, subst, inl, inr}
use Rattle.std.proofs.lemmas.Bool.{both_ways, cases_Bool}
use Rattle.attributes.specs.Sets.{Set}
use Rattle.attributes.specs.Lectic.{precedes}
use Rattle.attributes.proofs.Members.{has_here, has_there, has_cases}
use Rattle.contexts.specs.Contexts.{Context, common, holds}
use Rattle.contexts.proofs.Holding.{holds_has}
use Rattle.implications.specs.Implications.{respects_all}
use Rattle.implications.proofs.Respects.{object_respects, objects_hold}
use Rattle.premises.specs.Open.{is_open}
use Rattle.premises.proofs.Open.{open_from}
use Rattle.dialogues.specs.Dialogue.{Knowledge, nothing_known, after, Truthful}
use Rattle.dialogues.specs.Promise.{learnt, NothingSettledIsAsked, NeverGoesBack}
use Rattle.dialogues.proofs.Finish.{nothing_fits}
use Rattle.dialogues.proofs.Asked.{Asks, asks, asks_holds, passed}
use Rattle.dialogues.proofs.Reached.{Reached, reached_after, reached_learnt}
use Rattle.dialogues.proofs.Run.{breaks_itself}
use Rattle.dialogues.proofs.Truth.{Fits, Grows, grows_after, retold}

pub nothing_settled_is_asked : NothingSettledIsAsked
nothing_settled_is_asked n yard answers honest q e =
    record {
      yes_yard = k.examples;
      yes_honest = record { wide = reached.wide; truthful = again k.examples examples_fit };
      yes_holds = asks_holds n k.examples reached.wide k.confirmed q a;
      no_yard = q.premise ∷ k.examples;
      no_honest = record { wide = (a.wide, reached.wide); truthful = again (q.premise ∷ k.examples) premise_fits };
      no_fails = elim (cases_Bool (holds (q.premise ∷ k.examples) q)) [
        | inl h ↦ absurd (breaks_itself n k.examples k.confirmed q a (holds_has (q.premise ∷ k.examples) q h q.premise (has_here q.premise k.examples)))
        | inr h ↦ h
      ];
    }
  where
    k : Knowledge
    k = learnt n answers

    reached : Reached n [] k
    reached = reached_learnt n answers

    a : Asks n k.confirmed k.examples q
    a = asks n k.confirmed k.examples q e

    again : (t : Context) → Fits t k → Truthful n t nothing_known answers
    again = retold n yard honest.wide nothing_known (nothing_fits yard) answers honest.truthful

    -- the examples alone
    examples_fit : Fits k.examples k
    examples_fit = record { hold = reached.hold; stand = λ s m. m }

    -- the examples and an object with the attributes of the premise
    premise_fits : Fits (q.premise ∷ k.examples) k
    premise_fits =
        record {
          hold = objects_hold (q.premise ∷ k.examples) k.confirmed (λ o m. elim (has_cases q.premise k.examples o m) [
            | inl f ↦ subst (λ (s : Set). respects_all s k.confirmed ≡ true) f a.respected
            | inr h ↦ object_respects k.examples k.confirmed reached.hold o h
          ]);
          stand = λ s m. has_there q.premise k.examples s m;
        }

pub never_goes_back : NeverGoesBack
never_goes_back n answers answer q r e f =
    elim (cases_Bool (precedes r.premise q.premise)) [
      | inl p ↦ absurd (both_ways (is_open (common n l.examples) l.confirmed r.premise) (shut_before p) opens)
      | inr p ↦ p
    ]
  where
    k : Knowledge
    k = learnt n answers

    l : Knowledge
    l = after n k answer

    reached : Reached n [] l
    reached = reached_after n [] k (reached_learnt n answers) answer

    grows : Grows k l
    grows = grows_after n k answer

    b : Asks n l.confirmed l.examples r
    b = asks n l.confirmed l.examples r f

    shut_before : precedes r.premise q.premise ≡ true → is_open (common n l.examples) l.confirmed r.premise ≡ false
    shut_before =
        passed n k.examples l.examples reached.wide grows.examples k.confirmed l.confirmed grows.confirmed q (asks n k.confirmed k.examples q e) r.premise b.wide

    opens : is_open (common n l.examples) l.confirmed r.premise ≡ true
    opens = open_from (common n l.examples) l.confirmed r.premise b.respected (rw b.concludes at b.opens)
