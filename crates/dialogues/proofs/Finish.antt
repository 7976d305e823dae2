-- The end of a truthful dialogue: what is confirmed is least for the yard and determined by it, and the examples tell what holds. Assumes nothing.
use Rattle.std.proofs.Common.{◌≡◌, ℕ, ◌≤◌, List, [], ◌++◌, length, None, sym, refl, ◌∙◌, subst, arith}
use Rattle.std.specs.List.{ContainsAt, AllByRecursion}
use Rattle.std.proofs.ByRecursion.{has_append_right}
use Rattle.std.proofs.lemmas.Bool.Decides.{same_from_decides}
use Rattle.contexts.specs.Contexts.{Context, OfWidth, Implication, holds}
use Rattle.contexts.proofs.Holding.{holds_has, has_holds}
use Rattle.implications.specs.Implications.{Over, all_hold, Complete}
use Rattle.implications.proofs.Respects.{all_hold_has}
use Rattle.dialogues.specs.Dialogue.{Knowledge, nothing_known, question, Answer}
use Rattle.dialogues.specs.Promise.{learnt, Honest, MainPromise, SameImplications, TruthIsTaken}
use Rattle.dialogues.proofs.Least.{shut_follows, fewest}
use Rattle.dialogues.proofs.Asked.{Shut, none_asked, same_end}
use Rattle.dialogues.proofs.Reached.{Reached, reached_learnt}
use Rattle.dialogues.proofs.Run.{Run, run_grows, same_run}
use Rattle.dialogues.proofs.Truth.{Fits, takes, fits_all}

-- k: what is known of the yard, reached from the implications is
module _ (n : ℕ) (yard : Context) (wide : OfWidth n yard) (is : List Implication) (k : Knowledge) (reached : Reached n is k) (fits : Fits yard k) where
  -- what is confirmed is what the yard itself asks in turn
  pub yard_run : Run n yard is reached.rules
  yard_run =
      run_grows n k.examples yard wide fits.stand is reached.rules
      (λ r m. all_hold_has yard k.confirmed fits.hold r (subst (λ (l : List Implication). ContainsAt l r) (sym reached.confirmed) (has_append_right is reached.rules r m))) reached.run

  module _ (finished : question n k ≡ None) where
    examples_shut : Shut n k.confirmed k.examples
    examples_shut = none_asked n k.confirmed k.examples finished

    yard_shut : Shut n k.confirmed yard
    yard_shut = same_end n k.examples yard wide fits.stand k.confirmed examples_shut

    pub run_shut : Shut n (is ++ reached.rules) yard
    run_shut = subst (λ (l : List Implication). Shut n l yard) reached.confirmed yard_shut

    pub complete : Complete n yard k.confirmed
    complete = record { sound = fits.hold; all = λ i over h. shut_follows n yard wide k.confirmed yard_shut i over.1 h }

    pub examples_tell : (i : Implication) → Over n i → holds k.examples i ≡ holds yard i
    examples_tell i over =
        same_from_decides (holds k.examples i) (holds yard i) (
          λ h. shut_follows n k.examples reached.wide k.confirmed examples_shut i over.1 h yard wide fits.hold,
          λ h. has_holds k.examples i (λ o m. holds_has yard i h o (fits.stand o m)),
        )
        (λ h. h, λ h. h)

    pub no_shorter : (others : List Implication) → AllByRecursion (Over n) others → Complete n yard (is ++ others) → length reached.rules ≤ length others
    no_shorter = fewest n yard wide is reached.rules yard_run run_shut

pub nothing_fits : (yard : Context) → Fits yard nothing_known
unfolding all_hold
nothing_fits yard = record { hold = refl; stand = λ s m. absurd (omega (arith, m.1)) }

pub fits_learnt : (n : ℕ) (yard : Context) (answers : List Answer) → Honest n yard answers → Fits yard (learnt n answers)
fits_learnt n yard answers honest = fits_all n yard honest.wide nothing_known (nothing_fits yard) answers honest.truthful

pub truth_is_taken : TruthIsTaken
truth_is_taken n yard answers honest =
    let fits = fits_learnt n yard answers honest in
    record { confirmed_hold = fits.hold; examples_stand = fits.stand; truth_taken = takes n yard honest.wide (learnt n answers) fits (question n (learnt n answers)) }

pub main_promise : MainPromise
main_promise n yard answers honest finished =
    let k : Knowledge = learnt n answers in
    let reached = reached_learnt n answers in
    let fits = fits_learnt n yard answers honest in
    record {
      least =
          record {
            complete = complete n yard honest.wide [] k reached fits finished;
            fewest = λ others over c. subst (λ (l : List Implication). length l ≤ length others) (sym reached.confirmed) (no_shorter n yard honest.wide [] k reached fits finished others over c);
          };
      examples_tell = examples_tell n yard honest.wide [] k reached fits finished;
    }

pub same_implications : SameImplications
same_implications n yard answers others p q f g =
    let r = reached_learnt n answers in
    let s = reached_learnt n others in
    let fits = fits_learnt n yard answers p in
    let fits_too = fits_learnt n yard others q in
    r.confirmed
    ∙ same_run n yard [] r.rules s.rules (yard_run n yard p.wide [] (learnt n answers) r fits) (yard_run n yard q.wide [] (learnt n others) s fits_too)
    (run_shut n yard p.wide [] (learnt n answers) r fits f) (run_shut n yard q.wide [] (learnt n others) s fits_too g)
    ∙ sym s.confirmed
