-- The base of a context: it is what explorations confirm, it is least, and there is one. Assumes nothing.
use Rattle.std.proofs.Common.{◌≡◌, ℕ, true, List, [], ◌∷◌, ◌++◌, sym, ◌∙◌, subst, append_assoc, append-nil}
use Rattle.std.specs.List.{ContainsAt, AllByRecursion}
use Rattle.std.proofs.ByRecursion.{all-has, All-weaker}
use Rattle.contexts.specs.Contexts.{Context, OfWidth, Implication, holds}
use Rattle.implications.specs.Implications.{Over, Complete, Least}
use Rattle.implications.proofs.Respects.{has_all_hold}
use Rattle.dialogues.proofs.Finish.{yard_run, run_shut, fits_learnt}
use Rattle.dialogues.proofs.Least.{shut_follows, fewest}
use Rattle.dialogues.proofs.Asked.{Shut, asks, asked, none_asked, shut_asks_none, asks_concluded, asks_holds}
use Rattle.dialogues.proofs.Reached.{reached_learnt}
use Rattle.dialogues.proofs.Run.{Run, Later, run_later, same_run}
use Rattle.bases.specs.Bases.{AskedInTurn, Base}
use Rattle.bases.specs.Laws.{ExploredBase, OneBase}

module _ (n : ℕ) (u : Context) where
  -- what is asked in turn is a run, after which nothing is open
  pub turn_run : (is rs : List Implication) → AskedInTurn n u is rs → Run n u is rs
  turn_run is [] t = tt
  turn_run is (r ∷ rs) t = (asks n is u r t.0, turn_run (is ++ r ∷ []) rs t.1)

  pub turn_shut : (is rs : List Implication) → AskedInTurn n u is rs → Shut n (is ++ rs) u
  turn_shut is [] t = rw append-nil (none_asked n is u t)
  turn_shut is (r ∷ rs) t = subst (λ (l : List Implication). Shut n l u) (append_assoc is (r ∷ []) rs) (turn_shut (is ++ r ∷ []) rs t.1)

  pub run_turn : (is rs : List Implication) → Run n u is rs → Shut n (is ++ rs) u → AskedInTurn n u is rs
  run_turn is [] run shut = shut_asks_none n is u (rw append-nil at shut)
  run_turn is (r ∷ rs) run shut =
      (asked n is u r run.0, run_turn (is ++ r ∷ []) rs run.1 (subst (λ (l : List Implication). Shut n l u) (sym (append_assoc is (r ∷ []) rs)) shut))

  -- the members of a run are implications of n attributes
  pub run_over : OfWidth n u → (rs : List Implication) → Run n u [] rs → AllByRecursion (Over n) rs
  run_over wide rs run = All-weaker (Later n u []) (Over n) (λ r l. (l.2.wide, asks_concluded n u wide l.0 r l.2)) rs (run_later n u [] rs run)

  module _ (wide : OfWidth n u) (base : List Implication) (b : Base n u base) where
    member_holds : (r : Implication) → ContainsAt base r → holds u r ≡ true
    member_holds r m = let l : Later n u [] r = all-has (Later n u []) base r (run_later n u [] base (turn_run [] base b)) m in asks_holds n u wide l.0 r l.2

    pub base_complete : Complete n u base
    base_complete = record { sound = has_all_hold u base member_holds; all = λ i over h. shut_follows n u wide base (turn_shut [] base b) i over.1 h }

pub base_least : (n : ℕ) (u : Context) (base : List Implication) → OfWidth n u → Base n u base → Least n u base
base_least n u base wide b =
    record {
      complete = base_complete n u wide base b;
      fewest = fewest n u wide [] base (turn_run n u [] base b) (turn_shut n u [] base b);
    }

pub one_base : OneBase
one_base n u base other b c = same_run n u [] base other (turn_run n u [] base b) (turn_run n u [] other c) (turn_shut n u [] base b) (turn_shut n u [] other c)

pub base_explored : (n : ℕ) (u : Context) (base : List Implication) → OfWidth n u → Base n u base → ExploredBase n u base
base_explored n u base wide b =
    record {
      least = base_least n u base wide b;
      explored = λ answers honest finished.
          let r = reached_learnt n answers in
          let fits = fits_learnt n u answers honest in
          r.confirmed
          ∙ same_run n u [] r.rules base (yard_run n u honest.wide [] _ r fits) (turn_run n u [] base b)
          (run_shut n u honest.wide [] _ r fits finished) (turn_shut n u [] base b);
    }
