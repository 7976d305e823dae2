-- The base of the sets that respect a list: it says the same as the list, and no list that does is shorter. Assumes nothing.
use Rattle.std.proofs.Common.{◌≡◌, ℕ, true, List}
use Rattle.std.specs.List.{AllByRecursion}
use Rattle.std.proofs.ByRecursion.{all-has, kept_by_passes}
use Rattle.attributes.specs.Lectic.{sets}
use Rattle.attributes.specs.Sets.{Set}
use Rattle.attributes.proofs.Members.{all_from_has}
use Rattle.contexts.specs.Contexts.{Implication, holds}
use Rattle.contexts.proofs.Holding.{holds_has}
use Rattle.implications.specs.Implications.{Over, respects_all, all_hold, Follows, Complete}
use Rattle.implications.proofs.Respects.{all_hold_has, has_all_hold, objects_hold, one_set_decides}
use Rattle.premises.specs.Forced.{respecting}
use Rattle.premises.proofs.Closures.{respecting_width, has_respecting}
use Rattle.comparisons.specs.Compared.{Equivalent}
use Rattle.bases.specs.Bases.{Base}
use Rattle.bases.specs.Laws.{Shortest}
use Rattle.bases.proofs.Asked.{base_least}

module _ (n : ℕ) (is : List Implication) where
  list_holds : all_hold (respecting n is) is ≡ true
  list_holds = objects_hold (respecting n is) is (λ o m. all-has (λ (s : Set). respects_all s is ≡ true) (respecting n is) o (kept_by_passes (λ (s : Set). respects_all s is) (sets n)) m)

  -- what holds for the sets that respect the list follows from it, and the other way round
  holds_follows : (i : Implication) → holds (respecting n is) i ≡ true → Follows n is i
  holds_follows i h = (one_set_decides n is i).all (λ s w r. holds_has (respecting n is) i h s (has_respecting n is s w r))

  follows_holds : (i : Implication) → Follows n is i → holds (respecting n is) i ≡ true
  follows_holds i f = f (respecting n is) (respecting_width n is) list_holds

-- what follows from a list follows from each from which the list follows
follows_through : (n : ℕ) (is js : List Implication) (i : Implication) → AllByRecursion (Follows n js) is → Follows n is i → Follows n js i
follows_through n is js i each f t w h = f t w (has_all_hold t is (λ j m. all-has (Follows n js) is j each m t w h))

-- a list that says the same is complete for the sets that respect the list
complete_from : (n : ℕ) (is others : List Implication) → Equivalent n is others → Complete n (respecting n is) others
complete_from n is others e =
    record {
      sound = has_all_hold (respecting n is) others (λ i m. follows_holds n is i (all-has (Follows n is) others i e.there m));
      all = λ i over h. follows_through n is others i e.back (holds_follows n is i h);
    }

pub base_shortest : (n : ℕ) (is base : List Implication) → AllByRecursion (Over n) is → Base n (respecting n is) base → Shortest n is base
base_shortest n is base over b =
    let least = base_least n (respecting n is) base (respecting_width n is) b in
    record {
      same =
          record {
            there = all_from_has (Follows n is) base (λ i m. holds_follows n is i (all_hold_has (respecting n is) base least.complete.sound i m));
            back = all_from_has (Follows n base) is (λ i m. least.complete.all i (all-has (Over n) is i over m) (all_hold_has (respecting n is) is (list_holds n is) i m));
          };
      fewest = λ others wide e. least.fewest others wide (complete_from n is others e);
    }
