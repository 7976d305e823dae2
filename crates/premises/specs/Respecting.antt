-- The sets that respect a list, in lectic order, and the branches in which the next one is sought. Definitions only.
use Rattle.std.specs.Prelude.{◌≡◌, ℕ, ◌<◌, true, ◌&&◌, List, length, Option}
use Rattle.attributes.specs.Lectic.{precedes, sets}
use Rattle.attributes.specs.Sets.{Set, subset, has}
use Rattle.contexts.specs.Contexts.{Implication}
use Rattle.implications.specs.Implications.{respects_all}
use Rattle.premises.specs.Open.{first}

-- the lectically first set of n attributes that respects the list and comes behind a given one
unfoldable pub next_respecting : ℕ → List Implication → Set → Option Set
next_respecting n is s = first (λ (t : Set). precedes s t && respects_all t is) (sets n)

-- two sets have the same attributes below attribute i
abbrev pub Agree : ℕ → Set → Set → Type 0
Agree i s t = (c : ℕ) → c < i → has s c ≡ has t c

-- t respects the list, has the attributes of s below i and no others there, and has i
pub record NextBranch (n : ℕ) (is : List Implication) (s : Set) (i : ℕ) (t : Set) : Type 0 where
  pub wide : length t ≡ n
  pub agrees : Agree i s t
  pub there : has t i ≡ true
  pub respected : respects_all t is ≡ true

-- m is inside all sets of the branch, and one of them
pub record LeastInBranch (n : ℕ) (is : List Implication) (s : Set) (i : ℕ) (m : Set) : Type 0 where
  pub inside : NextBranch n is s i m
  pub least : (t : Set) → NextBranch n is s i t → subset m t ≡ true
