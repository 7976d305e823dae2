-- Open sets and the first of them. Definitions only.
use Rattle.std.specs.Prelude.{ℕ, Bool, cond, not, ◌&&◌, List, [], ◌∷◌, Some, None, Option}
use Rattle.attributes.specs.Sets.{Set, subset}
use Rattle.attributes.specs.Lectic.{precedes, sets}
use Rattle.contexts.specs.Contexts.{Implication}
use Rattle.implications.specs.Implications.{respects_all}

-- A set is open (a term of this project) if it respects everything confirmed and lacks an attribute that it forces.
-- What a set forces is a parameter: for examples, the attributes that those with its attributes have in common.
unfoldable pub is_open : (Set → Set) → List Implication → Set → Bool
is_open forced confirmed s = respects_all s confirmed && not (subset (forced s) s)

-- the first set of a list that passes the test
unfoldable pub first : (Set → Bool) → List Set → Option Set
first test [] = None
first test (s ∷ ss) = cond (test s) (Some s) (first test ss)

-- the lectically first open set of n attributes
unfoldable pub first_open : ℕ → (Set → Set) → List Implication → Option Set
first_open n forced confirmed = first (is_open forced confirmed) (sets n)

-- the lectically first open set of n attributes that does not precede a given one
unfoldable pub first_open_from : ℕ → (Set → Set) → List Implication → Set → Option Set
first_open_from n forced confirmed from = first (λ (s : Set). not (precedes s from) && is_open forced confirmed s) (sets n)

-- what is asked about a set: has what has its attributes also all that they force?
abbrev pub about : (Set → Set) → Set → Implication
about forced s = record { premise = s; conclusion = forced s }
