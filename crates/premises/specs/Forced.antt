-- What a set forces under a list of implications. Definitions only.
use Rattle.std.specs.Prelude.{ℕ, List, filter}
use Rattle.attributes.specs.Lectic.{sets}
use Rattle.attributes.specs.Sets.{Set}
use Rattle.contexts.specs.Contexts.{Context, Implication, common}
use Rattle.implications.specs.Implications.{respects_all}

-- the context of all sets of n attributes that respect the list
abbrev pub respecting : ℕ → List Implication → Context
respecting n is = filter (λ (s : Set). respects_all s is) (sets n)

-- the closure of a set under the list: what the sets that respect it have in common
abbrev pub closure : ℕ → List Implication → Set → Set
closure n is s = common n (respecting n is) s
