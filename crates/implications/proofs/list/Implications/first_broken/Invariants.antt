use Rattle.std.proofs.Common.{◌≡◌, ℕ, ◌<◌, true, get_or}
use Rattle.attributes.specs.Numbers.{set_in}
use Rattle.contexts.specs.Contexts.{respects}
use Rattle.implications.specs.Lists.{said_by}
use Rattle.implications.specs.Places.{no_implication}
use Rattle.implications.proofs.list.Implications.first_broken.Given as goal

-- the set respects all implications so far
abbrev pub invariant-loop-place : goal.invariant-loop-place
invariant-loop-place l = (k : ℕ) → k < l.place → respects (set_in l.self.n.value l.fn.s.bits) (get_or (said_by l.self) k no_implication) ≡ true
