use Rattle.std.proofs.Common.{ℕ, ◌^◌, ◌<◌, ◌≤◌}
use Rattle.attributes.specs.Numbers.{set_in}
use Rattle.contexts.specs.Places.{NoneWith}
use Rattle.contexts.specs.Values.{objects_in}
use Rattle.contexts.proofs.context.last_with.Given as goal

abbrev pub invariant-loop-place : goal.invariant-loop-place
invariant-loop-place l =
    (l.place ≤ l.initial.place) × ((n : ℕ) → n ≤ 16 → l.s.bits < 2 ^ n → NoneWith (objects_in n l.objects) (set_in n l.s.bits) l.place l.initial.place)

abbrev pub decreases-loop-place : goal.decreases-loop-place
decreases-loop-place l = l.place
