use denote.Shadow.{shadow}
use denote.Text.{Utf8}
use Rattle.attributes.specs.Numbers.{set_in}
use Rattle.attributes.proofs.Text.{SoFar}
use Rattle.attributes.proofs.set.write_list.Given as goal

abbrev pub invariant-loop-attribute : goal.invariant-loop-attribute
invariant-loop-attribute g l = shadow (Utf8 l.between) × SoFar g.W.Write.write_str_gives (set_in 16 l.s.bits) l.initial.f l.f l.between l.attribute
