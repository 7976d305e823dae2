use Rattle.std.proofs.Common.{ℕ, ◌^◌, ◌<◌, true, false, sym, refl, ◌∙◌, rules}
use Rattle.attributes.proofs.Lectic.{compared}
use Rattle.attributes.proofs.set.AttributeSetOrd.cmp.Goals as goal

pub returns-then-contains : goal.returns-then-contains
returns-then-contains c =
    let a : ℕ = c.args.self.now.bits in
    let b : ℕ = c.args.other.now.bits in
    let first : a < 2 ^ 16 = search rules in
    let second : b < 2 ^ 16 = search rules in
    compared 16 a b first second _ true refl (sym (c.contains.ensures 16 second) ∙ c.if-contains.true)

pub returns-then-contains-2 : goal.returns-then-contains-2
returns-then-contains-2 c =
    let a : ℕ = c.args.self.now.bits in
    let b : ℕ = c.args.other.now.bits in
    let first : a < 2 ^ 16 = search rules in
    let second : b < 2 ^ 16 = search rules in
    compared 16 a b first second true false (sym (c.contains-else-contains.ensures 16 first) ∙ c.if-contains-2.true) (sym (c.contains.ensures 16 second) ∙ c.if-contains.false)

pub returns-else-contains-2 : goal.returns-else-contains-2
returns-else-contains-2 c =
    let a : ℕ = c.args.self.now.bits in
    let b : ℕ = c.args.other.now.bits in
    let first : a < 2 ^ 16 = search rules in
    let second : b < 2 ^ 16 = search rules in
    compared 16 a b first second false false (sym (c.contains-else-contains.ensures 16 first) ∙ c.if-contains-2.false) (sym (c.contains.ensures 16 second) ∙ c.if-contains.false)
