use Rattle.std.proofs.Common.{◌≡◌, ◌^◌, ◌<◌, ◌≤◌, true, length, refl, sym, ◌∙◌, rules, arith}
use Rattle.std.specs.Fmt.{IsPlainFormatter, HasWritten}
use Rattle.attributes.specs.Numbers.{set_in}
use Rattle.attributes.specs.Sets.{Set, has}
use Rattle.attributes.proofs.Numbers.{length_set_in}
use Rattle.std.proofs.lemmas.Bool.{eqb-true}
use Rattle.attributes.proofs.Text.{nothing_between, so_far_in, so_far_out, so_far_all}
use Rattle.attributes.proofs.set.write_list.Goals as goal
use Rattle.attributes.proofs.set.write_list.Goals.{then-contains+in_ok-write_str-2, then-not-is_empty+in_ok-write_str, else-not-is_empty, else-contains}

pub loop-attribute-preserved : goal.loop-attribute-preserved
loop-attribute-preserved g c =
    let s : Set = set_in 16 c.args.s.bits in
    let small : c.args.s.bits < 2 ^ 16 = search rules in
    let there : c.loop-attribute.attribute < length s = omega (arith, length_set_in 16 c.args.s.bits, c.loop-attribute-test.true) in
    let tested : has s c.loop-attribute.attribute ≡ c.contains.result = sym (c.contains.ensures 16 small) in
    elim c.if-contains.branch [
      | then-contains+in_ok-write_str-2 w ↦
          let parted : IsPlainFormatter c.loop-attribute.f → HasWritten g.W.Write.write_str_gives c.loop-attribute.f c.loop-attribute.between.now w.if-not-is_empty.f =
          elim w.if-not-is_empty.branch [
            | then-not-is_empty+in_ok-write_str v ↦ λ plain. rw v.f-is (v.in_ok-write_str.ensures.writes plain (refl {a = true}))
            | else-not-is_empty v ↦
                let none : length c.loop-attribute.between.now ≡ 0 = eqb-true (length c.loop-attribute.between.now) 0 (sym w.is_empty.ensures ∙ v.if-not-is_empty.false) in
                λ plain. rw v.f-is (nothing_between g.W.Write.write_str_gives c.loop-attribute.f c.loop-attribute.between.now none plain)
          ]
          in
          rw (w.f-is, w.between-is) (
            search rules,
            so_far_in g.W.Write.write_str_gives s c.args.f.now c.loop-attribute.f c.loop-attribute.between.now c.loop-attribute.attribute c.loop-attribute.invariant.1 w.if-not-is_empty.f w.write_str-then-contains.new.self there (tested ∙ w.if-contains.true)
                parted
                (λ plain. rw (sym w.digits.ensures) (w.in_ok-write_str-2.ensures.writes plain (refl {a = true}))),
          )
      | else-contains w ↦
          rw (w.f-is, w.between-is) (
            c.loop-attribute.invariant.0,
            so_far_out g.W.Write.write_str_gives s c.args.f.now c.loop-attribute.f c.loop-attribute.between.now c.loop-attribute.attribute c.loop-attribute.invariant.1 there (tested ∙ w.if-contains.false),
          )
    ]

pub returns : goal.returns
returns g c plain ok =
    let all : length (set_in 16 c.args.s.bits) ≤ c.loop-attribute.attribute = omega (arith, length_set_in 16 c.args.s.bits, c.loop-attribute-test.false) in
    so_far_all g.W.Write.write_str_gives (set_in 16 c.args.s.bits) c.args.f.now c.loop-attribute.f c.loop-attribute.between.now c.loop-attribute.attribute c.loop-attribute.invariant.1 all plain
