use Rattle.std.proofs.Common.{◌<◌, arith}
use Rattle.bases.proofs.Turns.{writing_none, writing_few, writing_more, writing_end}
use Rattle.bases.proofs.writing.write_base.Goals as goal

pub loop-asked-init : goal.loop-asked-init
loop-asked-init g c = (omega arith, rw c.empty-from.ensures (writing_none _ _ _))

pub put-requires : goal.put-requires
put-requires g c =
    let few : c.loop-asked.count < 4096 =
    writing_few (g.met.F.HasContext.common c.args.forces.now) c.loop-asked.invariant.1 c.in-Some.asked c.in-Some.ensures.value (g.met.F.HasContext.few c.args.forces.now) in
    omega arith

pub loop-asked-smaller : goal.loop-asked-smaller
loop-asked-smaller g c =
    let few : c.loop-asked.count < 4096 =
    writing_few (g.met.F.HasContext.common c.args.forces.now) c.loop-asked.invariant.1 c.in-Some.asked c.in-Some.ensures.value (g.met.F.HasContext.few c.args.forces.now) in
    omega arith

pub loop-asked-preserved : goal.loop-asked-preserved
loop-asked-preserved g c =
    let few : c.loop-asked.count < 4096 =
    writing_few (g.met.F.HasContext.common c.args.forces.now) c.loop-asked.invariant.1 c.in-Some.asked c.in-Some.ensures.value (g.met.F.HasContext.few c.args.forces.now) in (
      omega arith,
      rw c.put.ensures
          (writing_more (g.met.F.HasContext.common c.args.forces.now) c.loop-asked.invariant.1 c.in-Some.asked c.in-Some.ensures.value
          c.in-Some.ensures.bound.0 c.in-Some.ensures.bound.1 (omega arith)),
    )

pub returns : goal.returns
returns g c = writing_end (g.met.F.HasContext.common c.args.forces.now) c.loop-asked.invariant.1 c.in_default.ensures.value
