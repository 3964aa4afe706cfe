-- riders::riders_of meets its contract.
use Rattle.riders.specs.Riders.{seats_start, seats_le, seats_length, seats_rides, seats_other, seats_end}
use native.Mathlib.Omega.{arith}
use Rattle.riders.proofs.riders_of.Goals as goal
use Rattle.riders.proofs.riders_of.Goals.{then-aboard-a, else-aboard-a}

pub loop-a-init : goal.loop-a-init
loop-a-init c = (omega arith, seats_start _ _ _ _ _ _)

pub seat-riders-requires : goal.seat-riders-requires
seat-riders-requires c =
    let p = c.requires in
    let h = c.loop-a.invariant.1 in
    let t = c.loop-a-test.true in
    let few = seats_le _ _ _ _ _ _ _ h in
    let len = seats_length _ _ _ _ _ _ _ h (omega (arith, p.buffers.0, t)) (omega (arith, p.buffers.1, t)) in
    (p.stops.0, p.stops.1, omega (arith, p.buffers.0, t, few, len.0.0), omega (arith, p.buffers.1, t, few, len.1.0))

pub loop-a-smaller : goal.loop-a-smaller
loop-a-smaller c = omega (arith, c.loop-a-test.true)

pub shape_of-dests : goal.shape_of-dests
shape_of-dests c =
    let (m, h) = c.loop-a.invariant in
    let p = c.requires in
    (seats_length _ _ _ _ _ _ _ h (omega (arith, p.buffers.0, m)) (omega (arith, p.buffers.1, m))).0.0

pub shape_of-sides : goal.shape_of-sides
shape_of-sides c =
    let (m, h) = c.loop-a.invariant in
    let p = c.requires in
    (seats_length _ _ _ _ _ _ _ h (omega (arith, p.buffers.0, m)) (omega (arith, p.buffers.1, m))).1.0

pub returns : goal.returns
returns c = seats_end _ _ _ _ _ _ _ c.loop-a.invariant.1 _ c.loop-a.invariant.0 c.loop-a-test.false

pub loop-a-preserved : goal.loop-a-preserved
loop-a-preserved c =
    let p = c.requires in
    let l = c.loop-a in
    let t = c.loop-a-test.true in (
      omega (arith, t),
      elim c.if-aboard-a.branch [
        | then-aboard-a w ↦
            rw (w.dests-is, w.sides-is, w.riders-is)
            (seats_rides _ _ _ _ _ _ _ l.invariant.1 (omega (arith, p.buffers.0, t)) (omega (arith, p.buffers.1, t)) w.if-aboard-a.true w.seat-riders.ensures)
        | else-aboard-a w ↦
            rw (w.dests-is, w.sides-is, w.riders-is)
            (seats_other _ _ _ _ _ _ _ l.invariant.1 (omega (arith, p.buffers.0, t)) (omega (arith, p.buffers.1, t)) w.if-aboard-a.false)
      ],
    )
