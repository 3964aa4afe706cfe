-- stored_passes::compared meets its contract.
use Rattle.stored_passes.specs.Cases.{apart_le, differs_is, head_inside}
use Rattle.stored_passes.specs.Tallies.{tally_is, widened}
use Rattle.std.proofs.Common.{length-take-le}
use native.Mathlib.Omega.{arith}
use Rattle.stored_passes.proofs.compared.Goals as goal

pub number-requires : goal.number-requires
number-requires c = let h = head_inside c.args.s.now c.args.p c.requires.0 in (omega arith, omega (arith, h))

pub overflow_add-p : goal.overflow_add-p
overflow_add-p c = let h = head_inside c.args.s.now c.args.p c.requires.0 in omega (arith, h)

pub number-requires-2 : goal.number-requires-2
number-requires-2 c = let h = head_inside c.args.s.now c.args.p c.requires.0 in (omega arith, omega (arith, h))

pub met-b-requires : goal.met-b-requires
met-b-requires c = let a = c.args in omega (arith, c.met-a.ensures.1, apart_le a.passed.cars c.number.result)

pub overflow_add-p-2 : goal.overflow_add-p-2
overflow_add-p-2 c = let good = c.well_formed in let h = head_inside c.args.s.now c.args.p c.requires.0 in omega (arith, h)

pub number-requires-3 : goal.number-requires-3
number-requires-3 c = let h = head_inside c.args.s.now c.args.p c.requires.0 in (omega arith, omega (arith, h))

pub met-c-requires : goal.met-c-requires
met-c-requires c = let a = c.args in omega (arith, c.met-a.ensures.1, apart_le a.passed.cars c.number.result, c.met-b.ensures.1, apart_le a.passed.stops c.number-2.result)

pub overflow_add-p-3 : goal.overflow_add-p-3
overflow_add-p-3 c = let good = c.well_formed in let h = head_inside c.args.s.now c.args.p c.requires.0 in omega (arith, h)

pub number-requires-4 : goal.number-requires-4
number-requires-4 c = let h = head_inside c.args.s.now c.args.p c.requires.0 in (omega arith, omega (arith, h))

pub met-d-requires : goal.met-d-requires
met-d-requires c = let a = c.args in omega (arith, c.met-a.ensures.1, apart_le a.passed.cars c.number.result, c.met-b.ensures.1, apart_le a.passed.stops c.number-2.result, c.met-c.ensures.1, apart_le a.passed.total c.number-3.result)

pub entries_met-e-requires : goal.entries_met-e-requires
entries_met-e-requires c =
    let a = c.args in
    let i = c.requires.0 in
    let n = length-take-le a.p.cars a.decisions.now (omega (arith, i.few_cars)) in (
      omega arith,
      omega (arith, n, i.decisions_from, i.cells_from, i.sweeps_from, i.ends, i.inside),
      omega (arith, n, i.few_cars),
      omega (arith, c.met-a.ensures.1, apart_le a.passed.cars c.number.result, c.met-b.ensures.1, apart_le a.passed.stops c.number-2.result, c.met-c.ensures.1, apart_le a.passed.total c.number-3.result, c.met-d.ensures.1, apart_le a.passed.held c.number-4.result),
    )

pub entries_met-f-requires : goal.entries_met-f-requires
entries_met-f-requires c =
    let a = c.args in
    let i = c.requires.0 in
    let few = c.entries_met-e.ensures.few in
    let n = length-take-le a.p.cars a.decisions.now (omega (arith, i.few_cars)) in
    let m = length-take-le a.p.size a.matrix.now (omega (arith, i.few_cells)) in (
      omega arith,
      omega (arith, m, i.sweeps_from, i.ends, i.inside),
      omega (arith, m, i.few_cells),
      omega (arith, n, i.few_cars, c.met-a.ensures.1, apart_le a.passed.cars c.number.result, c.met-b.ensures.1, apart_le a.passed.stops c.number-2.result, c.met-c.ensures.1, apart_le a.passed.total c.number-3.result, c.met-d.ensures.1, apart_le a.passed.held c.number-4.result, few),
    )

pub entries_met-requires : goal.entries_met-requires
entries_met-requires c =
    let a = c.args in
    let i = c.requires.0 in
    let few = c.entries_met-e.ensures.few in
    let few_cells = c.entries_met-f.ensures.few in
    let n = length-take-le a.p.cars a.decisions.now (omega (arith, i.few_cars)) in
    let m = length-take-le a.p.size a.matrix.now (omega (arith, i.few_cells)) in
    let o = length-take-le a.p.records a.sweeps.now (omega (arith, i.few_records)) in (
      omega arith,
      omega (arith, o, i.ends, i.inside),
      omega (arith, o, i.few_records),
      omega (arith, n, m, i.few_cars, i.few_cells, c.met-a.ensures.1, apart_le a.passed.cars c.number.result, c.met-b.ensures.1, apart_le a.passed.stops c.number-2.result, c.met-c.ensures.1, apart_le a.passed.total c.number-3.result, c.met-d.ensures.1, apart_le a.passed.held c.number-4.result, few, few_cells),
    )

pub returns : goal.returns
returns c =
    let a = c.args in
    let i = c.requires.0 in
    let x = c.number.ensures.0 in
    let y = c.number-2.ensures.0 in
    let z = c.number-3.ensures.0 in
    let u = c.number-4.ensures.0 in
    let m = c.met-a.ensures in
    let n = c.met-b.ensures in
    let o = c.met-c.ensures in
    let q = c.met-d.ensures in
    let ld = length-take-le a.p.cars a.decisions.now (omega (arith, i.few_cars)) in
    let lc = length-take-le a.p.size a.matrix.now (omega (arith, i.few_cells)) in
    let lw = length-take-le a.p.records a.sweeps.now (omega (arith, i.few_records)) in
    let d = rw ld at (c.entries_met-e.ensures.is a.decisions.now (widened a.p.cars a.decisions.now)) in
    let e = rw lc at (c.entries_met-f.ensures.is a.matrix.now (widened a.p.size a.matrix.now)) in
    let w = rw lw at (c.entries_met.ensures.is a.sweeps.now (widened a.p.records a.sweeps.now)) in record {
      tally = tally_is a.s.now a.p a.passed.cars a.passed.stops a.passed.total a.passed.held a.decisions.now a.matrix.now a.sweeps.now x y z u m.0 n.0 o.0 q.0 d.0 e.0 w.0;
      differ = differs_is a.s.now a.p a.passed.cars a.passed.stops a.passed.total a.passed.held a.decisions.now a.matrix.now a.sweeps.now x y z u m.1 n.1 o.1 q.1 d.1 e.1 w.1;
    }
