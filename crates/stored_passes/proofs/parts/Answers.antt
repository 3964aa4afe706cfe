-- stored_passes::parts meets its contract.
use Rattle.stored_passes.specs.Cases.{small_size, parts_short, parts_many, parts_cut, parts_whole}
use native.Mathlib.Omega.{arith}
use Rattle.stored_passes.proofs.parts.Goals as goal

pub overflow_mul-size : goal.overflow_mul-size
overflow_mul-size c = omega (arith, small_size c.args.n c.args.w c.requires.1 c.requires.2)

pub overflow_mul-front-2 : goal.overflow_mul-front-2
overflow_mul-front-2 c = omega (arith, small_size c.args.n c.args.w c.requires.1 c.requires.2)

pub overflow_add-front-2 : goal.overflow_add-front-2
overflow_add-front-2 c = omega (arith, small_size c.args.n c.args.w c.requires.1 c.requires.2)

pub returns-then-left-front : goal.returns-then-left-front
returns-then-left-front c = let a = c.args in (parts_short a.s.now a.end a.n a.w c.if-left-front.true, tt)

pub returns-then-records-gt32 : goal.returns-then-records-gt32
returns-then-records-gt32 c = let a = c.args in (parts_many a.s.now a.end a.n a.w c.if-left-front.false c.number-records.ensures.0 c.if-records-gt32.true, tt)

pub returns-then-left-front-2 : goal.returns-then-left-front-2
returns-then-left-front-2 c =
    let a = c.args in
    (parts_cut a.s.now a.end a.n a.w c.if-left-front.false c.number-records.ensures.0 c.if-records-gt32.false c.if-left-front-2.true, tt)

pub returns : goal.returns
returns c =
    let a = c.args in
    let p = c.requires in (
      parts_whole a.s.now a.end a.n a.w c.if-left-front.false c.number-records.ensures.0 c.if-records-gt32.false c.if-left-front-2.false,
      (
        omega arith,
        record {
          few_cars = p.1;
          few_cells = small_size a.n a.w p.1 p.2;
          few_records = c.if-records-gt32.false;
          decisions_from = omega arith;
          cells_from = omega arith;
          sweeps_from = omega arith;
          ends = omega arith;
          inside = omega (arith, p.0, c.if-left-front-2.false);
        },
      ),
    )
