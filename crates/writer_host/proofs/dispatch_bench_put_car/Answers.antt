-- writer_host::dispatch_bench_put_car meets its contract.
use mathlib.Core.Path.{◌≡◌, refl, ◌∙◌}
use mathlib.Core.Bool.{Bool, true, false, cond}
use Rattle.std.specs.Prelude.{Float, Some, None}
use Rattle.std.specs.Bool.{then_some}
use Rattle.writer_host.specs.Given.{car_of, threshold_of, phase_known}
use Rattle.writer_host.proofs.dispatch_bench_put_car.Goals as goal

some_is : (b : Bool) (x : Float) → then_some b x ≡ cond b (Some x) None
some_is true x = refl
some_is false x = refl

pub returns : goal.returns
unfolding car_of threshold_of phase_known
returns c =
    let put = c.put_record.ensures in (
      c.number.ensures ∙ put.0,
      rw (c.then_some-2.ensures, c.then_some.ensures, some_is, some_is, c.from-3.ensures.0, c.from-2.ensures.0, c.of_code.ensures.is, c.from.ensures) at put.1,
      put.2,
    )
