-- dispatch_bench::dispatch_bench_choose meets its contract.
use mathlib.Core.Path.{sym, ap, ◌∙◌}
use Prim.Native.Nat.{ℕ}
use Rattle.std.specs.Prelude.{Option}
use Rattle.matcher.specs.Promise.{found_of, least_or}
use Rattle.dispatch_bench.proofs.dispatch_bench_choose.Goals as goal

pub returns-in-Some : goal.returns-in-Some
returns-in-Some c =
    let a = c.assign.ensures in
    let e = sym c.in-Some.is ∙ a.0 in record {
      answer = ap found_of e;
      columns = a.1;
      total = ap (λ (m : Option ℕ). least_or m c.args.total.now) e;
    }

pub returns-in-None : goal.returns-in-None
returns-in-None c =
    let a = c.assign.ensures in
    let e = sym c.in-None.is ∙ a.0 in record {
      answer = ap found_of e;
      columns = a.1;
      total = ap (λ (m : Option ℕ). least_or m c.args.total.now) e;
    }
