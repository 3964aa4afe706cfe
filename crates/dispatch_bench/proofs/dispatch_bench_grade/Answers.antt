-- dispatch_bench::dispatch_bench_grade meets its contract.
use Rattle.dispatch_bench.specs.Answers.{grade_values}
use Rattle.dispatch_bench.proofs.dispatch_bench_grade.Goals as goal

pub returns-in-Ok-Least : goal.returns-in-Ok-Least
returns-in-Ok-Least c = let a = c.args in grade_values c.grade.ensures (rw c.in-Ok-Least.field-0-is at c.in-Ok-Least.is) a.least.now a.offset.now

pub returns-in-Ok-NotShown : goal.returns-in-Ok-NotShown
returns-in-Ok-NotShown c = let a = c.args in grade_values c.grade.ensures (rw c.in-Ok-NotShown.field-0-is at c.in-Ok-NotShown.is) a.least.now a.offset.now

pub returns-in-Err : goal.returns-in-Err
returns-in-Err c = let a = c.args in grade_values c.grade.ensures c.in-Err.is a.least.now a.offset.now
