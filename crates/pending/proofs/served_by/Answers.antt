-- pending::served_by meets its contract.
use Prim.Native.Nat.{ℕ}
use Rattle.components.specs.declared.Line.{Line}
use lib.Dec.{eqb}
use mathlib.Core.Bool.{Bool, true, false, ◌||◌, cond}
use mathlib.Core.Path.{◌≡◌}
use Rattle.pending.proofs.served_by.Goals as goal

wanted : (line : Line) (every : Bool) (id : ℕ) →
    (every || eqb line.id id) ≡ true →
    line.serves ≡ cond (every || eqb line.id id) line.serves 0
wanted line every id is = rw is

not_wanted : (line : Line) (every : Bool) (id : ℕ) →
    (every || eqb line.id id) ≡ false →
    0 ≡ cond (every || eqb line.id id) line.serves 0
not_wanted line every id is = rw is

pub returns-then-every-line : goal.returns-then-every-line
returns-then-every-line c = let a = c.args in wanted a.line a.every a.id c.if-every-line.true

pub returns-else-every-line : goal.returns-else-every-line
returns-else-every-line c = let a = c.args in not_wanted a.line a.every a.id c.if-every-line.false
