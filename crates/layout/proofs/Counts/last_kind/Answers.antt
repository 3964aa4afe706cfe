-- layout::Counts::last_kind meets its contract.
use Rattle.layout.specs.Offsets.{last_kind}
use borrow.Author.Tests.{lt-ltb, le-ltb}
use Rattle.layout.proofs.Counts.last_kind.Goals as goal

pub returns-then-self-gt0 : goal.returns-then-self-gt0
unfolding last_kind
returns-then-self-gt0 c = simp (lt-ltb _ _ c.if-self-gt0.true)

pub returns-then-self-gt0-2 : goal.returns-then-self-gt0-2
unfolding last_kind
returns-then-self-gt0-2 c = simp (le-ltb _ _ c.if-self-gt0.false, lt-ltb _ _ c.if-self-gt0-2.true)

pub returns-then-self-gt0-3 : goal.returns-then-self-gt0-3
unfolding last_kind
returns-then-self-gt0-3 c = simp (le-ltb _ _ c.if-self-gt0.false, le-ltb _ _ c.if-self-gt0-2.false, lt-ltb _ _ c.if-self-gt0-3.true)

pub returns-then-self-gt0-4 : goal.returns-then-self-gt0-4
unfolding last_kind
returns-then-self-gt0-4 c = simp (le-ltb _ _ c.if-self-gt0.false, le-ltb _ _ c.if-self-gt0-2.false, le-ltb _ _ c.if-self-gt0-3.false, lt-ltb _ _ c.if-self-gt0-4.true)

pub returns-then-self-gt0-5 : goal.returns-then-self-gt0-5
unfolding last_kind
returns-then-self-gt0-5 c = simp (le-ltb _ _ c.if-self-gt0.false, le-ltb _ _ c.if-self-gt0-2.false, le-ltb _ _ c.if-self-gt0-3.false, le-ltb _ _ c.if-self-gt0-4.false, lt-ltb _ _ c.if-self-gt0-5.true)

pub returns-then-self-gt0-6 : goal.returns-then-self-gt0-6
unfolding last_kind
returns-then-self-gt0-6 c = simp (le-ltb _ _ c.if-self-gt0.false, le-ltb _ _ c.if-self-gt0-2.false, le-ltb _ _ c.if-self-gt0-3.false, le-ltb _ _ c.if-self-gt0-4.false, le-ltb _ _ c.if-self-gt0-5.false, lt-ltb _ _ c.if-self-gt0-6.true)

pub returns-then-self-gt0-7 : goal.returns-then-self-gt0-7
unfolding last_kind
returns-then-self-gt0-7 c = simp (le-ltb _ _ c.if-self-gt0.false, le-ltb _ _ c.if-self-gt0-2.false, le-ltb _ _ c.if-self-gt0-3.false, le-ltb _ _ c.if-self-gt0-4.false, le-ltb _ _ c.if-self-gt0-5.false, le-ltb _ _ c.if-self-gt0-6.false, lt-ltb _ _ c.if-self-gt0-7.true)

pub returns-then-self-gt0-8 : goal.returns-then-self-gt0-8
unfolding last_kind
returns-then-self-gt0-8 c = simp (le-ltb _ _ c.if-self-gt0.false, le-ltb _ _ c.if-self-gt0-2.false, le-ltb _ _ c.if-self-gt0-3.false, le-ltb _ _ c.if-self-gt0-4.false, le-ltb _ _ c.if-self-gt0-5.false, le-ltb _ _ c.if-self-gt0-6.false, le-ltb _ _ c.if-self-gt0-7.false, lt-ltb _ _ c.if-self-gt0-8.true)

pub returns-else-self-gt0-8 : goal.returns-else-self-gt0-8
unfolding last_kind
returns-else-self-gt0-8 c = simp (le-ltb _ _ c.if-self-gt0.false, le-ltb _ _ c.if-self-gt0-2.false, le-ltb _ _ c.if-self-gt0-3.false, le-ltb _ _ c.if-self-gt0-4.false, le-ltb _ _ c.if-self-gt0-5.false, le-ltb _ _ c.if-self-gt0-6.false, le-ltb _ _ c.if-self-gt0-7.false, le-ltb _ _ c.if-self-gt0-8.false)
