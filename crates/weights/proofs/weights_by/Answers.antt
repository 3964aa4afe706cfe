-- weights::weights_by meets its contract.
use Prim.Native.Nat.{ℕ, ◌≤◌}
use Rattle.laws.specs.Tables.{tab, length-tab}
use Rattle.weight_store.specs.Entries.{entry_count}
use Rattle.weight_store.specs.Keys.{key_of, value_of, held_entries}
use Rattle.weight_store.specs.Passed.{refused_few, refused_none}
use Rattle.weights.specs.Answers.{weights_of}
use Rattle.std.proofs.Common.{drop_of_length-le}
use Rattle.std.proofs.Math.Seq.{take_at}
use Rattle.std.proofs.lemmas.List.{length-take-le}
use lib.ListN.{length, take, drop, replicate, length-replicate}
use mathlib.Core.List.{List, ◌++◌, append-nil}
use mathlib.Core.Path.{◌≡◌, sym, ap, ◌∙◌}
use native.Mathlib.Omega.{arith}
use Rattle.weights.proofs.weights_by.Goals as goal

-- the columns' fronts are tables, with nothing past them
front : (f : ℕ → ℕ) (n : ℕ) (r l : List ℕ) → l ≡ tab f n ++ r → take n l ≡ tab f n ++ drop n (replicate n 0)
front f n r l e =
    ap (take n) e ∙ take_at (tab f n) r n (length-tab f n)
    ∙ sym (append-nil (tab f n))
    ∙ ap (λ (x : List ℕ). tab f n ++ x) (sym (drop_of_length-le (replicate n 0) {i = n} (omega (arith, length-replicate {A = ℕ} n 0))))

pub returns-then-is_there : goal.returns-then-is_there
unfolding weights_of
returns-then-is_there c = rw (c.from.ensures, ← c.read_entries-read.ensures.first, ← c.is_there.ensures, c.if-is_there.true, ← c.entry_refusal.ensures)

pub passed_answer-requires : goal.passed_answer-requires
passed_answer-requires c =
    let r = c.read_entries-read in
    let few : r.result ≤ 256 = rw r.ensures.first (refused_few _) in
    omega (arith, c.from-n.ensures, length-take-le c.from-n.result r.new.keys (omega (arith, c.from-n.ensures, r.ensures.first, r.ensures.keys.0, c.requires.0)))

pub returns : goal.returns
unfolding weights_of
returns c =
    let s = c.args.store.now in
    let r = c.read_entries-read in
    let none = sym c.is_there.ensures ∙ c.if-is_there.false in
    let e : entry_count s ≡ r.result = refused_none s r.result r.ensures.first none in
    let held = held_entries s r.result r.result e _ _ (front (key_of s) r.result _ _ r.ensures.keys.1) (front (value_of s) r.result _ _ r.ensures.values.1) in
    let size : length (take r.result r.new.keys) ≡ r.result = length-take-le r.result r.new.keys (omega (arith, r.ensures.first, r.ensures.keys.0, c.requires.0)) in
    rw (← r.ensures.first, none, e, ← held) (rw (c.from-n.ensures, size) at c.passed_answer.ensures)
