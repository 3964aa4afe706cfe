-- bits::word_past meets its contract.
use mathlib.Core.Path.{◌≡◌, sym, ap, ◌∙◌, subst}
use mathlib.Core.List.{List}
use Prim.Native.Nat.{ℕ, ◌<◌, ◌+◌, ◌-◌, ◌*◌, ◌%◌, ◌^◌}
use native.Mathlib.Omega.{arith}
use borrow.Author.Rules.{rules}
use lib.ListN.{get_or, length, take, drop, length-drop}
use Rattle.std.proofs.lemmas.List.{get_or-drop, take_rest}
use Rattle.bits.specs.Field.{field_at, field_64, field_past}
use Rattle.bits.proofs.NineBytes.{word_grows, word_ends}
use Rattle.bits.proofs.word_past.Goals as goal
use Rattle.bits.proofs.word_past.Goals.{After-from}

rest_length : (s : List ℕ) (k : ℕ) → length (take (length s - k) (drop k s)) ≡ length s - k
rest_length s k = ap length (take_rest s k) ∙ length-drop k s

sum_is : (c : After-from)
    → c.loop-b.r * 2 ^ 8 % 2 ^ 64 + c.from.result
    ≡ field_at c.args.s.now (8 * c.args.k) (8 * (c.loop-b.b-index + 1))
sum_is c =
    let s = c.args.s.now in
    let k = c.args.k in
    let i = c.loop-b.b-index in
    let e : c.from.result ≡ get_or s (k + i) 0 = c.from.ensures ∙ ap (λ (x : List ℕ). get_or x i 0) (take_rest s k) ∙ get_or-drop k s i 0 in
    rw (c.loop-b.invariant, e) (word_grows s k i (omega (arith, rest_length s k)) (c.type_inv.s (k + i)).fits)

pub returns-then-n-k : goal.returns-then-n-k
returns-then-n-k c = let a = c.args in sym (field_past a.s.now (8 * a.k) 64 (omega (arith, c.if-n-k.true)))

pub loop-b-init : goal.loop-b-init
unfolding field_at
loop-b-init c = search rules

pub loop-b-preserved : goal.loop-b-preserved
loop-b-preserved c = sum_is (goal.at.loop-b-preserved c).After-from

pub overflow_add-r : goal.overflow_add-r
overflow_add-r c =
    let a = c.args in
    record {
      fits =
          subst (λ (x : ℕ). x < 2 ^ 64) (sym (sum_is (goal.at.overflow_add-r c).After-from))
          (field_64 a.s.now (8 * a.k) (8 * (c.loop-b.b-index + 1)) (omega (arith, rest_length a.s.now a.k)));
    }

pub returns : goal.returns
returns c =
    let a = c.args in
    let l = c.loop-b in
    rw l.invariant (word_ends a.s.now a.k l.b-index (omega (arith, rest_length a.s.now a.k)) (omega (arith, rest_length a.s.now a.k)))
