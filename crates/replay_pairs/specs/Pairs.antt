-- Two sheets that demand 3 speaks of: they "agree in every bit but the policy's limit, which is the higher number in the second". Assumes nothing.
use Rattle.std.specs.Prelude.{Ok}
use Rattle.std.specs.Prelude.{ℕ, ◌≤◌, ◌<◌, ◌≡◌, Bool, true, false, ◌&&◌, ◌||◌, List, ◌≢◌, eqb, ltb, length, get_or}
use Rattle.std.proofs.Common.{sym, ◌∙◌, ⊎_elim, arith, eqb-true, ltb-true, eq-eqb, ne_eqb}
use Rattle.std.proofs.Math.ListN.{get_or-eq_default}
use Rattle.laws.specs.Bools.{both_left, both_right, less?}
use Rattle.laws.specs.Folds.{every, every_at}
use Rattle.layout.specs.declared.Counts.{Counts}
use Rattle.layout.specs.Records.{limit_of}
use Rattle.accepted.specs.SameSheet.{AgreeButLimit}
use Rattle.bench.specs.Done.{Lent, outcome_of}
use Rattle.bench.specs.Demand3.{Pair}

-- the limit is bytes 6 and 7
abbrev pub of_limit : ℕ → Bool
of_limit k = eqb k 6 || eqb k 7

abbrev pub agree_at : List ℕ → List ℕ → ℕ → Bool
agree_at first second k = of_limit k || eqb (get_or first k 0) (get_or second k 0)

unfoldable pub agree : List ℕ → List ℕ → Bool
agree first second = eqb (length first) (length second) && every (agree_at first second) (length first)

unfoldable pub is_pair : List ℕ → List ℕ → Bool
is_pair first second = agree first second && ltb (limit_of first) (limit_of second)

-- ---- laws

module _ (first second : List ℕ) where
  pub agree_no : length first ≢ length second → false ≡ agree first second
  unfolding agree
  agree_no e = rw (ne_eqb (length first) (length second) e)

  pub agree_is : {b : Bool} → length first ≡ length second → b ≡ every (agree_at first second) (length first) → b ≡ agree first second
  unfolding agree
  agree_is e h = rw (eq-eqb (length first) (length second) e) h

  pub pair_is : {b : Bool} {x y : ℕ} → b ≡ agree first second → x ≡ limit_of first → y ≡ limit_of second
      → (b && ltb x y) ≡ is_pair first second
  unfolding is_pair
  pair_is e f g = cc (e, f, g)

agree_but_limit : (first second : List ℕ) → agree first second ≡ true → AgreeButLimit first second
unfolding agree
agree_but_limit first second h k no-6 no-7 =
    let e : length first ≡ length second = eqb-true (length first) (length second) (both_left _ _ h) in
    ⊎_elim
    (λ (l : k < length first).
    let t : agree_at first second k ≡ true = every_at (agree_at first second) (length first) k
    (both_right (eqb (length first) (length second)) _ h) l in
    eqb-true (get_or first k 0) (get_or second k 0) (rw (ne_eqb k 6 no-6, ne_eqb k 7 no-7) at t))
    (λ (l : length first ≤ k). get_or-eq_default first 0 l ∙ sym (get_or-eq_default second 0 (omega arith)))
    (less? k (length first))

-- two sheets that are a pair, both accepted, are a pair of demand 3
pub pair_of : {x y : Lent} {c d : Counts} → outcome_of x ≡ Ok c → outcome_of y ≡ Ok d → is_pair x.bytes y.bytes ≡ true
    → Pair x y c d
unfolding is_pair
pair_of {x} {y} e f h =
    record {
      first_accepted = e;
      second_accepted = f;
      agree = agree_but_limit x.bytes y.bytes (both_left _ _ h);
      higher = ltb-true (limit_of x.bytes) (limit_of y.bytes) (both_right (agree x.bytes y.bytes) _ h);
    }
