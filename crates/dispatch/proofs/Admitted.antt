-- How large the waiters' sums can be in the admitted ranges. Assumes nothing.
use Rattle.std.specs.Prelude.{ℕ, ◌+◌, ◌^◌, ◌≤◌, ◌<◌, Bool, Float}
use Rattle.std.proofs.Common.{arith, lit≤}
use Rattle.std.proofs.Math.Bool.{true, false, cond}
use Rattle.fp.specs.Num as Num
use Rattle.fp.specs.Num.{times, plus, natural, max_zero, fma}
use Rattle.fp.specs.Inside.{AtMost}
use Rattle.fp.specs.Sizes.{natural_size, plus_size, times_size, fold_size}
use Rattle.components.specs.Sheet.{Sheet}
use Rattle.manifest.specs.Manifest.{waits_at}
use Rattle.dispatch.specs.Waits.{wait_ticks, wait_ticks_squared, sum_at, wait_ticks_sum, wait_ticks_squared_sum}
use Rattle.dispatch.specs.Admitted.{Admitted, grow, zero_size}

module _ (s : Sheet) (a : Admitted s) where
  sum_size : (f : ℕ → Float) (j k : ℕ) → k + 512 ≤ 1023 → ((w : ℕ) → w < s.waits → AtMost (2 ^ k) (f (s.waiting w).wait))
      → AtMost (2 ^ (k + 512)) (sum_at s f j)
  unfolding sum_at
  sum_size f j k l h =
      let m = a.waits in
      grow (k + s.waits) (k + 512) (sum_at s f j) (omega arith)
      (fold_size (λ x w. cond (waits_at s j w) (plus x (f (s.waiting w).wait)) x) k s.waits Num.zero (omega arith) (zero_size (2 ^ k))
      (λ w i x lw u v p. by (waits_at s j w) w i x lw u v p))
    where
      by : (b : Bool) (w i : ℕ) (x : Float) → w < s.waits → k ≤ i → i < 1023 → AtMost (2 ^ i) x
          → AtMost (2 ^ (i + 1)) (cond b (plus x (f (s.waiting w).wait)) x)
      by true w i x lw u v p = plus_size i x (f (s.waiting w).wait) v p (grow k i (f (s.waiting w).wait) u (h w lw))
      by false w i x lw u v p = grow i (i + 1) x (omega arith) p

  ticks_size : (w : ℕ) → w < s.waits → AtMost (2 ^ 53) (natural (s.waiting w).wait)
  ticks_size w l = natural_size 53 (s.waiting w).wait (lit≤ tt) (a.wait w l)

  pub waitsum_size : (j : ℕ) → AtMost (2 ^ 565) (wait_ticks_sum s j)
  unfolding wait_ticks_sum
  waitsum_size j = sum_size wait_ticks j 53 (lit≤ tt) ticks_size

  pub squares_size : (j : ℕ) → AtMost (2 ^ 618) (wait_ticks_squared_sum s j)
  unfolding wait_ticks_squared_sum
  squares_size j =
      sum_size wait_ticks_squared j 106 (lit≤ tt)
      (λ w l. times_size 53 53 (natural (s.waiting w).wait) (natural (s.waiting w).wait) (lit≤ tt) (ticks_size w l) (ticks_size w l))
