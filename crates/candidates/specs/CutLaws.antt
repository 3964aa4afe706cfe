-- Laws of the cut: nothing is cut off where the viable stops are not more than the limit; and it is the sheet's. Assumes nothing.
use Rattle.std.specs.Prelude.{ℕ, ◌+◌, ◌-◌, ◌^◌, ◌≤◌, ◌<◌, ◌≡◌, true, false, List, eqb, get_or, Float}
use Rattle.std.proofs.Common.{sym, ap, ◌∙◌, ⊎_elim, arith, lt-ltb, le-ltb, eq-eqb}
use Rattle.std.proofs.Math.Bool.{or-true}
use Rattle.std.specs.Float.{nan}
use Rattle.laws.specs.Bools.{which, both_left}
use Rattle.laws.specs.Folds.{count, count_below}
use Rattle.laws.specs.Counts.{count-lt}
use Rattle.fp.specs.Order.{lt_self}
use Rattle.mask.specs.Mask.{has, built}
use Rattle.mask.specs.MaskLaws.{built_of, built_cong}
use Rattle.assignment.specs.Candidates.{no_limit, keeps, precedes}
use Rattle.candidates.specs.Cut.{comes_before, cut, Reaches}

-- a stop does not come before itself
precedes_self : (x : Float) (j : ℕ) → precedes x j x j ≡ false
unfolding precedes
precedes_self x j = rw (lt_self x, le-ltb j j (omega arith))

-- fewer viable stops come before a viable one than there are
pub before_less : (viable : ℕ) (ds : List Float) (j : ℕ) → j < 64 → has viable j ≡ true
    → count (comes_before viable ds j) 64 < count (has viable) 64
unfolding comes_before
before_less viable ds j l v =
    count-lt (comes_before viable ds j) (has viable) 64 j l
    (λ k lk e. both_left (has viable k) (precedes (get_or ds k nan) k (get_or ds j nan) j) e)
    (rw (v, precedes_self (get_or ds j nan) j))
    v

-- a limit that is none, or not below the number of viable stops, keeps them all
all_kept : (viable : ℕ) (ds : List Float) (limit : ℕ) → ((j : ℕ) → j < 64 → has viable j ≡ true → keeps limit
    (count (comes_before viable ds j) 64) ≡ true)
    → viable < 2 ^ 64 → viable ≡ built (cut viable ds limit) 64
unfolding cut
all_kept viable ds limit h small =
    sym (built_of viable small)
    ∙ built_cong (has viable) (cut viable ds limit) 64
    (λ j l. ⊎_elim
    (λ (v : has viable j ≡ true). rw (v, h j l v))
    (λ (v : has viable j ≡ false). rw v)
    (which (has viable j)))

pub none_cut : (viable : ℕ) (ds : List Float) (limit : ℕ) → limit ≡ no_limit → viable < 2 ^ 64 → viable ≡ built (cut viable ds limit) 64
unfolding keeps
none_cut viable ds limit e small = all_kept viable ds limit (λ j l v. rw (eq-eqb limit no_limit e)) small

pub few_cut : (viable : ℕ) (ds : List Float) (limit : ℕ) → count (has viable) 64 ≤ limit → viable < 2 ^ 64
    → viable ≡ built (cut viable ds limit) 64
unfolding keeps
few_cut viable ds limit e small =
    all_kept viable ds limit
    (λ j l v.
    let b = before_less viable ds j l v in
    rw (lt-ltb (count (comes_before viable ds j) 64) limit (omega arith)) (or-true (eqb limit no_limit)))
    small

-- those that come before a stop are counted up to where the viable stops reach
pub count_reach : (viable : ℕ) (ds : List Float) (j e : ℕ) → Reaches viable e
    → count (comes_before viable ds j) e ≡ count (comes_before viable ds j) 64
unfolding comes_before
count_reach viable ds j e h =
    let whole : e + (64 - e) ≡ 64 = omega (arith, h.within) in
    sym (count_below (comes_before viable ds j) e (64 - e) (λ k l m. rw (h.none k l (omega arith))))
    ∙ ap (count (comes_before viable ds j)) whole
