-- Sums of f 0 .. f (n - 1), and a function with one place changed. Assumes nothing.
use Rattle.std.specs.Prelude.{◌≡◌, refl, cond, ◌≢◌, ℕ, zero, suc, ◌+◌, ◌*◌, ◌≤◌, ◌<◌, eqb}
use Rattle.std.proofs.Common.{sym, ap, ⊎_elim, add-one, suc-mul, arith, eq-eqb, ne_eqb}
use Rattle.laws.specs.Bools.{same?}

unfoldable pub sum : ℕ → (ℕ → ℕ) → ℕ
sum zero f = 0
sum (suc n) f = sum n f + f n

pub sum_next : (n : ℕ) (f : ℕ → ℕ) → sum (n + 1) f ≡ sum n f + f n
unfolding sum
sum_next n f = ap (λ (x : ℕ). sum x f) (add-one n)

pub sum_mono : (n : ℕ) {f g : ℕ → ℕ} → ((k : ℕ) → k < n → f k ≤ g k) → sum n f ≤ sum n g
unfolding sum
sum_mono zero h = omega arith
sum_mono (suc n) h = omega (arith, sum_mono n (λ k l. h k (omega arith)), h n (omega arith))

pub sum_cong : (n : ℕ) {f g : ℕ → ℕ} → ((k : ℕ) → k < n → f k ≡ g k) → sum n f ≡ sum n g
unfolding sum
sum_cong zero h = refl
sum_cong (suc n) h = omega (arith, sum_cong n (λ k l. h k (omega arith)), h n (omega arith))

pub sum-add : (n : ℕ) (f g : ℕ → ℕ) → sum n (λ k. f k + g k) ≡ sum n f + sum n g
unfolding sum
sum-add zero f g = refl
sum-add (suc n) f g = omega (arith, sum-add n f g)

pub sum-zero : (n : ℕ) {f : ℕ → ℕ} → ((k : ℕ) → k < n → f k ≡ 0) → sum n f ≡ 0
unfolding sum
sum-zero zero h = refl
sum-zero (suc n) h = omega (arith, sum-zero n (λ k l. h k (omega arith)), h n (omega arith))

-- n parts of at most b each
pub sum-le : (n b : ℕ) {f : ℕ → ℕ} → ((k : ℕ) → k < n → f k ≤ b) → sum n f ≤ n * b
unfolding sum
sum-le zero b h = omega arith
sum-le (suc n) b h = omega (arith, sum-le n b (λ k l. h k (omega arith)), h n (omega arith), suc-mul n b)

-- n parts of b each
pub sum_same : (n b : ℕ) {f : ℕ → ℕ} → ((k : ℕ) → k < n → f k ≡ b) → sum n f ≡ n * b
unfolding sum
sum_same zero b h = omega arith
sum_same (suc n) b h = omega (arith, sum_same n b (λ k l. h k (omega arith)), h n (omega arith), suc-mul n b)

-- one part of a sum is at most the sum
pub sum_part : (n : ℕ) (f : ℕ → ℕ) (k : ℕ) → k < n → f k ≤ sum n f
unfolding sum
sum_part zero f k l = absurd (omega arith)
sum_part (suc n) f k l = ⊎_elim (λ (e : k ≡ n). rw e (omega arith)) (λ ne. omega (arith, sum_part n f k (omega arith))) (same? k n)

-- ---- f, but v at i

abbrev pub upd : {A : Type 0} → (ℕ → A) → ℕ → A → ℕ → A
upd f i v j = cond (eqb j i) v (f j)

pub upd_same : {A : Type 0} (f : ℕ → A) (i : ℕ) (v : A) (j : ℕ) → j ≡ i → upd f i v j ≡ v
upd_same f i v j e = rw (eq-eqb j i e)

pub upd_other : {A : Type 0} (f : ℕ → A) (i : ℕ) (v : A) (j : ℕ) → j ≢ i → upd f i v j ≡ f j
upd_other f i v j e = rw (ne_eqb j i e)

-- the sum with the i-th part taken out
pub sum_upd : (n : ℕ) (f : ℕ → ℕ) (i : ℕ) → i < n → sum n f ≡ f i + sum n (upd f i 0)
unfolding sum
sum_upd zero f i l = absurd (omega arith)
sum_upd (suc n) f i l =
    ⊎_elim
    (λ (e : i ≡ n).
    let same : sum n (upd f i 0) ≡ sum n f = sum_cong n (λ k l. upd_other f i 0 k (omega arith)) in
    let at : f n ≡ f i = ap f (sym e) in
    omega (arith, upd_same f i 0 n (sym e)))
    (λ e. omega (arith, sum_upd n f i (omega arith), upd_other f i 0 n (λ q. e (sym q))))
    (same? i n)

-- parts each at most another's, and one of them less: the sum is less
pub sum_lt : (n : ℕ) {f g : ℕ → ℕ} (i : ℕ) → i < n → ((k : ℕ) → k < n → f k ≤ g k) → f i < g i → sum n f < sum n g
unfolding sum
sum_lt zero i l h s = absurd (omega arith)
sum_lt (suc n) {f} {g} i l h s =
    ⊎_elim
    (λ (e : i ≡ n).
    let fe : f i ≡ f n = ap f e in
    let ge : g i ≡ g n = ap g e in
    omega (arith, sum_mono n {f = f} {g = g} (λ k lk. h k (omega arith))))
    (λ ne. omega (arith, sum_lt n {f = f} {g = g} i (omega arith) (λ k lk. h k (omega arith)) s, h n (omega arith)))
    (same? i n)

-- the first part of a sum, and the rest
pub sum_front : (n : ℕ) (f : ℕ → ℕ) → sum (suc n) f ≡ f 0 + sum n (λ k. f (suc k))
unfolding sum
sum_front zero f = omega arith
sum_front (suc n) f = omega (arith, sum_front n f)

-- n ones
pub sum_one : (n : ℕ) → sum n (λ k. 1) ≡ n
unfolding sum
sum_one zero = refl
sum_one (suc n) = omega (arith, sum_one n)
