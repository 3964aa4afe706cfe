-- Walks over the indices below a number, upward: a fold, whether some index passes a test, whether every one does, how many do, which is the
-- c-th that does, and what the last that does gives. Assumes nothing.
use Rattle.std.specs.Prelude.{◌≡◌, refl, Bool, true, false, ◌&&◌, ◌||◌, cond, ◌⊎◌, ◌≢◌, ℕ, zero, suc, ◌+◌, ◌≤◌, ◌<◌, eqb}
use Rattle.std.proofs.Common.{sym, ap, ap₂, ◌∙◌, true≢false, ⊎_elim, add-one, arith, eqb-true, eq-eqb, ne_eqb}
use Rattle.std.proofs.Math.Bool.{or-false, and-false}
use Rattle.laws.specs.Bools.{bit, bit-lt, which, never, either, either_left, either_right, both, both_left, both_right, same?}

unfoldable pub fold : {A : Type 0} → (A → ℕ → A) → A → ℕ → A
fold f a zero = a
fold f a (suc k) = f (fold f a k) k

unfoldable pub any : (ℕ → Bool) → ℕ → Bool
any p zero = false
any p (suc k) = any p k || p k

unfoldable pub every : (ℕ → Bool) → ℕ → Bool
every p zero = true
every p (suc k) = every p k && p k

unfoldable pub count : (ℕ → Bool) → ℕ → ℕ
count p zero = 0
count p (suc k) = count p k + bit (p k)

-- the c-th index that passes, counted from 0; 0 where there is none
unfoldable pub nth : (ℕ → Bool) → ℕ → ℕ → ℕ
nth p zero c = 0
nth p (suc k) c = cond (p k && eqb (count p k) c) k (nth p k c)

-- f of the last index that passes, z where none does
unfoldable pub lookup : {A : Type 0} → (ℕ → Bool) → (ℕ → A) → A → ℕ → A
lookup p f z zero = z
lookup p f z (suc k) = cond (p k) (f k) (lookup p f z k)

-- ---- one index more, by the code's k + 1

pub fold_next : {A : Type 0} (f : A → ℕ → A) (a : A) (k : ℕ) → fold f a (k + 1) ≡ f (fold f a k) k
unfolding fold
fold_next f a k = rw add-one

pub any_next : (p : ℕ → Bool) (k : ℕ) → any p (k + 1) ≡ (any p k || p k)
unfolding any
any_next p k = rw add-one

pub every_next : (p : ℕ → Bool) (k : ℕ) → every p (k + 1) ≡ (every p k && p k)
unfolding every
every_next p k = rw add-one

pub count_next : (p : ℕ → Bool) (k : ℕ) → count p (k + 1) ≡ count p k + bit (p k)
unfolding count
count_next p k = rw add-one

pub nth_next : (p : ℕ → Bool) (k c : ℕ) → nth p (k + 1) c ≡ cond (p k && eqb (count p k) c) k (nth p k c)
unfolding nth
nth_next p k c = rw (add-one k)

pub lookup_next : {A : Type 0} (p : ℕ → Bool) (f : ℕ → A) (z : A) (k : ℕ) → lookup p f z (k + 1) ≡ cond (p k) (f k) (lookup p f z k)
unfolding lookup
lookup_next p f z k = rw add-one

-- ---- a turn of a loop that has come to k, as its invariant says it

pub fold_step : {A : Type 0} (f : A → ℕ → A) (a : A) (k : ℕ) {x y : A} → x ≡ fold f a k → y ≡ f x k → y ≡ fold f a (k + 1)
fold_step f a k p q = rw fold_next (q ∙ ap (λ z. f z k) p)

pub any_step : (p : ℕ → Bool) (k : ℕ) {a b : Bool} → a ≡ any p k → b ≡ (a || p k) → b ≡ any p (k + 1)
any_step p k e q = q ∙ ap (λ z. z || p k) e ∙ sym (any_next p k)

pub any_yes : (p : ℕ → Bool) (k : ℕ) {b : Bool} → p k ≡ true → b ≡ true → b ≡ any p (k + 1)
any_yes p k e q = q ∙ sym (any_next p k ∙ either_right (any p k) (p k) e)

pub any_no : (p : ℕ → Bool) (k : ℕ) {b : Bool} → p k ≡ false → b ≡ any p k → b ≡ any p (k + 1)
any_no p k e q = rw (any_next, e, or-false) q

pub every_step : (p : ℕ → Bool) (k : ℕ) {a b : Bool} → a ≡ every p k → b ≡ (a && p k) → b ≡ every p (k + 1)
every_step p k e q = q ∙ ap (λ z. z && p k) e ∙ sym (every_next p k)

pub count_step : (p : ℕ → Bool) (k : ℕ) {n : ℕ} {b : Bool} → n ≡ count p k → b ≡ p k → n + bit b ≡ count p (k + 1)
count_step p k e d = rw (e, d) (sym (count_next p k))

pub count_yes : (p : ℕ → Bool) (k : ℕ) {n : ℕ} → p k ≡ true → n ≡ count p k → n + 1 ≡ count p (k + 1)
count_yes p k e q = rw (count_next p k, e, q)

pub count_no : (p : ℕ → Bool) (k : ℕ) {n : ℕ} → p k ≡ false → n ≡ count p k → n ≡ count p (k + 1)
count_no p k e q = rw (count_next p k, e) (omega arith)

pub lookup_step : {A : Type 0} (p : ℕ → Bool) (f : ℕ → A) (z : A) (k : ℕ) {x y : A} → x ≡ lookup p f z k → y ≡ cond (p k) (f k) x
    → y ≡ lookup p f z (k + 1)
lookup_step p f z k e q = q ∙ ap (λ w. cond (p k) (f k) w) e ∙ sym (lookup_next p f z k)

-- the loop is over
pub ended : {A : Type 0} (f : ℕ → A) {x : A} {i n : ℕ} → i ≤ n → n ≤ i → x ≡ f i → x ≡ f n
ended f {x} {i} {n} l m e = let q : i ≡ n = omega arith in e ∙ ap f q

-- ---- the same walk for tests and steps that agree below n

pub fold_cong : {A : Type 0} (f g : A → ℕ → A) (a : A) (n : ℕ) → ((x : A) (k : ℕ) → k < n → f x k ≡ g x k)
    → fold f a n ≡ fold g a n
unfolding fold
fold_cong f g a zero h = refl
fold_cong f g a (suc n) h = ap (λ x. f x n) (fold_cong f g a n (λ x k l. h x k (omega arith))) ∙ h (fold g a n) n (omega arith)

pub any_cong : (p q : ℕ → Bool) (n : ℕ) → ((k : ℕ) → k < n → p k ≡ q k) → any p n ≡ any q n
unfolding any
any_cong p q zero h = refl
any_cong p q (suc n) h = ap₂ (λ (a b : Bool). a || b) (any_cong p q n (λ k l. h k (omega arith))) (h n (omega arith))

pub every_cong : (p q : ℕ → Bool) (n : ℕ) → ((k : ℕ) → k < n → p k ≡ q k) → every p n ≡ every q n
unfolding every
every_cong p q zero h = refl
every_cong p q (suc n) h = ap₂ (λ (a b : Bool). a && b) (every_cong p q n (λ k l. h k (omega arith))) (h n (omega arith))

pub count_cong : (p q : ℕ → Bool) (n : ℕ) → ((k : ℕ) → k < n → p k ≡ q k) → count p n ≡ count q n
unfolding count
count_cong p q zero h = refl
count_cong p q (suc n) h = ap₂ (λ (x y : ℕ). x + y) (count_cong p q n (λ k l. h k (omega arith))) (ap bit (h n (omega arith)))

pub nth_cong : (p q : ℕ → Bool) (n c : ℕ) → ((k : ℕ) → k < n → p k ≡ q k) → nth p n c ≡ nth q n c
unfolding nth
nth_cong p q zero c h = refl
nth_cong p q (suc n) c h =
    rw (h n (omega arith), count_cong p q n (λ k l. h k (omega arith)), nth_cong p q n c (λ k l. h k (omega arith)))

pub lookup_cong : {A : Type 0} (p q : ℕ → Bool) (f g : ℕ → A) (z : A) (n : ℕ) → ((k : ℕ) → k < n → p k ≡ q k)
    → ((k : ℕ) → k < n → f k ≡ g k)
    → lookup p f z n ≡ lookup q g z n
unfolding lookup
lookup_cong p q f g z zero h e = refl
lookup_cong p q f g z (suc n) h e =
    rw (h n (omega arith), e n (omega arith), lookup_cong p q f g z n (λ k l. h k (omega arith)) (λ k l. e k (omega arith)))

-- ---- some index, every index

pub any_at : (p : ℕ → Bool) (n k : ℕ) → k < n → p k ≡ true → any p n ≡ true
unfolding any
any_at p zero k l h = absurd (omega arith)
any_at p (suc n) k l h =
    ⊎_elim
    (λ e. either_right (any p n) (p n) (ap p (sym e) ∙ h))
    (λ ne. either_left (any p n) (p n) (any_at p n k (omega arith) h))
    (same? k n)

pub any_some : (p : ℕ → Bool) (n : ℕ) → any p n ≡ true → (k : ℕ) × (k < n) × (p k ≡ true)
unfolding any
any_some p zero h = never h
any_some p (suc n) h =
    ⊎_elim (λ e. let (k, l, q) = any_some p n e in (k, omega arith, q)) (λ e. (n, omega arith, e)) (either (any p n) (p n) h)

pub any_none : (p : ℕ → Bool) (n : ℕ) → any p n ≡ false → (k : ℕ) → k < n → p k ≡ false
any_none p n h k l = ⊎_elim (λ (e : p k ≡ true). absurd (true≢false (sym (any_at p n k l e) ∙ h))) (λ (e : p k ≡ false). e) (which (p k))

pub none_any : (p : ℕ → Bool) (n : ℕ) → ((k : ℕ) → k < n → p k ≡ false) → any p n ≡ false
unfolding any
none_any p zero h = refl
none_any p (suc n) h = rw (none_any p n (λ k l. h k (omega arith)), h n (omega arith))

pub every_at : (p : ℕ → Bool) (n k : ℕ) → every p n ≡ true → k < n → p k ≡ true
unfolding every
every_at p zero k h l = absurd (omega arith)
every_at p (suc n) k h l =
    ⊎_elim
    (λ e. ap p e ∙ both_right (every p n) (p n) h)
    (λ ne. every_at p n k (both_left (every p n) (p n) h) (omega arith))
    (same? k n)

pub all_every : (p : ℕ → Bool) (n : ℕ) → ((k : ℕ) → k < n → p k ≡ true) → every p n ≡ true
unfolding every
all_every p zero h = refl
all_every p (suc n) h = both (all_every p n (λ k l. h k (omega arith))) (h n (omega arith))

-- ---- the c-th index that passes

pub count-le : (p : ℕ → Bool) (n : ℕ) → count p n ≤ n
unfolding count
count-le p zero = omega arith
count-le p (suc n) = omega (arith, count-le p n, bit-lt (p n))

-- it is below n, passes, and has c before it
pub record Nth (p : ℕ → Bool) (n c k : ℕ) : Type 0 where
  pub below : k < n
  pub passes : p k ≡ true
  pub place : count p k ≡ c

nth_case : (p : ℕ → Bool) (n c : ℕ) (a b : Bool) → p n ≡ a → eqb (count p n) c ≡ b → c < count p n + bit a
    → (c < count p n → Nth p n c (nth p n c)) → Nth p (suc n) c (cond (a && b) n (nth p n c))
nth_case p n c true true pa eb l ih = record { below = omega arith; passes = pa; place = eqb-true _ _ eb }
nth_case p n c true false pa eb l ih =
    let ne : count p n ≢ c = λ q. absurd (true≢false (sym (eq-eqb _ _ q) ∙ eb)) in
    let r = ih (omega arith) in record { below = omega (arith, r.below); passes = r.passes; place = r.place }
nth_case p n c false b pa eb l ih = let r = ih (omega arith) in record { below = omega (arith, r.below); passes = r.passes; place = r.place }

pub nth_is : (p : ℕ → Bool) (n c : ℕ) → c < count p n → Nth p n c (nth p n c)
unfolding count nth
nth_is p zero c h = absurd (omega arith)
nth_is p (suc n) c h = nth_case p n c (p n) (eqb (count p n) c) refl refl h (nth_is p n c)

pub nth_here : (p : ℕ → Bool) (k : ℕ) → p k ≡ true → nth p (k + 1) (count p k) ≡ k
nth_here p k e = rw (nth_next, e, eq-eqb (count p k) (count p k) refl)

pub nth_before : (p : ℕ → Bool) (k c : ℕ) → c < count p k → nth p (k + 1) c ≡ nth p k c
nth_before p k c l = rw (nth_next, ne_eqb (count p k) c (λ q. absurd (omega arith)), and-false)

-- what passes below n only is counted, and found, there
pub count_below : (p : ℕ → Bool) (n k : ℕ) → ((j : ℕ) → n ≤ j → j < n + k → p j ≡ false) → count p (n + k) ≡ count p n
unfolding count
count_below p n zero h = let e : n + 0 ≡ n = omega arith in ap (count p) e
count_below p n (suc k) h =
    let e : n + suc k ≡ suc (n + k) = omega arith in
    ap (count p) e ∙ omega (arith, count_below p n k (λ j a b. h j a (omega arith)), ap bit (h (n + k) (omega arith) (omega arith)))

pub nth_below : (p : ℕ → Bool) (n k c : ℕ) → ((j : ℕ) → n ≤ j → j < n + k → p j ≡ false) → nth p (n + k) c ≡ nth p n c
nth_below p n zero c h = let e : n + 0 ≡ n = omega arith in ap (λ (z : ℕ). nth p z c) e
nth_below p n (suc k) c h =
    let e : n + suc k ≡ (n + k) + 1 = omega arith in
    ap (λ (z : ℕ). nth p z c) e ∙ nth_next p (n + k) c ∙ rw (h (n + k) (omega arith) (omega arith)) (nth_below p n k c (λ j a b. h j a (omega arith)))

-- an index that passes is counted above itself
pub count_above : (p : ℕ → Bool) (j n : ℕ) → j < n → p j ≡ true → count p j < count p n
unfolding count
count_above p j zero l h = absurd (omega arith)
count_above p j (suc n) l h =
    ⊎_elim
    (λ (e : j ≡ n). rw (e, ap p (sym e) ∙ h) (omega arith))
    (λ ne. omega (arith, count_above p j n (omega arith) h))
    (same? j n)

-- and is the one at its own place
pub nth_count : (p : ℕ → Bool) (n j : ℕ) → j < n → p j ≡ true → nth p n (count p j) ≡ j
unfolding nth
nth_count p zero j l h = absurd (omega arith)
nth_count p (suc n) j l h =
    ⊎_elim
    (λ (e : j ≡ n). rw (e, ap p (sym e) ∙ h, eq-eqb (count p n) (count p n) refl))
    (λ ne.
    let m = count_above p j n (omega arith) h in
    rw (ne_eqb (count p n) (count p j) (λ q. absurd (omega arith)), and-false) (nth_count p n j (omega arith) h))
    (same? j n)

-- ---- what the last index that passes gives

-- where only j passes, it is f j
pub lookup_at : {A : Type 0} (p : ℕ → Bool) (f : ℕ → A) (z : A) (n j : ℕ) → j < n → p j ≡ true
    → ((k : ℕ) → k < n → p k ≡ true → k ≡ j) → lookup p f z n ≡ f j
unfolding lookup
lookup_at p f z zero j l h one = absurd (omega arith)
lookup_at p f z (suc n) j l h one =
    ⊎_elim
    (λ (e : p n ≡ true). rw e (ap f (one n (omega arith) e)))
    (λ (e : p n ≡ false).
    let ne : j ≢ n = λ q. true≢false (sym h ∙ ap p q ∙ e) in
    rw e (lookup_at p f z n j (omega arith) h (λ k lk. one k (omega arith))))
    (which (p n))

pub lookup_none : {A : Type 0} (p : ℕ → Bool) (f : ℕ → A) (z : A) (n : ℕ) → any p n ≡ false → lookup p f z n ≡ z
unfolding lookup
lookup_none p f z zero h = refl
lookup_none p f z (suc n) h =
    rw (any_none p (suc n) h n (omega arith))
    (lookup_none p f z n (none_any p n (λ k l. any_none p (suc n) h k (omega arith))))

-- ---- walks that follow each other

-- a walk seen through a function that keeps step
pub fold_map : {A B : Type 0} (h : A → B) (f : A → ℕ → A) (g : B → ℕ → B) (a : A) (n : ℕ)
    → ((x : A) (k : ℕ) → k < n → h (f x k) ≡ g (h x) k)
    → h (fold f a n) ≡ fold g (h a) n
unfolding fold
fold_map h f g a zero e = refl
fold_map h f g a (suc n) e = e (fold f a n) n (omega arith) ∙ ap (λ x. g x n) (fold_map h f g a n (λ x k l. e x k (omega arith)))

-- a walk that changes nothing
pub fold_keep : {A : Type 0} (a : A) (n : ℕ) → fold (λ (x : A) (k : ℕ). x) a n ≡ a
unfolding fold
fold_keep a zero = refl
fold_keep a (suc n) = fold_keep a n

-- a flag that is set where an index passes
pub fold_flag : (p : ℕ → Bool) (n : ℕ) → fold (λ (b : Bool) (k : ℕ). cond (p k) true b) false n ≡ any p n
unfolding fold any
fold_flag p zero = refl
fold_flag p (suc n) = ap (λ (b : Bool). cond (p n) true b) (fold_flag p n) ∙ by (p n)
  where
    by : (c : Bool) → cond c true (any p n) ≡ (any p n || c)
    by true = sym (either_right (any p n) true refl)
    by false = sym (or-false (any p n))

-- some index passes one of two tests
pub any-or : (p q : ℕ → Bool) (n : ℕ) → (any p n || any q n) ≡ any (λ k. p k || q k) n
unfolding any
any-or p q zero = refl
any-or p q (suc n) = by (any p n) (any q n) (p n) (q n) ∙ ap (λ (b : Bool). b || (p n || q n)) (any-or p q n)
  where
    by : (a b c d : Bool) → ((a || c) || (b || d)) ≡ ((a || b) || (c || d))
    by true b c d = refl
    by false true true d = refl
    by false true false d = refl
    by false false c d = refl

-- a test that does not depend on the index
pub any-and : (b : Bool) (p : ℕ → Bool) (n : ℕ) → (b && any p n) ≡ any (λ k. b && p k) n
any-and true p n = refl
any-and false p n = sym (none_any (λ k. false) n (λ k l. refl))
