-- A stored case: where its parts lie, and in how many entries the numbers of a pass and its buffers differ from it. Assumes nothing.
use Rattle.std.specs.Prelude.{ℕ, ◌+◌, ◌-◌, ◌*◌, ◌≤◌, ◌<◌, max, ◌≡◌, refl, Bool, not, cond, Option, Some, None, List, ◌≢◌, eqb, ltb, length, get_or}
use Rattle.std.proofs.Math.Path.{sym}
use Rattle.std.proofs.Common.{mul-le-mul}
use native.Mathlib.Omega.{arith}
use borrow.Author.Tests.{eq-eqb, ne_eqb, lt-ltb, le-ltb}
use Rattle.laws.specs.Bools.{bit, bit-lt}
use Rattle.laws.specs.Folds.{count, count_next, count-le}
use Rattle.lists.specs.Lists.{number}
use Rattle.stored_passes.specs.declared.Stored.{Stored}

-- ---- where a case's parts lie

-- after a sheet that ends at byte end, with n idle cars and w columns; cut where some of it is not there
unfoldable pub parts_of : List ℕ → ℕ → ℕ → ℕ → Option Stored
parts_of s end n w =
    let front = 12 + 4 * n + 8 * (n * w) in
    let records = number s (end + front) 1 in
    cond (ltb front (length s - end))
    (cond (ltb 32 records) None
    (cond (ltb (length s - end) (front + 2 + records)) None
    (Some (record {
      end = end;
      cars = n;
      size = n * w;
      decisions = end + 12;
      cells = end + 12 + 4 * n;
      sweeps = end + front + 1;
      records = records;
      next = end + front + 2 + records;
    }))))
    None

-- the case at byte at: the sheet's length in 16 bits, its bytes, n and m in 8 bits each
unfoldable pub case_of : List ℕ → ℕ → Option Stored
case_of s at =
    let bytes = number s at 2 in
    let end = at + 2 + bytes in
    let n = number s end 1 in
    let w = max n (number s (end + 1) 1) in
    cond (ltb (length s - at) 2) None
    (cond (ltb (length s - at) (bytes + 14)) None
    (cond (ltb 32 n) None
    (cond (ltb 64 w) None
    (parts_of s end n w))))

-- the parts follow each other, and are there
pub record Inside (s : List ℕ) (p : Stored) : Type 0 where
  pub few_cars : p.cars ≤ 32
  pub few_cells : p.size ≤ 2048
  pub few_records : p.records ≤ 32
  pub decisions_from : p.decisions ≡ p.end + 12
  pub cells_from : p.cells ≡ p.decisions + 4 * p.cars
  pub sweeps_from : p.sweeps ≡ p.cells + 8 * p.size + 1
  pub ends : p.next ≡ p.sweeps + p.records + 1
  pub inside : p.next ≤ length s

-- after a sheet that starts at byte at
abbrev pub Placed : List ℕ → ℕ → Option Stored → Type 0
Placed s at (Some p) = (at ≤ p.end) × Inside s p
Placed s at None = Unit {0}

-- ---- a pass beside a case

-- 1 where the two are not equal
abbrev pub apart : ℕ → ℕ → ℕ
apart ours theirs = bit (not (eqb ours theirs))

-- how many of n entries are not what is stored from byte at, width bytes each
unfoldable pub differing : List ℕ → ℕ → ℕ → List ℕ → ℕ → ℕ
differing s at width ours n = count (λ k. not (eqb (get_or ours k 0) (number s (at + width * k) width))) n

-- in how many entries a pass differs from the case: its four numbers, the decisions, the cells and the sweeps
unfoldable pub case_differs : List ℕ → Stored → ℕ → ℕ → ℕ → ℕ → List ℕ → List ℕ → List ℕ → ℕ
case_differs s p cars stops total held decisions matrix sweeps =
    apart cars (number s p.end 1) + apart stops (number s (p.end + 1) 1) + apart total (number s (p.end + 2) 8)
    + apart held (number s (p.end + 10) 2)
    + differing s p.decisions 4 decisions p.cars + differing s p.cells 8 matrix p.size + differing s p.sweeps 1 sweeps p.records

-- ---- laws

pub apart_no : (x y : ℕ) → x ≡ y → apart x y ≡ 0
apart_no x y e = rw (eq-eqb x y e)

pub apart_yes : (x y : ℕ) → x ≢ y → apart x y ≡ 1
apart_yes x y e = rw (ne_eqb x y e)

pub apart_le : (x y : ℕ) → apart x y ≤ 1
apart_le x y = omega (arith, bit-lt (not (eqb x y)))

pub differing_none : (s : List ℕ) (at width : ℕ) (ours : List ℕ) → differing s at width ours 0 ≡ 0
unfolding differing count
differing_none s at width ours = refl

pub differing_next : (s : List ℕ) (at width : ℕ) (ours : List ℕ) (k a : ℕ) {x y b c : ℕ} → x ≡ get_or ours k 0
    → y ≡ number s (at + width * k) width
    → b ≡ a + differing s at width ours k → c ≡ b + apart x y → c ≡ a + differing s at width ours (k + 1)
unfolding differing
differing_next s at width ours k a {x} {y} {b} {c} ex ey eb ec =
    let p : ℕ → Bool = λ j. not (eqb (get_or ours j 0) (number s (at + width * j) width)) in
    let e : c ≡ b + apart (get_or ours k 0) (number s (at + width * k) width) = rw (ex, ey) at ec in
    omega (arith, e, eb, count_next p k)

pub differing_le : (s : List ℕ) (at width : ℕ) (ours : List ℕ) (n : ℕ) → differing s at width ours n ≤ n
unfolding differing
differing_le s at width ours n = count-le (λ k. not (eqb (get_or ours k 0) (number s (at + width * k) width))) n

module _ (s : List ℕ) (p : Stored) (cars stops total held : ℕ) (decisions matrix sweeps : List ℕ) where
  -- no more than there are bytes after the sheet
  pub differs_le : Inside s p → p.end + 1 + case_differs s p cars stops total held decisions matrix sweeps ≤ p.next
  unfolding case_differs
  differs_le i =
      omega (
        arith,
        i.decisions_from,
        i.cells_from,
        i.sweeps_from,
        i.ends,
        apart_le cars (number s p.end 1),
        apart_le stops (number s (p.end + 1) 1),
        apart_le total (number s (p.end + 2) 8),
        apart_le held (number s (p.end + 10) 2),
        differing_le s p.decisions 4 decisions p.cars,
        differing_le s p.cells 8 matrix p.size,
        differing_le s p.sweeps 1 sweeps p.records,
      )

  -- the parts of a comparison, one after the other
  pub differs_is : {x y z u a b c d e f r : ℕ} → x ≡ number s p.end 1 → y ≡ number s (p.end + 1) 1 → z ≡ number s (p.end + 2) 8
      → u ≡ number s (p.end + 10) 2 → a ≡ 0 + apart cars x → b ≡ a + apart stops y → c ≡ b + apart total z → d ≡ c + apart held u
      → e ≡ d + differing s p.decisions 4 decisions p.cars → f ≡ e + differing s p.cells 8 matrix p.size
      → r ≡ f + differing s p.sweeps 1 sweeps p.records → r ≡ case_differs s p cars stops total held decisions matrix sweeps
  unfolding case_differs
  differs_is {x} {y} {z} {u} {a} {b} {c} {d} {e} {f} {r} ex ey ez eu ea eb ec ed ee ef er =
      let fa : a ≡ 0 + apart cars (number s p.end 1) = rw ex at ea in
      let fb : b ≡ a + apart stops (number s (p.end + 1) 1) = rw ey at eb in
      let fc : c ≡ b + apart total (number s (p.end + 2) 8) = rw ez at ec in
      let fd : d ≡ c + apart held (number s (p.end + 10) 2) = rw eu at ed in
      omega (arith, fa, fb, fc, fd, ee, ef, er)

-- its four numbers are there
pub head_inside : (s : List ℕ) (p : Stored) → Inside s p → p.end + 12 ≤ length s
head_inside s p i = omega (arith, i.decisions_from, i.cells_from, i.sweeps_from, i.ends, i.inside)

pub small_size : (n w : ℕ) → n ≤ 32 → w ≤ 64 → n * w ≤ 2048
small_size n w h l = mul-le-mul h l

pub placed_from : (s : List ℕ) (a e : ℕ) (r : Option Stored) → a ≤ e → Placed s e r → Placed s a r
placed_from s a e (Some p) h i = (omega (arith, i.0), i.1)
placed_from s a e None h i = tt

-- ---- the parts, test by test

module _ (s : List ℕ) (end n w : ℕ) where
  abbrev front : ℕ
  front = 12 + 4 * n + 8 * (n * w)

  pub parts_short : length s - end ≤ front → None ≡ parts_of s end n w
  unfolding parts_of
  parts_short h = rw (le-ltb front (length s - end) h)

  module _ (long : front < length s - end) {records : ℕ} (e : records ≡ number s (end + front) 1) where
    pub parts_many : 32 < records → None ≡ parts_of s end n w
    unfolding parts_of
    parts_many h = rw (lt-ltb front (length s - end) long, sym e, lt-ltb 32 records h)

    pub parts_cut : records ≤ 32 → length s - end < front + 2 + records → None ≡ parts_of s end n w
    unfolding parts_of
    parts_cut h short = rw (lt-ltb front (length s - end) long, sym e, le-ltb 32 records h, lt-ltb (length s - end) (front + 2 + records) short)

    pub parts_whole : records ≤ 32 → front + 2 + records ≤ length s - end
        → Some (record {
          end = end;
          cars = n;
          size = n * w;
          decisions = end + 12;
          cells = end + 12 + 4 * n;
          sweeps = end + front + 1;
          records = records;
          next = end + front + 2 + records;
        })
        ≡ parts_of s end n w
    unfolding parts_of
    parts_whole h whole = rw (lt-ltb front (length s - end) long, sym e, le-ltb 32 records h, le-ltb (length s - end) (front + 2 + records) whole)

module _ (s : List ℕ) (at : ℕ) where
  pub case_headless : length s - at < 2 → None ≡ case_of s at
  unfolding case_of
  case_headless h = rw (lt-ltb (length s - at) 2 h)

  module _ (long : 2 ≤ length s - at) {bytes : ℕ} (e : bytes ≡ number s at 2) where
    pub case_short : length s - at < bytes + 14 → None ≡ case_of s at
    unfolding case_of
    case_short h = rw (le-ltb (length s - at) 2 long, sym e, lt-ltb (length s - at) (bytes + 14) h)

    module _ (whole : bytes + 14 ≤ length s - at) {n m w : ℕ} (en : n ≡ number s (at + 2 + bytes) 1) (em : m ≡ number s (at + 2 + bytes + 1) 1)
        (ew : w ≡ max n m) where
      pub case_cars : 32 < n → None ≡ case_of s at
      unfolding case_of
      case_cars h = rw (le-ltb (length s - at) 2 long, sym e, le-ltb (length s - at) (bytes + 14) whole, sym en, lt-ltb 32 n h)

      pub case_wide : n ≤ 32 → 64 < w → None ≡ case_of s at
      unfolding case_of
      case_wide h k =
          rw (le-ltb (length s - at) 2 long, sym e, le-ltb (length s - at) (bytes + 14) whole, sym en, le-ltb 32 n h, sym em, sym ew, lt-ltb 64 w k)

      pub case_whole : n ≤ 32 → w ≤ 64 → parts_of s (at + 2 + bytes) n w ≡ case_of s at
      unfolding case_of
      case_whole h k =
          rw (le-ltb (length s - at) 2 long, sym e, le-ltb (length s - at) (bytes + 14) whole, sym en, le-ltb 32 n h, sym em, sym ew, le-ltb 64 w k)
