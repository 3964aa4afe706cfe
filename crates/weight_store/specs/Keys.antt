-- Records as two columns of numbers, which the code compares: a record's key is its setting, start and issue in one number, and beside it stands its
-- value. Assumes nothing.
use Rattle.std.specs.Prelude.{ℕ, ◌+◌, ◌*◌, ◌/◌, ◌%◌, ◌^◌, ◌<◌, ◌≤◌, ◌≡◌, refl, Bool, true, false, not, ◌&&◌, List, ◌++◌, ◌≢◌, eqb, ltb, leb, get_or, drop, replicate}
use Rattle.std.proofs.Math.Path.{sym, fun_ext}
use Rattle.std.proofs.Common.{◌∙◌, ⊎_elim, add_assoc, arith}
use Rattle.std.proofs.lemmas.List.{length-replicate, get_or-replicate}
use Rattle.std.proofs.Math.ListN.{get_or-eq_default}
use borrow.Author.Tests.{eqb-true, eq-eqb, ne_eqb, ltb-true, lt-ltb, leb-true, le-leb}
use Rattle.laws.specs.Bools.{same_test, both_left, both_right, contrary, same?, less?}
use Rattle.laws.specs.Tables.{tab, get_or-tab, get_d_past}
use Rattle.bits.specs.Field.{field_at, field_split, field_lt, field_past}
use Rattle.layout.specs.Table.{Field, field}
use Rattle.layout.specs.Records.{from, read}
use Rattle.layout.specs.Verdict.{first_of}
use Rattle.weight_store.specs.Entries.{Entry, entry_value_field, entry_length, entry_of, entry_count}
use Rattle.weight_store.specs.Refusals.{entry_rules, entry_refusal, entry_refused, disagree}
use Rattle.weight_store.specs.Values.{same_value}

-- setting, start and issue are a record's first 56 bits
abbrev pub entry_key_field : Field
entry_key_field = field 0 56

unfoldable pub key_of : List ℕ → ℕ → ℕ
key_of s i = read (from s (entry_length * i)) entry_key_field

unfoldable pub value_of : List ℕ → ℕ → ℕ
value_of s i = read (from s (entry_length * i)) entry_value_field

-- the record of a key and a value
unfoldable pub unpacked : ℕ → ℕ → Entry
unpacked k v = record { setting = k / 2 ^ 48; start = k / 2 ^ 16 % 2 ^ 32; issue = k % 2 ^ 16; value = v }

-- and back: the key of a record
abbrev pub entry_key : Entry → ℕ
entry_key e = (e.setting * 2 ^ 32 + e.start) * 2 ^ 16 + e.issue

-- record i of two columns
unfoldable pub held_entry : List ℕ → List ℕ → ℕ → Entry
held_entry keys values i = unpacked (get_or keys i 0) (get_or values i 0)

-- ---- laws

pub unpacked_entry : (s : List ℕ) (i : ℕ) → unpacked (key_of s i) (value_of s i) ≡ entry_of s i
unfolding unpacked key_of value_of entry_of
unpacked_entry s i =
    let at = 120 * i + 0 in
    let a : field_at s at 56 ≡ field_at s at 40 * 2 ^ 16 + field_at s (at + 40) 16 = field_split s at 40 16 in
    let b : field_at s at 40 ≡ field_at s at 8 * 2 ^ 32 + field_at s (at + 8) 32 = field_split s at 8 32 in
    let c : at + 40 ≡ 120 * i + 40 = omega arith in
    let d : at + 8 ≡ 120 * i + 8 = omega arith in
    let x = field_lt s (at + 40) 16 in
    let y = field_lt s (at + 8) 32 in
    let p : field_at s at 56 / 2 ^ 48 ≡ field_at s at 8 = omega (arith, a, b, x, y) in
    let q : field_at s at 56 / 2 ^ 16 % 2 ^ 32 ≡ field_at s (at + 8) 32 = omega (arith, a, b, x, y) in
    let r : field_at s at 56 % 2 ^ 16 ≡ field_at s (at + 40) 16 = omega (arith, a, x) in
    rw (p, q, r, c, d)

pub unpacked_key : (k v : ℕ) → entry_key (unpacked k v) ≡ k
unfolding unpacked
unpacked_key k v = omega arith

pub held_issue : (keys values : List ℕ) (i : ℕ) → (held_entry keys values i).issue < 2 ^ 16
unfolding held_entry unpacked
held_issue keys values i = omega arith

-- whether a record is refused that was read as a key and a value
module _ (s : List ℕ) (i : ℕ) {k v r : ℕ} (key : k ≡ key_of s i) (value : v ≡ value_of s i) (is : r ≡ first_of (entry_rules s i (unpacked k v))) where
  pub number_read : r ≡ entry_refusal s i
  unfolding entry_refusal
  number_read = rw (← unpacked_entry s i, ← key, ← value) is

  pub read_refused : (r ≡ 0 → ⊥) → entry_refused s i ≡ true
  unfolding entry_refused
  read_refused h = rw (← number_read, ne_eqb r 0 h)

  pub read_passed : r ≡ 0 → entry_refused s i ≡ false
  unfolding entry_refused
  read_passed h = rw (← number_read, eq-eqb r 0 h)

-- two records that agree in setting, day and issue have one key
module _ (k l : ℕ) (b : Bool) where
  abbrev parts : Bool
  parts = eqb (k / 2 ^ 48) (l / 2 ^ 48) && (eqb (k / 2 ^ 16 % 2 ^ 32) (l / 2 ^ 16 % 2 ^ 32) && (eqb (k % 2 ^ 16) (l % 2 ^ 16) && b))

  parts_same : parts ≡ true → k ≡ l
  unfolding unpacked
  parts_same h =
      let r = both_right (eqb (k / 2 ^ 48) (l / 2 ^ 48)) _ h in
      let t = both_right (eqb (k / 2 ^ 16 % 2 ^ 32) (l / 2 ^ 16 % 2 ^ 32)) _ r in
      let x = eqb-true (k / 2 ^ 48) (l / 2 ^ 48) (both_left _ _ h) in
      let y = eqb-true (k / 2 ^ 16 % 2 ^ 32) (l / 2 ^ 16 % 2 ^ 32) (both_left _ _ r) in
      let z = eqb-true (k % 2 ^ 16) (l % 2 ^ 16) (both_left _ _ t) in
      sym (unpacked_key k 0) ∙ rw (x, y, z) (unpacked_key l 0)

  same_key : parts ≡ (eqb k l && b)
  same_key =
      ⊎_elim
      (λ (e : k ≡ l).
      rw (
        e,
        eq-eqb (l / 2 ^ 48) (l / 2 ^ 48) refl,
        eq-eqb (l / 2 ^ 16 % 2 ^ 32) (l / 2 ^ 16 % 2 ^ 32) refl,
        eq-eqb (l % 2 ^ 16) (l % 2 ^ 16) refl,
        eq-eqb l l refl,
      ))
      (λ (n : k ≢ l). rw (ne_eqb k l n) (contrary parts (λ h. n (parts_same h))))
      (same? k l)

pub disagree_keys : (k v l w : ℕ) → disagree (unpacked k v) (unpacked l w) ≡ (eqb k l && not (same_value v w))
unfolding disagree unpacked
disagree_keys k v l w = same_key k l (not (same_value v w))

-- 8, by the key
pub above_five : (k v : ℕ) → leb (6 * 2 ^ 48) k ≡ ltb 5 (unpacked k v).setting
unfolding unpacked
above_five k v =
    same_test _ _
    (λ h. let l = leb-true (6 * 2 ^ 48) k h in lt-ltb 5 (k / 2 ^ 48) (omega arith))
    (λ h. let l = ltb-true 5 (k / 2 ^ 48) h in le-leb (6 * 2 ^ 48) k (omega arith))

-- the columns of the records of a store are the store, past its end too, where all is zero
blank : (m i : ℕ) → get_or {A = ℕ} (replicate m 0) i 0 ≡ 0
blank m i =
    ⊎_elim
    (λ (l : i < m). get_or-replicate m i 0 0 l)
    (λ (l : m ≤ i). get_or-eq_default (replicate m 0) 0 (omega (arith, length-replicate {A = ℕ} m 0)))
    (less? i m)

module _ (s : List ℕ) (n m : ℕ) (count : entry_count s ≡ n) where
  past : (i o w : ℕ) → n ≤ i → field_at s (120 * i + o) w ≡ 0
  unfolding entry_count
  past i o w l = field_past s (120 * i + o) w (omega (arith, count))

  column : (f : ℕ → ℕ) (o w : ℕ) → ((i : ℕ) → f i ≡ field_at s (120 * i + o) w) → (i : ℕ) → get_or (tab f n ++ drop n (replicate m 0)) i 0 ≡ f i
  column f o w is i =
      ⊎_elim
      (λ (l : i < n). get_or-tab f n i (drop n (replicate m 0)) 0 l)
      (λ (l : n ≤ i). get_d_past f n i (replicate m 0) 0 l ∙ blank m i ∙ sym (is i ∙ past i o w l))
      (less? i n)

  pub held_entries : (keys values : List ℕ) → keys ≡ tab (key_of s) n ++ drop n (replicate m 0) → values ≡ tab (value_of s) n ++ drop n (replicate m 0)
      → held_entry keys values ≡ entry_of s
  unfolding held_entry key_of value_of
  held_entries keys values k v =
      fun_ext (λ i. rw (k, v, column (key_of s) 0 56 (λ j. refl) i, column (value_of s) 56 64 (λ j. refl) i) (unpacked_entry s i))
