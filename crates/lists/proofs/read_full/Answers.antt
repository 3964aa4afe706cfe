-- lists::read_full meets its contract.
use Rattle.std.proofs.Common.{rules, arith, ◌≡◌, ℕ, ◌+◌, ◌-◌, ◌≤◌, List, ◌++◌, length, take, slice_range, sym, ap, ◌∙◌, subst, refl, le_refl, drop_at, Option, Result, Ok, Err, OnErr, length-take-le}
use Rattle.std.proofs.lemmas.Slice.{take-put_mid_below}
use Rattle.std.proofs.KnownBytes.{Consumes-nil, Consumes-trans, Consumes-kept}
use Rattle.std.specs.Io.KnownBytes.{Consumes, Keeps}
use borrow.Rule.Slice.PartMut.{put_mid, post_of}
use lib.Seq.{take-add, take-append-le}
use Rattle.lists.proofs.read_full.Goals as goal

-- what was read before, and then n bytes more
take_split : (a b : ℕ) (old new : List ℕ) → a ≤ b → take a new ≡ take a old → take a old ++ slice_range new a b ≡ take b new
take_split a b old new h front =
    let same : a + (b - a) ≡ b = omega arith in
    ap (λ l. l ++ slice_range new a b) (sym front) ∙ sym (take-add a (b - a) new) ∙ ap (λ n. take n new) same

slice_range-put_mid : (a k n : ℕ) (xs ys : List ℕ) → a ≤ length xs → n ≤ length ys → slice_range (put_mid a k xs ys) a (a + n) ≡ take n ys
slice_range-put_mid a k n xs ys within fits =
    let same : (a + n) - a ≡ n = omega arith in
    let after = post_of a k xs in
    ap (take ((a + n) - a)) (drop_at (take a xs) (ys ++ after) a (length-take-le a xs within)) ∙ ap (λ m. take m (ys ++ after)) same ∙ take-append-le n ys after fits

joined : (a k n : ℕ) (xs ys : List ℕ) → a ≤ length xs → n ≤ length ys → take a xs ++ take n ys ≡ take (a + n) (put_mid a k xs ys)
joined a k n xs ys within fits =
    ap (λ l. take a xs ++ l) (sym (slice_range-put_mid a k n xs ys within fits))
    ∙ take_split a (a + n) xs (put_mid a k xs ys) (omega arith) (take-put_mid_below _ _ _ _ _ (le_refl _) within)

read_more : (a b c : Option (List ℕ)) (done n : ℕ) (xs ys : List ℕ) → done ≤ length xs → n ≤ length ys → Consumes a b (take done xs)
    → Consumes b c (take n ys) → Consumes a c (take (done + n) (put_mid done (length xs - done) xs ys))
read_more a b c done n xs ys within fits p q = subst (Consumes a c) (joined done (length xs - done) n xs ys within fits) (Consumes-trans _ _ _ _ _ p q)

kept_err : {A E : Type 0} (r : Result A E) (a b c : Option (List ℕ)) (done : ℕ) (xs ys : List ℕ) → done ≤ length xs → Consumes a b (take done xs) → Keeps b c
    → OnErr r ((n : ℕ) × Consumes a c (take n (put_mid done (length xs - done) xs ys)))
kept_err (Ok x) a b c done xs ys within p q = tt
kept_err (Err e) a b c done xs ys within p q =
    (done, subst (Consumes a c) (sym (take-put_mid_below _ _ _ _ _ (le_refl _) within)) (Consumes-kept _ _ _ _ p q))

pub loop-done-init : goal.loop-done-init
loop-done-init g c = record { size = refl; within = search rules; read = Consumes-nil _ }

pub returns-in_err-n-clause-err : goal.returns-in_err-n-clause-err
returns-in_err-n-clause-err g c =
    kept_err c.from_residual.result _ _ _ c.loop-done.done c.loop-done.buffer c.read.new.buf c.loop-done.invariant.within c.loop-done.invariant.read
    c.in_err-n.ensures.bytes

pub returns-then-n-eq0-clause-bytes : goal.returns-then-n-eq0-clause-bytes
returns-then-n-eq0-clause-bytes g c =
    let more = read_more (g.R.Read.remaining c.args.input.now) (g.R.Read.remaining c.loop-done.input) (g.R.Read.remaining c.read.new.self)
    c.loop-done.done c.in_ok-n.n c.loop-done.buffer c.read.new.buf c.loop-done.invariant.within c.in_ok-n.ensures.bound.0 c.loop-done.invariant.read
    c.in_ok-n.ensures.bytes.0 in
    let none : c.loop-done.done + c.in_ok-n.n ≡ c.loop-done.done = omega arith in
    rw none at more

pub loop-done-preserved : goal.loop-done-preserved
loop-done-preserved g c =
    record {
      size = search rules;
      within = search rules;
      read = read_more _ _ _ c.loop-done.done c.in_ok-n.n c.loop-done.buffer c.read.new.buf c.loop-done.invariant.within c.in_ok-n.ensures.bound.0
          c.loop-done.invariant.read c.in_ok-n.ensures.bytes.0;
    }
