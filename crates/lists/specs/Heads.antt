-- A case that begins with a head of n bytes, from which its length follows. Assumes nothing.
use Rattle.std.specs.Prelude.{ℕ, ◌-◌, ◌≤◌, ◌<◌, ◌≡◌, Bool, true, false, cond, ltb, List, length, Option, Some, None}
use Rattle.std.proofs.Common.{lt-ltb, le-ltb}
use Rattle.lists.specs.declared.Case.{Case}

-- the head of the case at byte at, where a whole one stands there
unfoldable pub headed : {H : Type 0} → ℕ → (List ℕ → ℕ → H) → (H → ℕ → Bool) → List ℕ → ℕ → Option H
headed n head broken s at = cond (ltb (length s - at) n) None (cond (broken (head s at) (length s - at)) None (Some (head s at)))

-- the case by its head, or by the length of the part that it begins with
abbrev pub by_head : {H : Type 0} → (List ℕ → ℕ → H → Case) → Option H → List ℕ → ℕ → Option Case
by_head compared None s at = None
by_head compared (Some h) s at = Some (compared s at h)

-- ---- laws

module _ {H : Type 0} (n : ℕ) (head : List ℕ → ℕ → H) (broken : H → ℕ → Bool) (s : List ℕ) (at : ℕ) where
  pub head_cut : length s - at < n → None ≡ headed n head broken s at
  unfolding headed
  head_cut l = rw (lt-ltb (length s - at) n l)

  module _ {h : H} (e : h ≡ head s at) (l : n ≤ length s - at) where
    pub head_broken : true ≡ broken h (length s - at) → None ≡ headed n head broken s at
    unfolding headed
    head_broken b = rw (le-ltb (length s - at) n l, ← e, ← b)

    pub head_fits : false ≡ broken h (length s - at) → Some h ≡ headed n head broken s at
    unfolding headed
    head_fits b = rw (le-ltb (length s - at) n l, ← e, ← b)
