-- An entry of the front of a buffer that was filled. Assumes nothing.
use Prim.Native.Nat.{ℕ, ◌<◌}
use Rattle.fields.specs.Held.{held}
use Rattle.laws.specs.Tables.{tab}
use Rattle.std.proofs.lemmas.List.{get_or-take}
use lib.ListN.{get_or, take}
use mathlib.Core.List.{List, ◌++◌}
use mathlib.Core.Path.{◌≡◌, ◌∙◌}

pub held_front : {A : Type 0} (f : ℕ → A) (n : ℕ) (r l : List A) → l ≡ tab f n ++ r → (d : A) (k : ℕ) → k < n → get_or (take n l) k d ≡ f k
held_front f n r l e d k h = get_or-take n l k d h ∙ held f n r l e d k h
