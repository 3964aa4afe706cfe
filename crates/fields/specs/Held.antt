-- An entry of a buffer that was filled. Assumes nothing.
use Rattle.std.specs.Prelude.{ℕ, ◌<◌, ◌≡◌, List, ◌++◌, get_or}
use Rattle.std.proofs.Common.{ap, ◌∙◌}
use Rattle.laws.specs.Tables.{tab, get_or-tab}

pub held : {A : Type 0} (f : ℕ → A) (n : ℕ) (r l : List A) → l ≡ tab f n ++ r → (d : A) (k : ℕ) → k < n → get_or l k d ≡ f k
held f n r l e d k h = ap (λ x. get_or x k d) e ∙ get_or-tab f n k r d h
