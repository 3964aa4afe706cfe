-- What the method's functions keep of the lists that they share, and the steps from one to the next. Assumes nothing.
use Rattle.std.specs.Prelude.{◌≡◌, refl, cond, List, ℕ, zero, suc, ◌+◌, ◌-◌, ◌*◌, ◌≤◌, ◌<◌, eqb, length, set}
use Rattle.std.proofs.Common.{sym, ap, ◌∙◌, subst, inl, inr, ⊎_elim, arith, eq-eqb, ne_eqb}
use Rattle.laws.specs.Bools.{same?, less?, cond-one}
use Rattle.laws.specs.Sums.{sum, sum_lt}
use Rattle.assignment_problem.specs.Choice.{IsChoice, total, cell_at}
use Rattle.assignment_problem.specs.Recursion.{least_total, column_of}
use Rattle.assignment_problem.proofs.Chosen.{chosen_choice, chosen_total, chosen_least}
use Rattle.assignment_problem.proofs.PriceLaws.{tight_least}
use Rattle.assignment_problem.specs.Insertion.{lift, lift_in, lift_out, Matched, Priced, Tree, Path, Walk, lift_priced, lift_tree, mark}
use Rattle.assignment_problem.specs.Insertion.{start_matched, start_priced, start_tree, way, walk_start, walk_matched, walk_priced, some_free}
use Rattle.assignment_problem.specs.Insertion.{matched_choice, priced_tight}
use Rattle.assignment_problem.specs.Insertion as Step
use Rattle.alternating_tree.specs.Lists.{at, big, at_same, at_other, gain, gain_in, gain_out, left, left_in_lem, left_out, Rooted, Nearest}
use Rattle.alternating_tree.specs.Lists.{RaisedRows, RaisedColumns, FreeColumn, DistancesRelaxed, Going, Gone}

-- the lengths of the lists
pub record Sizes (u w ro co : List ℕ) : Type 0 where
  pub u32 : length u ≡ 32
  pub w65 : length w ≡ 65
  pub ro65 : length ro ≡ 65
  pub co32 : length co ≡ 32

pub record Scratch (di fr se : List ℕ) : Type 0 where
  pub di65 : length di ≡ 65
  pub fr65 : length fr ≡ 65
  pub se65 : length se ≡ 65

-- n rows and cols columns of cells, none too large
pub record Matrix (cells : List ℕ) (n cols : ℕ) : Type 0 where
  pub rows32 : n ≤ 32
  pub cols64 : cols ≤ 64
  pub wide : n ≤ cols
  pub whole : length cells ≡ n * cols
  pub small : (k : ℕ) → at cells k ≤ big

-- the first k rows have columns, with prices
pub record State (cells : List ℕ) (n cols k : ℕ) (u w ro co : List ℕ) : Type 0 where
  pub matched : Matched n cols k (at ro) (at co)
  pub priced : Priced n cols k (cell_at cells cols) (at ro) (at co) (at u) (at w)
  -- no price is larger than the largest cell
  pub u_bound : (B : ℕ) → ((x : ℕ) → at cells x ≤ B) → (r : ℕ) → r < k → at u r ≤ B
  pub w_bound : (B : ℕ) → ((x : ℕ) → at cells x ≤ B) → (j : ℕ) → j < cols → at w j ≤ B

-- Row i is looking for a column, and f is one that is free. The tree has come to the distance d; the prices that stand then are U and W and the
-- slacks S. In the lists a tree column and its row still have the prices of when it joined.
pub record Growing (cells : List ℕ) (n cols i t f d : ℕ) (u w ro co di fr se : List ℕ) : Type 0 where
  pub U : ℕ → ℕ
  pub W : ℕ → ℕ
  pub S : ℕ → ℕ
  pub U-is : (r : ℕ) → r < suc i → U r ≡ at u r + gain (at se (at co r)) d (at di (at co r))
  pub W-is : (j : ℕ) → j < cols → W j ≡ at w j + gain (at se j) d (at di j)
  pub S-is : (j : ℕ) → j < cols → S j ≡ left (at se j) d (at di j)
  pub matched : Matched n (suc cols) (suc i) (at ro) (at co)
  pub priced : Priced n cols (suc i) (cell_at cells cols) (at ro) (at co) U W
  pub tree : Tree n cols t (cell_at cells cols) (at ro) U W (at se) S (at fr)
  pub below : f < cols
  pub free : n ≤ at ro f
  pub inside : (j : ℕ) → j ≤ cols → 0 < at se j → at di j ≤ d
  pub outside : (j : ℕ) → j < cols → at se j ≡ 0 → d ≤ at di j
  pub home : at di cols ≡ 0

pub record GrowingAt (cells : List ℕ) (n cols i t f : ℕ) (u w ro co di fr se : List ℕ) : Type 0 where
  pub d : ℕ
  pub growing : Growing cells n cols i t f d u w ro co di fr se

pub record Cleared (cols : ℕ) (se : List ℕ) : Type 0 where
  pub zeros : (j : ℕ) → j < cols → at se j ≡ 0
  pub stand : at se cols ≡ 1

-- column j has joined the tree, as its turn t, at the distance d
pub record Joined (cells : List ℕ) (cols r ur j t d : ℕ) (w se di fr se' di' fr' : List ℕ) : Type 0 where
  pub turned : at se' j ≡ t
  pub others : (x : ℕ) → (x ≡ j → ⊥) → at se' x ≡ at se x
  pub relaxed : DistancesRelaxed cells cols r ur j d w se' di fr di' fr'

-- how many columns are outside the tree
unfoldable pub unseen : ℕ → List ℕ → ℕ
unseen cols se = sum cols (λ j. cond (eqb (at se j) 0) 1 0)

module _ {cells : List ℕ} {n cols i t f d : ℕ} {u w ro co di fr se : List ℕ}
    (mx : Matrix cells n cols) (li : i < n) (gr : Growing cells n cols i t f d u w ro co di fr se) where
  pub f_unseen : at se f ≡ 0
  f_unseen = ⊎_elim
      (λ e. e)
      (λ ne. absurd (let b = gr.below in omega (arith, gr.tree.owned f (omega arith) (omega arith), gr.free)))
      (same? (at se f) 0)

  w_free : gr.W f ≡ 0
  w_free = gr.priced.unused f gr.below gr.free

  u_below : (B : ℕ) → ((x : ℕ) → at cells x ≤ B) → (r : ℕ) → r < i + 1 → gr.U r ≤ B
  u_below B low r lr = omega (arith, gr.priced.under r f (omega arith) gr.below, low (r * cols + f), w_free)

  w_below : (B : ℕ) → ((x : ℕ) → at cells x ≤ B) → (j : ℕ) → j < cols → gr.W j ≤ B
  w_below B low j lj = ⊎_elim
      (λ lt.
      let h = gr.matched in
      let e : at co (at ro j) ≡ j = h.forth_col j (omega arith) lt in
      let r : at ro j < suc i = h.forth j (omega arith) lt in
      let a : gr.W (at co (at ro j)) ≡ gr.W j = ap gr.W e in
      omega (arith, gr.priced.tight (at ro j) r (let b : at co (at ro j) < cols = omega arith in b), u_below B low (at ro j) (omega arith)))
      (λ ge. omega (arith, gr.priced.unused j lj ge))
      (less? (at ro j) n)

  pub u_low : (r : ℕ) → r < i + 1 → at u r ≤ big
  u_low r lr = omega (arith, gr.U-is r (omega arith), u_below big mx.small r lr)

  pub w_low : (j : ℕ) → j < cols → at w j ≤ big
  w_low j lj = omega (arith, gr.W-is j lj, w_below big mx.small j lj)

  pub co_low : (r : ℕ) → r < i + 1 → at co r ≤ cols
  co_low r lr = omega (arith, gr.matched.back r (omega arith))

  -- the stand's row has gained all of the distance, so no distance outside the tree needs to be larger than a cell
  pub f_low : at di f ≤ big
  f_low =
      let root = gr.tree.root in
      let r : at ro cols < n = gr.tree.owned cols (omega arith) (omega arith) in
      let e : at co (at ro cols) ≡ cols = gr.matched.forth_col cols (omega arith) r in
      let a : at se (at co (at ro cols)) ≡ at se cols = ap (at se) e in
      let b : at di (at co (at ro cols)) ≡ at di cols = ap (at di) e in
      omega (
        arith,
        gr.tree.slack_le f cols gr.below f_unseen (omega arith) (omega arith),
        gr.U-is (at ro cols) (gr.matched.forth cols (omega arith) r),
        gain_in (at se (at co (at ro cols))) d (at di (at co (at ro cols))) (omega arith),
        gr.S-is f gr.below,
        left_out (at se f) d (at di f) f_unseen,
        gr.home,
        mx.small (at ro cols * cols + f),
        w_free,
      )

  -- the tree comes to the distance of the nearest column outside it
  module _ (j : ℕ) (near : Nearest se di cols j) where
    ahead : d ≤ at di j
    ahead = gr.outside j near.below near.outside

    pub d_low : at di j ≤ big
    d_low = omega (arith, near.least f gr.below f_unseen, f_low)

    more_gain : (s k : ℕ) → (0 < s → k ≤ d) → gain s (at di j) k ≡ gain s d k + lift s (at di j - d)
    more_gain s k h = ⊎_elim
        (λ (e : s ≡ 0). omega (arith, gain_out s (at di j) k e, gain_out s d k e, lift_out s (at di j - d) e))
        (λ ne.
        let p : 0 < s = omega arith in
        omega (arith, gain_in s (at di j) k p, gain_in s d k p, lift_in s (at di j - d) p, h p, ahead))
        (same? s 0)

    pub grown : Growing cells n cols i t f (at di j) u w ro co di fr se
    grown = record {
      U = U';
      W = W';
      S = S';
      U-is = λ r lr. refl;
      W-is = λ x lx. refl;
      S-is = λ x lx. refl;
      matched = gr.matched;
      priced = lift_priced δ U' W' S' gr.matched gr.priced gr.tree small du dw ds_in ds_out;
      tree = lift_tree δ U' W' S' gr.matched gr.priced gr.tree small du dw ds_in ds_out;
      below = gr.below;
      free = gr.free;
      inside = λ x lx p. omega (arith, gr.inside x lx p, ahead);
      outside = near.least;
      home = gr.home;
    }
      where
        δ : ℕ
        δ = at di j - d

        U' : ℕ → ℕ
        U' r = at u r + gain (at se (at co r)) (at di j) (at di (at co r))

        W' : ℕ → ℕ
        W' x = at w x + gain (at se x) (at di j) (at di x)

        S' : ℕ → ℕ
        S' x = left (at se x) (at di j) (at di x)

        small : (x : ℕ) → x < cols → at se x ≡ 0 → at di j - d ≤ gr.S x
        small x lx o = omega (arith, gr.S-is x lx, left_out (at se x) d (at di x) o, near.least x lx o)

        du : (r : ℕ) → r < suc i → U' r ≡ gr.U r + lift (at se (at co r)) (at di j - d)
        du r lr = omega (arith, gr.U-is r lr, more_gain (at se (at co r)) (at di (at co r)) (gr.inside (at co r) (co_low r (omega arith))))

        dw : (x : ℕ) → x < cols → W' x ≡ gr.W x + lift (at se x) (at di j - d)
        dw x lx = omega (arith, gr.W-is x lx, more_gain (at se x) (at di x) (gr.inside x (omega arith)))

        ds_in : (x : ℕ) → x < cols → 0 < at se x → S' x ≡ gr.S x
        ds_in x lx p = left_in_lem (at se x) (at di j) (at di x) p ∙ sym (gr.S-is x lx ∙ left_in_lem (at se x) d (at di x) p)

        ds_out : (x : ℕ) → x < cols → at se x ≡ 0 → S' x ≡ gr.S x - (at di j - d)
        ds_out x lx o =
            omega (arith, left_out (at se x) (at di j) (at di x) o, gr.S-is x lx, left_out (at se x) d (at di x) o, near.least x lx o, ahead)

  -- a column at the distance of the tree
  module _ (j : ℕ) (lj : j < cols) (out : at se j ≡ 0) (z : at di j ≡ d) where
    slack_zero : gr.S j ≡ 0
    slack_zero = omega (arith, gr.S-is j lj, left_out (at se j) d (at di j) out)

    -- it gains nothing when it joins
    no_gain : (se' di' : List ℕ) → at se' j ≡ t + 1 → at di' j ≡ at di j
        → gain (at se' j) d (at di' j) ≡ gain (at se j) d (at di j)
    no_gain se' di' e k = omega (arith, gain_in (at se' j) d (at di' j) (omega arith), gain_out (at se j) d (at di j) out)

    -- an owned column joins: its row's price fits there
    pub join_under : at ro j < n → (x : ℕ) → x < cols → at se x ≡ 0 → at u (at ro j) ≤ cell_at cells cols (at ro j) x + at w x
    join_under own x lx o =
        let r : at ro j < suc i = gr.matched.forth j (omega arith) own in
        let e : at co (at ro j) ≡ j = gr.matched.forth_col j (omega arith) own in
        let a : at se (at co (at ro j)) ≡ at se j = ap (at se) e in
        omega (
          arith,
          gr.priced.under (at ro j) x r lx,
          gr.U-is (at ro j) r,
          gr.W-is x lx,
          gain_out (at se x) d (at di x) o,
        )

    module _ (own : at ro j < n) (se' di' fr' : List ℕ) (g : Joined cells cols (at ro j) (at u (at ro j)) j (t + 1) d w se di fr se' di' fr') where
      seen_j : 0 < at se' j
      seen_j = omega (arith, g.turned)

      kept_di : (x : ℕ) → x ≤ cols → 0 < at se' x → at di' x ≡ at di x
      kept_di x lx p = ⊎_elim
          (λ (e : x ≡ cols). ap (at di') e ∙ g.relaxed.stand ∙ ap (at di) (sym e))
          (λ ne. (g.relaxed.kept x (omega arith) p).0)
          (same? x cols)

      -- what every price has gained is as it was
      same_gain : (x : ℕ) → x ≤ cols → gain (at se' x) d (at di' x) ≡ gain (at se x) d (at di x)
      same_gain x lx = ⊎_elim
          (λ (e : x ≡ j). rw e (no_gain se' di' g.turned (kept_di j (omega arith) seen_j)))
          (λ ne.
          let a : at se' x ≡ at se x = g.others x ne in
          ⊎_elim
          (λ (o : at se x ≡ 0). gain_out (at se' x) d (at di' x) (a ∙ o) ∙ sym (gain_out (at se x) d (at di x) o))
          (λ in-x. rw (a, kept_di x lx (omega arith)) refl)
          (same? (at se x) 0))
          (same? x j)

      abbrev S'' : ℕ → ℕ
      S'' x = left (at se' x) d (at di' x)

      was_out : (x : ℕ) → at se' x ≡ 0 → at se x ≡ 0
      was_out x o = ⊎_elim
          (λ (e : x ≡ j). absurd (let a : at se' x ≡ at se' j = ap (at se') e in omega (arith, seen_j)))
          (λ ne. sym (g.others x ne) ∙ o)
          (same? x j)

      own_price : gr.U (at ro j) ≡ at u (at ro j)
      own_price =
          let r : at ro j < suc i = gr.matched.forth j (omega arith) own in
          let e : at co (at ro j) ≡ j = gr.matched.forth_col j (omega arith) own in
          let a : at se (at co (at ro j)) ≡ 0 = ap (at se) e ∙ out in
          omega (arith, gr.U-is (at ro j) r, gain_out (at se (at co (at ro j))) d (at di (at co (at ro j))) a)

      out_price : (x : ℕ) → x < cols → at se x ≡ 0 → gr.W x ≡ at w x
      out_price x lx o = omega (arith, gr.W-is x lx, gain_out (at se x) d (at di x) o)

      still_ahead : (x : ℕ) → x < cols → at se' x ≡ 0 → d ≤ at di' x
      still_ahead x lx o =
          let h = gr.outside x lx (was_out x o) in
          ⊎_elim (λ y. omega arith) (λ y. omega (arith, join_under own x lx (was_out x o))) (g.relaxed.lowered x lx o)

      pub joined : Growing cells n cols i (t + 1) f d u w ro co di' fr' se'
      joined = record {
        U = gr.U;
        W = gr.W;
        S = S'';
        U-is = λ r lr. gr.U-is r lr ∙ ap (λ (y : ℕ). at u r + y) (sym (same_gain (at co r) (co_low r (omega arith))));
        W-is = λ x lx. gr.W-is x lx ∙ ap (λ (y : ℕ). at w x + y) (sym (same_gain x (omega arith)));
        S-is = λ x lx. refl;
        matched = gr.matched;
        priced = gr.priced;
        tree = subst (λ (x : ℕ). Tree n cols x (cell_at cells cols) (at ro) gr.U gr.W (at se') S'' (at fr')) (omega arith)
            (mark j (at se') S'' (at fr') gr.tree lj out slack_zero own (let e = g.turned in omega arith)
            (λ x lx ne. g.others x ne)
            (λ x lx p. (kept_slack x lx p, (g.relaxed.kept x lx p).1))
            lower_slack);
        below = gr.below;
        free = gr.free;
        inside = λ x lx p. ⊎_elim
            (λ (e : x ≡ j). rw e (omega (arith, kept_di j (omega arith) seen_j)))
            (λ ne. omega (arith, kept_di x lx p, gr.inside x lx (let a = g.others x ne in omega arith)))
            (same? x j);
        outside = still_ahead;
        home = g.relaxed.stand ∙ gr.home;
      }
        where
          kept_slack : (x : ℕ) → x < cols → 0 < at se' x → S'' x ≡ gr.S x
          kept_slack x lx p = left_in_lem (at se' x) d (at di' x) p ∙ ⊎_elim
              (λ (e : x ≡ j). sym (ap gr.S e ∙ slack_zero))
              (λ ne. let a = g.others x ne in sym (gr.S-is x lx ∙ left_in_lem (at se x) d (at di x) (omega arith)))
              (same? x j)

          lower_slack : (x : ℕ) → x < cols → at se' x ≡ 0
              → Step.Relaxed j (gr.U (at ro j)) (cell_at cells cols (at ro j) x) (gr.W x) (gr.S x) (at fr x) (S'' x) (at fr' x)
          lower_slack x lx o =
              let b = was_out x o in
              let s = gr.S-is x lx ∙ left_out (at se x) d (at di x) b in
              let s'' = left_out (at se' x) d (at di' x) o in
              let h = gr.outside x lx b in
              let h' = still_ahead x lx o in
              let pu = own_price in
              let pw = out_price x lx b in
              ⊎_elim
              (λ y. inl (omega arith, y.1, omega arith))
              (λ y. inr (y.0, omega arith, omega arith))
              (g.relaxed.lowered x lx o)

    -- a free column is where the augmenting path begins
    module _ (fj : n ≤ at ro j) (se' : List ℕ) (e : at se' j ≡ t + 1) (ne : (x : ℕ) → (x ≡ j → ⊥) → at se' x ≡ at se x) where
      path : Path n cols 0 (cell_at cells cols) (at ro) gr.U gr.W (at se') (at fr)
      path = way j (at se') gr.tree lj out slack_zero fj (omega arith) (λ x lx. ne x) gr.matched gr.priced

      walk : Walk n cols (suc i) 0 j (cell_at cells cols) (at ro) (at co) gr.U gr.W (at se') (at fr) (at ro) (at co)
      walk = walk_start j (at se') gr.tree lj out slack_zero fj (omega arith) (λ x lx. ne x) gr.matched gr.priced

      pub going : Going n cols se' fr ro co j
      going = record {
        rows = suc i;
        few = li;
        lo = 0;
        c = cell_at cells cols;
        ro0 = at ro;
        co0 = at co;
        u = gr.U;
        w = gr.W;
        path = path;
        walk = walk;
      }

      same_gain_free : (x : ℕ) → gain (at se' x) d (at di x) ≡ gain (at se x) d (at di x)
      same_gain_free x = ⊎_elim
          (λ (q : x ≡ j). rw q (no_gain se' di e refl))
          (λ q. rw (ne x q) refl)
          (same? x j)

      pub inside_free : (x : ℕ) → x ≤ cols → 0 < at se' x → at di x ≤ d
      inside_free x lx p = ⊎_elim
          (λ (q : x ≡ j). rw q (omega arith))
          (λ q. gr.inside x lx (let a = ne x q in omega arith))
          (same? x j)

      pub ended : (u' w' ro' co' : List ℕ) → RaisedRows se' co di (i + 1) d u u' → RaisedColumns se' di cols d w w'
          → Gone n cols se' fr ro co j ro' co' cols → State cells n cols (i + 1) u' w' ro' co'
      ended u' w' ro' co' ru rw' gone = record {
        matched = subst (λ (x : ℕ). Matched n cols x (at ro') (at co')) (omega arith) (walk_matched wk li);
        priced = record {
          under = λ r x lr lx. omega (arith, u_is r lr, w_is x lx, pr.under r x (omega arith) lx);
          tight = λ r lr lc. u_is r lr ∙ pr.tight r (omega arith) lc ∙ ap (λ (y : ℕ). cell_at cells cols r (at co' r) + y) (sym (w_is (at co' r) lc));
          unused = λ x lx fx. w_is x lx ∙ pr.unused x lx fx;
        };
        u_bound = λ B low r lr. omega (arith, u_is r lr, u_below B low r lr);
        w_bound = λ B low x lx. omega (arith, w_is x lx, w_below B low x lx);
      }
        where
          wk : Walk n cols (suc i) 0 cols (cell_at cells cols) (at ro) (at co) gr.U gr.W (at se') (at fr) (at ro') (at co')
          wk = gone (suc i) 0 (cell_at cells cols) (at ro) (at co) gr.U gr.W li path walk

          pr : Priced n cols (suc i) (cell_at cells cols) (at ro') (at co') gr.U gr.W
          pr = walk_priced wk

          u_is : (r : ℕ) → r < i + 1 → at u' r ≡ gr.U r
          u_is r lr = ru.raised r lr ∙ ap (λ (y : ℕ). at u r + y) (same_gain_free (at co r)) ∙ sym (gr.U-is r (omega arith))

          w_is : (x : ℕ) → x < cols → at w' x ≡ gr.W x
          w_is x lx = rw'.raised x lx ∙ ap (λ (y : ℕ). at w x + y) (same_gain_free x) ∙ sym (gr.W-is x lx)

-- one column more in the tree is one fewer outside it
pub unseen_less : (cols : ℕ) (se se' : List ℕ) (j : ℕ) → j < cols → at se j ≡ 0 → 0 < at se' j
    → ((x : ℕ) → (x ≡ j → ⊥) → at se' x ≡ at se x)
    → unseen cols se' < unseen cols se
unfolding unseen
unseen_less cols se se' j lj out p same =
    sum_lt cols {f = λ x. cond (eqb (at se' x) 0) 1 0} {g = λ x. cond (eqb (at se x) 0) 1 0} j lj
    (λ k lk. ⊎_elim
    (λ e. rw e (rw (ne_eqb (at se' j) 0 (λ q. omega arith)) (omega arith)))
    (λ ne. rw (same k ne) (omega arith))
    (same? k j))
    (rw (eq-eqb (at se j) 0 out, ne_eqb (at se' j) 0 (λ q. omega arith)) (omega arith))

pub unseen_most : (cols : ℕ) (se : List ℕ) → unseen cols se ≤ cols
unfolding unseen sum
unseen_most cols se = le_cols cols
  where
    le_cols : (x : ℕ) → sum x (λ j. cond (eqb (at se j) 0) 1 0) ≤ x
    le_cols zero = omega arith
    le_cols (suc x) = omega (arith, le_cols x, cond-one (eqb (at se x) 0))

-- row i at the stand
pub prepared : {cells : List ℕ} {n cols i f : ℕ} {u w ro co : List ℕ} (di fr se : List ℕ)
    → Matrix cells n cols → i < n → Sizes u w ro co → State cells n cols i u w ro co → FreeColumn ro n cols f
    → Cleared cols se → Rooted cells cols i w di fr
    → Growing cells n cols i 1 f 0 (set u i 0) w (set ro cols i) (set co i cols) di fr se
prepared {cells} {n} {cols} {i} {f} {u} {w} {ro} {co} di fr se mx li sz st fc cl be =
    record {
      U = at (set u i 0);
      W = at w;
      S = λ j. cell_at cells cols i j + at w j;
      U-is = λ r lr. omega (arith, none (at (set co i cols) r));
      W-is = λ j lj. omega (arith, none j);
      S-is = λ j lj. omega (arith, left_out (at se j) 0 (at di j) (cl.zeros j lj), be.distances j lj);
      matched = start_matched (at (set ro cols i)) (at (set co i cols)) st.matched li rm rx ck cx;
      priced = start_priced (at (set ro cols i)) (at (set co i cols)) (at (set u i 0)) st.priced rx ck cx uk
          (λ s ls. at_other u i 0 s (λ e. omega arith));
      tree = start_tree n cols i (cell_at cells cols) (at (set ro cols i)) (at (set u i 0)) (at w) (at se) (λ j. cell_at cells cols i j + at w j)
          (at fr) li rm
          cl.stand cl.zeros be.froms (λ j lj. omega (arith, uk));
      below = lf;
      free = rw (rx f lf) (fc.here lf);
      inside = λ j lj p. ⊎_elim
          (λ (e : j ≡ cols). let a : at di j ≡ at di cols = ap (at di) e in omega (arith, be.home))
          (λ ne. absurd (omega (arith, cl.zeros j (omega arith))))
          (same? j cols);
      outside = λ j lj o. omega arith;
      home = be.home;
    }
  where
    rm : at (set ro cols i) cols ≡ i
    rm = at_same ro cols i (omega (arith, sz.ro65, mx.cols64))

    rx : (x : ℕ) → x < cols → at (set ro cols i) x ≡ at ro x
    rx x lx = at_other ro cols i x (λ e. omega arith)

    ck : at (set co i cols) i ≡ cols
    ck = at_same co i cols (omega (arith, sz.co32, mx.rows32))

    cx : (s : ℕ) → s < i → at (set co i cols) s ≡ at co s
    cx s ls = at_other co i cols s (λ e. omega arith)

    uk : at (set u i 0) i ≡ 0
    uk = at_same u i 0 (omega (arith, sz.u32, mx.rows32))

    -- nothing has been gained at the distance 0
    none : (x : ℕ) → gain (at se x) 0 (at di x) ≡ 0
    none x = ⊎_elim (λ e. gain_out (at se x) 0 (at di x) e) (λ ne. gain_in (at se x) 0 (at di x) (omega arith) ∙ omega arith) (same? (at se x) 0)

    lf : f < cols
    lf = ⊎_elim
        (λ lt. lt)
        (λ ge. absurd (some_free st.matched (omega (arith, mx.wide)) (λ j lj. fc.before j (omega arith))))
        (less? f cols)

-- every row has a column: the total is the least
pub state_least : {cells : List ℕ} {n cols : ℕ} {u w ro co : List ℕ} → n ≤ cols → State cells n cols n u w ro co
    → total n (cell_at cells cols) (at co) ≡ least_total (cell_at cells cols) n cols
state_least {cells} {n} {cols} {u} {w} {ro} {co} wide st =
    let c : ℕ → ℕ → ℕ = cell_at cells cols in
    let ch : IsChoice n cols (at co) = matched_choice st.matched in
    omega (
      arith,
      tight_least ch (priced_tight st.matched st.priced) st.priced.under (column_of c n cols) (chosen_choice c n cols wide),
      chosen_total c n cols wide,
      chosen_least c n cols wide (at co) ch,
    )

-- no row has a column
pub state_none : (cells : List ℕ) (n cols : ℕ) (u w ro co : List ℕ) → ((j : ℕ) → j < cols → (at ro j ≡ n) × (at w j ≡ 0))
    → State cells n cols 0 u w ro co
state_none cells n cols u w ro co h =
    record {
      matched = record {
        back = λ r lr. absurd (omega arith);
        back_row = λ r lr. absurd (omega arith);
        forth = λ j lj lr. absurd (let a = h j lj in omega arith);
        forth_col = λ j lj lr. absurd (let a = h j lj in omega arith);
      };
      priced = record { under = λ r j lr lj. absurd (omega arith); tight = λ r lr lc. absurd (omega arith); unused = λ j lj fj. (h j lj).1 };
      u_bound = λ B low r lr. absurd (omega arith);
      w_bound = λ B low j lj. let a = h j lj in omega arith;
    }
