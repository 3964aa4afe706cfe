-- What the functions of the search promise of the lists that they share, and the steps from one to the next. Assumes nothing.
use Rattle.std.specs.Prelude.{◌≡◌, refl, Bool, true, false, List, ℕ, suc, ◌+◌, ◌≤◌, ◌<◌, length, set, eqb}
use Rattle.std.proofs.Common.{sym, ap, ◌∙◌, subst, ⊎_elim, arith, length-set, eqb-true}
use Rattle.std.proofs.lemmas.Bool.{eqb-false}
use Rattle.laws.specs.Bools.{same?}
use Rattle.assignment_problem.specs.Choice.{IsChoice, total, Lowest, cell_at}
use Rattle.assignment_problem.proofs.PriceLaws.{tight_least}
use Rattle.assignment_problem.specs.Insertion.{Matched, Priced, May, Path, Walk, matched_choice, priced_tight, walk_matched, walk_priced}
use Rattle.alternating_tree.specs.Lists.{at, big, at_same, at_other, Going, Gone}
use Rattle.alternating_tree.specs.State.{Sizes, Scratch, Matrix, State, Cleared, unseen, unseen_less, unseen_most}
use Rattle.equality_graph.specs.Unreachable.{low}
use Rattle.equality_graph.specs.Search.{Front, front_start, front_top, front_next, front_shut, front_push, front_path, front_walk}

abbrev pub MayIn : (cells : List ℕ) (n cols : ℕ) (u w : List ℕ) (r y : ℕ) → Type 0
MayIn cells n cols u w r y = May n (cell_at cells cols) (at u) (at w) r y

-- the answer is whether what is held may go there
pub record MayIs (cells : List ℕ) (n cols : ℕ) (u w : List ℕ) (r y : ℕ) (b : Bool) : Type 0 where
  pub yes_may : b ≡ true → MayIn cells n cols u w r y
  pub no_may : b ≡ false → MayIn cells n cols u w r y → ⊥

-- the lists of the search: sizes, numbers that fit, and row i at the stand
pub record SearchReady (cells : List ℕ) (n cols i : ℕ) (u w ro se fr qu : List ℕ) : Type 0 where
  pub matrix : Matrix cells n cols
  pub row : i < n
  pub u32 : length u ≡ 32
  pub w65 : length w ≡ 65
  pub ro65 : length ro ≡ 65
  pub se65 : length se ≡ 65
  pub fr65 : length fr ≡ 65
  pub qu65 : length qu ≡ 65
  pub w_small : (j : ℕ) → j < cols → at w j ≤ big
  pub stand : at ro cols ≡ i

pub ready_keep : {cells : List ℕ} {n cols i : ℕ} {u w ro se fr qu : List ℕ} (se' fr' qu' : List ℕ)
    → SearchReady cells n cols i u w ro se fr qu
    → length se' ≡ length se → length fr' ≡ length fr → length qu' ≡ length qu → SearchReady cells n cols i u w ro se' fr' qu'
ready_keep se' fr' qu' r a b d =
    record {
      matrix = r.matrix;
      row = r.row;
      u32 = r.u32;
      w65 = r.w65;
      ro65 = r.ro65;
      se65 = a ∙ r.se65;
      fr65 = b ∙ r.fr65;
      qu65 = d ∙ r.qu65;
      w_small = r.w_small;
      stand = r.stand;
    }

-- a search that has seen len columns and looked from h of them, with room in the queue for the others
pub record Search (cells : List ℕ) (n cols i h len top : ℕ) (u w ro se fr qu : List ℕ) : Type 0 where
  pub front : Front n cols i h len top (cell_at cells cols) (at ro) (at u) (at w) (at se) (at fr) (at qu)
  pub room : len + unseen cols se ≤ cols

-- column x has been seen, and y may be seen from it
pub record Source (cols len top : ℕ) (ro se : List ℕ) (x r y : ℕ) : Type 0 where
  pub within : x ≤ cols
  pub seen : 0 < at se x
  pub turn : at se x ≤ suc len
  pub holds : r ≡ at ro x
  pub target : y < cols
  pub first : x ≡ cols → y < top

-- column y has been looked at, from column x
pub record Visited (cells : List ℕ) (n cols i h len top r y : ℕ) (u w ro se qu se' fr' qu' : List ℕ) (len' : ℕ) : Type 0 where
  pub search : Search cells n cols i h len' top u w ro se' fr' qu'
  pub shut : at se' y ≡ 0 → i ≤ at ro y → MayIn cells n cols u w r y → ⊥
  pub more : (z : ℕ) → 0 < at se z → 0 < at se' z
  pub head : (p : ℕ) → p < len → at qu' p ≡ at qu p
  pub grows : len ≤ len'

-- so it is for every search that had come to this
pub record VisitedAll (cells : List ℕ) (n cols i len x r y : ℕ) (u w ro se fr qu se' fr' qu' : List ℕ) (len' : ℕ) : Type 0 where
  pub visited : (h top : ℕ) → Search cells n cols i h len top u w ro se fr qu → Source cols len top ro se x r y
      → Visited cells n cols i h len top r y u w ro se qu se' fr' qu' len'
  pub space : len' + unseen cols se' ≤ len + unseen cols se

-- the columns below y have been looked at, from the h-th of the queue
pub record Expanding (cells : List ℕ) (n cols i h len top y : ℕ) (u w ro se qu se' fr' qu' : List ℕ) (len' : ℕ) : Type 0 where
  pub search : Search cells n cols i h len' top u w ro se' fr' qu'
  pub shut : (z : ℕ) → z < y → at se' z ≡ 0 → i ≤ at ro z → MayIn cells n cols u w (at ro (at qu h)) z → ⊥
  pub more : (z : ℕ) → 0 < at se z → 0 < at se' z
  pub head : (p : ℕ) → p < len → at qu' p ≡ at qu p
  pub grows : len ≤ len'

pub record ExpandingAll (cells : List ℕ) (n cols i h len y : ℕ) (u w ro se fr qu se' fr' qu' : List ℕ) (len' : ℕ) : Type 0 where
  pub expanding : (top : ℕ) → Search cells n cols i h len top u w ro se fr qu
      → Expanding cells n cols i h len top y u w ro se qu se' fr' qu' len'
  pub space : len' + unseen cols se' ≤ len + unseen cols se

-- every column has been looked at, from the h-th of the queue
pub record Expanded (cells : List ℕ) (n cols i h len top : ℕ) (u w ro se qu se' fr' qu' : List ℕ) (len' : ℕ) : Type 0 where
  pub search : Search cells n cols i (h + 1) len' top u w ro se' fr' qu'
  pub more : (z : ℕ) → 0 < at se z → 0 < at se' z
  pub head : (p : ℕ) → p < len → at qu' p ≡ at qu p
  pub grows : len ≤ len'

pub record ExpandedAll (cells : List ℕ) (n cols i h len : ℕ) (u w ro se fr qu se' fr' qu' : List ℕ) (len' : ℕ) : Type 0 where
  pub expanded : (top : ℕ) → Search cells n cols i h len top u w ro se fr qu
      → Expanded cells n cols i h len top u w ro se qu se' fr' qu' len'
  pub space : len' + unseen cols se' ≤ len + unseen cols se

-- the search from column j has ended: column k was seen, or every column seen has been looked from
pub record SearchEnded (cells : List ℕ) (n cols i j k : ℕ) (u w ro se se' fr' qu' : List ℕ) (len' : ℕ) : Type 0 where
  pub looked : ℕ
  pub search : Search cells n cols i looked len' (j + 1) u w ro se' fr' qu'
  pub all : at se' k ≡ 0 → len' ≤ looked
  pub tried : i ≤ at ro j → MayIn cells n cols u w i j → 0 < at se' j
  pub more : (z : ℕ) → 0 < at se z → 0 < at se' z

-- the search from column j has looked from h columns of the queue
pub record Reaching (cells : List ℕ) (n cols i j h : ℕ) (u w ro se se' fr' qu' : List ℕ) (len' : ℕ) : Type 0 where
  pub search : Search cells n cols i h len' (j + 1) u w ro se' fr' qu'
  pub tried : i ≤ at ro j → MayIn cells n cols u w i j → 0 < at se' j
  pub more : (z : ℕ) → 0 < at se z → 0 < at se' z

pub may_none : {cells : List ℕ} {n cols : ℕ} {u w : List ℕ} {r y : ℕ} → n ≤ r → MayIs cells n cols u w r y (eqb (at w y) 0)
may_none {cells} {n} {cols} {u} {w} {r} {y} ge =
    record {
      yes_may = λ e. record { row = λ l. absurd (omega arith); none = λ l. eqb-true (at w y) 0 e };
      no_may = λ e m. eqb-false (at w y) 0 e (m.none ge);
    }

pub may_row : {cells : List ℕ} {n cols : ℕ} {u w : List ℕ} {r y : ℕ} (x : ℕ) → r < n → x ≡ cell_at cells cols r y
    → MayIs cells n cols u w r y (eqb (at u r) (x + at w y))
may_row {cells} {n} {cols} {u} {w} {r} {y} x lr ex =
    record {
      yes_may = λ e. record { row = λ l. let a = eqb-true (at u r) (x + at w y) e in omega arith; none = λ l. absurd (omega arith) };
      no_may = λ e m. eqb-false (at u r) (x + at w y) e (let a = m.row lr in omega arith);
    }

-- y is seen
pub visit_push : {cells : List ℕ} {n cols i h len top : ℕ} {u w ro se fr qu : List ℕ} (x r y : ℕ)
    → SearchReady cells n cols i u w ro se fr qu → Search cells n cols i h len top u w ro se fr qu → Source cols len top ro se x r y
    → at se y ≡ 0 → i ≤ at ro y → MayIn cells n cols u w r y
    → Visited cells n cols i h len top r y u w ro se qu (set se y (len + 1 + 1)) (set fr y x) (set qu len y) (len + 1)
visit_push {cells} {n} {cols} {i} {h} {len} {top} {u} {w} {ro} {se} {fr} {qu} x r y rd s so out lr ma =
    let l64 = rd.matrix.cols64 in
    let t : ℕ = len + 1 + 1 in
    let ly : y < cols = so.target in
    let cap : len + unseen cols se ≤ cols = s.room in
    let s1 : at (set se y t) y ≡ t = at_same se y t (omega (arith, rd.se65)) in
    let s2 : (z : ℕ) → (z ≡ y → ⊥) → at (set se y t) z ≡ at se z = λ z ne. at_other se y t z ne in
    let q2 : (p : ℕ) → p < len → at (set qu len y) p ≡ at qu p = λ p lp. at_other qu len y p (λ e. omega arith) in
    let less : unseen cols (set se y t) < unseen cols se = unseen_less cols se (set se y t) y ly out (omega arith) s2 in
    record {
      search = record {
        front = front_push s.front x so.within so.seen so.turn y ly out lr (rw so.holds at ma) so.first
            (at (set se y t)) (at (set fr y x)) (at (set qu len y))
            (omega arith) s2 (at_same fr y x (omega (arith, rd.fr65))) (λ z ne. at_other fr y x z ne)
            (at_same qu len y (omega (arith, rd.qu65))) q2;
        room = omega arith;
      };
      shut = λ z l m2. omega arith;
      more = λ z p. ⊎_elim
          (λ (e : z ≡ y). absurd (let a : at se z ≡ at se y = ap (at se) e in omega arith))
          (λ ne. omega (arith, s2 z ne))
          (same? z y);
      head = q2;
      grows = omega arith;
    }

pub push_space : (len : ℕ) {cells : List ℕ} {n cols i y : ℕ} {u w ro se fr qu : List ℕ} → SearchReady cells n cols i u w ro se fr qu
    → y < cols → at se y ≡ 0
    → len + 1 + unseen cols (set se y (len + 1 + 1)) ≤ len + unseen cols se
push_space len {cells} {n} {cols} {i} {y} {u} {w} {ro} {se} rd ly out =
    let l64 = rd.matrix.cols64 in
    omega (
      arith,
      unseen_less cols se (set se y (len + 1 + 1)) y ly out (let e = at_same se y (len + 1 + 1) (omega (arith, rd.se65)) in omega arith)
          (λ z ne. at_other se y (len + 1 + 1) z ne),
    )

-- nothing is done where y is seen already, has a row before i, or may not be gone to
pub visit_keep : {cells : List ℕ} {n cols i h len top r y : ℕ} {u w ro se fr qu : List ℕ} → Search cells n cols i h len top u w ro se fr qu
    → (at se y ≡ 0 → i ≤ at ro y → MayIn cells n cols u w r y → ⊥) → Visited cells n cols i h len top r y u w ro se qu se fr qu len
visit_keep s sh = record { search = s; shut = sh; more = λ z p. p; head = λ p l. refl; grows = omega arith }

-- the h-th column of the queue as a source
pub source_of : {cells : List ℕ} {n cols i h len top : ℕ} {u w ro se fr qu : List ℕ} (x r y : ℕ)
    → Search cells n cols i h len top u w ro se fr qu
    → h < len → x ≡ at qu h → r ≡ at ro x → y < cols → Source cols len top ro se x r y
source_of {cells} {n} {cols} {i} {h} {len} {top} {u} {w} {ro} {se} {fr} {qu} x r y s lh ex er ly =
    let rank : at se x ≡ suc (suc h) = ap (at se) ex ∙ s.front.member_rank h lh in
    let lx : x < cols = omega (arith, s.front.member h lh) in
    record { within = omega arith; seen = omega arith; turn = omega arith; holds = er; target = ly; first = λ e. absurd (omega arith) }

-- the stand as a source
pub source_stand : {cells : List ℕ} {n cols i h len : ℕ} {u w ro se fr qu : List ℕ} (y : ℕ) → SearchReady cells n cols i u w ro se fr qu
    → Search cells n cols i h len (y + 1) u w ro se fr qu → y < cols → Source cols len (y + 1) ro se cols i y
source_stand y rd s ly =
    let one = s.front.stand in
    record { within = omega arith; seen = omega arith; turn = omega arith; holds = sym rd.stand; target = ly; first = λ e. omega arith }

pub search_top : {cells : List ℕ} {n cols i h len top : ℕ} {u w ro se fr qu : List ℕ} → Search cells n cols i h len top u w ro se fr qu
    → Search cells n cols i h len (top + 1) u w ro se fr qu
search_top s = record { front = front_top s.front; room = s.room }

pub search_next : {cells : List ℕ} {n cols i h len top : ℕ} {u w ro se fr qu : List ℕ} → Search cells n cols i h len top u w ro se fr qu
    → h < len
    → ((y : ℕ) → y < cols → at se y ≡ 0 → i ≤ at ro y → MayIn cells n cols u w (at ro (at qu h)) y → ⊥)
    → Search cells n cols i (h + 1) len top u w ro se fr qu
search_next s lh swept = record { front = front_next s.front lh swept; room = s.room }

-- no column has been looked at, one more, all of them
pub expand_none : {cells : List ℕ} {n cols i h len : ℕ} {u w ro se fr qu : List ℕ}
    → ExpandingAll cells n cols i h len 0 u w ro se fr qu se fr qu len
expand_none =
    record {
      expanding = λ top s. record { search = s; shut = λ z l. absurd (omega arith); more = λ z p. p; head = λ p l. refl; grows = omega arith };
      space = omega arith;
    }

pub expand_step : {cells : List ℕ} {n cols i h len len₁ len₂ y : ℕ} {u w ro se fr qu se₁ fr₁ qu₁ se₂ fr₂ qu₂ : List ℕ} (x r : ℕ)
    → h < len → x ≡ at qu h → r ≡ at ro x → y < cols → ExpandingAll cells n cols i h len y u w ro se fr qu se₁ fr₁ qu₁ len₁
    → VisitedAll cells n cols i len₁ x r y u w ro se₁ fr₁ qu₁ se₂ fr₂ qu₂ len₂
    → ExpandingAll cells n cols i h len (y + 1) u w ro se fr qu se₂ fr₂ qu₂ len₂
expand_step {cells} {n} {cols} {i} {h} {len} {len₁} {len₂} {y} {u} {w} {ro} {se} {fr} {qu} {se₁} {fr₁} {qu₁} {se₂} {fr₂} {qu₂} x r lh ex er ly ea
    va = record {
      expanding = λ top s.
          let e = ea.expanding top s in
          let l1 : h < len₁ = omega (arith, e.grows) in
          let v = va.visited h top e.search (source_of x r y e.search l1 (ex ∙ sym (e.head h lh)) er ly) in
          let rx : r ≡ at ro (at qu h) = er ∙ ap (at ro) ex in
          record {
            search = v.search;
            shut = λ z lz o l ma. ⊎_elim
                (λ (q : z ≡ y). v.shut (sym (ap (at se₂) q) ∙ o) (rw q at l) (rw (rx, ← q) ma))
                (λ ne. e.shut z (omega arith)
                (⊎_elim (λ none. none) (λ some. absurd (let a = v.more z (omega arith) in omega arith)) (same? (at se₁ z) 0)) l ma)
                (same? z y);
            more = λ z p. v.more z (e.more z p);
            head = λ p lp. v.head p (omega (arith, e.grows)) ∙ e.head p lp;
            grows = omega (arith, e.grows, v.grows);
          };
      space = omega (arith, ea.space, va.space);
    }

pub expand_done : {cells : List ℕ} {n cols i h len len₁ y : ℕ} {u w ro se fr qu se₁ fr₁ qu₁ : List ℕ} → h < len → cols ≤ y
    → ExpandingAll cells n cols i h len y u w ro se fr qu se₁ fr₁ qu₁ len₁ → ExpandedAll cells n cols i h len u w ro se fr qu se₁ fr₁ qu₁ len₁
expand_done {cells} {n} {cols} {i} {h} {len} {len₁} {y} {u} {w} {ro} {se} {fr} {qu} lh ge ea =
    record {
      expanded = λ top s.
          let e = ea.expanding top s in
          record {
            search = search_next e.search (omega (arith, e.grows)) (λ z lz o l ma. e.shut z (omega arith) o l (rw (e.head h lh) at ma));
            more = e.more;
            head = e.head;
            grows = e.grows;
          };
      space = ea.space;
    }

-- column j was looked at from the stand
module _ {cells : List ℕ} {n cols i j len len₁ : ℕ} {u w ro se fr qu se₁ fr₁ qu₁ : List ℕ} (rd : SearchReady cells n cols i u w ro se fr qu)
    (lj : j < cols)
    (s : Search cells n cols i len len j u w ro se fr qu) (va : VisitedAll cells n cols i len cols i j u w ro se fr qu se₁ fr₁ qu₁ len₁) where
  tried_first : Visited cells n cols i len len (j + 1) i j u w ro se qu se₁ fr₁ qu₁ len₁
  tried_first = va.visited len (j + 1) (search_top s) (source_stand j rd (search_top s) lj)

  pub reach_start : Reaching cells n cols i j len u w ro se₁ se₁ fr₁ qu₁ len₁
  reach_start = record {
    search = tried_first.search;
    tried = λ l ma. ⊎_elim (λ (z : at se₁ j ≡ 0). absurd (tried_first.shut z l ma)) (λ ne. omega arith) (same? (at se₁ j) 0);
    more = λ z p. p;
  }

  pub reach_more : (z : ℕ) → 0 < at se z → 0 < at se₁ z
  reach_more = tried_first.more

-- one column more was looked from
pub reach_step : {cells : List ℕ} {n cols i j h len₁ len₂ : ℕ} {u w ro se se₁ fr₁ qu₁ se₂ fr₂ qu₂ : List ℕ}
    → Reaching cells n cols i j h u w ro se se₁ fr₁ qu₁ len₁ → ExpandedAll cells n cols i h len₁ u w ro se₁ fr₁ qu₁ se₂ fr₂ qu₂ len₂
    → Reaching cells n cols i j (h + 1) u w ro se se₂ fr₂ qu₂ len₂
reach_step {cells} {n} {cols} {i} {j} re ea =
    let e = ea.expanded (j + 1) re.search in
    record { search = e.search; tried = λ l ma. e.more j (re.tried l ma); more = λ z p. e.more z (re.more z p) }

pub reach_found : {cells : List ℕ} {n cols i j k h len₁ : ℕ} {u w ro se₀ se se₁ fr₁ qu₁ : List ℕ}
    → ((z : ℕ) → 0 < at se₀ z → 0 < at se z)
    → Reaching cells n cols i j h u w ro se se₁ fr₁ qu₁ len₁ → (at se₁ k ≡ 0 → len₁ ≤ h) → SearchEnded cells n cols i j k u w ro se₀ se₁ fr₁ qu₁ len₁
reach_found {h = h} first re done =
    record { looked = h; search = re.search; all = done; tried = re.tried; more = λ z p. re.more z (first z p) }

-- nothing is seen but the stand
pub search_empty : {cells : List ℕ} {n cols i : ℕ} {u w ro se fr qu : List ℕ} → Cleared cols se
    → Search cells n cols i 0 0 0 u w ro se fr qu
search_empty {cells} {n} {cols} {i} {u} {w} {ro} {se} cl =
    record { front = front_start cl.stand cl.zeros; room = omega (arith, unseen_most cols se) }

-- ---- row after row

-- the rows before i have their lowest columns
abbrev pub Lows : (cells : List ℕ) (n cols i : ℕ) (co : List ℕ) → Type 0
Lows cells n cols i co =
    (s : ℕ) → s < i → (q : ℕ → ℕ) → IsChoice n cols q → total n (cell_at cells cols) q ≡ total n (cell_at cells cols) (at co)
    → ((r : ℕ) → r < s → q r ≡ at co r) → at co s ≤ q s

pub record Settled (cells : List ℕ) (n cols i : ℕ) (u w ro co : List ℕ) : Type 0 where
  pub matched : Matched n cols n (at ro) (at co)
  pub priced : Priced n cols n (cell_at cells cols) (at ro) (at co) (at u) (at w)
  pub lows : Lows cells n cols i co

pub settle_none : {cells : List ℕ} {n cols : ℕ} {u w ro co : List ℕ} → State cells n cols n u w ro co → Settled cells n cols 0 u w ro co
settle_none st = record { matched = st.matched; priced = st.priced; lows = λ s l. absurd (omega arith) }

-- all rows have their lowest columns
pub settle_done : {cells : List ℕ} {n cols : ℕ} {u w ro co : List ℕ} → Settled cells n cols n u w ro co
    → Lowest n cols (cell_at cells cols) (at co)
unfolding total
settle_done st =
    record {
      choice = matched_choice st.matched;
      least = tight_least (matched_choice st.matched) (priced_tight st.matched st.priced) st.priced.under;
      most = λ q hq e. omega arith;
      lowest = λ q hq e f i li agree. st.lows i li q hq e agree;
    }

-- only the stand's row is another
pub settled_stand : {cells : List ℕ} {n cols i : ℕ} {u w ro co : List ℕ} (v : ℕ) → Settled cells n cols i u w ro co
    → Settled cells n cols i u w (set ro cols v) co
settled_stand {cells} {n} {cols} {i} {u} {w} {ro} {co} v st =
    record {
      matched = record {
        back = h.back;
        back_row = λ r lr. same (at co r) (h.back r lr) ∙ h.back_row r lr;
        forth = λ j lj lr. lr;
        forth_col = λ j lj lr. ap (at co) (same j lj) ∙ h.forth_col j lj (let a = same j lj in omega arith);
      };
      priced = record { under = g.under; tight = g.tight; unused = λ j lj fj. g.unused j lj (let a = same j lj in omega arith) };
      lows = st.lows;
    }
  where
    h : Matched n cols n (at ro) (at co)
    h = st.matched

    g : Priced n cols n (cell_at cells cols) (at ro) (at co) (at u) (at w)
    g = st.priced

    same : (x : ℕ) → x < cols → at (set ro cols v) x ≡ at ro x
    same x lx = at_other ro cols v x (λ e. omega arith)

-- every column below j that row i may go to has been seen
abbrev pub Passed : (cells : List ℕ) (n cols i j : ℕ) (u w ro se : List ℕ) → Type 0
Passed cells n cols i j u w ro se = (x : ℕ) → x < j → i ≤ at ro x → MayIn cells n cols u w i x → 0 < at se x

module _ {cells : List ℕ} {n cols i len j : ℕ} {u w ro co se fr qu : List ℕ} (st : Settled cells n cols i u w ro co) (li : i < n)
    (s : Search cells n cols i len len j u w ro se fr qu) (away : at se (at co i) ≡ 0) (pd : Passed cells n cols i j u w ro se)
    (top : j ≤ at co i) where
  -- no least choice that agrees on the rows before i has a column below j for it
  bound : (q : ℕ → ℕ) → IsChoice n cols q → total n (cell_at cells cols) q ≡ total n (cell_at cells cols) (at co)
      → ((r : ℕ) → r < i → q r ≡ at co r) → j ≤ q i
  bound = low st.matched st.priced li (front_shut (at co i) s.front (omega arith) away) top
      (λ x lx l t. pd x lx l (record { row = λ lr. t; none = λ ge. absurd (omega arith) }))

  -- the search came to row i's own column: that is its lowest
  pub settle_stay : j ≡ at co i → Settled cells n cols (i + 1) u w ro co
  settle_stay e = record {
    matched = st.matched;
    priced = st.priced;
    lows = λ r lr q hq t agree. ⊎_elim
        (λ (d : r ≡ i).
        let a : at co r ≡ at co i = ap (at co) d in
        let b : q r ≡ q i = ap q d in
        omega (arith, bound q hq t (λ x lx. agree x (omega arith))))
        (λ ne. st.lows r (omega arith) q hq t agree)
        (same? r i);
  }

  -- column j leads to row i's own: the rows on the path move on, and row i gets j
  module _ (rm : at ro cols ≡ i) (ro65 : length ro ≡ 65) (co32 : length co ≡ 32) (c64 : cols ≤ 64)
      (r32 : n ≤ 32) {looked len' : ℕ} {se' fr' qu' : List ℕ}
      (s' : Search cells n cols i looked len' (j + 1) u w ro se' fr' qu') (found : 0 < at se' (at co i)) where
    k : ℕ
    k = at co i

    path : Path n cols i (cell_at cells cols) (at ro) (at u) (at w) (at se') (at fr')
    path = front_path s'.front st.matched st.priced li rm

    walk : Walk n cols n i (at co i) (cell_at cells cols) (at ro) (at co) (at u) (at w) (at se') (at fr') (at (set ro (at co i) n))
        (at (set co i cols))
    walk =
        let lk : at co i < cols = st.matched.back i li in
        front_walk s'.front st.matched st.priced li rm (at (set ro (at co i) n)) (at (set co i cols)) found
        (let e = at_same ro (at co i) n (omega arith) in omega arith) (λ x ne. at_other ro (at co i) n x ne)
        (at_same co i cols (omega arith)) (λ r ne. at_other co i cols r ne)

    pub settle_going : Going n cols se' fr' (set ro (at co i) n) (set co i cols) (at co i)
    settle_going = record {
      rows = n;
      few = omega arith;
      lo = i;
      c = cell_at cells cols;
      ro0 = at ro;
      co0 = at co;
      u = at u;
      w = at w;
      path = path;
      walk = walk;
    }

    pub settle_move : (ro' co' : List ℕ) → Gone n cols se' fr' (set ro (at co i) n) (set co i cols) (at co i) ro' co' cols
        → Settled cells n cols (i + 1) u w ro' co'
    settle_move ro' co' gone = record {
      matched = mt;
      priced = pr;
      lows = λ r lr q hq t agree. ⊎_elim
          (λ (d : r ≡ i).
          let a : at co' r ≡ at co' i = ap (at co') d in
          let b : q r ≡ q i = ap q d in
          omega (arith, lands, bound q hq (t ∙ same) (λ x lx. agree x (omega arith) ∙ wk.fixed x lx (omega arith))))
          (λ ne.
          let l : r < i = omega arith in
          omega (arith, wk.fixed r l (omega arith), st.lows r l q hq (t ∙ same) (λ x lx. agree x lx ∙ wk.fixed x (omega arith) (omega arith))))
          (same? r i);
    }
      where
        wk : Walk n cols n i cols (cell_at cells cols) (at ro) (at co) (at u) (at w) (at se') (at fr') (at ro') (at co')
        wk = gone n i (cell_at cells cols) (at ro) (at co) (at u) (at w) (omega arith) path walk

        mt : Matched n cols n (at ro') (at co')
        mt = walk_matched wk (omega arith)

        pr : Priced n cols n (cell_at cells cols) (at ro') (at co') (at u) (at w)
        pr = walk_priced wk

        same : total n (cell_at cells cols) (at co') ≡ total n (cell_at cells cols) (at co)
        same = omega (
          arith,
          tight_least (matched_choice st.matched) (priced_tight st.matched st.priced) st.priced.under (at co') (matched_choice mt),
          tight_least (matched_choice mt) (priced_tight mt pr) pr.under (at co) (matched_choice st.matched),
        )

        lands : at co' i < j + 1
        lands =
            let l = wk.landed refl in
            let a : at co' (at ro cols) ≡ at co' i = ap (at co') rm in
            let b = s'.front.roots (at co' (at ro cols)) l.0 l.1 l.2 in
            omega arith

-- ---- one row's searches

-- the columns below j have been tried for row i, whose column is k
pub record Lowering (cells : List ℕ) (n cols i k len j : ℕ) (u w ro co qu fr se : List ℕ) : Type 0 where
  pub ready : SearchReady cells n cols i u w ro se fr qu
  pub co32 : length co ≡ 32
  pub settled : Settled cells n cols i u w ro co
  pub own : at co i ≡ k
  pub below : j ≤ k
  pub search : Search cells n cols i len len j u w ro se fr qu
  pub away : at se k ≡ 0
  pub passed : Passed cells n cols i j u w ro se

pub lower_start : {cells : List ℕ} {n cols i : ℕ} {u w ro co qu fr se se' : List ℕ} → Sizes u w ro co → Scratch qu fr se
    → Matrix cells n cols → i < n
    → ((j : ℕ) → j < cols → at w j ≤ big) → Settled cells n cols i u w ro co → length se' ≡ length se → Cleared cols se'
    → Lowering cells n cols i (at co i) 0 0 u w (set ro cols i) co qu fr se'
lower_start {cells} {n} {cols} {i} {u} {w} {ro} {co} {qu} {fr} {se} {se'} sz sc mx li ws st le cl =
    record {
      ready = record {
        matrix = mx;
        row = li;
        u32 = sz.u32;
        w65 = sz.w65;
        ro65 = simp length-set sz.ro65;
        se65 = le ∙ sc.se65;
        fr65 = sc.fr65;
        qu65 = sc.di65;
        w_small = ws;
        stand = at_same ro cols i (omega (arith, sz.ro65, mx.cols64));
      };
      co32 = sz.co32;
      settled = settled_stand i st;
      own = refl;
      below = omega arith;
      search = search_empty cl;
      away = cl.zeros (at co i) (st.matched.back i li);
      passed = λ x lx. absurd (omega arith);
    }

module _ {cells : List ℕ} {n cols i k len j : ℕ} {u w ro co qu fr se : List ℕ} (lo : Lowering cells n cols i k len j u w ro co qu fr se) where
  li : i < n
  li = lo.ready.row

  pub k_within : k < cols
  k_within = omega (arith, lo.own, lo.settled.matched.back i li)

  away_own : at se (at co i) ≡ 0
  away_own = ap (at se) lo.own ∙ lo.away

  -- k was not seen from j either
  pub lower_next : {len' : ℕ} {se' fr' qu' : List ℕ} → j < k → length se' ≡ length se → length fr' ≡ length fr
      → length qu' ≡ length qu
      → SearchEnded cells n cols i j k u w ro se se' fr' qu' len' → at se' k ≡ 0 → Lowering cells n cols i k len' (j + 1) u w ro co qu' fr' se'
  lower_next {len'} {se'} {fr'} {qu'} lt a b d re away = record {
    ready = ready_keep se' fr' qu' lo.ready a b d;
    co32 = lo.co32;
    settled = lo.settled;
    own = lo.own;
    below = omega arith;
    search = subst (λ (h : ℕ). Search cells n cols i h len' (j + 1) u w ro se' fr' qu') (omega (arith, re.all away, re.search.front.order))
        re.search;
    away = away;
    passed = λ x lx l ma. ⊎_elim
        (λ (e : x ≡ j). rw e (re.tried (rw e at l) (rw e at ma)))
        (λ ne. re.more x (lo.passed x (omega arith) l ma))
        (same? x j);
  }

  -- every lower column was tried in vain
  pub lower_stays : k ≤ j → Settled cells n cols (i + 1) u w ro co
  lower_stays ge =
      settle_stay lo.settled li lo.search away_own lo.passed (let o = lo.own in let b = lo.below in omega arith)
      (let o = lo.own in let b = lo.below in omega arith)

  -- k was seen from j
  module _ {len' : ℕ} {se' fr' qu' : List ℕ} (lt : j < k) (re : SearchEnded cells n cols i j k u w ro se se' fr' qu' len')
      (found : 0 < at se' k) where
    found_own : 0 < at se' (at co i)
    found_own = rw lo.own found

    pub lower_going : Going n cols se' fr' (set ro k n) (set co i cols) k
    lower_going = subst (λ (x : ℕ). Going n cols se' fr' (set ro x n) (set co i cols) x) lo.own
        (settle_going lo.settled li lo.search away_own lo.passed (let o = lo.own in omega arith) lo.ready.stand lo.ready.ro65
        lo.co32
        lo.ready.matrix.cols64 lo.ready.matrix.rows32 re.search found_own)

    pub lower_moved : (ro' co' : List ℕ) → Gone n cols se' fr' (set ro k n) (set co i cols) k ro' co' cols
        → Settled cells n cols (i + 1) u w ro' co'
    lower_moved ro' co' gone =
        settle_move lo.settled li lo.search away_own lo.passed (let o = lo.own in omega arith) lo.ready.stand lo.ready.ro65
        lo.co32
        lo.ready.matrix.cols64 lo.ready.matrix.rows32 re.search found_own ro' co'
        (subst (λ (x : ℕ). Gone n cols se' fr' (set ro x n) (set co i cols) x ro' co' cols) (sym lo.own) gone)
