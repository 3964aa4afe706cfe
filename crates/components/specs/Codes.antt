-- Document 01's codes of each enum, and the enum of each code. Assumes nothing.
use Rattle.std.specs.Prelude.{ℕ, suc, ◌≤◌, ◌≡◌, refl, Bool, true, false, cond, eqb}
use Rattle.std.proofs.Common.{ap, ◌∙◌, ⊎_elim, arith, eqb-true}
use Rattle.laws.specs.Bools.{which}
use Rattle.laws.specs.Folds.{every, every_at}
use Rattle.components.specs.declared.Kind.{Kind}
use Rattle.components.specs.declared.Kind.TheVariants as kind
use Rattle.components.specs.declared.Strategy.{Strategy}
use Rattle.components.specs.declared.Strategy.TheVariants as strategy
use Rattle.components.specs.declared.Traffic.{Traffic}
use Rattle.components.specs.declared.Traffic.TheVariants as traffic
use Rattle.components.specs.declared.Phase.{Phase}
use Rattle.components.specs.declared.Phase.TheVariants as phase
use Rattle.components.specs.declared.Direction.{Direction}
use Rattle.components.specs.declared.Direction.TheVariants as direction
use Rattle.components.specs.declared.Mode.{Mode}
use Rattle.components.specs.declared.Mode.TheVariants as mode

-- ---- the enum of a code; the last case takes what document 01 gives no meaning

-- the table's column "Kind", and request F-2: "A new kind 8"
unfoldable pub kind_of : ℕ → Kind
kind_of n =
    cond (eqb n 1) kind.Policy
    (cond (eqb n 2) kind.Stop
    (cond (eqb n 3) kind.Line
    (cond (eqb n 4) kind.Car
    (cond (eqb n 5) kind.Aboard
    (cond (eqb n 6) kind.Waiting
    (cond (eqb n 7) kind.Demand
    (cond (eqb n 8) kind.Closed
    kind.Unknown)))))))

-- "strategy 2 (0 ETD, 1 RSR, 2 SCAN)"
unfoldable pub strategy_of : ℕ → Strategy
strategy_of n = cond (eqb n 0) strategy.Etd (cond (eqb n 1) strategy.Rsr (cond (eqb n 2) strategy.Scan strategy.Unknown))

-- "traffic 2 (0 idle, 1 up peak, 2 inter-floor, 3 down peak)": two bits have no further code
unfoldable pub traffic_of : ℕ → Traffic
traffic_of n = cond (eqb n 0) traffic.Idle (cond (eqb n 1) traffic.UpPeak (cond (eqb n 2) traffic.InterFloor traffic.DownPeak))

-- "phase 3 (0 idle, 1 moving, 2 repositioning, 3 door opening, 4 loading, 5 door closing, 6 stopped); stop of phases 1 and 2"
unfoldable pub phase_of : ℕ → ℕ → Phase
phase_of n s =
    cond (eqb n 0) phase.Idle
    (cond (eqb n 1) (phase.MovingToStop s)
    (cond (eqb n 2) (phase.Repositioning s)
    (cond (eqb n 3) phase.DoorOpening
    (cond (eqb n 4) phase.Loading
    (cond (eqb n 5) phase.DoorClosing
    (cond (eqb n 6) phase.Stopped
    phase.Unknown))))))

-- "sweep (0 up), mode (0 strict)"
unfoldable pub direction_of : Bool → Direction
direction_of b = cond b direction.Down direction.Up

unfoldable pub mode_of : Bool → Mode
mode_of b = cond b mode.Lenient mode.Strict

-- ---- document 01's number of each case

-- 0 is no kind's
abbrev pub kind_code : Kind → ℕ
kind_code kind.Policy = 1
kind_code kind.Stop = 2
kind_code kind.Line = 3
kind_code kind.Car = 4
kind_code kind.Aboard = 5
kind_code kind.Waiting = 6
kind_code kind.Demand = 7
kind_code kind.Closed = 8
kind_code kind.Unknown = 0

-- "strategy 3" is refused (8)
abbrev pub strategy_code : Strategy → ℕ
strategy_code strategy.Etd = 0
strategy_code strategy.Rsr = 1
strategy_code strategy.Scan = 2
strategy_code strategy.Unknown = 3

abbrev pub traffic_code : Traffic → ℕ
traffic_code traffic.Idle = 0
traffic_code traffic.UpPeak = 1
traffic_code traffic.InterFloor = 2
traffic_code traffic.DownPeak = 3

-- "phase 7" is refused (8)
abbrev pub phase_code : Phase → ℕ
phase_code phase.Idle = 0
phase_code (phase.MovingToStop s) = 1
phase_code (phase.Repositioning s) = 2
phase_code phase.DoorOpening = 3
phase_code phase.Loading = 4
phase_code phase.DoorClosing = 5
phase_code phase.Stopped = 6
phase_code phase.Unknown = 7

abbrev pub direction_code : Direction → ℕ
direction_code direction.Up = 0
direction_code direction.Down = 1

abbrev pub mode_code : Mode → ℕ
mode_code mode.Strict = 0
mode_code mode.Lenient = 1

-- ---- both ways

-- x is the case of the code n, and n, where it is at most `most`, is the number of x
pub record HasCode {A : Type 0} (of : ℕ → A) (code : A → ℕ) (most n : ℕ) (x : A) : Type 0 where
  pub is : x ≡ of n
  pub number : n ≤ most → code x ≡ n

pub has_code : {A : Type 0} {of : ℕ → A} {code : A → ℕ} {most n : ℕ} {x : A} → every (λ m. eqb (code (of m)) m) (suc most) ≡ true
    → x ≡ of n
    → HasCode of code most n x
has_code {A} {of} {code} {most} {n} {x} all e =
    record {
      is = e;
      number = λ l. ap code e ∙ eqb-true (code (of n)) n (every_at (λ m. eqb (code (of m)) m) (suc most) n all (omega arith));
    }

pub kind_codes : every (λ m. eqb (kind_code (kind_of m)) m) 9 ≡ true
unfolding every kind_of
kind_codes = refl

pub strategy_codes : every (λ m. eqb (strategy_code (strategy_of m)) m) 4 ≡ true
unfolding every strategy_of
strategy_codes = refl

pub traffic_codes : every (λ m. eqb (traffic_code (traffic_of m)) m) 4 ≡ true
unfolding every traffic_of
traffic_codes = refl

pub phase_codes : (stop : ℕ) → every (λ m. eqb (phase_code (phase_of m stop)) m) 8 ≡ true
unfolding every phase_of
phase_codes stop = refl

-- ---- what holds of the kind of a code

pub by_code : {A : Type 0} (P : A → Type 0) (n m : ℕ) (k rest : A) → (n ≡ m → P k) → P rest → P (cond (eqb n m) k rest)
by_code P n m k rest here there =
    ⊎_elim (λ (e : eqb n m ≡ true). rw e (here (eqb-true n m e))) (λ (e : eqb n m ≡ false). rw e there) (which (eqb n m))

pub by_kind : (P : Kind → Type 0) (n : ℕ) → (n ≡ 1 → P kind.Policy) → (n ≡ 2 → P kind.Stop) → (n ≡ 3 → P kind.Line)
    → (n ≡ 4 → P kind.Car)
    → (n ≡ 5 → P kind.Aboard) → (n ≡ 6 → P kind.Waiting) → (n ≡ 7 → P kind.Demand) → (n ≡ 8 → P kind.Closed) → P kind.Unknown
    → P (kind_of n)
unfolding kind_of
by_kind P n p s l k a w d c u =
    by_code P n 1 kind.Policy _ p
    (by_code P n 2 kind.Stop _ s
    (by_code P n 3 kind.Line _ l
    (by_code P n 4 kind.Car _ k
    (by_code P n 5 kind.Aboard _ a
    (by_code P n 6 kind.Waiting _ w
    (by_code P n 7 kind.Demand _ d
    (by_code P n 8 kind.Closed _ c u)))))))
