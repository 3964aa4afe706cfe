-- What is absent or unused is written as zeros, and what is present is not 0: of a car, an aboard and a waiting rider that were put, condition 8
-- holds only of a car in phase 7, and condition 9 not by an optional id. Assumes nothing.
use Rattle.std.specs.Prelude.{None, Option, Some}
use Rattle.std.specs.Float.{Float}
use Rattle.std.specs.Prelude.{ℕ, ◌+◌, ◌%◌, ◌^◌, ◌<◌, ◌≡◌, Bool, not, ◌&&◌, List, eqb}
use Rattle.std.proofs.Math.Path.{refl, ap₂}
use Rattle.std.proofs.Common.{ap, ◌∙◌, mod-eq_of_lt}
use Rattle.std.proofs.Math.Bool.{true, false, ◌||◌}
use Rattle.laws.specs.Bools.{bit}
use Rattle.bits.specs.Field.{field_at}
use Rattle.components.specs.declared.Car.{Car}
use Rattle.components.specs.declared.Aboard.{Aboard}
use Rattle.components.specs.declared.Waiting.{Waiting}
use Rattle.components.specs.declared.Phase.{Phase}
use Rattle.components.specs.declared.Phase.TheVariants as phase
use Rattle.components.specs.Codes.{phase_of, phase_code}
use Rattle.layout.specs.declared.Counts.{Counts}
use Rattle.layout.specs.Records.{from}
use Rattle.layout.specs.Refusals.{refusal8_car, refusal8_aboard, refusal8_waiting, unused_stop, present_zero}
use Rattle.layout.specs.Table.{car_has_target_field, car_target_field, aboard_has_destination_field, aboard_destination_field, waiting_has_line_field, waiting_line_field}
use Rattle.layout.specs.Table.{waiting_has_destination_field, waiting_destination_field}
use Rattle.values.specs.Values.{present, phase_stop, threshold_present, threshold_bits, car_values, aboard_values, waiting_values}
use Rattle.encoder.specs.Encoded.{record_fields, record_values}
use Rattle.encoder.specs.EncodedLaws.{Reads}
use Rattle.writer.specs.declared.Edition.{Edition}
use Rattle.writer_laws.specs.Run.{Item, car, aboard, waiting, item_kind, item_values, across_of}
use Rattle.writer_laws.specs.Decoded.{CarFits, AboardFits, WaitingFits}
use Rattle.writer_laws.proofs.DecodedLaws.{phase_back}

-- ---- an optional id, a threshold, the stop of a phase

module _ (v u id : ℕ) (h : v ≡ present id % 2 ^ 1) (k : u ≡ id % 2 ^ 32) (l : id < 2 ^ 32) where
  id_read : u ≡ id
  id_read = k ∙ mod-eq_of_lt l

  present_read : eqb v 1 ≡ not (eqb id 0)
  present_read = ap (λ (x : ℕ). eqb x 1) h ∙ by (not (eqb id 0))
    where
      by : (b : Bool) → eqb (bit b % 2 ^ 1) 1 ≡ b
      by true = refl
      by false = refl

  -- absent it is zero
  id_clear : (not (eqb v 1) && not (eqb u 0)) ≡ false
  id_clear = rw (present_read, id_read) (by (eqb id 0))
    where
      by : (b : Bool) → (not (not b) && not b) ≡ false
      by true = refl
      by false = refl

  -- present it is not
  id_nonzero : (eqb v 1 && eqb u 0) ≡ false
  id_nonzero = rw (present_read, id_read) (by (eqb id 0))
    where
      by : (b : Bool) → (not b && b) ≡ false
      by true = refl
      by false = refl

threshold_clear : (v u : ℕ) (x : Option Float) → v ≡ threshold_present x % 2 ^ 1 → u ≡ threshold_bits x % 2 ^ 64 → (not (eqb v 1) && not (eqb u 0)) ≡ false
threshold_clear v u None h k = rw (h, k)
threshold_clear v u (Some x) h k = rw h

stop_clear : (u : ℕ) (p : Phase) → u ≡ phase_stop p % 2 ^ 32 → unused_stop p (not (eqb u 0)) ≡ false
stop_clear u phase.Idle k = rw k
stop_clear u (phase.MovingToStop id) k = refl
stop_clear u (phase.Repositioning id) k = refl
stop_clear u phase.DoorOpening k = rw k
stop_clear u phase.Loading k = rw k
stop_clear u phase.DoorClosing k = rw k
stop_clear u phase.Stopped k = rw k
stop_clear u phase.Unknown k = refl

-- ---- each kind

-- where each field of the item that starts at bit at stands for its number
abbrev pub ItemReads : Edition → List ℕ → ℕ → Item → Type 0
ItemReads e t at x = Reads t at (record_fields (across_of e) (item_kind x)) (record_values (across_of e) (item_kind x) (item_values x))

module _ (e : Edition) (t : List ℕ) (at : ℕ) where
  pub aboard_8 : (x : Aboard) → AboardFits x → ItemReads e t at (aboard x) → refusal8_aboard (from t at) ≡ false
  unfolding Reads aboard_values refusal8_aboard
  aboard_8 x d h = id_clear _ _ x.destination h.1.1.1.0 h.1.1.1.1.0 d.destination

  pub aboard_present : (x : Aboard) → AboardFits x → ItemReads e t at (aboard x)
      → present_zero (from t at) aboard_has_destination_field aboard_destination_field ≡ false
  unfolding Reads aboard_values
  aboard_present x d h = id_nonzero _ _ x.destination h.1.1.1.0 h.1.1.1.1.0 d.destination

  pub waiting_8 : (x : Waiting) → WaitingFits x → ItemReads e t at (waiting x) → refusal8_waiting (from t at) ≡ false
  unfolding Reads waiting_values refusal8_waiting
  waiting_8 x d h =
      ap₂ ◌||◌ (id_clear _ _ x.line h.1.1.1.0 h.1.1.1.1.0 d.line)
      (id_clear _ _ x.destination h.1.1.1.1.1.0 h.1.1.1.1.1.1.0 d.destination)

  pub waiting_present : (x : Waiting) → WaitingFits x → ItemReads e t at (waiting x)
      → (present_zero (from t at) waiting_has_line_field waiting_line_field ≡ false) × (present_zero (from t at) waiting_has_destination_field waiting_destination_field ≡ false)
  unfolding Reads waiting_values
  waiting_present x d h = (
    id_nonzero _ _ x.line h.1.1.1.0 h.1.1.1.1.0 d.line,
    id_nonzero _ _ x.destination h.1.1.1.1.1.0 h.1.1.1.1.1.1.0 d.destination,
  )

  pub car_8 : (c : Counts) (x : Car) → c.across ≡ across_of e → CarFits x → ItemReads e t at (car x)
      → refusal8_car c (from t at) ≡ eqb (phase_code x.phase) 7
  unfolding Reads car_values refusal8_car
  car_8 c x q d h =
      let p : phase_of (field_at t (at + 86) 3) (field_at t (at + 89) 32) ≡ x.phase =
      phase_back _ _ x.phase h.1.1.1.1.0 h.1.1.1.1.1.0 d.phase in
      rw (
        q,
        p,
        stop_clear _ x.phase h.1.1.1.1.1.0,
        id_clear _ _ x.target h.1.1.1.1.1.1.0 h.1.1.1.1.1.1.1.0 d.target,
        threshold_clear _ _ x.bypassup h.1.1.1.1.1.1.1.1.1.1.1.1.1.1.1.1.1.1.0
            h.1.1.1.1.1.1.1.1.1.1.1.1.1.1.1.1.1.1.1.0,
        threshold_clear _ _ x.bypassdown h.1.1.1.1.1.1.1.1.1.1.1.1.1.1.1.1.1.1.1.1.0
            h.1.1.1.1.1.1.1.1.1.1.1.1.1.1.1.1.1.1.1.1.1.0,
      ) (no_more (eqb (phase_code x.phase) 7))
    where
      no_more : (b : Bool) → (b || false) ≡ b
      no_more true = refl
      no_more false = refl

  pub car_present : (x : Car) → CarFits x → ItemReads e t at (car x) → present_zero (from t at) car_has_target_field car_target_field ≡ false
  unfolding Reads car_values
  car_present x d h = id_nonzero _ _ x.target h.1.1.1.1.1.1.0 h.1.1.1.1.1.1.1.0 d.target
