-- A record of edition 2 and one of edition 1 with the same fields but for the second coordinate decode to the same. Assumes nothing.
use Rattle.std.specs.Prelude.{ℕ, ◌+◌, ◌≤◌, ◌≡◌, refl, Bool, true, false, ◌&&◌, cond, leb}
use Rattle.std.proofs.Common.{sym, ◌∙◌, add-zero, leb-true}
use Rattle.std.proofs.Math.Path.{ap, fun_ext}
use Rattle.std.specs.Float.Ieee.{of_bits, binary64}
use Rattle.laws.specs.Bools.{both_left, both_right}
use Rattle.components.specs.declared.Kind.{Kind}
use Rattle.components.specs.declared.Kind.TheVariants as kind
use Rattle.components.specs.Points.{point_of}
use Rattle.layout.specs.Offsets.{body_from, record_length}
use Rattle.layout.specs.Table.{closed_stop_field, policy_limit_field, stop_id_field, stop_position_field, stop_across_field, car_position_field, car_across_field}
use Rattle.layout.specs.Records.{Fields, read, double, policy_of, stop_of, line_of, car_of, aboard_of, waiting_of, demand_of}
use Rattle.twins.specs.Twin.{across_from, moved, flat_stop, flat_car}

-- a field of v bits at o, by edition 1's table, stands before the second coordinate of its record, or after it
abbrev before : Kind → ℕ → ℕ → Bool
before k o v = leb body_from o && leb (o + v) (across_from k)

abbrev after : Kind → ℕ → ℕ → Bool
after k o v = leb (across_from k) o && leb (o + v) (record_length 0 k)

-- the fields of a body by edition 1's table, where the second coordinate has w bits
abbrev pub view : ℕ → Kind → Fields → Fields
view w k f o v = cond (before k o v) (f o v) (cond (after k o v) (f (o + w) v) 0)

-- a record of edition 2 has the fields of one of edition 1, where a field of no bits is 0
pub record Same (k : Kind) (f g : Fields) : Type 0 where
  pub view_same : view 64 k f ≡ view 0 k g
  pub no_bits : (o : ℕ) → g o 0 ≡ 0

pub same_by : (k : Kind) (f g : Fields) → ((o v : ℕ) → body_from ≤ o → o + v ≤ across_from k → f o v ≡ g o v)
    → ((o v : ℕ) → across_from k ≤ o → o + v ≤ record_length 0 k → f (o + 64) v ≡ g o v)
    → ((o : ℕ) → g o 0 ≡ 0) → Same k f g
same_by k f g a b n = record {
  no_bits = n;
  view_same = fun_ext λ o. fun_ext λ v. by_test (before k o v) (after k o v) _ _ _ _
      (λ e. a o v (leb-true body_from o (both_left (leb body_from o) _ e)) (leb-true (o + v) (across_from k) (both_right (leb body_from o) _ e)))
      (λ e. b o v (leb-true (across_from k) o (both_left (leb (across_from k) o) _ e))
      (leb-true (o + v) (record_length 0 k) (both_right (leb (across_from k) o) _ e)) ∙ ap (λ (x : ℕ). g x v) (sym (add-zero o)));
}
  where
    by_test : (p q : Bool) (x y x' y' : ℕ) → (p ≡ true → x ≡ y) → (q ≡ true → x' ≡ y') → cond p x (cond q x' 0) ≡ cond p y (cond q y' 0)
    by_test true q x y x' y' h h' = h refl
    by_test false true x y x' y' h h' = h' refl
    by_test false false x y x' y' h h' = refl

-- ---- decoded

module _ (f g : Fields) where
  pub policy_same : Same kind.Policy f g → policy_of f ≡ policy_of g
  unfolding policy_of
  policy_same h = ap policy_of h.view_same

  pub limit_same : Same kind.Policy f g → read f policy_limit_field ≡ read g policy_limit_field
  limit_same h = ap (λ (x : Fields). read x policy_limit_field) h.view_same

  pub stop_same : Same kind.Stop f g → flat_stop (stop_of 64 f) ≡ stop_of 0 g
  unfolding stop_of
  stop_same h =
      ap (λ x. flat_stop (stop_of 0 x)) h.view_same
      ∙ ap (λ n. record { id = read g stop_id_field; position = point_of (double g stop_position_field) (of_bits binary64 n) })
      (sym (h.no_bits (stop_across_field 0).start))

  pub line_same : Same kind.Line f g → line_of f ≡ line_of g
  unfolding line_of
  line_same h = ap line_of h.view_same

  pub car_same : Same kind.Car f g → flat_car (car_of 64 f) ≡ car_of 0 g
  unfolding car_of
  car_same h =
      ap (λ x. flat_car (car_of 0 x)) h.view_same
      ∙ ap (λ n. moved (point_of (double g car_position_field) (of_bits binary64 n)) (car_of 0 g)) (sym (h.no_bits (car_across_field 0).start))

  pub aboard_same : Same kind.Aboard f g → aboard_of f ≡ aboard_of g
  unfolding aboard_of
  aboard_same h = ap aboard_of h.view_same

  pub waiting_same : Same kind.Waiting f g → waiting_of f ≡ waiting_of g
  unfolding waiting_of
  waiting_same h = ap waiting_of h.view_same

  pub demand_same : Same kind.Demand f g → demand_of f ≡ demand_of g
  unfolding demand_of
  demand_same h = ap demand_of h.view_same

  pub closed_same : Same kind.Closed f g → read f closed_stop_field ≡ read g closed_stop_field
  closed_same h = ap (λ (x : Fields). read x closed_stop_field) h.view_same
