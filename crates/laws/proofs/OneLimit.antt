-- Where the upper and the lower limit are equal, the two sides add up to 100 percent, unless all readings are equal.
use mathlib.Core.Path.{◌≡◌, refl, ap, ◌∙◌, subst, subst⁻¹}
use mathlib.Core.List.{List}
use mathlib.Core.Logic.{⊎_elim}
use Prim.Native.Nat.{ℕ}
use native.Mathlib.Omega.{arith}
use lib.IntN.{ℤ, pos, neg_ℤ, ◌+ℤ◌, ◌*ℤ◌, neg_ℤ-neg_ℤ, +ℤ_comm}
use lib.Signed.{◌≤ℤ◌, ◌<ℤ◌}
use Rattle.std.specs.Prelude.{Some}
use Rattle.integers.proofs.Difference.{var, nat, diff_eq, le_diff, arithℤ, ⊝◌, ◌⊕◌, ◌⊖◌}
use Rattle.integers.proofs.Ring.{neg_-ℤ}
use Rattle.integers.proofs.Order.{≤ℤ_total, <ℤ→≤ℤ, neg_flips, le_le_z, lt_le_z, lt_lt_z}
use Rattle.rules.specs.declared.Thousandths.{Thousandths}
use Rattle.rules.specs.declared.Totals.{Totals}
use Rattle.rules.specs.Units.{hundred_percent}
use Rattle.rules.specs.Table.{entry}
use Rattle.rules.specs.Percent.{Rule, spread, upper_distance, lower_distance, side, upper_side, lower_side}
use Rattle.laws.specs.Column.{Column}
use Rattle.laws.specs.RowRule.{EvenRule}
use Rattle.laws.specs.Reached.{reached}
use Rattle.laws.proofs.Side.{reached_entry, side_inside, side_outside}

module _ (rule : Rule) (column : List ℕ) (n : ℕ) (even : EvenRule rule n) (shape : Column column) (v : ℤ) (above : pos 0 <ℤ v) where
  at : (d : ℤ) → reached rule column n v d ≡ entry column (rule n v d)
  at d = reached_entry rule column n v d (lt_lt_z above)

  -- A distance and its opposite reach the same entry, and distance 0 reaches 50 percent.
  opposite : (d : ℤ) → reached rule column n v (neg_ℤ d) ≡ reached rule column n v d
  opposite d = rw (at d, at (neg_ℤ d)) (ap (entry column) (even.even v d above))

  half : reached rule column n v (pos 0) ≡ 5000
  half = at (pos 0) ∙ ap (entry column) (even.from_row_0 v above) ∙ shape.starts

  inside_and_out : (d : ℤ) → d <ℤ pos 0 → side rule column n v d +ℤ side rule column n v (neg_ℤ d) ≡ hundred_percent
  inside_and_out d out =
      let i : pos 0 ≤ℤ neg_ℤ d = neg_flips (<ℤ→≤ℤ out) in
      rw (side_outside rule column n v d (lt_le_z out), side_inside rule column n v (neg_ℤ d) (le_le_z i), opposite d)
      (diff_eq (nat 10000 ⊖ nat (reached rule column n v d) ⊕ nat (reached rule column n v d)) (nat 10000) (omega arith))

  at_zero : (d : ℤ) → d ≡ pos 0 → side rule column n v d +ℤ side rule column n v (neg_ℤ d) ≡ hundred_percent
  at_zero d e =
      subst⁻¹ (λ (x : ℤ). side rule column n v x +ℤ side rule column n v (neg_ℤ x) ≡ hundred_percent) e
      (rw (side_inside rule column n v (pos 0) refl) (diff_eq (nat r ⊕ nat r) (nat 10000) (omega (arith, half))))
    where
      r : ℕ
      r = reached rule column n v (pos 0)

  opposite_sides : (d : ℤ) → side rule column n v d +ℤ side rule column n v (neg_ℤ d) ≡ hundred_percent
  opposite_sides d = ⊎_elim from_inside (inside_and_out d) (≤ℤ_total (pos 0) d)
    where
      from_inside : pos 0 ≤ℤ d → side rule column n v d +ℤ side rule column n v (neg_ℤ d) ≡ hundred_percent
      from_inside i =
          ⊎_elim (λ j. at_zero d (diff_eq (var d) (nat 0) (omega (arithℤ, le_diff (nat 0) (⊝ var d) j))))
          (λ out. +ℤ_comm (side rule column n v d) (side rule column n v (neg_ℤ d)) ∙ (rw (neg_ℤ-neg_ℤ d) at (inside_and_out (neg_ℤ d) out)))
          (≤ℤ_total (pos 0) (neg_ℤ d))

-- Where the limits are equal and V is above 0, the two sides add up to 100 percent: by any rule that is an `EvenRule` and any column that is a
-- `Column`.
pub equal_limits_add_up :
    (rule : Rule) (column : List ℕ) (a : Totals) (z : Thousandths) →
    EvenRule rule a.n → Column column →
    pos 0 <ℤ spread a →
    upper_side rule column a (Some z) +ℤ lower_side rule column a (Some z) ≡ pos 10000
unfolding upper_side lower_side upper_distance lower_distance
equal_limits_add_up rule column a z even shape above =
    subst (λ (d : ℤ). side rule column a.n (spread a) (upper_distance a z.0) +ℤ side rule column a.n (spread a) d ≡ pos 10000)
    (neg_-ℤ (pos a.n *ℤ z.0) a.t) (opposite_sides rule column a.n even shape (spread a) above (upper_distance a z.0))
