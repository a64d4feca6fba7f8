-- A side's percentage lies in 0 to 10,000, by any rule for rows that stays in the table and any column that is a `Column`.
use mathlib.Core.Path.{◌≡◌, refl}
use mathlib.Core.Bool.{Bool, true, false, cond}
use mathlib.Core.List.{List}
use lib.IntN.{ℤ, pos, ◌-ℤ◌}
use lib.Signed.{◌<ℤ◌, le_z, lt_z}
use Prim.Native.Nat.{ℕ, ◌≤◌, zero-le}
use native.Mathlib.Nat.{le_refl}
use native.Mathlib.Omega.{arith}
use Rattle.std.specs.Prelude.{Some, None}
use Rattle.integers.proofs.Difference.{nat, diff_le, ◌⊖◌}
use Rattle.integers.proofs.Order.{pos_mono, lt_z_true}
use Rattle.rules.specs.Units.{Limit, hundred_percent}
use Rattle.rules.specs.declared.Totals.{Totals}
use Rattle.rules.specs.Table.{entry, last_row}
use Rattle.rules.specs.Percent.{Rule, spread, upper_distance, lower_distance, side, upper_side, lower_side}
use Rattle.laws.specs.Column.{Column}
use Rattle.laws.specs.InPercent.{InPercent}
use Rattle.laws.specs.Reached.{reached}
use Rattle.laws.proofs.Table.{entry_at_most}

-- A number up to 10,000 is a percentage, and so is the rest to 10,000.
pub number_in_percent : (e : ℕ) → e ≤ 10000 → InPercent (pos e)
number_in_percent e h = record { low = pos_mono zero-le; high = pos_mono h }

rest : (e : ℕ) → e ≤ 10000 → InPercent (hundred_percent -ℤ pos e)
rest e h =
    record {
      low = diff_le (nat 0) (nat 10000 ⊖ nat e) (omega arith);
      high = diff_le (nat 10000 ⊖ nat e) (nat 10000) (omega arith);
    }

module _ (rule : Rule) (column : List ℕ) (n : ℕ) (v d : ℤ) where
  pub reached_entry : lt_z (pos 0) v ≡ true → reached rule column n v d ≡ entry column (rule n v d)
  unfolding reached
  reached_entry e = rw e

  pub reached_whole : lt_z (pos 0) v ≡ false → reached rule column n v d ≡ 10000
  unfolding reached
  reached_whole e = rw e

  pub reached_at_most : (pos 0 <ℤ v → rule n v d ≤ last_row) → Column column → reached rule column n v d ≤ 10000
  reached_at_most h shape = by (lt_z (pos 0) v) refl
    where
      by : (b : Bool) → lt_z (pos 0) v ≡ b → reached rule column n v d ≤ 10000
      by true e = rw (reached_entry e) (entry_at_most shape (h (lt_z_true _ _ e)))
      by false e = rw (reached_whole e) (le_refl 10000)

  -- The side is what it reaches, or 10,000 less that where its distance is below 0.
  pub side_inside : le_z (pos 0) d ≡ true → side rule column n v d ≡ pos (reached rule column n v d)
  unfolding side reached
  side_inside e = rw e (by (lt_z (pos 0) v))
    where
      by : (b : Bool) → cond b (pos (entry column (rule n v d))) hundred_percent ≡ pos (cond b (entry column (rule n v d)) 10000)
      by true = refl
      by false = refl

  pub side_outside : le_z (pos 0) d ≡ false → side rule column n v d ≡ hundred_percent -ℤ pos (reached rule column n v d)
  unfolding side reached
  side_outside e = rw e (by (lt_z (pos 0) v))
    where
      by : (b : Bool) → cond b (hundred_percent -ℤ pos (entry column (rule n v d))) (pos 0) ≡ hundred_percent -ℤ pos (cond b (entry column (rule n v d)) 10000)
      by true = refl
      by false = refl

  pub side_in_percent : (pos 0 <ℤ v → rule n v d ≤ last_row) → Column column → InPercent (side rule column n v d)
  side_in_percent h shape = by (le_z (pos 0) d) refl
    where
      small : reached rule column n v d ≤ 10000
      small = reached_at_most h shape

      by : (b : Bool) → le_z (pos 0) d ≡ b → InPercent (side rule column n v d)
      by true e = rw (side_inside e) (number_in_percent (reached rule column n v d) small)
      by false e = rw (side_outside e) (rest (reached rule column n v d) small)

module _ (rule : Rule) (column : List ℕ) (a : Totals) (rows : (v d : ℤ) → pos 0 <ℤ v → rule a.n v d ≤ last_row) (shape : Column column) where
  pub upper_side_in_percent : (upper : Limit) → InPercent (upper_side rule column a upper)
  unfolding upper_side
  upper_side_in_percent None = number_in_percent 10000 (le_refl 10000)
  upper_side_in_percent (Some u) = side_in_percent rule column a.n (spread a) (upper_distance a u.0) (rows _ _) shape

  pub lower_side_in_percent : (lower : Limit) → InPercent (lower_side rule column a lower)
  unfolding lower_side
  lower_side_in_percent None = number_in_percent 10000 (le_refl 10000)
  lower_side_in_percent (Some l) = side_in_percent rule column a.n (spread a) (lower_distance a l.0) (rows _ _) shape
