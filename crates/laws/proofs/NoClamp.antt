-- The sides' sum less 100 lies in 0 to 100, with no clamp.
use mathlib.Core.Path.{◌≡◌, refl, sym, subst⁻¹}
use mathlib.Core.Bool.{false}
use mathlib.Core.List.{List}
use Prim.Native.Nat.{ℕ}
use native.Mathlib.Omega.{arith}
use lib.IntN.{ℤ, pos, ◌+ℤ◌, ◌-ℤ◌}
use lib.Signed.{◌≤ℤ◌, ≤ℤ_refl}
use Rattle.std.specs.Prelude.{Some, None, Ok}
use Rattle.integers.proofs.Difference.{var, nat, diff_le, le_diff, le_read, ◌⊕◌, ◌⊖◌, ◌⊗◌}
use Rattle.integers.proofs.Order.{+ℤ_mono, *ℤ_mono_l, lt_z_false}
use Rattle.rules.specs.Units.{Limit, hundred_percent}
use Rattle.rules.specs.declared.Percentages.{Percentages}
use Rattle.rules.specs.declared.Totals.{Totals}
use Rattle.rules.specs.Lot.{Lot}
use Rattle.rules.specs.Table.{Found, entries}
use Rattle.rules.specs.Percent.{Rule, totals, spread, upper_distance, lower_distance, upper_side, lower_side}
use Rattle.rules.specs.Refusals.{crossed}
use Rattle.rules.specs.Entries.{percentages_of, percentages, evaluated}
use Rattle.laws.specs.Column.{Column}
use Rattle.laws.specs.RowRule.{RowRule}
use Rattle.laws.specs.InPercent.{InPercent}
use Rattle.laws.proofs.Accepted.{answered}
use Rattle.laws.proofs.Side.{upper_side_in_percent, lower_side_in_percent}
use Rattle.laws.proofs.Distance.{sides_cover}

-- No clamp: PWL is the sum of the sides less 100 percent, whatever the rule, the column, the readings and the limits.
pub no_clamp :
    (rule : Rule) (column : List ℕ) (lot : Lot) →
    (percentages rule column lot).pwl.0 ≡ ((percentages rule column lot).upper.0 +ℤ (percentages rule column lot).lower.0) -ℤ pos 10000
unfolding percentages_of
no_clamp rule column lot = refl

-- The distances of two limits that are not crossed come to n·(U − L), which is not negative.
distances_add_up : (a : Totals) (u l : ℤ) → l ≤ℤ u → pos 0 ≤ℤ (upper_distance a u +ℤ lower_distance a l)
unfolding upper_distance lower_distance
distances_add_up a u l h =
    diff_le (nat 0) (nat a.n ⊗ var u ⊖ var a.t ⊕ (var a.t ⊖ nat a.n ⊗ var l))
    (omega (arith, le_diff (nat a.n ⊗ var l) (nat a.n ⊗ var u) (*ℤ_mono_l a.n h)))

module _ (rule : Rule) (column : List ℕ) (a : Totals) (rows : RowRule rule a.n) (shape : Column column) where
  upper_in_percent : (upper : Limit) → InPercent (upper_side rule column a upper)
  upper_in_percent = upper_side_in_percent rule column a rows.in_table shape

  lower_in_percent : (lower : Limit) → InPercent (lower_side rule column a lower)
  lower_in_percent = lower_side_in_percent rule column a rows.in_table shape

  hundred_or_more : (upper lower : Limit) → crossed upper lower ≡ false → hundred_percent ≤ℤ (upper_side rule column a upper +ℤ lower_side rule column a lower)
  unfolding upper_side lower_side
  hundred_or_more None lower e = +ℤ_mono (≤ℤ_refl hundred_percent) (lower_in_percent lower).low
  hundred_or_more (Some u) None e = +ℤ_mono (upper_in_percent (Some u)).low (≤ℤ_refl hundred_percent)
  hundred_or_more (Some u) (Some l) e =
      sides_cover rule column a.n rows shape (spread a) (upper_distance a u.0) (lower_distance a l.0) (distances_add_up a u.0 l.0 (lt_z_false _ _ e))

  sum_in_percent : (upper lower : Limit) → crossed upper lower ≡ false → InPercent ((upper_side rule column a upper +ℤ lower_side rule column a lower) -ℤ pos 10000)
  sum_in_percent upper lower e =
      let u : ℤ = upper_side rule column a upper in
      let l : ℤ = lower_side rule column a lower in
      record {
        low = diff_le (nat 0) (var u ⊕ var l ⊖ nat 10000) (omega (arith, le_diff (nat 10000) (var u ⊕ var l) (hundred_or_more upper lower e)));
        high = diff_le (var u ⊕ var l ⊖ nat 10000) (nat 10000) (omega (arith, le_read (upper_in_percent upper).high, le_read (lower_in_percent lower).high));
      }

-- For every lot that is answered, the sides' sum less 100 lies in 0 to 100, and is the PWL: by any rule that is a `RowRule` and any column that
-- is a `Column`.
pub sides_add_up :
    (rule : Rule) (found : Found) (lot : Lot) (p : Percentages) →
    RowRule rule lot.n → Column (entries found) →
    evaluated rule found lot ≡ Ok p →
    (pos 0 ≤ℤ ((p.upper.0 +ℤ p.lower.0) -ℤ pos 10000)) ×
    (((p.upper.0 +ℤ p.lower.0) -ℤ pos 10000) ≤ℤ pos 10000) ×
    (p.pwl.0 ≡ (p.upper.0 +ℤ p.lower.0) -ℤ pos 10000)
unfolding percentages_of
sides_add_up rule found lot p rows shape e =
    let h = answered rule found lot p e in
    let r = sum_in_percent rule (entries found) (totals lot.n lot.readings) rows shape lot.upper lot.lower h.0.uncrossed in
    rw (sym h.1) (r.low, r.high, no_clamp rule (entries found) lot)

-- So the PWL is a percentage.
pub pwl_in_percent :
    (rule : Rule) (found : Found) (lot : Lot) (p : Percentages) →
    RowRule rule lot.n → Column (entries found) →
    evaluated rule found lot ≡ Ok p →
    InPercent p.pwl.0
pwl_in_percent rule found lot p rows shape e =
    let h = sides_add_up rule found lot p rows shape e in
    subst⁻¹ InPercent h.2 (record { low = h.0; high = h.1 })
