-- Wider limits never lower the percentage: V above 0, V = 0 and absent limits together.
use mathlib.Core.Path.{◌≡◌, sym}
use mathlib.Core.List.{List}
use Prim.Native.Nat.{ℕ}
use lib.IntN.{ℤ, pos}
use lib.Signed.{◌≤ℤ◌, ≤ℤ_refl}
use Rattle.std.specs.Prelude.{Some, None, Ok}
use Rattle.integers.proofs.Order.{+ℤ_mono, -ℤ_mono, *ℤ_mono_l}
use Rattle.rules.specs.Units.{Limit}
use Rattle.rules.specs.declared.Percentages.{Percentages}
use Rattle.rules.specs.declared.Totals.{Totals}
use Rattle.rules.specs.Lot.{Lot}
use Rattle.rules.specs.Table.{Found, entries}
use Rattle.rules.specs.Percent.{Rule, totals, spread, upper_distance, lower_distance, upper_side, lower_side}
use Rattle.rules.specs.Entries.{percentages_of, evaluated}
use Rattle.laws.specs.Column.{Column}
use Rattle.laws.specs.RowRule.{RowRule}
use Rattle.laws.specs.Wider.{with_limits, UpperAsWide, LowerAsWide}
use Rattle.laws.proofs.Accepted.{answered}
use Rattle.laws.proofs.Side.{upper_side_in_percent, lower_side_in_percent}
use Rattle.laws.proofs.Distance.{side_never_falls}
use Rattle.laws.proofs.NoClamp.{no_clamp}

-- An absent limit is widest, and a limit is at least as wide as itself, so that one side may be widened alone.
pub absent_is_widest : (limit : Limit) → UpperAsWide limit None × LowerAsWide limit None
absent_is_widest limit = (tt, tt)

pub as_wide_as_itself : (limit : Limit) → UpperAsWide limit limit × LowerAsWide limit limit
as_wide_as_itself None = (tt, tt)
as_wide_as_itself (Some z) = (≤ℤ_refl z.0, ≤ℤ_refl z.0)

-- A wider limit is no nearer.
upper_no_nearer : (a : Totals) (u w : ℤ) → u ≤ℤ w → upper_distance a u ≤ℤ upper_distance a w
unfolding upper_distance
upper_no_nearer a u w h = -ℤ_mono (*ℤ_mono_l a.n h) (≤ℤ_refl a.t)

lower_no_nearer : (a : Totals) (l w : ℤ) → w ≤ℤ l → lower_distance a l ≤ℤ lower_distance a w
unfolding lower_distance
lower_no_nearer a l w h = -ℤ_mono (≤ℤ_refl a.t) (*ℤ_mono_l a.n h)

-- Each side by itself, of any n, T and Z.
module _ (rule : Rule) (column : List ℕ) (a : Totals) (rows : RowRule rule a.n) (shape : Column column) where
  upper_not_lower : (upper wide : Limit) → UpperAsWide upper wide → upper_side rule column a upper ≤ℤ upper_side rule column a wide
  unfolding upper_side
  upper_not_lower upper None h = (upper_side_in_percent rule column a rows.in_table shape upper).high
  upper_not_lower None (Some w) h = absurd h
  upper_not_lower (Some u) (Some w) h = side_never_falls rule column a.n rows shape (spread a) _ _ (upper_no_nearer a u.0 w.0 h)

  lower_not_lower : (lower wide : Limit) → LowerAsWide lower wide → lower_side rule column a lower ≤ℤ lower_side rule column a wide
  unfolding lower_side
  lower_not_lower lower None h = (lower_side_in_percent rule column a rows.in_table shape lower).high
  lower_not_lower None (Some w) h = absurd h
  lower_not_lower (Some l) (Some w) h = side_never_falls rule column a.n rows shape (spread a) _ _ (lower_no_nearer a l.0 w.0 h)

-- Wider limits never lower the percentage: the same readings under two pairs of limits that are both answered, the second at least as
-- wide on each side; neither side is lower, nor is the PWL, by any rule that is a `RowRule` and any column that is a `Column`.
pub wider_is_not_lower :
    (rule : Rule) (found : Found) (lot : Lot) (upper lower : Limit) (p q : Percentages) →
    RowRule rule lot.n → Column (entries found) →
    UpperAsWide lot.upper upper → LowerAsWide lot.lower lower →
    evaluated rule found lot ≡ Ok p →
    evaluated rule found (with_limits upper lower lot) ≡ Ok q →
    (p.upper.0 ≤ℤ q.upper.0) × (p.lower.0 ≤ℤ q.lower.0) × (p.pwl.0 ≤ℤ q.pwl.0)
unfolding percentages_of
wider_is_not_lower rule found lot upper lower p q rows shape wider_above wider_below e f =
    let wide : Lot = with_limits upper lower lot in
    let a : Totals = totals lot.n lot.readings in
    let u = upper_not_lower rule (entries found) a rows shape lot.upper upper wider_above in
    let l = lower_not_lower rule (entries found) a rows shape lot.lower lower wider_below in
    rw (sym (answered rule found lot p e).1, sym (answered rule found wide q f).1)
    (u, l, rw (no_clamp rule (entries found) lot, no_clamp rule (entries found) wide) (-ℤ_mono (+ℤ_mono u l) (≤ℤ_refl (pos 10000))))
