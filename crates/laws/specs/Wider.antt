-- One limit is at least as wide as another: an absent limit is widest; of two present upper limits the wider is not lower, and of two present
-- lower limits the wider is not higher.
use Rattle.std.specs.Prelude.{◌≡◌, ℤ, ◌≤ℤ◌, Some, None, Ok}
use Rattle.rules.specs.Units.{Limit}
use Rattle.rules.specs.declared.Percentages.{Percentages}
use Rattle.rules.specs.Lot.{Lot}
use Rattle.rules.specs.Table.{Table}
use Rattle.rules.specs.Entries.{evaluation_says}

-- the same readings under other limits
abbrev pub with_limits : Limit → Limit → Lot → Lot
with_limits upper lower lot = record { n = lot.n; upper = upper; lower = lower; readings = lot.readings }

abbrev pub UpperAsWide : Limit → Limit → Type 0
UpperAsWide upper None = Unit {0}
UpperAsWide None (Some w) = ⊥
UpperAsWide (Some u) (Some w) = u.0 ≤ℤ w.0

abbrev pub LowerAsWide : Limit → Limit → Type 0
LowerAsWide lower None = Unit {0}
LowerAsWide None (Some w) = ⊥
LowerAsWide (Some l) (Some w) = w.0 ≤ℤ l.0

-- The PWL that is answered for a lot by a table.
abbrev pub HasPwl : Table → Lot → ℤ → Type 0
HasPwl table lot pwl = (p : Percentages) × (evaluation_says table lot ≡ Ok p) × (p.pwl.0 ≡ pwl)

-- The PWLs of the same readings by one table under two pairs of limits, the second at least as wide on each side.
pub record Widened (table : Table) (pwl wider : ℤ) : Type 0 where
  pub lot : Lot
  pub upper : Limit
  pub lower : Limit
  pub upper_as_wide : UpperAsWide lot.upper upper
  pub lower_as_wide : LowerAsWide lot.lower lower
  pub narrow : HasPwl table lot pwl
  pub wide : HasPwl table (with_limits upper lower lot) wider
