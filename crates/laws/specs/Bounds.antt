-- What is known of readings that are not refused, and of their totals: all that keeps the arithmetic within its widths.
use Rattle.std.specs.Prelude.{◌≡◌, false, List, ℕ, ◌*◌, ◌≤◌, ℤ, pos, nat_abs, length, ◌≤ℤ◌}
use Rattle.rules.specs.declared.Totals.{Totals}
use Rattle.rules.specs.Lot.{most}
use Rattle.rules.specs.Percent.{spread}
use Rattle.rules.specs.Refusals.{any_out}

pub record Accepted (xs : List ℤ) : Type 0 where
  pub least : 2 ≤ length xs
  pub few : length xs ≤ most
  pub all_in_range : any_out xs ≡ false

-- n is at least 2 and at most what a lot can hold, |T| is at most n·500,000, |Z| at most n·500,000², and V is not negative.
pub record Bounded (a : Totals) : Type 0 where
  pub least : 2 ≤ a.n
  pub few : a.n ≤ most
  pub sum : nat_abs a.t ≤ a.n * 500000
  pub squares : nat_abs a.z ≤ a.n * 250000000000
  pub spread_not_negative : pos 0 ≤ℤ spread a

-- The bounds of n and V in a lookup: n is from 2 to m, the most that a lot can hold, and V is at most m²·500,000².
pub record SpreadInBounds (n v : ℕ) : Type 0 where
  pub least : 2 ≤ n
  pub few : n ≤ most
  pub small : v ≤ most * (most * 250000000000)

-- The bound of a distance in a lookup: |D| is at most 2·m·500,000.
pub record DistanceInBounds (d : ℤ) : Type 0 where
  pub small : nat_abs d ≤ 2 * (most * 500000)
