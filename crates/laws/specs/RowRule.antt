-- What the laws that compare two distances ask of a rule for rows, at a count n.
use Rattle.std.specs.Prelude.{◌≡◌, ℕ, ◌≤◌, ℤ, pos, neg_ℤ, ◌≤ℤ◌, ◌<ℤ◌}
use Rattle.rules.specs.Table.{last_row}
use Rattle.rules.specs.Percent.{Rule}

-- For V above 0, and distances d and e, which are below 0 where the mean is outside the limit.
pub record RowRule (rule : Rule) (n : ℕ) : Type 0 where
  -- The row stays in the table, and inside the limit it never falls as the distance grows: the laws of wider limits and of the sides' sum ask both.
  pub in_table : (v d : ℤ) → pos 0 <ℤ v → rule n v d ≤ last_row
  pub grows_inside : (v d e : ℤ) → pos 0 <ℤ v → pos 0 ≤ℤ d → d ≤ℤ e → rule n v d ≤ rule n v e
  -- Outside the limit the row never falls as the mean lies farther out: the law of wider limits asks this.
  pub grows_outside : (v d e : ℤ) → pos 0 <ℤ v → e <ℤ pos 0 → d ≤ℤ e → rule n v e ≤ rule n v d
  -- The row outside is not above the row at the same distance inside: the law of the sides' sum asks this.
  pub outside_not_above : (v d : ℤ) → pos 0 <ℤ v → d <ℤ pos 0 → rule n v d ≤ rule n v (neg_ℤ d)

-- What the law of two equal limits asks of a rule: the row depends on the magnitude of the distance alone, and at distance 0 it is row 0.
pub record EvenRule (rule : Rule) (n : ℕ) : Type 0 where
  pub even : (v d : ℤ) → pos 0 <ℤ v → rule n v (neg_ℤ d) ≡ rule n v d
  pub from_row_0 : (v : ℤ) → pos 0 <ℤ v → rule n v (pos 0) ≡ 0
