-- The row of the table nearest an index of 0 or more, said in two ways: by midpoints, as document 004's section 106.03 K does, and by distances.
use Rattle.std.specs.Prelude.{ℕ, ◌+◌, ◌*◌, ◌≤◌, ◌<◌, pos, ◌-ℤ◌}
use Rattle.rules.specs.Table.{last_row}
use Rattle.laws.specs.Ratio.{Ratio, ratio, plus, minus}
use Rattle.laws.specs.Root.{Root, UpTo, RootUpTo, RootBelow}

-- Row k stands for an index of k/20.
abbrev pub row_index : ℕ → Ratio
row_index k = ratio (pos k) 20

-- ---- by midpoints

-- The index q is at or above the midpoint below row k, (2k − 1)/40, and below the midpoint above it, (2k + 1)/40. The last row has no midpoint
-- above it.
pub record BetweenMidpoints (q : Root) (k : ℕ) : Type 0 where
  pub in_table : k ≤ last_row
  pub from_below : UpTo (ratio (pos (2 * k) -ℤ pos 1) 40) q
  pub before_above : k < last_row → RootBelow q (ratio (pos (2 * k + 1)) 40)

-- ---- by distances

-- The index q lies within a distance d of row k's index.
abbrev pub Within : Ratio → Root → ℕ → Type 0
Within d q k = UpTo (minus (row_index k) d) q × RootUpTo q (plus (row_index k) d)

-- Row k is at least as near to q as row j: whenever q lies within d of row j's index, it lies within d of row k's. It is enough that d is any
-- fraction, since there is a fraction between any two numbers.
abbrev pub AsNear : Root → ℕ → ℕ → Type 0
AsNear q k j = (d : Ratio) → 1 ≤ d.under → Within d q j → Within d q k

-- Row k is the nearest: no row of the table is nearer, and none that is as near is greater, so that a tie goes away from zero.
pub record NearestRow (q : Root) (k : ℕ) : Type 0 where
  pub in_table : k ≤ last_row
  pub none_nearer : (j : ℕ) → j ≤ last_row → AsNear q k j
  pub none_greater : (j : ℕ) → j ≤ last_row → AsNear q j k → j ≤ k
