-- Document 02, R-3: the handheld finds the row by halving the range of rows, and how many rows it tries is reported with a side's percentage.
use Rattle.std.specs.Prelude.{Bool, cond, ℕ, zero, suc, ◌+◌, ◌-◌, ◌/◌, ltb, ℤ, pos, Some, None}
use Rattle.std.specs.Int.Signed.{lt_z}
use Rattle.rules.specs.declared.Totals.{Totals}
use Rattle.rules.specs.Units.{Limit}
use Rattle.rules.specs.Table.{last_row}
use Rattle.rules.specs.Percent.{spread, upper_distance, lower_distance, admits}

-- a halving on its way: its low and high ends, and how many rows it has tried
pub record Halving : Type 0 where
  pub low : ℕ
  pub high : ℕ
  pub tried : ℕ

-- the row that it tries, (low + high + 1)/2, whole part
abbrev pub middle : Halving → ℕ
middle h = (h.low + h.high + 1) / 2

-- Admitted, the middle becomes low;
abbrev pub raised : Halving → Halving
raised h = record { low = middle h; high = h.high; tried = h.tried + 1 }

-- else high is one less than it.
abbrev pub lowered : Halving → Halving
lowered h = record { low = h.low; high = middle h - 1; tried = h.tried + 1 }

-- So until the ends meet. Each try brings them nearer to each other, so that as many tries as they are apart are enough (a law).
unfoldable pub halved : (ℕ → Bool) → ℕ → Halving → Halving
halved admitted zero h = h
halved admitted (suc tries) h =
    cond (ltb h.low h.high)
    (halved admitted tries (cond (admitted (middle h)) (raised h) (lowered h)))
    h

-- the range 0 to 53, of which no row has been tried
abbrev pub all_rows : Halving
all_rows = record { low = 0; high = last_row; tried = 0 }

-- The handheld's lookup, by the row rule: where its ends meet is the row.
unfoldable pub handheld : ℕ → ℤ → ℤ → Halving
handheld n v d = halved (admits n v d) last_row all_rows

-- The number of rows tried for a side: 0 where V = 0,
unfoldable pub rows_tried : ℕ → ℤ → ℤ → ℕ
rows_tried n v d = cond (lt_z (pos 0) v) (handheld n v d).tried 0

-- and 0 where the limit is absent.
unfoldable pub upper_tried : Totals → Limit → ℕ
upper_tried a None = 0
upper_tried a (Some u) = rows_tried a.n (spread a) (upper_distance a u.0)

unfoldable pub lower_tried : Totals → Limit → ℕ
lower_tried a None = 0
lower_tried a (Some l) = rows_tried a.n (spread a) (lower_distance a l.0)
