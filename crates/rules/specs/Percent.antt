-- Document 01, "From readings to PWL", with its letters in lower case: n the count, t the sum, z the sum of squares,
-- v the spread, d a distance, k a row, e an entry.
use Rattle.std.specs.Prelude.{Bool, cond, ◌||◌, List, [], ◌∷◌, ℕ, zero, suc, ◌-◌, ◌*◌, eqb, ℤ, pos, ◌+ℤ◌, ◌-ℤ◌, ◌*ℤ◌, Some, None}
use Rattle.std.specs.Int.Signed.{le_z, lt_z}
use Rattle.rules.specs.declared.Totals.{Totals}
use Rattle.rules.specs.Units.{Limit, hundred_percent}
use Rattle.rules.specs.Table.{entry, last_row}

-- T
unfoldable pub sum : List ℤ → ℤ
sum [] = pos 0
sum (x ∷ xs) = x +ℤ sum xs

-- Z
unfoldable pub squares : List ℤ → ℤ
squares [] = pos 0
squares (x ∷ xs) = x *ℤ x +ℤ squares xs

-- n, T and Z of some readings
abbrev pub totals : ℕ → List ℤ → Totals
totals n xs = record { n = n; t = sum xs; z = squares xs }

-- V = n·Z − T²
unfoldable pub spread : Totals → ℤ
spread a = pos a.n *ℤ a.z -ℤ a.t *ℤ a.t

-- the upper distance D = n·U − T
unfoldable pub upper_distance : Totals → ℤ → ℤ
upper_distance a u = pos a.n *ℤ u -ℤ a.t

-- the lower distance D = T − n·L
unfoldable pub lower_distance : Totals → ℤ → ℤ
lower_distance a l = a.t -ℤ pos a.n *ℤ l

-- 1600·(n−1)·D²: the square of the index, times 1600·n·V
unfoldable pub index_squared : ℕ → ℤ → ℤ
index_squared n d = pos (1600 * (n - 1)) *ℤ (d *ℤ d)

-- (2k−1)²·n·V: the square of the midpoint below row k, (2k−1)/40, times 1600·n·V too
unfoldable pub midpoint_squared : ℕ → ℤ → ℕ → ℤ
midpoint_squared n v k = pos ((2 * k - 1) * (2 * k - 1) * n) *ℤ v

-- row k is admitted where the index reaches the midpoint below it: k = 0 or 1600·(n−1)·D² ≥ (2k−1)²·n·V
unfoldable pub admits : ℕ → ℤ → ℤ → ℕ → Bool
admits n v d k = eqb k 0 || le_z (midpoint_squared n v k) (index_squared n d)

-- the largest number up to a given one that passes, and 0 where none does
unfoldable pub largest : (ℕ → Bool) → ℕ → ℕ
largest passes zero = zero
largest passes (suc k) = cond (passes (suc k)) (suc k) (largest passes k)

-- A rule for rows finds a row for n, V and D.
abbrev pub Rule : Type 0
Rule = ℕ → ℤ → ℤ → ℕ

-- The midpoint rule of document 004, squared: the largest k from 0 to 53 that is admitted.
unfoldable pub nearest : Rule
nearest n v d = largest (admits n v d) last_row

module _ (rule : Rule) (column : List ℕ) where
  -- The percentage of a side. For V above 0 it is the entry or, where D is below 0, what the entry leaves of 100 percent; for V = 0, all or nothing.
  unfoldable pub side : ℕ → ℤ → ℤ → ℤ
  side n v d =
      let e : ℤ = pos (entry column (rule n v d)) in
      cond (lt_z (pos 0) v)
      (cond (le_z (pos 0) d) e (hundred_percent -ℤ e))
      (cond (le_z (pos 0) d) hundred_percent (pos 0))

  -- an absent limit's side is 10,000
  unfoldable pub upper_side : Totals → Limit → ℤ
  upper_side a None = hundred_percent
  upper_side a (Some u) = side a.n (spread a) (upper_distance a u.0)

  unfoldable pub lower_side : Totals → Limit → ℤ
  lower_side a None = hundred_percent
  lower_side a (Some l) = side a.n (spread a) (lower_distance a l.0)

-- PWL = upper + lower − 10,000
abbrev pub within : ℤ → ℤ → ℤ
within upper lower = upper +ℤ lower -ℤ hundred_percent
