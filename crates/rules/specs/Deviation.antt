-- Document 01, "From readings to PWL": the deviation s, rounded to the nearest thousandth.
use Rattle.std.specs.Prelude.{Bool, true, false, ◌&&◌, ◌||◌, ℕ, zero, suc, ◌+◌, ◌-◌, ◌*◌, eqb, ℤ, pos, nat_abs, ◌*ℤ◌}
use Rattle.std.specs.Int.Signed.{le_z, lt_z}

-- 4V < (2s+1)²·n·(n−1)
abbrev pub before_midpoint_above : ℕ → ℤ → ℕ → Bool
before_midpoint_above n v s = lt_z (pos 4 *ℤ v) (pos ((2 * s + 1) * (2 * s + 1) * n * (n - 1)))

-- where s is above 0, (2s−1)²·n·(n−1) ≤ 4V
abbrev pub from_midpoint_below : ℕ → ℤ → ℕ → Bool
from_midpoint_below n v s = eqb s 0 || le_z (pos ((2 * s - 1) * (2 * s - 1) * n * (n - 1))) (pos 4 *ℤ v)

-- whether s is the deviation, rounded: both hold of it
abbrev pub is_deviation : ℕ → ℤ → ℕ → Bool
is_deviation n v s = before_midpoint_above n v s && from_midpoint_below n v s

-- the first number from s on that passes; where none of so many tries does, the number after them
unfoldable pub first_from : (ℕ → Bool) → ℕ → ℕ → ℕ
first_from passes zero s = s
first_from passes (suc tries) s = elim (passes s) [ true ↦ s | false ↦ first_from passes tries (suc s) ]

-- The first number that is the deviation. For n of 2 or more there is exactly one, and it is not above V (laws).
unfoldable pub deviation : ℕ → ℤ → ℕ
deviation n v = first_from (is_deviation n v) (nat_abs v) 0
