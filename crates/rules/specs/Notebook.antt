-- Document 01, "The notebook": readings as bytes, a limit as a number and a presence, and the row of three doubles.
use Rattle.std.specs.Prelude.{false, not, List, ℕ, ◌*◌, ◌/◌, eqb, ℤ, pos, length, Float, Ok, Err}
use Rattle.std.specs.Float.Ieee as Ieee
use Rattle.std.specs.Float.{fin, binary64}
use Rattle.rules.specs.Units.{Limit}
use Rattle.rules.specs.declared.Row.{Row}
use Rattle.rules.specs.Said.{Said}
use Rattle.rules.specs.Lot.{Lot}
use Rattle.rules.specs.Record.{fours, limit_of}

-- a limit given as a number and a presence: absent where the presence is 0, and the number is not read; present where it is any other
abbrev pub lent_limit : ℤ → ℕ → Limit
lent_limit z presence = limit_of (not (eqb presence 0)) z

-- four bytes to each reading
unfoldable pub lent_lot : Limit → Limit → List ℕ → Lot
lent_lot upper lower bs =
    record { n = length bs / 4; upper = upper; lower = lower; readings = fours (length bs / 4) bs }

-- one division of two whole numbers as doubles; those of a lot's row are converted exactly
abbrev pub over : ℤ → ℕ → Float
over z m = Ieee.div binary64 (Ieee.of_int binary64 z) (Ieee.of_int binary64 (pos m))

-- the mean T over 1000·n, the deviation s over 1000 and the percentage over 100
unfoldable pub row_of : ℤ → ℕ → ℤ → ℤ → Row
row_of t n s pwl = record { mean = over t (1000 * n); deviation = over s 1000; pwl = over pwl 100 }

-- one double of a row: 0 where the lot is refused
abbrev pub double_asked : (Row → Float) → Said Row → Float
double_asked f (Err r) = fin false 0 (pos 0)
double_asked f (Ok row) = f row

abbrev pub mean_asked : Said Row → Float
mean_asked said = double_asked (λ (row : Row). row.mean) said

abbrev pub deviation_asked : Said Row → Float
deviation_asked said = double_asked (λ (row : Row). row.deviation) said

abbrev pub pwl_asked : Said Row → Float
pwl_asked said = double_asked (λ (row : Row). row.pwl) said
