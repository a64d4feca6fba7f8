-- What a side reaches at a distance, inside the limit or outside: the entry at its row where V is above 0, and 10,000 otherwise. Inside, the side
-- is what it reaches; outside, it is 10,000 less that.
use Rattle.std.specs.Prelude.{cond, List, ℕ, ℤ, pos}
use Rattle.std.specs.Int.Signed.{lt_z}
use Rattle.rules.specs.Table.{entry}
use Rattle.rules.specs.Percent.{Rule}

unfoldable pub reached : Rule → List ℕ → ℕ → ℤ → ℤ → ℕ
reached rule column n v d = cond (lt_z (pos 0) v) (entry column (rule n v d)) 10000
