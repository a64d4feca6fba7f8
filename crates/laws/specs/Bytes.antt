-- A list of bytes: each number is below 256. Lists of the definitions hold any numbers; what a slice of bytes holds are bytes.
use Rattle.std.specs.Prelude.{List, ℕ, ◌<◌}
use Rattle.laws.specs.Every.{Every}

abbrev pub Bytes : List ℕ → Type 0
Bytes bs = Every (λ (b : ℕ). b < 256) bs
