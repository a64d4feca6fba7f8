-- A percentage in hundredths: from 0 to 10,000.
use Rattle.std.specs.Prelude.{ℤ, pos}
use Rattle.laws.specs.Between.{Between}

abbrev pub InPercent : ℤ → Type 0
InPercent z = Between (pos 0) (pos 10000) z
