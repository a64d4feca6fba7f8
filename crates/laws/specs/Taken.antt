-- A pair of limits that an evaluation takes: neither is out of range, and the lower is not above the upper.
use Rattle.std.specs.Prelude.{◌≡◌, false, Some}
use Rattle.rules.specs.declared.Thousandths.{Thousandths}
use Rattle.rules.specs.declared.Pair.{Pair}
use Rattle.rules.specs.Refusals.{out_of_range, crossed}

pub record Taken (pair : Pair Thousandths) : Type 0 where
  pub upper_in_range : out_of_range (Some pair.upper) ≡ false
  pub lower_in_range : out_of_range (Some pair.lower) ≡ false
  pub uncrossed : crossed (Some pair.upper) (Some pair.lower) ≡ false
