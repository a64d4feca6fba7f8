-- A number from a least to a greatest one.
use Rattle.std.specs.Prelude.{ℤ, ◌≤ℤ◌}

pub record Between (least greatest z : ℤ) : Type 0 where
  pub low : least ≤ℤ z
  pub high : z ≤ℤ greatest
