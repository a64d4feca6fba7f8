-- A VMA minimum and a voids target that put no limit out of range: 700 less and 3,000 more than the minimum, and 1,350 either way from the
-- target, are within 500,000.
use Rattle.std.specs.Prelude.{ℤ, pos, neg_ℤ}
use Rattle.laws.specs.Between.{Between}

pub record InReach (a b : ℤ) : Type 0 where
  pub minimum : Between (neg_ℤ (pos 499300)) (pos 497000) a
  pub target : Between (neg_ℤ (pos 498650)) (pos 498650) b
