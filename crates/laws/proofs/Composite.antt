-- For PWLs from 0 to 100 percent, the factor, W and the composite lie between their values at 0 and at 100 percent.
use lib.IntN.{ℤ, pos}
use Rattle.rules.specs.Pay.{factor, weighted, composite}
use Rattle.laws.specs.Between.{Between}
use Rattle.laws.specs.InPercent.{InPercent}
use Rattle.laws.specs.Payable.{Percents}
use Rattle.laws.proofs.Paid.{factor_is_not_lower, weighted_is_not_lower, composite_is_not_lower}

pub factor_lies_between : {pwl : ℤ} → InPercent pwl → Between (pos 10600) (pos 20600) (factor pwl)
unfolding factor
factor_lies_between h = record { low = factor_is_not_lower h.low; high = factor_is_not_lower h.high }

module _ {a b c : ℤ} (h : Percents a b c) where
  pub weighted_lies_between : Between (pos 106000) (pos 206000) (weighted a b c)
  unfolding factor weighted
  weighted_lies_between =
      record {
        low = weighted_is_not_lower h.vma.low h.voids.low h.density.low;
        high = weighted_is_not_lower h.vma.high h.voids.high h.density.high;
      }

  -- The composite lies in 530 to 1,030 thousandths.
  pub composite_lies_between : Between (pos 530) (pos 1030) (composite (weighted a b c))
  unfolding factor weighted composite
  composite_lies_between =
      record {
        low = composite_is_not_lower h.vma.low h.voids.low h.density.low;
        high = composite_is_not_lower h.vma.high h.voids.high h.density.high;
      }
