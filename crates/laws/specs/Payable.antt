-- What is known of numbers that pay does not refuse: bounds that keep their products within 64 bits.
use Rattle.std.specs.Prelude.{ℤ, pos}
use Rattle.laws.specs.Between.{Between}
use Rattle.laws.specs.InPercent.{InPercent}

-- the PWLs of VMA, voids and density
pub record Percents (a b c : ℤ) : Type 0 where
  pub vma : InPercent a
  pub voids : InPercent b
  pub density : InPercent c

-- price and quantity, with a composite of such PWLs
pub record Priced (p q c : ℤ) : Type 0 where
  pub price : Between (pos 0) (pos 10000000) p
  pub quantity : Between (pos 0) (pos 100000000) q
  pub composite : Between (pos 530) (pos 1030) c

-- the PWLs with price and quantity
pub record Payable (a b c p q : ℤ) : Type 0 where
  pub percents : Percents a b c
  pub price : Between (pos 0) (pos 10000000) p
  pub quantity : Between (pos 0) (pos 100000000) q
