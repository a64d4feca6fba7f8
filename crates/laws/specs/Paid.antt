-- What is paid where one characteristic has a given PWL; those of the other two come after it, in the order VMA, voids, density.
use Rattle.std.specs.Prelude.{ℤ}
use Rattle.rules.specs.declared.Payment.{Payment}
use Rattle.rules.specs.Said.{Said}
use Rattle.rules.specs.Entries.{pay_says}

pub data Characteristic : Type 0 where
  vma : Characteristic
  voids : Characteristic
  density : Characteristic

abbrev pub pay_says_of : Characteristic → ℤ → ℤ → ℤ → ℤ → ℤ → Said Payment
pay_says_of vma pwl other another price quantity = pay_says pwl other another price quantity
pay_says_of voids pwl other another price quantity = pay_says other pwl another price quantity
pay_says_of density pwl other another price quantity = pay_says other another pwl price quantity
