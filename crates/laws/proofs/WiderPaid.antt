-- Wider limits never lower the factor or the pay: their PWL is not lower, and what is paid grows with it.
use mathlib.Core.Path.{◌≡◌}
use lib.IntN.{ℤ}
use lib.Signed.{◌≤ℤ◌, ≤ℤ_refl}
use Rattle.std.specs.Prelude.{Ok}
use Rattle.rules.specs.Units.{Limit}
use Rattle.rules.specs.declared.Percentages.{Percentages}
use Rattle.rules.specs.declared.Payment.{Payment}
use Rattle.rules.specs.Lot.{Lot}
use Rattle.rules.specs.Table.{Found, entries}
use Rattle.rules.specs.Percent.{Rule}
use Rattle.rules.specs.Pay.{factor}
use Rattle.rules.specs.Meets.{pay_meets}
use Rattle.rules.specs.Entries.{evaluated, bare, pay_says}
use Rattle.laws.specs.Column.{Column}
use Rattle.laws.specs.RowRule.{RowRule}
use Rattle.laws.specs.InPercent.{InPercent}
use Rattle.laws.specs.Wider.{with_limits, UpperAsWide, LowerAsWide}
use Rattle.laws.specs.Paid.{Characteristic, vma, voids, density, pay_says_of}
use Rattle.laws.proofs.Between.{not_outside}
use Rattle.laws.proofs.Ruled.{ruled_alike}
use Rattle.laws.proofs.NoClamp.{pwl_in_percent}
use Rattle.laws.proofs.Wider.{wider_is_not_lower}
use Rattle.laws.proofs.Paid.{factor_is_not_lower, pay_is_not_lower}

-- With the other two percentages, price and quantity the same, a PWL that is not lower never lowers the composite or the pay.
pub higher_is_not_paid_less :
    (which : Characteristic) (pwl higher other another price quantity : ℤ) (a b : Payment) →
    pwl ≤ℤ higher →
    pay_says_of which pwl other another price quantity ≡ Ok a →
    pay_says_of which higher other another price quantity ≡ Ok b →
    (a.composite.0 ≤ℤ b.composite.0) × (a.pay.0 ≤ℤ b.pay.0)
higher_is_not_paid_less vma pwl higher x y price quantity a b h =
    pay_is_not_lower pwl x y higher x y price quantity a b h (≤ℤ_refl x) (≤ℤ_refl y)
higher_is_not_paid_less voids pwl higher x y price quantity a b h =
    pay_is_not_lower x pwl y x higher y price quantity a b (≤ℤ_refl x) h (≤ℤ_refl y)
higher_is_not_paid_less density pwl higher x y price quantity a b h =
    pay_is_not_lower x y pwl x y higher price quantity a b (≤ℤ_refl x) (≤ℤ_refl y) h

-- Pay refuses no PWL from 0 to 100 percent: for two of them it answers both times, or gives the same refusal both times, for another number.
pub percentages_are_paid_alike :
    (which : Characteristic) (pwl pwl' other another price quantity : ℤ) →
    InPercent pwl → InPercent pwl' →
    bare (pay_says_of which pwl other another price quantity) ≡ bare (pay_says_of which pwl' other another price quantity)
unfolding pay_says pay_meets
percentages_are_paid_alike vma pwl pwl' x y price quantity h k =
    ruled_alike (pay_meets pwl x y price quantity) (pay_meets pwl' x y price quantity) _ _ (rw (not_outside h, not_outside k))
percentages_are_paid_alike voids pwl pwl' x y price quantity h k =
    ruled_alike (pay_meets x pwl y price quantity) (pay_meets x pwl' y price quantity) _ _ (rw (not_outside h, not_outside k))
percentages_are_paid_alike density pwl pwl' x y price quantity h k =
    ruled_alike (pay_meets x y pwl price quantity) (pay_meets x y pwl' price quantity) _ _ (rw (not_outside h, not_outside k))

-- Wider limits never lower the factor or the pay: the same readings of one characteristic under two pairs of limits that are both
-- answered, the second at least as wide on each side, with the other two percentages, price and quantity the same.
pub wider_is_not_paid_less :
    (rule : Rule) (found : Found) (lot : Lot) (upper lower : Limit) (p q : Percentages) →
    (which : Characteristic) (other another price quantity : ℤ) (a b : Payment) →
    RowRule rule lot.n → Column (entries found) →
    UpperAsWide lot.upper upper → LowerAsWide lot.lower lower →
    evaluated rule found lot ≡ Ok p →
    evaluated rule found (with_limits upper lower lot) ≡ Ok q →
    pay_says_of which p.pwl.0 other another price quantity ≡ Ok a →
    pay_says_of which q.pwl.0 other another price quantity ≡ Ok b →
    (factor p.pwl.0 ≤ℤ factor q.pwl.0) × (a.composite.0 ≤ℤ b.composite.0) × (a.pay.0 ≤ℤ b.pay.0)
wider_is_not_paid_less rule found lot upper lower p q which x y price quantity a b rows shape above below e f g k =
    let h : p.pwl.0 ≤ℤ q.pwl.0 = (wider_is_not_lower rule found lot upper lower p q rows shape above below e f).2 in
    let paid = higher_is_not_paid_less which p.pwl.0 q.pwl.0 x y price quantity a b h g k in
    (factor_is_not_lower h, paid.0, paid.1)

-- For the PWLs of two pairs of limits that are both answered, pay answers both times, or gives the same refusal both times.
pub limits_are_paid_alike :
    (rule : Rule) (found : Found) (lot : Lot) (upper lower : Limit) (p q : Percentages) →
    (which : Characteristic) (other another price quantity : ℤ) →
    RowRule rule lot.n → Column (entries found) →
    evaluated rule found lot ≡ Ok p →
    evaluated rule found (with_limits upper lower lot) ≡ Ok q →
    bare (pay_says_of which p.pwl.0 other another price quantity) ≡ bare (pay_says_of which q.pwl.0 other another price quantity)
limits_are_paid_alike rule found lot upper lower p q which x y price quantity rows shape e f =
    percentages_are_paid_alike which p.pwl.0 q.pwl.0 x y price quantity (pwl_in_percent rule found lot p rows shape e)
    (pwl_in_percent rule found (with_limits upper lower lot) q rows shape f)
