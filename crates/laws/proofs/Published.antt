-- The factor, the composite and the pay are those of document 000's formulas: the factor exactly, the other two to the nearest thousandth
-- and cent, a half going up.
use native.Mathlib.Omega.{arith}
use lib.IntN.{ℤ, pos, negsuc}
use lib.Signed.{◌≤ℤ◌}
use Rattle.integers.proofs.Difference.{var, nat, diff_eq, diff_le, diff_lt, ◌⊕◌, ◌⊗◌}
use Rattle.rules.specs.Pay.{factor, weighted, composite, final_pay}
use Rattle.laws.specs.Ratio.{ratio, times, Same, HalfUp}
use Rattle.laws.specs.Published.{published_factor, published_composite, published_pay}

-- The factor is 53 + ½ PWL exactly, in 200ths of a percent.
pub factor_is_published : (pwl : ℤ) → Same (ratio (factor pwl) 200) (published_factor (ratio pwl 100))
unfolding factor
factor_is_published pwl =
    diff_eq ((nat _ ⊕ nat _ ⊗ var pwl) ⊗ nat 1000) ((nat 53 ⊗ nat 1000 ⊕ nat 5 ⊗ var pwl ⊗ nat 1) ⊗ nat 200) (omega arith)

-- The composite is the thousandth nearest the weighted formula.
pub composite_is_nearest :
    (vma voids density : ℤ) → pos 0 ≤ℤ vma → pos 0 ≤ℤ voids → pos 0 ≤ℤ density →
    HalfUp (times (ratio (pos 1000) 1) (published_composite (ratio vma 100) (ratio voids 100) (ratio density 100))) (composite (weighted vma voids density))
unfolding factor weighted composite
composite_is_nearest (pos a) (pos b) (pos c) h i j =
    record { low = diff_le (nat _) (nat _) (omega arith); high = diff_lt (nat _) (nat _) (omega arith) }
composite_is_nearest (negsuc a) voids density h i j = absurd h.le
composite_is_nearest (pos a) (negsuc b) density h i j = absurd i.le
composite_is_nearest (pos a) (pos b) (negsuc c) h i j = absurd j.le

-- The pay is the cent nearest price × quantity × composite.
pub pay_is_nearest :
    (price quantity c : ℤ) → pos 0 ≤ℤ price → pos 0 ≤ℤ quantity → pos 0 ≤ℤ c →
    HalfUp (times (ratio (pos 100) 1) (published_pay (ratio price 100) (ratio quantity 100) (ratio c 1000))) (final_pay price quantity c)
unfolding final_pay
pay_is_nearest (pos p) (pos q) (pos c) h i j =
    record { low = diff_le (nat _) (nat _) (omega arith); high = diff_lt (nat _) (nat _) (omega arith) }
pay_is_nearest (negsuc p) quantity c h i j = absurd h.le
pay_is_nearest (pos p) (negsuc q) c h i j = absurd i.le
pay_is_nearest (pos p) (pos q) (negsuc c) h i j = absurd j.le
