-- A number is not outside exactly when it is from 0 to the greatest that is taken. Where 0 ≤ z, an upper bound of z bounds its magnitude. A number
-- from 0 to 3 is 0, 1, 2 or 3.
use mathlib.Core.Path.{◌≡◌, refl}
use mathlib.Core.Bool.{false}
use Prim.Native.Nat.{ℕ, zero, suc, ◌≤◌}
use native.Mathlib.Omega.{arith}
use lib.IntN.{ℤ, pos, negsuc, nat_abs, ◌-ℤ◌}
use lib.Signed.{lt_z}
use Rattle.integers.proofs.Difference.{var, nat, diff_le, le_read, arithℤ, ⊝◌, ◌⊖◌}
use Rattle.integers.proofs.Order.{≤ℤ_trans, lt_z_false, le_lt_z}
use Rattle.integers.proofs.Magnitude.{within}
use Rattle.rules.specs.Refusals.{outside}
use Rattle.laws.specs.Between.{Between}
use Rattle.laws.proofs.Tests.{neither}

pub inside : (greatest z : ℤ) → outside greatest z ≡ false → Between (pos 0) greatest z
inside greatest z e =
    let h = neither (lt_z z (pos 0)) (lt_z greatest z) e in
    record { low = lt_z_false z (pos 0) h.0; high = lt_z_false greatest z h.1 }

pub not_outside : {greatest z : ℤ} → Between (pos 0) greatest z → outside greatest z ≡ false
not_outside h = rw (le_lt_z h.low, le_lt_z h.high)

pub between_magnitude : {least greatest : ℕ} {z : ℤ} → Between (pos least) (pos greatest) z → nat_abs z ≤ greatest
between_magnitude {least} {greatest} h = within (≤ℤ_trans (diff_le (⊝ nat greatest) (nat least) (omega arith)) h.low) h.high

pub one_of_four : {z : ℤ} {X : Type 0} → Between (pos 0) (pos 3) z → (z ≡ pos 0 → X) → (z ≡ pos 1 → X) → (z ≡ pos 2 → X) → (z ≡ pos 3 → X) → X
one_of_four {z = pos zero} h at_0 at_1 at_2 at_3 = at_0 refl
one_of_four {z = pos (suc zero)} h at_0 at_1 at_2 at_3 = at_1 refl
one_of_four {z = pos (suc (suc zero))} h at_0 at_1 at_2 at_3 = at_2 refl
one_of_four {z = pos (suc (suc (suc zero)))} h at_0 at_1 at_2 at_3 = at_3 refl
one_of_four {z = pos (suc (suc (suc (suc n))))} h at_0 at_1 at_2 at_3 = absurd (omega arithℤ)
one_of_four {z = negsuc n} h at_0 at_1 at_2 at_3 = absurd h.low.le

-- If 0 ≤ z ≤ g, then 0 ≤ g − z ≤ g.
pub rest_between : {g : ℕ} {z : ℤ} → Between (pos 0) (pos g) z → Between (pos 0) (pos g) (pos g -ℤ z)
rest_between {g} {z} h =
    record {
      low = diff_le (nat 0) (nat g ⊖ var z) (omega (arith, le_read h.low, le_read h.high));
      high = diff_le (nat g ⊖ var z) (nat g) (omega (arith, le_read h.low, le_read h.high));
    }
