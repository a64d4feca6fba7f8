-- A fraction has one nearest whole number: two of them would lie at least 1 apart, and the bounds of both leave less than 1.
use mathlib.Core.Path.{◌≡◌}
use mathlib.Core.Logic.{⊎_elim}
use native.Mathlib.Nat.{mul-le-mul_left}
use native.Mathlib.Omega.{arith}
use lib.IntN.{ℤ}
use lib.Signed.{◌≤ℤ◌}
use Rattle.integers.proofs.Difference.{var, nat, le_diff, lt_diff, lt_read, ◌⊕◌, ◌⊗◌}
use Rattle.integers.proofs.Order.{≤ℤ_total, ≤ℤ_antisym}
use Rattle.laws.specs.Ratio.{Ratio, HalfUp}

not_above : {x : Ratio} {y z : ℤ} → HalfUp x y → HalfUp x z → y ≤ℤ z
not_above {x} {y} {z} h k =
    let u = nat x.under in
    let low = le_diff (nat 2 ⊗ var y ⊗ u) (nat 2 ⊗ var x.top ⊕ u) h.low in
    let high = lt_diff (nat 2 ⊗ var x.top) (nat 2 ⊗ var z ⊗ u ⊕ u) k.high in
    ⊎_elim (λ below. below) (λ above. absurd (omega (arith, low, high, mul-le-mul_left x.under (lt_read above)))) (≤ℤ_total y z)

-- No second whole number is nearest.
pub half_up_determined : {x : Ratio} {y z : ℤ} → HalfUp x y → HalfUp x z → y ≡ z
half_up_determined h k = ≤ℤ_antisym (not_above h k) (not_above k h)
