-- Squares of integers, and of natural numbers.
use mathlib.Core.Path.{◌≡◌, refl, ap}
use mathlib.Core.Logic.{◌↔◌, ⊎_elim}
use Prim.Native.Nat.{ℕ, zero, suc, ◌*◌, ◌≤◌, zero-le}
use native.Mathlib.Nat.{mul-le-mul}
use native.Mathlib.Omega.{arith}
use lib.IntN.{ℤ, pos, negsuc, neg_ℤ, nat_abs, ◌+ℤ◌, ◌-ℤ◌, ◌*ℤ◌}
use lib.Signed.{◌≤ℤ◌, ◌<ℤ◌, clash_ℤ}
use Rattle.integers.proofs.Difference.{var, nat, diff_eq, diff_le, diff_lt, arithℤ, ⊝◌, ◌⊕◌, ◌⊖◌, ◌⊗◌}
use Rattle.integers.proofs.Ring.{neg_*ℤ_neg}
use Rattle.integers.proofs.Order.{≤ℤ_total, neg_flips, pos_mono}
use Rattle.integers.proofs.Magnitude.{nat_abs_mul}

unfoldable pub square : ℤ → ℤ
square z = z *ℤ z

-- A square is a natural number: the square of the magnitude.
pub square_nat : (z : ℤ) → square z ≡ pos (nat_abs z * nat_abs z)
unfolding square
square_nat (pos n) = refl
square_nat (negsuc n) = refl

pub square_nonneg : (z : ℤ) → pos 0 ≤ℤ square z
square_nonneg z = rw square_nat (pos_mono zero-le)

pub square_neg : (z : ℤ) → square (neg_ℤ z) ≡ square z
unfolding square
square_neg z = neg_*ℤ_neg z z

pub square_mono : (x y : ℤ) → nat_abs x ≤ nat_abs y → square x ≤ℤ square y
square_mono x y h = rw (square_nat x, square_nat y) (pos_mono (mul-le-mul h h))

-- Only zero has the square zero.
pub square_zero : (z : ℤ) → square z ≡ pos 0 → z ≡ pos 0
unfolding square
square_zero (pos zero) e = refl
square_zero (pos (suc n)) e = absurd (omega (arith, ap nat_abs e))
square_zero (negsuc n) e = absurd (omega (arith, ap nat_abs e))

pub square_diff : (x y : ℤ) → square (x -ℤ y) ≡ (square x +ℤ square y) -ℤ pos 2 *ℤ (x *ℤ y)
unfolding square
square_diff x y = diff_eq ((var x ⊖ var y) ⊗ (var x ⊖ var y)) (var x ⊗ var x ⊕ var y ⊗ var y ⊖ nat 2 ⊗ (var x ⊗ var y)) (omega arith)

-- ---- with the sign

-- z·|z|
unfoldable pub signed : ℤ → ℤ
signed z = z *ℤ pos (nat_abs z)

signed_mono : {x y : ℤ} → x ≤ℤ y → signed x ≤ℤ signed y
unfolding signed
signed_mono {x = pos a} {y = pos b} h =
    let more : a ≤ b = omega arithℤ in
    pos_mono (mul-le-mul more more)
signed_mono {x = pos a} {y = negsuc b} h = absurd h.le
signed_mono {x = negsuc a} {y = pos b} h = diff_le (⊝ nat (suc a * suc a)) (nat (b * b)) (omega arith)
signed_mono {x = negsuc a} {y = negsuc b} h =
    let more : suc b ≤ suc a = omega arithℤ in
    neg_flips (pos_mono (mul-le-mul more more))

signed_strict : {x y : ℤ} → x <ℤ y → signed x <ℤ signed y
unfolding signed
signed_strict {x = pos a} {y = pos b} h =
    let more : suc a ≤ b = omega arithℤ in
    diff_lt (nat (a * a)) (nat (b * b)) (omega (arith, mul-le-mul more more))
signed_strict {x = pos a} {y = negsuc b} h = absurd h.lt
signed_strict {x = negsuc a} {y = pos b} h = diff_lt (⊝ nat (suc a * suc a)) (nat (b * b)) (omega arith)
signed_strict {x = negsuc a} {y = negsuc b} h =
    let more : suc (suc b) ≤ suc a = omega arithℤ in
    diff_lt (⊝ nat (suc a * suc a)) (⊝ nat (suc b * suc b)) (omega (arith, mul-le-mul more more))

-- x ≤ y exactly when x·|x| ≤ y·|y|, and x < y exactly when x·|x| < y·|y|.
pub signed_≤ : (x y : ℤ) → (x ≤ℤ y) ↔ (signed x ≤ℤ signed y)
signed_≤ x y = (signed_mono, λ h. ⊎_elim (λ k. k) (λ k. absurd (clash_ℤ (signed_strict k) h)) (≤ℤ_total x y))

pub signed_< : (x y : ℤ) → (x <ℤ y) ↔ (signed x <ℤ signed y)
signed_< x y = (signed_strict, λ h. ⊎_elim (λ k. absurd (clash_ℤ h (signed_mono k))) (λ k. k) (≤ℤ_total y x))

pub signed_scaled : (z : ℤ) (n : ℕ) → signed (z *ℤ pos n) ≡ signed z *ℤ pos (n * n)
unfolding signed
signed_scaled z n =
    rw (nat_abs_mul z (pos n)) (diff_eq (var z ⊗ nat n ⊗ nat (nat_abs z * n)) (var z ⊗ nat (nat_abs z) ⊗ nat (n * n)) (omega arith))
