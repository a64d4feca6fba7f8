-- Bounds of integers through their magnitudes, which are natural numbers.
use mathlib.Core.Path.{◌≡◌, refl, subst⁻¹}
use mathlib.Core.Bool.{true}
use Prim.Native.Nat.{ℕ, zero, suc, ◌+◌, ◌*◌, ◌^◌, ◌≤◌, ◌<◌}
use native.Mathlib.Nat.{le_of_lt}
use native.Mathlib.Omega.{arith}
use borrow.Author.Tests.{ltb-true}
use lib.Dec.{T}
use lib.IntN.{ℤ, pos, negsuc, neg_ℤ, nat_abs, ◌+ℤ◌, ◌-ℤ◌, ◌*ℤ◌}
use lib.Signed.{◌≤ℤ◌, lt_z, mag, non_neg, yes_non_neg, pos-nat_abs}
use mir.Syntax.{Width}
use mir.Val.{hbits, SFits}
use Rattle.integers.proofs.Difference.{Diff, up, down, var, nat, diff_eq, eq_diff, diff_le, le_diff, arithℤ, ⊝◌, ◌⊕◌, ◌⊖◌}
use Rattle.integers.proofs.Order.{neg_flips}

-- |z| is the sum of the two parts of z, one of which is 0.
pub nat_abs_parts : (z : ℤ) → nat_abs z ≡ up z + down z
nat_abs_parts (pos n) = omega arith
nat_abs_parts (negsuc n) = omega arith

-- |p − q| ≤ b exactly when neither of p and q is more than b above the other.
pub diff_within : {z : ℤ} {p q b : ℕ} → Diff z p q → (p ≤ q + b) × (q ≤ p + b) → nat_abs z ≤ b
diff_within {z = pos n} d h = omega arith
diff_within {z = negsuc n} d h = omega arith

pub within_diff : {z : ℤ} {p q b : ℕ} → Diff z p q → nat_abs z ≤ b → (p ≤ q + b) × (q ≤ p + b)
within_diff {z} d h = omega (arith, nat_abs_parts z)

-- |z| ≤ b exactly when −b ≤ z ≤ b.
pub within : {b : ℕ} {z : ℤ} → neg_ℤ (pos b) ≤ℤ z → z ≤ℤ pos b → nat_abs z ≤ b
within {b} {z} h k = diff_within (var z) (omega (arith, le_diff (⊝ nat b) (var z) h, le_diff (var z) (nat b) k))

pub within_low : (z : ℤ) {b : ℕ} → nat_abs z ≤ b → neg_ℤ (pos b) ≤ℤ z
within_low z {b} h = diff_le (⊝ nat b) (var z) (omega (arith, nat_abs_parts z))

pub within_high : (z : ℤ) {b : ℕ} → nat_abs z ≤ b → z ≤ℤ pos b
within_high z {b} h = diff_le (var z) (nat b) (omega (arith, nat_abs_parts z))

-- The magnitudes of the operations' results.
pub nat_abs_neg : (z : ℤ) → nat_abs (neg_ℤ z) ≡ nat_abs z
nat_abs_neg (pos zero) = refl
nat_abs_neg (pos (suc n)) = refl
nat_abs_neg (negsuc n) = refl

pub nat_abs_add : (x y : ℤ) → nat_abs (x +ℤ y) ≤ nat_abs x + nat_abs y
nat_abs_add x y = diff_within (var x ⊕ var y) (omega (arith, nat_abs_parts x, nat_abs_parts y))

pub nat_abs_sub : (x y : ℤ) → nat_abs (x -ℤ y) ≤ nat_abs x + nat_abs y
nat_abs_sub x y = diff_within (var x ⊖ var y) (omega (arith, nat_abs_parts x, nat_abs_parts y))

pub nat_abs_mul : (x y : ℤ) → nat_abs (x *ℤ y) ≡ nat_abs x * nat_abs y
nat_abs_mul (pos a) (pos b) = refl
nat_abs_mul (pos a) (negsuc b) = nat_abs_neg (pos (a * suc b))
nat_abs_mul (negsuc a) (pos b) = nat_abs_neg (pos (suc a * b))
nat_abs_mul (negsuc a) (negsuc b) = refl

-- If v = w − q, and v and q are 0 or more, then |v| ≤ |w|.
pub nat_abs_less_taken : (v w q : ℤ) → pos 0 ≤ℤ v → pos 0 ≤ℤ q → v ≡ w -ℤ q → nat_abs v ≤ nat_abs w
nat_abs_less_taken (pos a) w (pos b) h k e = omega (arith, nat_abs_parts w, eq_diff (nat a) (var w ⊖ nat b) e)
nat_abs_less_taken (pos a) w (negsuc b) h k e = absurd k.le
nat_abs_less_taken (negsuc a) w q h k e = absurd h.le

-- If 0 ≤ x ≤ y, then |x| ≤ |y|; if x ≤ y ≤ 0, then |y| ≤ |x|.
pub nat_abs_mono : {x y : ℤ} → pos 0 ≤ℤ x → x ≤ℤ y → nat_abs x ≤ nat_abs y
nat_abs_mono {x = pos a} {y = pos b} h k = omega arithℤ
nat_abs_mono {x = pos a} {y = negsuc b} h k = absurd k.le
nat_abs_mono {x = negsuc a} h k = absurd h.le

pub nat_abs_falls : {x y : ℤ} → y ≤ℤ pos 0 → x ≤ℤ y → nat_abs y ≤ nat_abs x
nat_abs_falls {x} {y} h k = simp (nat_abs_neg x, nat_abs_neg y) at (nat_abs_mono (neg_flips h) (neg_flips k))

-- An integer that is not negative is its magnitude.
pub nat_abs_pos : {z : ℤ} → pos 0 ≤ℤ z → pos (nat_abs z) ≡ z
nat_abs_pos {z} h = pos-nat_abs z (yes_non_neg h)

-- An integer fits a signed width of b bits if its magnitude is below 2^(b − 1).
pub fits_of : (w : Width) {z : ℤ} → nat_abs z < 2 ^ hbits w → SFits w z
fits_of w {z = pos n} h = record { sfits = h }
fits_of w {z = negsuc n} h = record { sfits = le_of_lt h }

-- For n of 0 or more, −1 − n is −(n + 1). For z below 0, −1 − z is 0 or more, and it fits every width that z fits.
pub minus_one_less : (n : ℕ) → negsuc 0 -ℤ pos n ≡ negsuc n
minus_one_less n = diff_eq (var (negsuc 0) ⊖ nat n) (var (negsuc n)) (omega arith)

pub minus_one_less_negative : (z : ℤ) → lt_z z (pos 0) ≡ true → negsuc 0 -ℤ z ≡ pos (mag z)
minus_one_less_negative (pos n) e = absurd (omega (arith, ltb-true n 0 e))
minus_one_less_negative (negsuc n) e = diff_eq (var (negsuc 0) ⊖ var (negsuc n)) (nat n) (omega arith)

pub minus_one_less_fits : {w : Width} (z : ℤ) → SFits w z → lt_z z (pos 0) ≡ true → SFits w (negsuc 0 -ℤ z) × T (non_neg (negsuc 0 -ℤ z))
minus_one_less_fits {w} z f e = subst⁻¹ (λ (d : ℤ). SFits w d × T (non_neg d)) (minus_one_less_negative z e) (record { sfits = f.sfits }, tt)
