-- Division by a natural number, cut toward zero, keeps the order, and the quotient's magnitude is at most that of the number divided.
use Prim.Native.Nat.{ℕ, zero, suc, ◌/◌, ◌≤◌, zero-le, suc-le-suc}
use native.Mathlib.Nat.{mul-le-mul_right, div-zero, div-le_self}
use native.Mathlib.Omega.{arith}
use lib.Ieee.Nearest.{div_mono}
use lib.IntN.{ℤ, pos, negsuc, nat_abs}
use lib.Signed.{◌≤ℤ◌, quot_z}
use Rattle.integers.proofs.Difference.{nat, diff_le, arithℤ, ⊝◌}
use Rattle.integers.proofs.Order.{neg_flips, pos_mono}
use Rattle.integers.proofs.Magnitude.{nat_abs_neg}

-- Division of natural numbers keeps the order; a quotient by 0 is 0.
quotients : (d : ℕ) {a b : ℕ} → a ≤ b → a / d ≤ b / d
quotients zero {a} h = rw (div-zero a) zero-le
quotients (suc d) {a} {b} h = div_mono a (suc d) b (suc d) (suc-le-suc zero-le) (suc-le-suc zero-le) (mul-le-mul_right (suc d) h)

pub quot_z_mono : (d : ℕ) {x y : ℤ} → x ≤ℤ y → quot_z x (pos d) ≤ℤ quot_z y (pos d)
quot_z_mono d {x = pos a} {y = pos b} h = pos_mono (quotients d (omega arithℤ))
quot_z_mono d {x = pos a} {y = negsuc b} h = absurd h.le
quot_z_mono d {x = negsuc a} {y = pos b} h = diff_le (⊝ nat (suc a / d)) (nat (b / d)) (omega arith)
quot_z_mono d {x = negsuc a} {y = negsuc b} h = neg_flips (pos_mono (quotients d (omega arithℤ)))

pub nat_abs_quot_z : (d : ℕ) (x : ℤ) → nat_abs (quot_z x (pos d)) ≤ nat_abs x
nat_abs_quot_z d (pos a) = div-le_self a d
nat_abs_quot_z d (negsuc a) = rw (nat_abs_neg (pos (suc a / d))) (div-le_self (suc a) d)
