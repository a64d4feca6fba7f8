-- The products and what is added to them fit.
use Rattle.std.proofs.Common.{ℤ, pos, ◌+ℤ◌, ◌*ℤ◌, ◌≤◌, w64, FitsSigned, arith, rules}
use Rattle.std.proofs.lemmas.Int.{ints}
use native.Mathlib.Nat.{mul-le-mul}
use lib.IntN.{nat_abs}
use Rattle.integers.proofs.Magnitude.{nat_abs_mul}
use Rattle.rules.specs.Pay.{final_pay}
use Rattle.laws.specs.Payable.{Priced}
use Rattle.laws.proofs.Between.{between_magnitude}
use Rattle.pay.proofs.PayRule.final_pay.Goals as goal

fits : (p q c : ℤ) → Priced p q c → FitsSigned w64 (p *ℤ q) × FitsSigned w64 (p *ℤ q *ℤ c) × FitsSigned w64 (p *ℤ q *ℤ c +ℤ pos 50000)
fits p q c h =
    let whole : nat_abs (p *ℤ q) ≤ 1000000000000000 = omega (arith, nat_abs_mul p q, mul-le-mul (between_magnitude h.price) (between_magnitude h.quantity)) in
    let paid : nat_abs (p *ℤ q *ℤ c) ≤ 1030000000000000000 = omega (arith, nat_abs_mul (p *ℤ q) c, mul-le-mul whole (between_magnitude h.composite)) in
    (omega (arith, ints), omega (arith, ints), omega (arith, ints))

pub overflow_mul-result-2 : goal.overflow_mul-result-2
overflow_mul-result-2 c = let f = fits _ _ _ c.requires in search rules

pub overflow_add-result : goal.overflow_add-result
overflow_add-result c = let f = fits _ _ _ c.requires in search rules

pub returns : goal.returns
unfolding final_pay
returns c = let f = fits _ _ _ c.requires in search rules
