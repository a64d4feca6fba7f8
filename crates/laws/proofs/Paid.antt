-- A percentage that is not lower never lowers the factor, the composite or the pay.
use mathlib.Core.Path.{◌≡◌}
use Prim.Native.Nat.{◌*◌}
use lib.IntN.{ℤ, pos, negsuc}
use lib.Signed.{◌≤ℤ◌, ≤ℤ_refl}
use Rattle.std.specs.Prelude.{Ok}
use Rattle.integers.proofs.Order.{+ℤ_mono, *ℤ_mono_l}
use Rattle.integers.proofs.Division.{quot_z_mono}
use Rattle.rules.specs.declared.Payment.{Payment}
use Rattle.rules.specs.Pay.{factor, weighted, composite, final_pay, payment}
use Rattle.rules.specs.Entries.{pay_says}
use Rattle.laws.proofs.Ruled.{ruled_answers}
use Rattle.laws.proofs.Payable.{payable}

-- A PWL that is not lower never lowers the factor, whatever the base and the slope are: they are natural numbers.
pub factor_is_not_lower : {p q : ℤ} → p ≤ℤ q → factor p ≤ℤ factor q
unfolding factor
factor_is_not_lower h = +ℤ_mono (≤ℤ_refl (pos _)) (*ℤ_mono_l _ h)

-- PWLs of which none is lower never lower W or the composite, whatever the weights are: they are natural numbers.
module _ {vma voids density vma' voids' density' : ℤ} (h : vma ≤ℤ vma') (i : voids ≤ℤ voids') (j : density ≤ℤ density') where
  pub weighted_is_not_lower : weighted vma voids density ≤ℤ weighted vma' voids' density'
  unfolding weighted
  weighted_is_not_lower =
      let vma_part = *ℤ_mono_l _ (factor_is_not_lower h) in
      let voids_part = *ℤ_mono_l _ (factor_is_not_lower i) in
      let density_part = *ℤ_mono_l _ (factor_is_not_lower j) in
      +ℤ_mono (+ℤ_mono vma_part voids_part) density_part

  pub composite_is_not_lower : composite (weighted vma voids density) ≤ℤ composite (weighted vma' voids' density')
  unfolding composite
  composite_is_not_lower = quot_z_mono _ (+ℤ_mono weighted_is_not_lower (≤ℤ_refl _))

-- A composite that is not lower never lowers the final pay, for a price and a quantity that are not negative.
pub final_pay_is_not_lower : {price quantity c c' : ℤ} → pos 0 ≤ℤ price → pos 0 ≤ℤ quantity → c ≤ℤ c' → final_pay price quantity c ≤ℤ final_pay price quantity c'
unfolding final_pay
final_pay_is_not_lower {price = pos p} {quantity = pos q} h k low = quot_z_mono _ (+ℤ_mono (*ℤ_mono_l (p * q) low) (≤ℤ_refl _))
final_pay_is_not_lower {price = pos p} {quantity = negsuc q} h k low = absurd k.le
final_pay_is_not_lower {price = negsuc p} h k low = absurd h.le

-- Where no PWL is lower, and price and quantity are the same, the composite and the pay are not lower.
pub pay_is_not_lower :
    (vma voids density vma' voids' density' price quantity : ℤ) (a b : Payment) →
    vma ≤ℤ vma' → voids ≤ℤ voids' → density ≤ℤ density' →
    pay_says vma voids density price quantity ≡ Ok a →
    pay_says vma' voids' density' price quantity ≡ Ok b →
    (a.composite.0 ≤ℤ b.composite.0) × (a.pay.0 ≤ℤ b.pay.0)
unfolding pay_says payment
pay_is_not_lower vma voids density vma' voids' density' price quantity a b h i j e f =
    let r = ruled_answers _ (payment vma voids density price quantity) a e in
    let s = ruled_answers _ (payment vma' voids' density' price quantity) b f in
    let z = payable vma voids density price quantity r.0 in
    let low = composite_is_not_lower h i j in
    rw (← r.1, ← s.1) (low, final_pay_is_not_lower z.price.low z.quantity.low low)
