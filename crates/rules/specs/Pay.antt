-- Document 01, "Pay": the pay rule of document 000, with its own named constants.
use Rattle.std.specs.Prelude.{Bool, cond, ◌||◌, ℕ, ◌*◌, ◌/◌, ℤ, pos, ◌+ℤ◌, ◌*ℤ◌}
use Rattle.std.specs.Int.Signed.{lt_z, quot_z}
use Rattle.rules.specs.declared.Verdict.{Verdict}
use Rattle.rules.specs.declared.Verdict.TheVariants.{Accepted, Rejected}
use Rattle.rules.specs.declared.Payment.{Payment}
use Rattle.rules.specs.Units.{composite_of, cents}

-- the base, 53 percent
abbrev pub base : ℕ
base = 53

-- the slope is one over this: one half
abbrev pub slope_over : ℕ
slope_over = 2

-- the weights of VMA, voids and density, in tenths
abbrev pub weight_vma : ℕ
weight_vma = 3

abbrev pub weight_voids : ℕ
weight_voids = 3

abbrev pub weight_density : ℕ
weight_density = 4

-- One characteristic's factor: the base and half of its PWL. In 200ths of a percent, for a PWL in hundredths, that is 10,600 + PWL.
unfoldable pub factor : ℤ → ℤ
factor pwl = pos (200 * base) +ℤ pos (200 / (100 * slope_over)) *ℤ pwl

-- W, the weighted sum of the three factors
unfoldable pub weighted : ℤ → ℤ → ℤ → ℤ
weighted vma voids density =
    pos weight_vma *ℤ factor vma +ℤ pos weight_voids *ℤ factor voids +ℤ pos weight_density *ℤ factor density

-- (W + 100)/200, whole part: half goes up
unfoldable pub composite : ℤ → ℤ
composite w = quot_z (w +ℤ pos 100) (pos 200)

-- (price × quantity × composite + 50,000)/100,000, whole part
unfoldable pub final_pay : ℤ → ℤ → ℤ → ℤ
final_pay price quantity c = quot_z (price *ℤ quantity *ℤ c +ℤ pos 50000) (pos 100000)

-- a characteristic is rejected exactly when its PWL is below 5,000
abbrev pub rejected : ℤ → Bool
rejected pwl = lt_z pwl (pos 5000)

abbrev pub verdict : Bool → Verdict
verdict out = cond out Rejected Accepted

-- The lot is rejected exactly when one of the three is; pay is reported either way.
unfoldable pub payment : ℤ → ℤ → ℤ → ℤ → ℤ → Payment
payment vma voids density price quantity =
    let c : ℤ = composite (weighted vma voids density) in
    record {
      composite = composite_of c;
      vma = verdict (rejected vma);
      voids = verdict (rejected voids);
      density = verdict (rejected density);
      lot = verdict (rejected vma || rejected voids || rejected density);
      pay = cents (final_pay price quantity c);
    }
