-- What documents 000 and 01 say of a payment for three PWLs a, b and c, of VMA, voids and density, in hundredths of a percent, a price p
-- in cents a ton and a quantity q in hundredths of a ton. Its composite is in thousandths, its pay in cents.
use Rattle.std.specs.Prelude.{◌≡◌, ◌⊎◌, ◌↔◌, ℤ, pos, ◌<ℤ◌}
use Rattle.rules.specs.declared.Verdict.{Verdict}
use Rattle.rules.specs.declared.Verdict.TheVariants.{Rejected}
use Rattle.rules.specs.declared.Payment.{Payment}
use Rattle.laws.specs.Ratio.{ratio, times, HalfUp}
use Rattle.laws.specs.Published.{published_composite, published_pay}

-- the verdict is Rejected exactly when `so` holds
abbrev pub RejectedWhen : Type 0 → Verdict → Type 0
RejectedWhen so verdict = (verdict ≡ Rejected) ↔ so

-- below 50 percent
abbrev pub Below : ℤ → Type 0
Below pwl = pwl <ℤ pos 5000

pub record Settled (a b c p q : ℤ) (payment : Payment) : Type 0 where
  pub composite : HalfUp (times (ratio (pos 1000) 1) (published_composite (ratio a 100) (ratio b 100) (ratio c 100))) payment.composite.0
  pub pay : HalfUp (times (ratio (pos 100) 1) (published_pay (ratio p 100) (ratio q 100) (ratio payment.composite.0 1000))) payment.pay.0
  pub vma : RejectedWhen (Below a) payment.vma
  pub voids : RejectedWhen (Below b) payment.voids
  pub density : RejectedWhen (Below c) payment.density
  pub lot : RejectedWhen (Below a ⊎ Below b ⊎ Below c) payment.lot
