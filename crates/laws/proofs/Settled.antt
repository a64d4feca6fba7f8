-- What documents 000 and 01 say of a payment holds of the one that pay answers, and of no other: a verdict's test decides an order, and a fraction
-- has one nearest whole number.
use mathlib.Core.Path.{◌≡◌, refl, sym}
use mathlib.Core.Bool.{Bool, true, false, ◌||◌, false≢true}
use mathlib.Core.Logic.{◌⊎◌, inl, inr, ⊎_elim, ◌↔◌}
use Prim.Native.Nat.{ℕ}
use native.Mathlib.Omega.{arith}
use lib.IntN.{ℤ, pos}
use Rattle.std.specs.Prelude.{Ok}
use Rattle.integers.proofs.Order.{≤ℤ_trans, pos_mono, lt_z_true, lt_lt_z}
use Rattle.rules.specs.declared.Verdict.{Verdict}
use Rattle.rules.specs.declared.Verdict.TheVariants.{Accepted, Rejected}
use Rattle.rules.specs.declared.Payment.{Payment}
use Rattle.rules.specs.Units.{composite_of, cents}
use Rattle.rules.specs.Pay.{weighted, composite, rejected, verdict, payment}
use Rattle.rules.specs.Entries.{pay_says}
use Rattle.laws.specs.Between.{Between}
use Rattle.laws.specs.Payable.{Payable}
use Rattle.laws.specs.Settled.{RejectedWhen, Below, Settled}
use Rattle.laws.proofs.Ruled.{ruled_answers}
use Rattle.laws.proofs.Payable.{payable}
use Rattle.laws.proofs.Composite.{composite_lies_between}
use Rattle.laws.proofs.Published.{composite_is_nearest, pay_is_nearest}
use Rattle.laws.proofs.HalfUp.{half_up_determined}

-- ---- verdicts, by their tests

tested : (z : ℤ) → (rejected z ≡ true) ↔ Below z
tested z = (lt_z_true z (pos 5000), lt_lt_z)

any_of : {A B C : Type 0} (s t u : Bool) → (s ≡ true) ↔ A → (t ≡ true) ↔ B → (u ≡ true) ↔ C → ((s || t || u) ≡ true) ↔ (A ⊎ B ⊎ C)
any_of true t u h k l = (λ _. inl (h.0 refl), λ _. refl)
any_of false true u h k l = (λ _. inr (inl (k.0 refl)), λ _. refl)
any_of false false u h k l = (
  λ e. inr (inr (l.0 e)),
  ⊎_elim (λ a. absurd (false≢true (h.1 a))) (⊎_elim (λ b. absurd (false≢true (k.1 b))) l.1),
)

rejected_when : {so : Type 0} (t : Bool) → (t ≡ true) ↔ so → RejectedWhen so (verdict t)
rejected_when true h = (λ _. h.0 refl, λ _. refl)
rejected_when false h = (λ e. absurd (let z : ◌≡◌ {A = ℕ} 0 1 = cc in omega arith), λ s. absurd (false≢true (h.1 s)))

same_verdict : {so : Type 0} (v w : Verdict) → RejectedWhen so v → RejectedWhen so w → v ≡ w
same_verdict Accepted Accepted h k = refl
same_verdict Accepted Rejected h k = h.1 (k.0 refl)
same_verdict Rejected Accepted h k = sym (k.1 (h.0 refl))
same_verdict Rejected Rejected h k = refl

-- ---- payments

-- The payment of numbers that are not refused is what the papers say.
pub payment_is_settled : (a b c p q : ℤ) → Payable a b c p q → Settled a b c p q (payment a b c p q)
unfolding payment
payment_is_settled a b c p q h =
    let at = h.percents in
    let low = ≤ℤ_trans (pos_mono {m = 0} (omega arith)) (composite_lies_between at).low in
    record {
      composite = composite_is_nearest a b c at.vma.low at.voids.low at.density.low;
      pay = pay_is_nearest p q (composite (weighted a b c)) h.price.low h.quantity.low low;
      vma = rejected_when (rejected a) (tested a);
      voids = rejected_when (rejected b) (tested b);
      density = rejected_when (rejected c) (tested c);
      lot = rejected_when (rejected a || rejected b || rejected c) (any_of (rejected a) (rejected b) (rejected c) (tested a) (tested b) (tested c));
    }

-- No second payment is what the papers say.
pub settled_determined : (a b c p q : ℤ) (r s : Payment) → Settled a b c p q r → Settled a b c p q s → r ≡ s
settled_determined a b c p q r s h k =
    let e = half_up_determined h.composite k.composite in
    let f = half_up_determined (rw e at h.pay) k.pay in
    λ i. record {
      composite = composite_of (e i);
      vma = same_verdict r.vma s.vma h.vma k.vma i;
      voids = same_verdict r.voids s.voids h.voids k.voids i;
      density = same_verdict r.density s.density h.density k.density i;
      lot = same_verdict r.lot s.lot h.lot k.lot i;
      pay = cents (f i);
    }

-- A payment that a caller gets is what the papers say, and its composite lies in 530 to 1,030.
pub answer_is_settled :
    (a b c p q : ℤ) (r : Payment) → (Ok r) ≡ pay_says a b c p q →
    Settled a b c p q r × Between (pos 530) (pos 1030) r.composite.0
unfolding pay_says payment
answer_is_settled a b c p q r e =
    let given = ruled_answers _ (payment a b c p q) r (sym e) in
    let h = payable a b c p q given.0 in
    rw (← given.1) (payment_is_settled a b c p q h, composite_lies_between h.percents)
