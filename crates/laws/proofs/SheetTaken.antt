-- A sheet is refused exactly when an entry is below 0 or above 1,000,000,000,000,000, or its verdict is neither 0 nor 1; and ours never is.
use mathlib.Core.Path.{◌≡◌, refl}
use mathlib.Core.Bool.{Bool, true, false, ◌||◌}
use Prim.Native.Nat.{ℕ, zero, suc, ◌+◌, ◌*◌, ◌≤◌, zero-le}
use native.Mathlib.Nat.{mul-le-mul}
use native.Mathlib.Omega.{arith}
use lib.IntN.{ℤ, pos, negsuc, nat_abs}
use lib.Signed.{le_z_yes}
use lib.ListN.{get_or}
use Rattle.integers.proofs.Order.{≤ℤ_trans, pos_mono}
use Rattle.integers.proofs.Division.{quot_z_mono}
use Rattle.rules.specs.declared.Verdict.{Verdict}
use Rattle.rules.specs.declared.Sheet.{Sheet}
use Rattle.rules.specs.Pay.{final_pay, payment}
use Rattle.rules.specs.Sheet.{verdict_number, sheet_numbers, sheet_of}
use Rattle.rules.specs.Refusals.{outside, greatest_entry, sheet_case}
use Rattle.laws.specs.Between.{Between}
use Rattle.laws.specs.Payable.{Priced, Payable}
use Rattle.laws.specs.Sheet.{quadrillion, SheetTaken, Entered}
use Rattle.laws.proofs.Tests.{neither}
use Rattle.laws.proofs.Between.{inside, not_outside, between_magnitude}
use Rattle.laws.proofs.Composite.{composite_lies_between}

module _ (s : Sheet) where
  pub sheet_is_taken : (sheet_case s).applies ≡ false → SheetTaken s
  sheet_is_taken e =
      let a : Bool = outside greatest_entry s.vma.0 in
      let b : Bool = outside greatest_entry s.voids.0 in
      let c : Bool = outside greatest_entry s.density.0 in
      let d : Bool = outside greatest_entry s.composite.0 in
      let v : Bool = outside (pos 1) s.verdict.0 in
      let all = neither (a || b || c || d || v) (outside greatest_entry s.pay.0) e in
      let five = neither (a || b || c || d) v all.0 in
      let four = neither (a || b || c) d five.0 in
      let three = neither (a || b) c four.0 in
      let two = neither a b three.0 in
      record {
        vma = inside greatest_entry s.vma.0 two.0;
        voids = inside greatest_entry s.voids.0 two.1;
        density = inside greatest_entry s.density.0 three.1;
        composite = inside greatest_entry s.composite.0 four.1;
        verdict = inside (pos 1) s.verdict.0 five.1;
        pay = inside greatest_entry s.pay.0 all.1;
      }

  pub taken_is_no_case : SheetTaken s → (sheet_case s).applies ≡ false
  taken_is_no_case h =
      rw (not_outside h.vma, not_outside h.voids, not_outside h.density, not_outside h.composite, not_outside h.verdict, not_outside h.pay)

  pub untaken_is_a_case : ¬ SheetTaken s → (sheet_case s).applies ≡ true
  untaken_is_a_case h = by (sheet_case s).applies refl
    where
      by : (t : Bool) → (sheet_case s).applies ≡ t → t ≡ true
      by true e = refl
      by false e = absurd (h (sheet_is_taken e))

  -- The numbers of such a sheet are so small that two of them have a difference of 64 bits.
  pub taken_is_entered : SheetTaken s → Entered (sheet_numbers s)
  unfolding sheet_numbers
  taken_is_entered h = record { bounded = at }
    where
      at : (k : ℕ) → nat_abs (get_or (sheet_numbers s) k (pos 0)) ≤ quadrillion
      at zero = between_magnitude h.vma
      at (suc zero) = between_magnitude h.voids
      at (suc (suc zero)) = between_magnitude h.density
      at (suc (suc (suc zero))) = between_magnitude h.composite
      at (suc (suc (suc (suc zero)))) = omega (arith, between_magnitude h.verdict)
      at (suc (suc (suc (suc (suc zero))))) = between_magnitude h.pay
      at (suc (suc (suc (suc (suc (suc k)))))) = omega arith

-- ---- the sheet that our rules give is taken

-- A number of narrower bounds is one that an entry may have.
as_entry : {least greatest : ℕ} {z : ℤ} → greatest ≤ quadrillion → Between (pos least) (pos greatest) z → Between (pos 0) (pos quadrillion) z
as_entry h b = record { low = ≤ℤ_trans (pos_mono zero-le) b.low; high = ≤ℤ_trans b.high (pos_mono h) }

-- No more is paid than 10,000,000 × 100,000,000 × 1,030 over 100,000.
pub final_pay_lies_between : {p q c : ℤ} → Priced p q c → Between (pos 0) (pos 10300000000000) (final_pay p q c)
unfolding final_pay
final_pay_lies_between {p = pos p} {q = pos q} {c = pos c} h =
    let whole : p * q ≤ 1000000000000000 = mul-le-mul (between_magnitude h.price) (between_magnitude h.quantity) in
    let paid : p * q * c ≤ 1030000000000000000 = mul-le-mul whole (between_magnitude h.composite) in
    record {
      low = quot_z_mono 100000 {x = pos 0} {y = pos (p * q * c + 50000)} (pos_mono (omega arith));
      high = quot_z_mono 100000 {x = pos (p * q * c + 50000)} {y = pos 1030000000000050000} (pos_mono (omega arith));
    }
final_pay_lies_between {p = pos p} {q = pos q} {c = negsuc c} h = absurd h.composite.low.le
final_pay_lies_between {p = pos p} {q = negsuc q} h = absurd h.quantity.low.le
final_pay_lies_between {p = negsuc p} h = absurd h.price.low.le

verdict_lies_between : (v : Verdict) → Between (pos 0) (pos 1) (pos (verdict_number v))
verdict_lies_between Verdict.Accepted = record { low = le_z_yes tt; high = le_z_yes tt }
verdict_lies_between Verdict.Rejected = record { low = le_z_yes tt; high = le_z_yes tt }

pub paid_sheet_is_taken : {a b c p q : ℤ} → Payable a b c p q → SheetTaken (sheet_of a b c (payment a b c p q))
unfolding payment
paid_sheet_is_taken {a} {b} {c} {p} {q} h =
    let between = composite_lies_between h.percents in
    record {
      vma = as_entry (omega arith) h.percents.vma;
      voids = as_entry (omega arith) h.percents.voids;
      density = as_entry (omega arith) h.percents.density;
      composite = as_entry (omega arith) between;
      verdict = verdict_lies_between (payment a b c p q).lot;
      pay = as_entry (omega arith) (final_pay_lies_between (record { price = h.price; quantity = h.quantity; composite = between }));
    }
