-- Pay is answered exactly for the numbers that document 01 names, and gives refusal 9 for all others.
use mathlib.Core.Path.{◌≡◌, ◌∙◌}
use mathlib.Core.Bool.{Bool, false, ◌||◌}
use mathlib.Core.List.{[]}
use lib.IntN.{ℤ, pos}
use Rattle.std.specs.Prelude.{Ok, Err}
use Rattle.rules.specs.declared.Refusal.TheVariants.{Number}
use Rattle.rules.specs.Units.{hundred_percent}
use Rattle.rules.specs.Said.{checked}
use Rattle.rules.specs.Pay.{payment}
use Rattle.rules.specs.Refusals.{outside, pay_case}
use Rattle.rules.specs.Meets.{pay_meets}
use Rattle.rules.specs.Entries.{pay_says}
use Rattle.laws.specs.Payable.{Payable}
use Rattle.laws.proofs.Tests.{neither}
use Rattle.laws.proofs.Between.{inside, not_outside}
use Rattle.laws.proofs.Ruled.{ruled_none, ruled_passed, ruled_refused, none_met}

module _ (vma voids density price quantity : ℤ) where
  -- Where refusal 9 does not apply, the numbers are payable,
  case_passed : (pay_case vma voids density price quantity).applies ≡ false → Payable vma voids density price quantity
  case_passed e =
      let a : Bool = outside hundred_percent vma in
      let b : Bool = outside hundred_percent voids in
      let c : Bool = outside hundred_percent density in
      let all = neither (a || b || c || outside (pos 10000000) price) (outside (pos 100000000) quantity) e in
      let four = neither (a || b || c) (outside (pos 10000000) price) all.0 in
      let three = neither (a || b) c four.0 in
      let two = neither a b three.0 in
      record {
        percents = record { vma = inside hundred_percent vma two.0; voids = inside hundred_percent voids two.1; density = inside hundred_percent density three.1 };
        price = inside (pos 10000000) price four.1;
        quantity = inside (pos 100000000) quantity all.1;
      }

  pub payable : checked (pay_meets vma voids density price quantity) ≡ Ok tt → Payable vma voids density price quantity
  unfolding pay_meets
  payable e = case_passed (none_met (pay_case vma voids density price quantity) [] e).0

  -- and where they are payable, it does not apply.
  passes : Payable vma voids density price quantity → (pay_case vma voids density price quantity).applies ≡ false
  passes h = rw (not_outside h.percents.vma, not_outside h.percents.voids, not_outside h.percents.density, not_outside h.price, not_outside h.quantity)

  -- Pay is answered for PWLs from 0 to 10,000, a price from 0 to 10,000,000 and a quantity from 0 to 100,000,000,
  pub payable_is_paid : Payable vma voids density price quantity → pay_says vma voids density price quantity ≡ Ok (payment vma voids density price quantity)
  unfolding pay_says pay_meets
  payable_is_paid h = ruled_passed _ _ _ (passes h) ∙ ruled_none _

  -- and refused with 9 for any other numbers.
  pub not_payable_is_refused : ¬ Payable vma voids density price quantity → pay_says vma voids density price quantity ≡ Err Number
  unfolding pay_says pay_meets
  not_payable_is_refused h = ruled_refused _ _ _ case_passed h
