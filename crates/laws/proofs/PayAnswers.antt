-- The laws of factor and pay for what a caller gets: for any answers that the promises of evaluation and of pay allow.
use mathlib.Core.Path.{◌≡◌, refl, sym, ap, ◌∙◌}
use lib.IntN.{ℤ}
use lib.Signed.{◌≤ℤ◌}
use Rattle.std.specs.Prelude.{Ok}
use Rattle.rules.specs.Units.{Limit}
use Rattle.rules.specs.declared.Percentages.{Percentages}
use Rattle.rules.specs.declared.Payment.{Payment}
use Rattle.rules.specs.declared.host.HostPercentages.{HostPercentages}
use Rattle.rules.specs.declared.host.HostPayment.{HostPayment}
use Rattle.rules.specs.Lot.{Lot}
use Rattle.rules.specs.Table.{Table}
use Rattle.rules.specs.Percent.{nearest}
use Rattle.rules.specs.Pay.{factor}
use Rattle.rules.specs.Entries.{evaluation_says, bare, pay_says}
use Rattle.rules.specs.Host.{host_percentages, host_payment}
use Rattle.rules.specs.Said.{Said}
use Rattle.laws.specs.Column.{Columns}
use Rattle.laws.specs.Wider.{with_limits, UpperAsWide, LowerAsWide, HasPwl, Widened}
use Rattle.laws.specs.Given.{given_percentages}
use Rattle.laws.specs.Paid.{Characteristic, pay_says_of}
use Rattle.laws.proofs.Nearest.{nearest_row_rule}
use Rattle.laws.proofs.EvaluationAnswers.{answered_has_a_column, wider_answer_is_not_lower}
use Rattle.laws.proofs.Paid.{pay_is_not_lower}
use Rattle.laws.proofs.WiderPaid.{higher_is_not_paid_less, wider_is_not_paid_less, limits_are_paid_alike}
use Rattle.laws.proofs.Given.{percentages_given, payment_given}

-- With the other two percentages, price and quantity the same, a PWL that is not lower never lowers the composite or the pay.
pub higher_payment_is_not_lower :
    (which : Characteristic) (pwl higher other another price quantity : ℤ) (a b : Payment) →
    pwl ≤ℤ higher →
    (Ok a) ≡ pay_says_of which pwl other another price quantity →
    (Ok b) ≡ pay_says_of which higher other another price quantity →
    (a.composite.0 ≤ℤ b.composite.0) × (a.pay.0 ≤ℤ b.pay.0)
higher_payment_is_not_lower which pwl higher x y price quantity a b h e f =
    higher_is_not_paid_less which pwl higher x y price quantity a b h (sym e) (sym f)

module _ (table : Table) (shape : Columns table) where
  -- Wider limits on one characteristic never lower its factor, the composite or the pay.
  pub wider_payment_is_not_lower :
      (lot : Lot) (upper lower : Limit) (p q : Percentages) →
      (which : Characteristic) (other another price quantity : ℤ) (a b : Payment) →
      UpperAsWide lot.upper upper → LowerAsWide lot.lower lower →
      (Ok p) ≡ evaluation_says table lot →
      (Ok q) ≡ evaluation_says table (with_limits upper lower lot) →
      (Ok a) ≡ pay_says_of which p.pwl.0 other another price quantity →
      (Ok b) ≡ pay_says_of which q.pwl.0 other another price quantity →
      (factor p.pwl.0 ≤ℤ factor q.pwl.0) × (a.composite.0 ≤ℤ b.composite.0) × (a.pay.0 ≤ℤ b.pay.0)
  unfolding evaluation_says
  wider_payment_is_not_lower lot upper lower p q which x y price quantity a b above below e f g k =
      wider_is_not_paid_less nearest (table lot.n) lot upper lower p q which x y price quantity a b (nearest_row_rule lot.n) (answered_has_a_column table shape lot p (sym e)) above below (sym e) (sym f) (sym g) (sym k)

  -- For the PWLs of two pairs of limits that are both answered, pay answers both times, or gives the same refusal both times.
  pub limits_are_answered_alike :
      (lot : Lot) (upper lower : Limit) (p q : Percentages) →
      (which : Characteristic) (other another price quantity : ℤ) (r s : Said Payment) →
      (Ok p) ≡ evaluation_says table lot →
      (Ok q) ≡ evaluation_says table (with_limits upper lower lot) →
      r ≡ pay_says_of which p.pwl.0 other another price quantity →
      s ≡ pay_says_of which q.pwl.0 other another price quantity →
      bare (r) ≡ bare (s)
  unfolding evaluation_says
  limits_are_answered_alike lot upper lower p q which x y price quantity r s e f g k =
      ap bare g
      ∙ limits_are_paid_alike nearest (table lot.n) lot upper lower p q which x y price quantity (nearest_row_rule lot.n) (answered_has_a_column table shape lot p (sym e)) (sym e) (sym f)
      ∙ sym (ap bare k)

  -- Widened limits never lower the PWL; so all three characteristics' limits widened at once never lower the composite or the pay.
  widened_is_not_lower : {pwl wider : ℤ} → Widened table pwl wider → pwl ≤ℤ wider
  widened_is_not_lower {pwl} {wider} h =
      let p = h.narrow in
      let q = h.wide in
      rw (sym p.2, sym q.2) (wider_answer_is_not_lower table shape h.lot h.upper h.lower p.0 q.0 h.upper_as_wide h.lower_as_wide (sym p.1) (sym q.1)).2

  pub all_wider_payment_is_not_lower :
      {vma voids density vma' voids' density' : ℤ} (price quantity : ℤ) (a b : Payment) →
      Widened table vma vma' → Widened table voids voids' → Widened table density density' →
      (Ok a) ≡ pay_says vma voids density price quantity →
      (Ok b) ≡ pay_says vma' voids' density' price quantity →
      (a.composite.0 ≤ℤ b.composite.0) × (a.pay.0 ≤ℤ b.pay.0)
  all_wider_payment_is_not_lower price quantity a b h i j e f =
      pay_is_not_lower _ _ _ _ _ _ price quantity a b (widened_is_not_lower h) (widened_is_not_lower i) (widened_is_not_lower j) (sym e) (sym f)

  -- The same of what C is given: a PWL, and what is paid.
  pub given_has_pwl : (lot : Lot) (r : HostPercentages) → r ≡ host_percentages (evaluation_says table lot) → r.refusal.number ≡ 0 → HasPwl table lot r.pwl
  given_has_pwl lot r e z = (given_percentages r, percentages_given (evaluation_says table lot) r e z, refl)

  pub all_wider_given_payment_is_not_lower :
      {vma voids density vma' voids' density' : ℤ} (price quantity : ℤ) (a b : HostPayment) →
      Widened table vma vma' → Widened table voids voids' → Widened table density density' →
      a ≡ host_payment (pay_says vma voids density price quantity) → a.refusal.number ≡ 0 →
      b ≡ host_payment (pay_says vma' voids' density' price quantity) → b.refusal.number ≡ 0 →
      (a.composite ≤ℤ b.composite) × (a.pay ≤ℤ b.pay)
  all_wider_given_payment_is_not_lower {vma} {voids} {density} {vma'} {voids'} {density'} price quantity a b h i j e z f y =
      let p = payment_given (pay_says vma voids density price quantity) a e z in
      let q = payment_given (pay_says vma' voids' density' price quantity) b f y in
      rw (p.2, q.2) (all_wider_payment_is_not_lower price quantity p.0 q.0 h i j (sym p.1) (sym q.1))
