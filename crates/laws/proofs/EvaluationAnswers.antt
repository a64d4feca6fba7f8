-- The laws of wider limits and of the sides' sum for what a caller gets: for any answers that the promises of two entries allow. The lot of
-- `quality::evaluate` is `lot_of` its limits and readings, and that of `quality::evaluate_held` is `lot_in` memory. The table is the edition that is named
-- in a lent store; all of its columns are `Columns` (StoreNamed.antt).
use mathlib.Core.Path.{◌≡◌, sym, ap, ◌∙◌}
use native.Mathlib.Omega.{arith}
use lib.IntN.{ℤ, pos, ◌+ℤ◌, ◌-ℤ◌}
use lib.Signed.{◌≤ℤ◌, ◌<ℤ◌}
use Rattle.std.specs.Prelude.{Some, Ok}
use Rattle.rules.specs.declared.Thousandths.{Thousandths}
use Rattle.rules.specs.Units.{Limit}
use Rattle.rules.specs.declared.Percentages.{Percentages}
use Rattle.rules.specs.declared.Totals.{Totals}
use Rattle.rules.specs.Lot.{Lot}
use Rattle.rules.specs.Table.{Table, entries}
use Rattle.rules.specs.Percent.{nearest, totals, spread}
use Rattle.rules.specs.Entries.{percentages_of, evaluation_says}
use Rattle.laws.specs.Column.{Column, Columns}
use Rattle.laws.specs.Wider.{with_limits, UpperAsWide, LowerAsWide}
use Rattle.laws.proofs.Accepted.{answered}
use Rattle.laws.proofs.Nearest.{nearest_row_rule, nearest_even_rule}
use Rattle.laws.proofs.NoClamp.{no_clamp, sides_add_up}
use Rattle.laws.proofs.OneLimit.{equal_limits_add_up}
use Rattle.laws.proofs.Wider.{wider_is_not_lower}

module _ (table : Table) (shape : Columns table) where
  -- Where a lot is answered, the table has a column for it, which starts at 50.00, never falls and ends at 100.00.
  pub answered_has_a_column : (lot : Lot) (p : Percentages) → evaluation_says table lot ≡ Ok p → Column (entries (table lot.n))
  unfolding evaluation_says
  answered_has_a_column lot p e = shape lot.n (answered nearest (table lot.n) lot p e).2

  -- Wider limits never lower the percentage.
  pub wider_answer_is_not_lower :
      (lot : Lot) (upper lower : Limit) (p q : Percentages) →
      UpperAsWide lot.upper upper → LowerAsWide lot.lower lower →
      (Ok p) ≡ evaluation_says table lot →
      (Ok q) ≡ evaluation_says table (with_limits upper lower lot) →
      (p.upper.0 ≤ℤ q.upper.0) × (p.lower.0 ≤ℤ q.lower.0) × (p.pwl.0 ≤ℤ q.pwl.0)
  unfolding evaluation_says
  wider_answer_is_not_lower lot upper lower p q above below e f =
      wider_is_not_lower nearest (table lot.n) lot upper lower p q (nearest_row_rule lot.n) (answered_has_a_column lot p (sym e)) above below (sym e) (sym f)

  -- The sides' sum less 100 lies in 0 to 100, with no clamp: it is the PWL.
  pub answer_adds_up :
      (lot : Lot) (p : Percentages) →
      (Ok p) ≡ evaluation_says table lot →
      (pos 0 ≤ℤ ((p.upper.0 +ℤ p.lower.0) -ℤ pos 10000)) ×
      (((p.upper.0 +ℤ p.lower.0) -ℤ pos 10000) ≤ℤ pos 10000) ×
      (p.pwl.0 ≡ (p.upper.0 +ℤ p.lower.0) -ℤ pos 10000)
  unfolding evaluation_says
  answer_adds_up lot p e =
      sides_add_up nearest (table lot.n) lot p (nearest_row_rule lot.n) (answered_has_a_column lot p (sym e)) (sym e)

  -- Two equal limits have nothing within them, unless V is 0.
  pub equal_limits_hold_nothing :
      (lot : Lot) (z : Thousandths) (p : Percentages) →
      pos 0 <ℤ spread (totals lot.n lot.readings) →
      (Ok p) ≡ evaluation_says table (with_limits (Some z) (Some z) lot) →
      p.pwl.0 ≡ pos 0
  unfolding evaluation_says percentages_of
  equal_limits_hold_nothing lot z p above e =
      let both : Lot = with_limits (Some z) (Some z) lot in
      let h = answered nearest (table lot.n) both p (sym e) in
      let a : Totals = totals lot.n lot.readings in
      let even = nearest_even_rule lot.n (omega (arith, h.0.least)) in
      rw (sym h.1)
      (no_clamp nearest (entries (table lot.n)) both ∙ ap (λ (x : ℤ). x -ℤ pos 10000) (equal_limits_add_up nearest (entries (table lot.n)) a z even (answered_has_a_column both p (sym e)) above))
