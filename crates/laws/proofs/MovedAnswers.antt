-- Moving all by one amount changes nothing but T, for what a caller gets: for any answers that the promises of `quality::evaluate`,
-- `quality::evaluate_held`, `readings::deviation` and `readings::mean` allow.
use mathlib.Core.Path.{◌≡◌, sym, ap, ◌∙◌, subst}
use mathlib.Core.Bool.{false}
use mathlib.Core.List.{List}
use lib.IntN.{ℤ, pos, ◌+ℤ◌, ◌*ℤ◌}
use lib.ListN.{length}
use Rattle.std.specs.Prelude.{Ok}
use Rattle.rules.specs.Units.{Limit}
use Rattle.rules.specs.declared.HeldLot.{HeldLot}
use Rattle.rules.specs.declared.Mean.{Mean}
use Rattle.rules.specs.declared.Thousandths.{Thousandths}
use Rattle.rules.specs.declared.Percentages.{Percentages}
use Rattle.rules.specs.Lot.{Lot, lot_of, lot_in, most}
use Rattle.rules.specs.Table.{Table}
use Rattle.rules.specs.Percent.{nearest}
use Rattle.rules.specs.Refusals.{any_out}
use Rattle.rules.specs.Entries.{mean_says, deviation_says, evaluation_says}
use Rattle.rules.specs.Said.{Said}
use Rattle.laws.specs.Moved.{moved, moved_readings, moved_limit, moved_held, InRange, Counted}
use Rattle.laws.proofs.Moved.{moving_changes_nothing, moving_keeps_deviation, moving_moves_sum}
use Rattle.laws.proofs.Lots.{moved_lot_of, moved_lot_in, lot_of_counted, lot_in_counted}

module _ (table : Table) where
  of_lots : (amount : ℤ) (lot other : Lot) (r q : Said Percentages) → other ≡ moved amount lot → Counted lot → InRange lot → InRange other → r ≡ evaluation_says table lot → q ≡ evaluation_says table other → q ≡ r
  unfolding evaluation_says
  of_lots amount lot other r q same says all_in_range all_in_range' e f =
      f ∙ ap (evaluation_says table) same ∙ moving_changes_nothing nearest (table lot.n) amount lot says all_in_range (subst InRange same all_in_range') ∙ sym e

  -- Moving all by one amount, with all in range before and after, does not change the answer to readings in a lent list, with two limits.
  pub moved_answer_is_the_same :
      (amount : ℤ) (upper lower : Limit) (xs : List ℤ) (r q : Said Percentages) →
      InRange (lot_of upper lower xs) →
      InRange (lot_of (moved_limit amount upper) (moved_limit amount lower) (moved_readings amount xs)) →
      r ≡ evaluation_says table (lot_of upper lower xs) →
      q ≡ evaluation_says table (lot_of (moved_limit amount upper) (moved_limit amount lower) (moved_readings amount xs)) →
      q ≡ r
  moved_answer_is_the_same amount upper lower xs r q =
      of_lots amount (lot_of upper lower xs) _ r q (moved_lot_of amount upper lower xs) (lot_of_counted upper lower xs)

  -- Moving all by one amount, with all in range before and after, does not change the answer to a lot in memory, which has as many places as a lot
  -- can hold.
  pub moved_held_answer_is_the_same :
      (amount : ℤ) (held : HeldLot) (r q : Said Percentages) →
      length held.readings ≡ most →
      InRange (lot_in held) →
      InRange (lot_in (moved_held amount held)) →
      r ≡ evaluation_says table (lot_in held) →
      q ≡ evaluation_says table (lot_in (moved_held amount held)) →
      q ≡ r
  moved_held_answer_is_the_same amount held r q places =
      of_lots amount (lot_in held) _ r q (moved_lot_in amount held) (lot_in_counted held places)

-- Moving all readings by one amount does not change the deviation, where none is out of range before or after.
pub moved_deviation_is_the_same :
    (amount : ℤ) (xs : List ℤ) (r q : Said Thousandths) →
    any_out xs ≡ false → any_out (moved_readings amount xs) ≡ false →
    r ≡ deviation_says xs →
    q ≡ deviation_says (moved_readings amount xs) →
    q ≡ r
moved_deviation_is_the_same amount xs r q all_in_range all_in_range' e f =
    f ∙ moving_keeps_deviation amount xs all_in_range all_in_range' ∙ sym e

-- Moving all readings by one amount moves T by n times the amount.
pub moved_mean_moves :
    (amount : ℤ) (xs : List ℤ) (m m' : Mean) →
    (Ok m) ≡ mean_says xs →
    (Ok m') ≡ mean_says (moved_readings amount xs) →
    (m'.total.0 ≡ m.total.0 +ℤ pos m.count *ℤ amount) × (m'.count ≡ m.count)
moved_mean_moves amount xs m m' e f = moving_moves_sum amount xs m m' (sym e) (sym f)
