-- A lot moved by one amount, with nothing out of range before or after, has the same answer: the cases that it meets and its percentages
-- go by differences, which stay.
use mathlib.Core.Path.{◌≡◌, refl}
use mathlib.Core.Bool.{Bool, true, false}
use mathlib.Core.List.{List}
use Prim.Native.Nat.{ℕ}
use lib.IntN.{ℤ, pos, ◌+ℤ◌, ◌*ℤ◌}
use lib.ListN.{length, length-map}
use Rattle.std.specs.Prelude.{Some, None, Ok}
use Rattle.integers.proofs.Order.{lt_z_shift}
use Rattle.rules.specs.Units.{Limit}
use Rattle.rules.specs.declared.Mean.{Mean}
use Rattle.rules.specs.Said.{ruled}
use Rattle.rules.specs.Lot.{Lot}
use Rattle.rules.specs.Table.{Found, entries}
use Rattle.rules.specs.Percent.{Rule, totals, upper_side, lower_side}
use Rattle.rules.specs.Halving.{upper_tried, lower_tried}
use Rattle.rules.specs.Refusals.{count_case, any_out, none, crossed}
use Rattle.rules.specs.Meets.{readings_meet, evaluation_meets}
use Rattle.rules.specs.Entries.{mean_says, deviation_says, percentages_of, percentages, evaluated}
use Rattle.laws.specs.Moved.{moved_readings, moved_limit, moved, InRange, Counted}
use Rattle.laws.proofs.Ruled.{ruled_answers}
use Rattle.laws.proofs.Accepted.{count_allowed}
use Rattle.laws.proofs.MovedTotals.{sum_moves, spread_stays, upper_distance_stays, lower_distance_stays}

-- ---- the cases that are met

none_stays : (amount : ℤ) (upper lower : Limit) → none (moved_limit amount upper) (moved_limit amount lower) ≡ none upper lower
none_stays amount None None = refl
none_stays amount None (Some l) = refl
none_stays amount (Some u) lower = refl

crossed_stays : (amount : ℤ) (upper lower : Limit) → crossed (moved_limit amount upper) (moved_limit amount lower) ≡ crossed upper lower
crossed_stays amount None lower = refl
crossed_stays amount (Some u) None = refl
crossed_stays amount (Some u) (Some l) = lt_z_shift u.0 l.0 amount

-- ---- the rows tried

module _ (amount : ℤ) (xs : List ℤ) where
  upper_tried_stays : (upper : Limit) → upper_tried (totals (length xs) (moved_readings amount xs)) (moved_limit amount upper) ≡ upper_tried (totals (length xs) xs) upper
  unfolding upper_tried
  upper_tried_stays None = refl
  upper_tried_stays (Some u) = rw (spread_stays amount xs, upper_distance_stays amount xs u.0)

  lower_tried_stays : (lower : Limit) → lower_tried (totals (length xs) (moved_readings amount xs)) (moved_limit amount lower) ≡ lower_tried (totals (length xs) xs) lower
  unfolding lower_tried
  lower_tried_stays None = refl
  lower_tried_stays (Some l) = rw (spread_stays amount xs, lower_distance_stays amount xs l.0)

-- ---- the percentages

module _ (rule : Rule) (column : List ℕ) (amount : ℤ) where
  upper_side_stays : (xs : List ℤ) (upper : Limit) → upper_side rule column (totals (length xs) (moved_readings amount xs)) (moved_limit amount upper) ≡ upper_side rule column (totals (length xs) xs) upper
  unfolding upper_side
  upper_side_stays xs None = refl
  upper_side_stays xs (Some u) = rw (spread_stays amount xs, upper_distance_stays amount xs u.0)

  lower_side_stays : (xs : List ℤ) (lower : Limit) → lower_side rule column (totals (length xs) (moved_readings amount xs)) (moved_limit amount lower) ≡ lower_side rule column (totals (length xs) xs) lower
  unfolding lower_side
  lower_side_stays xs None = refl
  lower_side_stays xs (Some l) = rw (spread_stays amount xs, lower_distance_stays amount xs l.0)

  percentages_stay : (lot : Lot) → length lot.readings ≡ lot.n → percentages rule column (moved amount lot) ≡ percentages rule column lot
  unfolding percentages_of
  percentages_stay lot e =
      rw (
        ← e,
        upper_side_stays lot.readings lot.upper,
        lower_side_stays lot.readings lot.lower,
        upper_tried_stays amount lot.readings lot.upper,
        lower_tried_stays amount lot.readings lot.lower,
      )

-- ---- the laws

-- Moving all by one amount changes nothing, where both lots are in range: the same answer or the same refusal, by any rule for rows and
-- whatever is found. `Counted` is enough, since a count above what a lot can hold is refused whatever the readings are.
pub moving_changes_nothing :
    (rule : Rule) (found : Found) (amount : ℤ) (lot : Lot) →
    Counted lot → InRange lot → InRange (moved amount lot) →
    evaluated rule found (moved amount lot) ≡ evaluated rule found lot
unfolding evaluated evaluation_meets ruled
moving_changes_nothing rule found amount lot says all_in_range all_in_range' = by (count_case lot.n).applies refl
  where
    by : (b : Bool) → (count_case lot.n).applies ≡ b → evaluated rule found (moved amount lot) ≡ evaluated rule found lot
    by true e = rw e
    by false e = rw (all_in_range, all_in_range', none_stays amount lot.upper lot.lower, crossed_stays amount lot.upper lot.lower, percentages_stay rule (entries found) amount lot (says (count_allowed lot.n e).1))

-- The deviation does not change either, where no reading is out of range before or after.
pub moving_keeps_deviation :
    (amount : ℤ) (xs : List ℤ) →
    any_out xs ≡ false → any_out (moved_readings amount xs) ≡ false →
    deviation_says (moved_readings amount xs) ≡ deviation_says xs
unfolding deviation_says readings_meet ruled
moving_keeps_deviation amount xs all_in_range all_in_range' = rw (all_in_range, all_in_range', length-map, spread_stays amount xs)

-- T moves by n times the amount.
pub moving_moves_sum :
    (amount : ℤ) (xs : List ℤ) (m m' : Mean) →
    mean_says xs ≡ Ok m →
    mean_says (moved_readings amount xs) ≡ Ok m' →
    (m'.total.0 ≡ m.total.0 +ℤ pos m.count *ℤ amount) × (m'.count ≡ m.count)
unfolding mean_says
moving_moves_sum amount xs m m' e e' = rw (← (ruled_answers _ _ _ e).1, ← (ruled_answers _ _ _ e').1) (sum_moves amount xs, length-map xs _)
