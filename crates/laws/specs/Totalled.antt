-- What the steps before an entry's answer say: the totals n, T and Z, or a refusal.
use Rattle.std.specs.Prelude.{cond, ◌||◌, List, [], ◌∷◌, ℕ, ℤ, ◌+ℤ◌, ◌*ℤ◌, length, None, Ok, Err, Option}
use Rattle.rules.specs.Units.{Limit, in_range}
use Rattle.rules.specs.declared.Totals.{Totals}
use Rattle.rules.specs.declared.Refusal.TheVariants.{Range, Unsound}
use Rattle.rules.specs.declared.Columned.{Columned}
use Rattle.rules.specs.Said.{Said, Case, ruled}
use Rattle.rules.specs.Lot.{Lot}
use Rattle.rules.specs.Percent.{totals}
use Rattle.rules.specs.Refusals.{out_of_range, range_case}
use Rattle.rules.specs.Table.{Table}
use Rattle.rules.specs.Meets.{readings_meet, limits_meet, column_meets, evaluation_meets, row_meets}
use Rattle.laws.specs.StoreWalk.{table_at}

-- One reading x more in T and Z; n, the count of all readings, stays.
abbrev pub with_reading : Totals → ℤ → Totals
with_reading a x = record { n = a.n; t = x +ℤ a.t; z = x *ℤ x +ℤ a.z }

-- One reading: it is added to the totals, or it is out of range and is refusal 5.
unfoldable pub pass_says : Totals → ℤ → Said Totals
pass_says a x = cond (in_range x) (Ok (with_reading a x)) (Err Range)

-- All readings: their totals, or refusal 5 where one is out of range.
unfoldable pub walk_says : List ℤ → Said Totals
walk_says xs = ruled (range_case None None xs ∷ []) (totals (length xs) xs)

-- the same said of something that the values have
abbrev pub said_of : {A B : Type 0} → (A → B) → Said A → Said B
said_of f (Err r) = Err r
said_of f (Ok a) = Ok (f a)

-- All readings, their count first: their totals, or refusal 4 or 5.
unfoldable pub totals_says : List ℤ → Said Totals
totals_says xs = ruled (readings_meet xs) (totals (length xs) xs)

-- Limits in range, after the readings: the refusal of the readings if there is one, then refusal 6 or 7, else what the readings gave.
abbrev pub limited_say : {A : Type 0} → Limit → Limit → Said A → Said A
limited_say upper lower (Err r) = Err r
limited_say upper lower (Ok a) = ruled (limits_meet upper lower) a

-- Any limits: refusal 5 where one is out of range, whatever is said of the readings; else as above.
unfoldable pub with_limits_say : {A : Type 0} → Limit → Limit → Said A → Said A
with_limits_say upper lower said =
    cond (out_of_range upper || out_of_range lower) (Err Range) (limited_say upper lower said)

-- Where a percentage is asked for, after all else: the refusal if there is one, then refusal 13 or 10 by what the table has for n, else the totals.
abbrev pub found_say : Table → Said Totals → Said Totals
found_say table (Err r) = Err r
found_say table (Ok a) = ruled (column_meets (table a.n)) a

-- The same, where an edition was named in a store: 11 comes before whatever is said of the lot.
abbrev pub with_column_say : Said (Option ℕ) → List ℕ → Said Totals → Said Totals
with_column_say (Err r) s said = Err Unsound
with_column_say (Ok found) s said = found_say (table_at (Ok found) s) said

-- what is said of totals that stand beside the place of a column
abbrev pub columned_said : Said Columned → Said Totals
columned_said (Ok c) = Ok c.totals
columned_said (Err r) = Err r

-- A lot's totals, and what is said of them: the first refusal that applies of the cases `meets lot`, or the totals.
abbrev pub lot_totals : Lot → Totals
lot_totals lot = totals lot.n lot.readings

unfoldable pub totalled : (Lot → List Case) → Lot → Said Totals
totalled meets lot = ruled (meets lot) (lot_totals lot)

-- What an evaluation by a table meets, and what the row of some bytes meets by it.
abbrev pub by_table : Table → Lot → List Case
by_table table lot = evaluation_meets (table lot.n) lot

abbrev pub row_by_table : Table → List ℕ → Lot → List Case
row_by_table table bs lot = row_meets bs (table lot.n) lot
