-- D1 to D10 as one statement over their list, and what the entries that document 02 corrects give, by computation from the definitions. The deviations
-- are tested by their two inequalities, which determine them, so that no search is run.
use mathlib.Core.Path.{◌≡◌, refl, ap}
use Prim.Native.Nat.{ℕ, ◌≤◌}
use lib.Dec.{T, lit≤}
use lib.IntN.{pos}
use Rattle.std.specs.Prelude.{Ok}
use Rattle.rules.specs.declared.Thousandths.{Thousandths}
use Rattle.rules.specs.Units.{thousandths}
use Rattle.rules.specs.Said.{Said, ruled}
use Rattle.rules.specs.Table.{rows, table_106_1}
use Rattle.rules.specs.Percent.{sum, squares, spread, upper_distance, lower_distance, index_squared, midpoint_squared, admits, largest, nearest, side, upper_side, lower_side}
use Rattle.rules.specs.Deviation.{is_deviation, deviation}
use Rattle.rules.specs.Refusals.{any_out}
use Rattle.rules.specs.Meets.{readings_meet, evaluation_meets}
use Rattle.rules.specs.Entries.{evaluated, evaluation_says, deviation_says, percentages_of}
use Rattle.laws.specs.Every.{Every, done, ◌then◌}
use Rattle.laws.specs.Desk.{Holds, examples, corrected}
use Rattle.laws.proofs.Deviation.{only_deviation_meets}

found : (n v : ℕ) {s : ℕ} → 2 ≤ n → T (is_deviation n (pos v) s) → ◌≡◌ {A = Said Thousandths} (Ok (thousandths (pos (deviation n (pos v))))) (Ok (thousandths (pos s)))
found n v {s} low t = ap (λ (m : ℕ). Ok (thousandths (pos m))) (only_deviation_meets n v s low t)

pub desk : Every (Holds table_106_1) examples
unfolding ruled rows table_106_1 sum squares spread upper_distance lower_distance index_squared midpoint_squared admits largest nearest side upper_side lower_side any_out readings_meet evaluation_meets evaluated evaluation_says deviation_says percentages_of
desk =
    refl then  -- D1
    refl then  -- D2
    refl then  -- D3
    refl then  -- D4
    refl then  -- D5
    refl then  -- D5
    refl then  -- D6
    refl then  -- D7
    refl then  -- D8
    refl then  -- D9
    found 2 1 (lit≤ tt) tt then  -- D9
    found 2 1000000000000 (lit≤ tt) tt then  -- D10
    done

pub corrected_entries : Every (Holds table_106_1) corrected
unfolding ruled rows table_106_1 sum squares spread upper_distance lower_distance index_squared midpoint_squared admits largest nearest side upper_side lower_side any_out evaluation_meets evaluated evaluation_says percentages_of
corrected_entries = refl then refl then refl then done
