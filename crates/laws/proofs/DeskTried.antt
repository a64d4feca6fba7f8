-- The rows tried for each side of document 01's lots and of three more, by computation from the definitions.
use mathlib.Core.Path.{refl}
use Rattle.rules.specs.Said.{ruled}
use Rattle.rules.specs.Table.{rows, table_106_1}
use Rattle.rules.specs.Percent.{sum, squares, spread, upper_distance, lower_distance, index_squared, midpoint_squared, admits}
use Rattle.rules.specs.Halving.{halved, handheld, rows_tried, upper_tried, lower_tried}
use Rattle.rules.specs.Refusals.{any_out}
use Rattle.rules.specs.Meets.{evaluation_meets}
use Rattle.rules.specs.Entries.{evaluated, evaluation_says, percentages_of}
use Rattle.laws.specs.Every.{Every, done, ◌then◌}
use Rattle.laws.specs.Tried.{Holds, examples}

pub desk_tried : Every (Holds table_106_1) examples
unfolding ruled rows table_106_1 sum squares spread upper_distance lower_distance index_squared midpoint_squared admits halved handheld rows_tried upper_tried lower_tried any_out evaluation_meets evaluated evaluation_says percentages_of
desk_tried =
    refl then refl then refl then refl then refl then refl then
    refl then refl then refl then refl then refl then refl then
    done
