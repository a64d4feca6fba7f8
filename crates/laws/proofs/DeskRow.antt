-- The notebook's row, by computation: its doubles to their bits, and which sizes are refused.
use mathlib.Core.Path.{◌≡◌, refl}
use mathlib.Core.List.{[], ◌∷◌}
use lib.IntN.{pos}
use lib.ListN.{replicate}
use lib.Ieee.{binary64, of_int, div, of_bits}
use Rattle.std.specs.Prelude.{None, Ok, Err}
use Rattle.rules.specs.declared.Row.{Row}
use Rattle.rules.specs.declared.Refusal.TheVariants.{Count}
use Rattle.rules.specs.Said.{ruled}
use Rattle.rules.specs.Table.{rows, table_106_1}
use Rattle.rules.specs.Percent.{sum, squares, spread, upper_distance, lower_distance, index_squared, midpoint_squared, admits, largest, nearest, side, upper_side, lower_side}
use Rattle.rules.specs.Deviation.{deviation, first_from}
use Rattle.rules.specs.Record.{spelled, spell, fours, in_fours}
use Rattle.rules.specs.Refusals.{any_out}
use Rattle.rules.specs.Meets.{row_meets}
use Rattle.rules.specs.Notebook.{lent_lot, row_of, mean_asked, deviation_asked, pwl_asked}
use Rattle.rules.specs.Entries.{percentages_of, row_says}
use Rattle.rules.specs.Host.{host_row}
use Rattle.laws.specs.Desk.{at, asked}

-- Document 01's voids lot, of which T is 41,600, s 825 and PWL 9,128: as doubles 4.16, 0.825 and 91.28, by their bits.
pub voids_row :
    row_of (pos 41600) 10 (pos 825) (pos 9128) ≡
    record {
      mean = of_bits binary64 4616369762039853220;
      deviation = of_bits binary64 4605606158930437734;
      pwl = of_bits binary64 4636123675905407058;
    }
unfolding row_of div of_int of_bits
voids_row = refl

-- Each double of a refused lot is 0.
pub refused_row_is_zero :
    (mean_asked (Err Count) ≡ of_bits binary64 0) × (deviation_asked (Err Count) ≡ of_bits binary64 0) × (pwl_asked (Err Count) ≡ of_bits binary64 0)
unfolding of_bits
refused_row_is_zero = (refl, refl, refl)

-- The row in one answer: any row, and that of a refused lot.
pub row_is_given :
    ((row : Row) → host_row (Ok row) ≡ record { refusal = record { number = 0 }; mean = row.mean; deviation = row.deviation; pwl = row.pwl }) ×
    (host_row (Err Count) ≡ record { refusal = record { number = 4 }; mean = of_bits binary64 0; deviation = of_bits binary64 0; pwl = of_bits binary64 0 })
unfolding of_bits
row_is_given = (λ row. refl, refl)

-- D9 as bytes: of 0 and 1, with an upper limit of 1.
pub d9_row : row_says table_106_1 (at 1) None (in_fours (pos 0 ∷ pos 1 ∷ [])) ≡ Ok (row_of (pos 1) 2 (pos 1) (pos 7349))
unfolding row_says row_meets lent_lot ruled in_fours spell spelled fours any_out sum squares spread upper_distance lower_distance index_squared midpoint_squared admits largest nearest side upper_side lower_side rows table_106_1 percentages_of deviation first_from
d9_row = refl

-- A size that is not 4n for an allowed n is refusal 4, before any other. 4 · 11 and 4 · 17 bytes have a size that is allowed, and no column: that is
-- refusal 10, after all others, for equal readings too.
pub sizes_are_refused :
    (asked (row_says table_106_1 None None []) ≡ 4) ×
    (asked (row_says table_106_1 None None (replicate 4 0)) ≡ 4) ×
    (asked (row_says table_106_1 None None (replicate 7 0)) ≡ 4) ×
    (asked (row_says table_106_1 None None (replicate 9 0)) ≡ 4) ×
    (asked (row_says table_106_1 None None (replicate 72 0)) ≡ 4) ×
    (asked (row_says table_106_1 None None (replicate 8 0)) ≡ 6) ×
    (asked (row_says table_106_1 None None (replicate 40 0)) ≡ 6) ×
    (asked (row_says table_106_1 None None (replicate 68 0)) ≡ 6) ×
    (asked (row_says table_106_1 (at 0) (at 1) (replicate 68 0)) ≡ 7) ×
    (asked (row_says table_106_1 (at 0) None (replicate 44 0)) ≡ 10) ×
    (asked (row_says table_106_1 (at 0) None (replicate 68 0)) ≡ 10)
unfolding row_says row_meets lent_lot ruled fours spelled any_out table_106_1
sizes_are_refused = (refl, refl, refl, refl, refl, refl, refl, refl, refl, refl, refl)
