-- Pay sheets by computation: that of document 000's worked example at document 01's price and quantity, right and wrong in each entry; the bounds of an
-- entry; the order of refusals; and lists too short, fitting and longer.
use mathlib.Core.Path.{◌≡◌, refl}
use mathlib.Core.Bool.{Bool, true, false}
use mathlib.Core.List.{List, [], ◌∷◌}
use Prim.Native.Nat.{ℕ, ◌*◌}
use lib.IntN.{ℤ, pos, neg_ℤ}
use lib.ListN.{replicate}
use Rattle.std.specs.Prelude.{Some, None, Ok, Err}
use Rattle.rules.specs.declared.Sheet.{Sheet}
use Rattle.rules.specs.declared.Refusal.TheVariants.{Count, Unlimited, NoColumn, Number, Room}
use Rattle.rules.specs.Units.{hundredths, composite_of, cents}
use Rattle.rules.specs.Said.{ruled}
use Rattle.rules.specs.Lot.{Lot, lot_of}
use Rattle.rules.specs.Table.{rows, table_106_1}
use Rattle.rules.specs.Percent.{sum, squares, spread, upper_distance, lower_distance, index_squared, midpoint_squared, admits, largest, nearest, side, upper_side, lower_side}
use Rattle.rules.specs.Pay.{factor, weighted, composite, final_pay, payment}
use Rattle.rules.specs.Sheet.{sheet_numbers, differing, differences, first_of, difference_numbers}
use Rattle.rules.specs.Refusals.{any_out, sheet_case}
use Rattle.rules.specs.Meets.{evaluation_meets, pay_meets}
use Rattle.rules.specs.Entries.{percentages_of, written}
use Rattle.rules.specs.Check.{pwl_of, our_meets, our_sheet, ours_says, check_says, compare_meets, compare_says, after_compare}
use Rattle.laws.specs.Every.{Every, done, ◌then◌}
use Rattle.laws.specs.Desk.{at}

abbrev sheet : ℤ → ℤ → ℤ → ℤ → ℤ → ℤ → Sheet
sheet vma voids density composite verdict pay =
    record {
      vma = hundredths vma;
      voids = hundredths voids;
      density = hundredths density;
      composite = composite_of composite;
      verdict = record { 0 = verdict };
      pay = cents pay;
    }

-- ---- the worked example

-- tenths of a percent, as thousandths
abbrev tenths : List ℕ → List ℤ
tenths [] = []
tenths (x ∷ xs) = pos (x * 100) ∷ tenths xs

abbrev vma : Lot
vma = lot_of (at 16000) (at 12300) (tenths (130 ∷ 125 ∷ 130 ∷ 133 ∷ 129 ∷ 124 ∷ 134 ∷ 130 ∷ 126 ∷ 128 ∷ []))

abbrev voids : Lot
voids = lot_of (at 5350) (at 2650) (tenths (42 ∷ 45 ∷ 33 ∷ 50 ∷ 54 ∷ 25 ∷ 38 ∷ 41 ∷ 43 ∷ 45 ∷ []))

abbrev density : Lot
density = lot_of (at 97000) (at 91500) (tenths (915 ∷ 930 ∷ 929 ∷ 935 ∷ 930 ∷ 940 ∷ 928 ∷ 935 ∷ 910 ∷ 927 ∷ []))

abbrev worked : Sheet
worked = sheet (pos 9751) (pos 9128) (pos 9256) (pos 998) (pos 0) (pos 63872000)

pub worked_sheet_is_ours : ours_says table_106_1 vma voids density (pos 8000) (pos 800000) ≡ Ok worked
unfolding ours_says our_meets our_sheet pwl_of payment factor weighted composite final_pay pay_meets ruled rows table_106_1 sum squares spread upper_distance lower_distance index_squared midpoint_squared admits largest nearest side upper_side lower_side any_out evaluation_meets percentages_of
worked_sheet_is_ours = refl

-- a sheet held against it, the entry that is named, and both numbers
pub record Wrong : Type 0 where
  pub given : Sheet
  pub entry : ℕ
  pub theirs : ℤ
  pub ours : ℤ

abbrev Named : Wrong → Type 0
Named w = first_of (differences w.given worked) ≡ Some (record { entry = w.entry; first = w.theirs; second = w.ours })

-- wrong by one unit in each entry; in two; in all; and with a PWL above 100 percent, which is no refusal
abbrev wrong : List Wrong
wrong =
    record { given = sheet (pos 9752) (pos 9128) (pos 9256) (pos 998) (pos 0) (pos 63872000); entry = 0; theirs = pos 9752; ours = pos 9751 } ∷
    record { given = sheet (pos 9751) (pos 9127) (pos 9256) (pos 998) (pos 0) (pos 63872000); entry = 1; theirs = pos 9127; ours = pos 9128 } ∷
    record { given = sheet (pos 9751) (pos 9128) (pos 9257) (pos 998) (pos 0) (pos 63872000); entry = 2; theirs = pos 9257; ours = pos 9256 } ∷
    record { given = sheet (pos 9751) (pos 9128) (pos 9256) (pos 999) (pos 0) (pos 63872000); entry = 3; theirs = pos 999; ours = pos 998 } ∷
    record { given = sheet (pos 9751) (pos 9128) (pos 9256) (pos 998) (pos 1) (pos 63872000); entry = 4; theirs = pos 1; ours = pos 0 } ∷
    record { given = sheet (pos 9751) (pos 9128) (pos 9256) (pos 998) (pos 0) (pos 63871999); entry = 5; theirs = pos 63871999; ours = pos 63872000 } ∷
    record { given = sheet (pos 9751) (pos 9128) (pos 9256) (pos 1001) (pos 0) (pos 64064000); entry = 3; theirs = pos 1001; ours = pos 998 } ∷
    record { given = sheet (pos 0) (pos 0) (pos 0) (pos 0) (pos 1) (pos 0); entry = 0; theirs = pos 0; ours = pos 9751 } ∷
    record { given = sheet (pos 10001) (pos 9128) (pos 9256) (pos 998) (pos 0) (pos 63872000); entry = 0; theirs = pos 10001; ours = pos 9751 } ∷
    []

pub wrong_sheets_are_named : (first_of (differences worked worked) ≡ None) × Every Named wrong
unfolding first_of differences differing sheet_numbers
wrong_sheets_are_named =
    (refl, refl then refl then refl then refl then refl then refl then refl then refl then refl then done)

-- ---- the verdict

-- two equal readings at their limit, which have 100 percent, and past it, which have none
abbrev good : Lot
good = lot_of (at 4000) None (replicate 2 (pos 4000))

abbrev past : Lot
past = lot_of (at 3999) None (replicate 2 (pos 4000))

-- A lot is rejected for any of the three: factors of 103 and 53 percent, at a dollar a ton and one ton.
pub rejected_sheets_are_ours :
    (ours_says table_106_1 past good good (pos 100) (pos 100) ≡ Ok (sheet (pos 0) (pos 10000) (pos 10000) (pos 880) (pos 1) (pos 88))) ×
    (ours_says table_106_1 good past good (pos 100) (pos 100) ≡ Ok (sheet (pos 10000) (pos 0) (pos 10000) (pos 880) (pos 1) (pos 88))) ×
    (ours_says table_106_1 good good past (pos 100) (pos 100) ≡ Ok (sheet (pos 10000) (pos 10000) (pos 0) (pos 830) (pos 1) (pos 83)))
unfolding ours_says our_meets our_sheet pwl_of payment factor weighted composite final_pay pay_meets ruled table_106_1 sum squares spread upper_distance lower_distance side upper_side lower_side any_out evaluation_meets percentages_of
rejected_sheets_are_ours = (refl, refl, refl)

-- ---- what a sheet is refused for

abbrev refused_when : Sheet → Bool
refused_when s = (sheet_case s).applies

abbrev greatest : ℤ
greatest = pos 1000000000000000

abbrev above : ℤ
above = pos 1000000000000001

pub sheets_are_taken :
    (refused_when (sheet greatest greatest greatest greatest (pos 1) greatest) ≡ false) × (refused_when (sheet (pos 0) (pos 0) (pos 0) (pos 0) (pos 0) (pos 0)) ≡ false) ×
    (refused_when (sheet above (pos 0) (pos 0) (pos 0) (pos 0) (pos 0)) ≡ true) × (refused_when (sheet (pos 0) above (pos 0) (pos 0) (pos 0) (pos 0)) ≡ true) ×
    (refused_when (sheet (pos 0) (pos 0) above (pos 0) (pos 0) (pos 0)) ≡ true) × (refused_when (sheet (pos 0) (pos 0) (pos 0) above (pos 0) (pos 0)) ≡ true) ×
    (refused_when (sheet (pos 0) (pos 0) (pos 0) (pos 0) (pos 2) (pos 0)) ≡ true) × (refused_when (sheet (pos 0) (pos 0) (pos 0) (pos 0) (neg_ℤ (pos 1)) (pos 0)) ≡ true) ×
    (refused_when (sheet (pos 0) (pos 0) (pos 0) (pos 0) (pos 0) above) ≡ true) × (refused_when (sheet (pos 0) (pos 0) (pos 0) (pos 0) (pos 0) (neg_ℤ (pos 1))) ≡ true)
sheets_are_taken = (refl, refl, refl, refl, refl, refl, refl, refl, refl, refl)

-- ---- the order of refusals

-- one reading; no limit; eleven readings
abbrev one : Lot
one = lot_of (at 4000) None (pos 4000 ∷ [])

abbrev unlimited : Lot
unlimited = lot_of None None (replicate 2 (pos 4000))

abbrev eleven : Lot
eleven = lot_of (at 4000) None (replicate 11 (pos 4000))

abbrev full : Sheet
full = sheet (pos 10000) (pos 10000) (pos 10000) (pos 1030) (pos 0) (pos 103)

abbrev bad : Sheet
bad = sheet (neg_ℤ (pos 1)) (pos 0) (pos 0) (pos 0) (pos 0) (pos 0)

-- An earlier lot's refusal comes before a later one's, whatever the numbers, and both before 9.
pub lots_come_in_order :
    (check_says table_106_1 eleven unlimited one (pos 100) (pos 100) full ≡ Err NoColumn) × (check_says table_106_1 unlimited one one (pos 100) (pos 100) full ≡ Err Unlimited) ×
    (check_says table_106_1 good eleven one (pos 100) (pos 100) full ≡ Err NoColumn) × (check_says table_106_1 good good one (neg_ℤ (pos 1)) (pos 100) bad ≡ Err Count) ×
    (check_says table_106_1 good good good (neg_ℤ (pos 1)) (pos 100) full ≡ Err Number) × (check_says table_106_1 good good good (pos 100) (pos 100000001) full ≡ Err Number) ×
    (check_says table_106_1 good good good (pos 100) (pos 100) bad ≡ Err Number) × (check_says table_106_1 good good good (pos 100) (pos 100) full ≡ Ok None)
unfolding check_says our_meets our_sheet pwl_of payment factor weighted composite final_pay pay_meets ruled table_106_1 sum squares spread upper_distance lower_distance side upper_side lower_side any_out evaluation_meets percentages_of first_of differences differing sheet_numbers
lots_come_in_order = (refl, refl, refl, refl, refl, refl, refl, refl)

-- ---- two sheets compared

-- 3 too high in the composite, and 1 too low in the pay
abbrev other : Sheet
other = sheet (pos 9751) (pos 9128) (pos 9256) (pos 1001) (pos 0) (pos 63871999)

pub sheets_are_compared :
    (compare_says worked other (replicate 5 (pos 7)) ≡ Ok 2) ×
    (after_compare worked other (replicate 5 (pos 7)) ≡ pos 3 ∷ neg_ℤ (pos 3) ∷ pos 5 ∷ pos 1 ∷ pos 7 ∷ []) ×
    (after_compare other worked (replicate 4 (pos 7)) ≡ pos 3 ∷ pos 3 ∷ pos 5 ∷ neg_ℤ (pos 1) ∷ []) ×
    (compare_says worked other (replicate 3 (pos 7)) ≡ Err Room) × (after_compare worked other (replicate 3 (pos 7)) ≡ replicate 3 (pos 7)) ×
    (compare_says worked worked [] ≡ Ok 0) × (after_compare worked worked (replicate 1 (pos 7)) ≡ replicate 1 (pos 7)) ×
    (compare_says bad other [] ≡ Err Number) × (compare_says other bad [] ≡ Err Number) × (after_compare other bad (replicate 2 (pos 7)) ≡ replicate 2 (pos 7))
unfolding compare_says compare_meets written ruled differences differing sheet_numbers difference_numbers
sheets_are_compared = (refl, refl, refl, refl, refl, refl, refl, refl, refl, refl)
