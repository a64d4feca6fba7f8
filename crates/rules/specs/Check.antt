-- Document 02, R-4: what is said of a sheet beside three lots, a price and a quantity, and of two sheets.
use Rattle.std.specs.Prelude.{List, [], ◌∷◌, ◌++◌, ℕ, ℤ, length, Option}
use Rattle.rules.specs.declared.Hundredths.{Hundredths}
use Rattle.rules.specs.declared.Sheet.{Sheet}
use Rattle.rules.specs.declared.Difference.{Difference}
use Rattle.rules.specs.Units.{hundredths}
use Rattle.rules.specs.Said.{Said, Case, ruled}
use Rattle.rules.specs.Lot.{Lot}
use Rattle.rules.specs.Table.{Table, entries}
use Rattle.rules.specs.Percent.{nearest}
use Rattle.rules.specs.Pay.{payment}
use Rattle.rules.specs.Sheet.{sheet_of, differences, first_of, difference_numbers}
use Rattle.rules.specs.Refusals.{sheet_case, room_case}
use Rattle.rules.specs.Meets.{evaluation_meets, pay_meets}
use Rattle.rules.specs.Entries.{percentages, written}

-- ---- the check: VMA, voids and density as lots, price and quantity, and a sheet; all three lots by one table

-- the PWL of a lot, as its evaluation answers it
unfoldable pub pwl_of : Table → Lot → ℤ
pwl_of table lot = (percentages nearest (entries (table lot.n)) lot).pwl.0

-- that, or the refusal that the evaluation meets
unfoldable pub pwl_says : Table → Lot → Said Hundredths
pwl_says table lot = ruled (evaluation_meets (table lot.n) lot) (hundredths (pwl_of table lot))

module _ (table : Table) (vma voids density : Lot) (price quantity : ℤ) where
  -- the refusals of our own entries: all of the first lot's, all of the second's, all of the third's, and then those of pay
  unfoldable pub our_meets : List Case
  our_meets =
      evaluation_meets (table vma.n) vma ++
      (evaluation_meets (table voids.n) voids ++
      (evaluation_meets (table density.n) density ++
      pay_meets (pwl_of table vma) (pwl_of table voids) (pwl_of table density) price quantity))

  -- the sheet that our rules give
  unfoldable pub our_sheet : Sheet
  our_sheet =
      sheet_of (pwl_of table vma) (pwl_of table voids) (pwl_of table density)
      (payment (pwl_of table vma) (pwl_of table voids) (pwl_of table density) price quantity)

  unfoldable pub ours_says : Said Sheet
  ours_says = ruled our_meets our_sheet

  -- The refusal of a sheet comes last. Of two numbers the sheet's stands first, then ours.
  unfoldable pub check_says : Sheet → Said (Option Difference)
  check_says sheet = ruled (our_meets ++ (sheet_case sheet ∷ [])) (first_of (differences sheet our_sheet))

-- ---- two sheets compared, into a lent list of numbers: 9 and then 8

unfoldable pub compare_meets : Sheet → Sheet → ℕ → List Case
compare_meets a b room =
    sheet_case a ∷ sheet_case b ∷ room_case room (length (difference_numbers (differences a b))) ∷ []

-- how many entries differ
unfoldable pub compare_says : Sheet → Sheet → List ℤ → Said ℕ
compare_says a b out = ruled (compare_meets a b (length out)) (length (differences a b))

abbrev pub after_compare : Sheet → Sheet → List ℤ → List ℤ
after_compare a b out = written (difference_numbers (differences a b)) out (compare_says a b out)
