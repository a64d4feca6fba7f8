-- What document 02 says of pay sheets.
use Rattle.std.specs.Prelude.{◌≡◌, cond, List, [], ◌∷◌, ℕ, suc, ◌*◌, ◌≤◌, ◌<◌, eqb, ℤ, pos, neg_ℤ, nat_abs, ◌-ℤ◌, length, take, drop, get_or, Option, Some, None, Ok}
use Rattle.rules.specs.declared.Percentages.{Percentages}
use Rattle.rules.specs.declared.Payment.{Payment}
use Rattle.rules.specs.declared.Sheet.{Sheet}
use Rattle.rules.specs.declared.Difference.{Difference}
use Rattle.rules.specs.declared.host.HostChecked.{HostChecked}
use Rattle.rules.specs.Lot.{Lot}
use Rattle.rules.specs.Table.{Table}
use Rattle.rules.specs.Sheet.{sheet_numbers, sheet_of, differing, differences, difference_numbers}
use Rattle.rules.specs.Entries.{evaluation_says, pay_says}
use Rattle.laws.specs.Between.{Between}

-- ---- one sheet

-- the number of an entry
abbrev pub number_at : Sheet → ℕ → ℤ
number_at sheet k = get_or (sheet_numbers sheet) k (pos 0)

-- the most that an entry may be
abbrev pub quadrillion : ℕ
quadrillion = 1000000000000000

-- A sheet that is not refused: its entries are from 0 to 1,000,000,000,000,000, and its verdict is 0 or 1.
pub record SheetTaken (sheet : Sheet) : Type 0 where
  pub vma : Between (pos 0) (pos quadrillion) sheet.vma.0
  pub voids : Between (pos 0) (pos quadrillion) sheet.voids.0
  pub density : Between (pos 0) (pos quadrillion) sheet.density.0
  pub composite : Between (pos 0) (pos quadrillion) sheet.composite.0
  pub verdict : Between (pos 0) (pos 1) sheet.verdict.0
  pub pay : Between (pos 0) (pos quadrillion) sheet.pay.0

-- what that gives for a list of numbers: magnitudes that keep a difference of two within 64 bits
pub record Entered (numbers : List ℤ) : Type 0 where
  pub bounded : (k : ℕ) → nat_abs (get_or numbers k (pos 0)) ≤ quadrillion

-- ---- two sheets

-- Both sheets' numbers at an entry, which differ.
pub record DiffersAt (a b : Sheet) (d : Difference) : Type 0 where
  pub is_entry : d.entry < 6
  pub of_first : number_at a d.entry ≡ d.first
  pub of_second : number_at b d.entry ≡ d.second
  pub differ : ¬ (d.first ≡ d.second)

-- The same, of the first entry that differs.
pub record FirstDiffers (a b : Sheet) (d : Difference) : Type 0 where
  pub here : DiffersAt a b d
  pub before : (k : ℕ) → k < d.entry → number_at a k ≡ number_at b k

-- What document 02 asks of a check: accepted is the sheet that is ours, and of another the first entry that differs is named.
abbrev pub Found : Sheet → Sheet → Option Difference → Type 0
Found sheet ours None = sheet ≡ ours
Found sheet ours (Some d) = FirstDiffers sheet ours d

-- Entries in their order, each once, from k on.
abbrev pub InOrder : ℕ → List Difference → Type 0
InOrder k [] = Unit {0}
InOrder k (d ∷ ds) = (k ≤ d.entry) × InOrder (suc d.entry) ds

-- the same difference, of the sheets exchanged
abbrev pub turned : Difference → Difference
turned d = record { entry = d.entry; first = d.second; second = d.first }

-- a list of entries and differences, two numbers to an item, with the sign of each difference turned
unfoldable pub all_turned : List ℤ → List ℤ
all_turned [] = []
all_turned (entry ∷ []) = entry ∷ []
all_turned (entry ∷ difference ∷ rest) = entry ∷ neg_ℤ difference ∷ all_turned rest

-- What a caller of the comparison gets: as many items as are answered stand at the start of the list, entry and difference of each, and what stood
-- after them stays.
pub record DifferencesGiven (a b : Sheet) (items : ℕ) (out after : List ℤ) : Type 0 where
  pub count : length (differences a b) ≡ items
  pub numbers : take (2 * items) after ≡ difference_numbers (differences a b)
  pub rest : drop (2 * items) after ≡ drop (2 * items) out

-- ---- our own sheet, and a check

-- The sheet that our own entries give for three lots, by one table, a price and a quantity: the PWL that evaluation answers for each lot, and the composite, the
-- verdict on the lot and the pay that pay answers for these.
pub record IsOurs (table : Table) (vma voids density : Lot) (price quantity : ℤ) (ours : Sheet) : Type 0 where
  pub of_vma : Percentages
  pub of_voids : Percentages
  pub of_density : Percentages
  pub vma_answered : evaluation_says table vma ≡ Ok of_vma
  pub voids_answered : evaluation_says table voids ≡ Ok of_voids
  pub density_answered : evaluation_says table density ≡ Ok of_density
  pub settled : Payment
  pub paid : pay_says of_vma.pwl.0 of_voids.pwl.0 of_density.pwl.0 price quantity ≡ Ok settled
  pub same : ours ≡ sheet_of of_vma.pwl.0 of_voids.pwl.0 of_density.pwl.0 settled

-- What a check finds, as a comparison with our own sheet lists it: nothing, or the first item.
abbrev pub AsCompared : Option Difference → ℕ → List ℤ → Type 0
AsCompared None items after = items ≡ 0
AsCompared (Some d) items after =
    (1 ≤ items) × (get_or after 0 (pos 0) ≡ pos d.entry) × (get_or after 1 (pos 0) ≡ d.first -ℤ d.second)

-- C's numbers as what is found
abbrev pub given_finding : HostChecked → Option Difference
given_finding r = cond (eqb r.accepted 1) None (Some (record { entry = r.entry; first = r.sheet; second = r.ours }))

-- ---- two lists of numbers, as a loop goes through them

-- After i entries, of which so many differed: these are the first so many differences, and the others are those of what is left.
pub record Passed (xs ys : List ℤ) (i items : ℕ) : Type 0 where
  pub few : items ≤ length (differing 0 xs ys)
  pub left : drop items (differing 0 xs ys) ≡ differing i (drop i xs) (drop i ys)
