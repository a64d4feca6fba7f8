-- Document 02, R-4: a pay sheet, the one that our rules give, and where two sheets differ.
use Rattle.std.specs.Prelude.{Bool, cond, ◌||◌, List, [], ◌∷◌, ℕ, suc, ℤ, pos, ◌-ℤ◌, Option, Some, None}
use Rattle.std.specs.Int.Signed.{lt_z}
use Rattle.rules.specs.declared.Verdict.{Verdict}
use Rattle.rules.specs.declared.Verdict.TheVariants.{Accepted, Rejected}
use Rattle.rules.specs.declared.Payment.{Payment}
use Rattle.rules.specs.declared.SheetVerdict.{SheetVerdict}
use Rattle.rules.specs.declared.Sheet.{Sheet}
use Rattle.rules.specs.declared.Difference.{Difference}
use Rattle.rules.specs.Units.{hundredths}

-- a verdict's number: 0 accepted, 1 rejected
abbrev pub verdict_number : Verdict → ℕ
verdict_number Accepted = 0
verdict_number Rejected = 1

-- and as a sheet has it
abbrev pub sheet_verdict : Verdict → SheetVerdict
sheet_verdict verdict = record { 0 = pos (verdict_number verdict) }

-- entries 0 to 5: the PWLs of VMA, voids and density, composite, verdict, pay
unfoldable pub sheet_numbers : Sheet → List ℤ
sheet_numbers s =
    s.vma.0 ∷ s.voids.0 ∷ s.density.0 ∷ s.composite.0 ∷ s.verdict.0 ∷ s.pay.0 ∷ []

-- the sheet of three PWLs and what is paid for them
abbrev pub sheet_of : ℤ → ℤ → ℤ → Payment → Sheet
sheet_of vma voids density payment =
    record {
      vma = hundredths vma;
      voids = hundredths voids;
      density = hundredths density;
      composite = payment.composite;
      verdict = sheet_verdict payment.lot;
      pay = payment.pay;
    }

-- one of the two numbers is the lesser
abbrev pub differ : ℤ → ℤ → Bool
differ x y = lt_z x y || lt_z y x

-- every entry in which two lists of numbers differ, in order, with both numbers; the first of them is entry k
unfoldable pub differing : ℕ → List ℤ → List ℤ → List Difference
differing k [] ys = []
differing k (x ∷ xs) [] = []
differing k (x ∷ xs) (y ∷ ys) =
    cond (differ x y) (record { entry = k; first = x; second = y } ∷ differing (suc k) xs ys) (differing (suc k) xs ys)

unfoldable pub differences : Sheet → Sheet → List Difference
differences a b = differing 0 (sheet_numbers a) (sheet_numbers b)

-- Accepted is the sheet that differs nowhere; of any other the first entry that differs is named.
unfoldable pub first_of : List Difference → Option Difference
first_of [] = None
first_of (d ∷ ds) = Some d

-- the numbers of some differences: of each its entry, and the first sheet's number less the second's
unfoldable pub difference_numbers : List Difference → List ℤ
difference_numbers [] = []
difference_numbers (d ∷ ds) = pos d.entry ∷ (d.first -ℤ d.second) ∷ difference_numbers ds
