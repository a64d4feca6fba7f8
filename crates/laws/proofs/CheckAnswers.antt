-- The check of a sheet accepts our own and no other, names the first entry that differs, and is refused in its order and for nothing else.
use mathlib.Core.Path.{◌≡◌, refl, sym, ap, subst, ◌∙◌}
use mathlib.Core.Bool.{Bool, true, false}
use mathlib.Core.List.{List, [], ◌∷◌, ◌++◌}
use mathlib.Core.Logic.{◌↔◌}
use Prim.Native.Nat.{ℕ}
use native.Mathlib.Omega.{arith}
use lib.IntN.{ℤ, pos}
use lib.ListN.{length, drop}
use Rattle.std.specs.Prelude.{Option, Some, None, Ok, Err}
use Rattle.rules.specs.declared.Percentages.{Percentages}
use Rattle.rules.specs.declared.Sheet.{Sheet}
use Rattle.rules.specs.declared.Difference.{Difference}
use Rattle.rules.specs.declared.host.HostChecked.{HostChecked}
use Rattle.rules.specs.declared.Refusal.{Refusal}
use Rattle.rules.specs.declared.Refusal.TheVariants.{Number}
use Rattle.rules.specs.Said.{Said}
use Rattle.rules.specs.Lot.{Lot}
use Rattle.rules.specs.Table.{Table}
use Rattle.rules.specs.Sheet.{differences, first_of, difference_numbers}
use Rattle.rules.specs.Refusals.{sheet_case}
use Rattle.rules.specs.Entries.{evaluation_says, written}
use Rattle.rules.specs.Check.{ours_says, check_says, compare_says, after_compare}
use Rattle.rules.specs.HostSheet.{host_checked}
use Rattle.laws.specs.Between.{Between}
use Rattle.laws.specs.Sheet.{SheetTaken, Found, IsOurs, AsCompared, given_finding}
use Rattle.laws.proofs.Ruled.{ruled_answers}
use Rattle.laws.proofs.Payable.{not_payable_is_refused}
use Rattle.laws.proofs.OurSheet.{evaluation_refused, evaluation_answered, first_lot_refused, second_lot_refused, third_lot_refused, ours_refused, unfit_is_refused, sheet_is_found}
use Rattle.laws.proofs.SheetTaken.{sheet_is_taken, taken_is_no_case, untaken_is_a_case}
use Rattle.laws.proofs.OurAnswers.{unlike, value, unpaid, ours_is_answered, answered_is_ours, ours_is_taken}
use Rattle.laws.proofs.Sheets.{finding_is_found, found_determined}
use Rattle.laws.proofs.Given.{checked_given}

module _ (table : Table) (vma voids density : Lot) (price quantity : ℤ) where
  abbrev Ours : Sheet → Type 0
  Ours = IsOurs table vma voids density price quantity

  abbrev ours_said : Said Sheet
  ours_said = ours_says table vma voids density price quantity

  module _ (sheet : Sheet) where
    abbrev finding_said : Said (Option Difference)
    finding_said = check_says table vma voids density price quantity sheet

    -- ---- what is found

    -- A sheet that is taken gets the finding that document 02 asks for,
    pub check_is_answered : {ours : Sheet} → Ours ours → SheetTaken sheet → (f : Option Difference) → Found sheet ours f → finding_said ≡ Ok f
    check_is_answered {ours} h taken f found =
        sheet_is_found table vma voids density price quantity sheet (ours_is_answered table vma voids density price quantity h) (taken_is_no_case sheet taken)
        ∙ ap (λ (g : Option Difference). Ok g) (found_determined sheet ours _ f (finding_is_found sheet ours) found)

    -- and whatever is answered is that finding.
    pub answer_is_found :
        (f : Option Difference) → (Ok f) ≡ finding_said →
        (ours : Sheet) × Ours ours × SheetTaken sheet × Found sheet ours f
    answer_is_found f e = by ours_said refl
      where
        met : (ours : Sheet) → ours_said ≡ Ok ours → (b : Bool) → (sheet_case sheet).applies ≡ b → (ours : Sheet) × Ours ours × SheetTaken sheet × Found sheet ours f
        met ours g true k = absurd (unlike (unfit_is_refused table vma voids density price quantity sheet g k) (sym e))
        met ours g false k =
            let is : first_of (differences sheet ours) ≡ f = ap (value f) (sym (sheet_is_found table vma voids density price quantity sheet g k) ∙ sym e) in
            (ours, answered_is_ours table vma voids density price quantity g, sheet_is_taken sheet k, subst (Found sheet ours) is (finding_is_found sheet ours))

        by : (said : Said Sheet) → ours_said ≡ said → (ours : Sheet) × Ours ours × SheetTaken sheet × Found sheet ours f
        by (Err r) g = absurd (unlike (ours_refused table vma voids density price quantity sheet g) (sym e))
        by (Ok ours) g = met ours g (sheet_case sheet).applies refl

    -- So our own sheet is accepted, and no other is.
    pub accepted_exactly_ours : (finding_said ≡ Ok None) ↔ Ours sheet
    accepted_exactly_ours = (
      λ e. let h = answer_is_found None (sym e) in subst Ours (sym h.3) h.1,
      λ h. check_is_answered h (ours_is_taken table vma voids density price quantity h) None refl,
    )

    -- ---- refusals, in their order

    pub first_lot_comes_first : {r : Refusal} → evaluation_says table vma ≡ Err r → finding_said ≡ Err r
    first_lot_comes_first e = ours_refused table vma voids density price quantity sheet (first_lot_refused table vma voids density price quantity (evaluation_refused table vma e))

    module _ {p : Percentages} (a : evaluation_says table vma ≡ Ok p) where
      pub second_lot_comes_next : {r : Refusal} → evaluation_says table voids ≡ Err r → finding_said ≡ Err r
      second_lot_comes_next e = ours_refused table vma voids density price quantity sheet (second_lot_refused table vma voids density price quantity (evaluation_answered table vma a) (evaluation_refused table voids e))

      module _ {q : Percentages} (b : evaluation_says table voids ≡ Ok q) where
        pub third_lot_comes_then : {r : Refusal} → evaluation_says table density ≡ Err r → finding_said ≡ Err r
        third_lot_comes_then e = ours_refused table vma voids density price quantity sheet (third_lot_refused table vma voids density price quantity (evaluation_answered table vma a) (evaluation_answered table voids b) (evaluation_refused table density e))

        pub price_and_quantity_follow :
            {s : Percentages} → evaluation_says table density ≡ Ok s → ¬ (Between (pos 0) (pos 10000000) price × Between (pos 0) (pos 100000000) quantity) →
            finding_said ≡ Err Number
        price_and_quantity_follow {s} c e =
            let number = not_payable_is_refused p.pwl.0 q.pwl.0 s.pwl.0 price quantity (λ h. e (h.price, h.quantity)) in
            ours_refused table vma voids density price quantity sheet (unpaid table vma voids density price quantity a b c number)

    pub sheet_comes_last : {ours : Sheet} → Ours ours → ¬ SheetTaken sheet → finding_said ≡ Err Number
    sheet_comes_last h bad = unfit_is_refused table vma voids density price quantity sheet (ours_is_answered table vma voids density price quantity h) (untaken_is_a_case sheet bad)

-- ---- the check as a comparison with our own sheet

first_compared : (ds : List Difference) (out : List ℤ) → AsCompared (first_of ds) (length ds) (difference_numbers ds ++ out)
unfolding first_of difference_numbers
first_compared [] out = refl
first_compared (d ∷ ds) out = (omega arith, refl, refl)

-- What is found is what the comparison of the sheet with ours lists first, for any list that is not too short.
pub check_is_a_comparison :
    (table : Table) (vma voids density : Lot) (price quantity : ℤ) (sheet ours : Sheet) (f : Option Difference) (items : ℕ) (out after : List ℤ) →
    IsOurs table vma voids density price quantity ours →
    (Ok f) ≡ check_says table vma voids density price quantity sheet →
    (Ok items) ≡ compare_says sheet ours out → after ≡ after_compare sheet ours out →
    AsCompared f items after
unfolding compare_says written
check_is_a_comparison table vma voids density price quantity sheet ours f items out after h e g k =
    let found = answer_is_found table vma voids density price quantity sheet f e in
    let said = sheet_is_found table vma voids density price quantity sheet (ours_is_answered table vma voids density price quantity h) (taken_is_no_case sheet found.2) in
    let finding : first_of (differences sheet ours) ≡ f = ap (value f) (sym said ∙ sym e) in
    let count : length (differences sheet ours) ≡ items = (ruled_answers _ _ _ (sym g)).1 in
    let list : after ≡ difference_numbers (differences sheet ours) ++ drop (length (difference_numbers (differences sheet ours))) out = k ∙ ap (written (difference_numbers (differences sheet ours)) out) (sym g) in
    rw (list, ← count, ← finding) (first_compared (differences sheet ours) _)

-- ---- what C is given

-- A sheet is given as accepted exactly where it is ours, refusals included: 1 is never given beside one.
pub given_accepted_exactly_ours :
    (table : Table) (vma voids density : Lot) (price quantity : ℤ) (sheet : Sheet) (r : HostChecked) →
    r ≡ host_checked (check_says table vma voids density price quantity sheet) →
    (r.accepted ≡ 1) ↔ IsOurs table vma voids density price quantity sheet
given_accepted_exactly_ours table vma voids density price quantity sheet r e =
    let exactly = accepted_exactly_ours table vma voids density price quantity sheet in (
      λ one. exactly.0 (by (check_says table vma voids density price quantity sheet) (sym (ap (λ (x : HostChecked). x.accepted) e) ∙ one)),
      λ ours. ap (λ (x : HostChecked). x.accepted) e ∙ ap (λ (said : Said (Option Difference)). (host_checked said).accepted) (exactly.1 ours),
    )
  where
    by : (said : Said (Option Difference)) → (host_checked said).accepted ≡ 1 → said ≡ Ok None
    by (Err q) one = absurd (omega arith)
    by (Ok None) one = refl
    by (Ok (Some d)) one = absurd (omega arith)

-- And where C is given no refusal, its numbers are what is found.
pub given_check_is_found :
    (table : Table) (vma voids density : Lot) (price quantity : ℤ) (sheet : Sheet) (r : HostChecked) →
    r ≡ host_checked (check_says table vma voids density price quantity sheet) → r.refusal.number ≡ 0 →
    (ours : Sheet) × IsOurs table vma voids density price quantity ours × SheetTaken sheet × Found sheet ours (given_finding r)
given_check_is_found table vma voids density price quantity sheet r e z = answer_is_found table vma voids density price quantity sheet (given_finding r) (sym (checked_given _ r e z))
