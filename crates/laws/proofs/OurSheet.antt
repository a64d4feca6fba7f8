-- What is said of our own sheet, and of a sheet beside it, by what our entries say of each lot and of the pay.
use mathlib.Core.Path.{◌≡◌, refl, sym, ap, ◌∙◌}
use mathlib.Core.Bool.{true, false}
use mathlib.Core.List.{List, [], ◌∷◌}
use Prim.Native.Nat.{ℕ}
use lib.IntN.{ℤ}
use Rattle.std.specs.Prelude.{Ok, Err}
use Rattle.rules.specs.declared.Hundredths.{Hundredths}
use Rattle.rules.specs.declared.Percentages.{Percentages}
use Rattle.rules.specs.declared.Totals.{Totals}
use Rattle.rules.specs.declared.Payment.{Payment}
use Rattle.rules.specs.declared.Sheet.{Sheet}
use Rattle.rules.specs.declared.Refusal.{Refusal}
use Rattle.rules.specs.declared.Refusal.TheVariants.{Number}
use Rattle.rules.specs.declared.Columned.{Columned}
use Rattle.rules.specs.Said.{ruled, checked, Said}
use Rattle.rules.specs.Lot.{Lot}
use Rattle.rules.specs.Table.{Table, entries}
use Rattle.rules.specs.Percent.{nearest}
use Rattle.rules.specs.Store.{table_in}
use Rattle.rules.specs.Pay.{payment}
use Rattle.rules.specs.Sheet.{sheet_of, differences, first_of}
use Rattle.rules.specs.Refusals.{sheet_case}
use Rattle.rules.specs.Meets.{pay_meets}
use Rattle.rules.specs.Entries.{percentages_of, evaluated, evaluation_says, pay_says}
use Rattle.rules.specs.Check.{pwl_of, pwl_says, our_meets, our_sheet, ours_says, check_says}
use Rattle.laws.specs.Column.{Columns}
use Rattle.laws.specs.InPercent.{InPercent}
use Rattle.laws.specs.Totalled.{said_of, columned_said, lot_totals, totalled, by_table}
use Rattle.laws.specs.StoreWalk.{named_says, table_at}
use Rattle.laws.proofs.Columned.{found_table}
use Rattle.laws.proofs.Ruled.{ruled_of, said_then, ruled_both, ruled_none, ruled_met, ruled_passed, ruled_answers, refused_alike, ruled_unrefused, ruled_first, ruled_later}
use Rattle.laws.proofs.Accepted.{LotTotalled}
use Rattle.laws.proofs.Nearest.{nearest_row_rule}
use Rattle.laws.proofs.NoClamp.{pwl_in_percent}
use Rattle.laws.proofs.EvaluationAnswers.{answered_has_a_column}

-- Of a lot whose PWL is answered no case applies, and this is the PWL.
pub record Answered (table : Table) (lot : Lot) (pwl : ℤ) : Type 0 where
  pub none : checked (by_table table lot) ≡ Ok tt
  pub is : pwl_of table lot ≡ pwl

-- A lot that evaluation refuses has no PWL, for the same refusal, and the other way round; of one that it answers the PWL is the answer's, and in range.
module _ (table : Table) (lot : Lot) where
  pub evaluation_refused : {r : Refusal} → evaluation_says table lot ≡ Err r → checked (by_table table lot) ≡ Err r
  unfolding evaluation_says evaluated
  evaluation_refused e = refused_alike (by_table table lot) _ tt e

  pub evaluation_answered : {p : Percentages} → evaluation_says table lot ≡ Ok p → Answered table lot p.pwl.0
  unfolding evaluation_says evaluated pwl_of
  evaluation_answered e = let h = ruled_answers (by_table table lot) _ _ e in record { none = h.0; is = ap (λ (p : Percentages). p.pwl.0) h.1 }

  pub answered_in_percent : {p : Percentages} → Columns table → evaluation_says table lot ≡ Ok p → InPercent p.pwl.0
  unfolding evaluation_says
  answered_in_percent {p} shape e = pwl_in_percent nearest (table lot.n) lot p (nearest_row_rule lot.n) (answered_has_a_column table shape lot p e) e

  pub pwl_refused : {r : Refusal} → pwl_says table lot ≡ Err r → checked (by_table table lot) ≡ Err r
  unfolding pwl_says
  pwl_refused e = refused_alike (by_table table lot) _ tt e

  pub pwl_answered : {p : Hundredths} → pwl_says table lot ≡ Ok p → Answered table lot p.0
  unfolding pwl_says
  pwl_answered e = let h = ruled_answers (by_table table lot) _ _ e in record { none = h.0; is = ap (λ (p : Hundredths). p.0) h.1 }

-- Where its totals are said, so is the PWL of these totals,
pub totalled_pwl_is_said :
    {table : Table} {lot : Lot} {a : Totals} → LotTotalled table lot a →
    Ok (percentages_of nearest (entries (table a.n)) a lot.upper lot.lower).pwl ≡ pwl_says table lot
unfolding pwl_says pwl_of
totalled_pwl_is_said {table} {lot} h =
    ap (λ (b : Totals). Ok (percentages_of nearest (entries (table b.n)) b lot.upper lot.lower).pwl) (sym h.same)
    ∙ sym (ruled_unrefused _ _ h.unrefused)

-- and where they are refused, it is the same refusal.
pub untotalled_pwl_is_refused :
    (table : Table) (lot : Lot) {t : Said Columned} {r : Refusal} →
    columned_said t ≡ totalled (by_table table) lot → t ≡ Err r → pwl_says table lot ≡ Err r
unfolding pwl_says totalled
untotalled_pwl_is_refused table lot e h = refused_alike (by_table table lot) (lot_totals lot) _ (sym e ∙ ap columned_said h)

module _ (table : Table) (vma voids density : Lot) (price quantity : ℤ) where
  -- All of the first lot's refusals come first,
  pub first_lot_refused : {r : Refusal} → checked (by_table table vma) ≡ Err r → ours_says table vma voids density price quantity ≡ Err r
  unfolding ours_says our_meets
  first_lot_refused e = ruled_first (by_table table vma) _ _ e

  module _ {p : ℤ} (a : Answered table vma p) where
    -- then all of the second's,
    pub second_lot_refused : {r : Refusal} → checked (by_table table voids) ≡ Err r → ours_says table vma voids density price quantity ≡ Err r
    unfolding ours_says our_meets
    second_lot_refused e = ruled_later (by_table table vma) _ _ a.none ∙ ruled_first (by_table table voids) _ _ e

    module _ {q : ℤ} (b : Answered table voids q) where
      -- then all of the third's,
      pub third_lot_refused : {r : Refusal} → checked (by_table table density) ≡ Err r → ours_says table vma voids density price quantity ≡ Err r
      unfolding ours_says our_meets
      third_lot_refused e =
          ruled_later (by_table table vma) _ _ a.none ∙ ruled_later (by_table table voids) _ _ b.none ∙ ruled_first (by_table table density) _ _ e

      -- and where all three are answered, the pay decides.
      pub lots_answered :
          {s : ℤ} → Answered table density s →
          ours_says table vma voids density price quantity ≡ ruled (pay_meets p q s price quantity) (sheet_of p q s (payment p q s price quantity))
      unfolding ours_says our_meets our_sheet
      lots_answered c =
          ruled_later (by_table table vma) _ _ a.none
          ∙ ruled_later (by_table table voids) _ _ b.none
          ∙ ruled_later (by_table table density) _ _ c.none
          ∙ λ i. ruled (pay_meets (a.is i) (b.is i) (c.is i) price quantity) (sheet_of (a.is i) (b.is i) (c.is i) (payment (a.is i) (b.is i) (c.is i) price quantity))

  -- A sheet is looked at after all of these, and held against ours.
  pub ours_refused : (sheet : Sheet) {r : Refusal} → ours_says table vma voids density price quantity ≡ Err r → check_says table vma voids density price quantity sheet ≡ Err r
  unfolding ours_says check_says
  ours_refused sheet e = ruled_first (our_meets table vma voids density price quantity) _ _ (refused_alike (our_meets table vma voids density price quantity) _ tt e)

  module _ (sheet : Sheet) {ours : Sheet} (e : ours_says table vma voids density price quantity ≡ Ok ours) where
    held_against_ours : check_says table vma voids density price quantity sheet ≡ ruled (sheet_case sheet ∷ []) (first_of (differences sheet ours))
    unfolding ours_says check_says
    held_against_ours =
        let h = ruled_answers (our_meets table vma voids density price quantity) _ _ e in
        ruled_later (our_meets table vma voids density price quantity) _ _ h.0
        ∙ ap (λ (right : Sheet). ruled (sheet_case sheet ∷ []) (first_of (differences sheet right))) h.1

    pub unfit_is_refused : (sheet_case sheet).applies ≡ true → check_says table vma voids density price quantity sheet ≡ Err Number
    unfit_is_refused f = held_against_ours ∙ ruled_met (sheet_case sheet) [] _ f

    pub sheet_is_found : (sheet_case sheet).applies ≡ false → check_says table vma voids density price quantity sheet ≡ Ok (first_of (differences sheet ours))
    sheet_is_found f = held_against_ours ∙ ruled_passed (sheet_case sheet) [] _ f ∙ ruled_none _

-- The sheet of three PWLs and of the payment that pay answers, or its refusal.
module _ (vma voids density price quantity : ℤ) where
  pub unpaid_sheet : {r : Refusal} → pay_says vma voids density price quantity ≡ Err r → ruled (pay_meets vma voids density price quantity) (sheet_of vma voids density (payment vma voids density price quantity)) ≡ Err r
  unfolding pay_says
  unpaid_sheet e = refused_alike (pay_meets vma voids density price quantity) _ _ e

  pub paid_sheet :
      {p : Payment} → pay_says vma voids density price quantity ≡ Ok p →
      ruled (pay_meets vma voids density price quantity) (sheet_of vma voids density (payment vma voids density price quantity)) ≡ Ok (sheet_of vma voids density p)
  unfolding pay_says
  paid_sheet e =
      let h = ruled_answers (pay_meets vma voids density price quantity) _ _ e in
      ruled_unrefused _ _ h.0 ∙ ap (λ (q : Payment). Ok (sheet_of vma voids density q)) h.1

  -- So it is said of the sheet as it is of the payment.
  pub sheet_by_pay : ruled (pay_meets vma voids density price quantity) (sheet_of vma voids density (payment vma voids density price quantity)) ≡ said_of (sheet_of vma voids density) (pay_says vma voids density price quantity)
  unfolding pay_says
  sheet_by_pay = sym (ruled_of (sheet_of vma voids density) (pay_meets vma voids density price quantity) (payment vma voids density price quantity))

-- ---- the same as equations, a step after the other

module _ (table : Table) (vma voids density : Lot) (price quantity : ℤ) where
  -- Our own sheet: a lot after the other, and then the pay.
  pub ours_by_lots :
      ours_says table vma voids density price quantity ≡
      said_then
      (λ p. said_then (λ q. said_then (λ s. ruled (pay_meets p.0 q.0 s.0 price quantity) (sheet_of p.0 q.0 s.0 (payment p.0 q.0 s.0 price quantity))) (pwl_says table density)) (pwl_says table voids))
      (pwl_says table vma)
  unfolding ours_says our_meets our_sheet pwl_says
  ours_by_lots =
      ruled_both (by_table table vma) _ _ _ _ (sym (ruled_both (by_table table voids) _ _ _ _ (sym (ruled_both (by_table table density) _ _ _ _ refl))))

-- A check, by the edition that is named: our own sheet, and then the sheet beside it.
pub check_by_ours :
    (s : List ℕ) (k : ℕ) (vma voids density : Lot) (price quantity : ℤ) (sheet : Sheet) →
    check_says (table_in s k) vma voids density price quantity sheet ≡
    said_then (λ ours. ruled (sheet_case sheet ∷ []) (first_of (differences sheet ours))) (ours_says (table_at (named_says k s) s) vma voids density price quantity)
unfolding ours_says check_says
check_by_ours s k vma voids density price quantity sheet =
    ruled_both (our_meets (table_in s k) vma voids density price quantity) _ _ _ _ refl
    ∙ ap (λ (table : Table). said_then (λ ours. ruled (sheet_case sheet ∷ []) (first_of (differences sheet ours))) (ours_says table vma voids density price quantity)) (sym (found_table s k refl))
