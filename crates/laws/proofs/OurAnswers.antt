-- Our own sheet is what our entries answer: the PWLs of the lots, and what is paid for them. It is there wherever these are answered, and is never refused.
use mathlib.Core.Path.{◌≡◌, refl, sym, ap, subst, ◌∙◌}
use Prim.Native.Nat.{ℕ}
use native.Mathlib.Omega.{arith}
use lib.IntN.{ℤ, pos}
use Rattle.std.specs.Prelude.{Ok, Err}
use Rattle.rules.specs.declared.Percentages.{Percentages}
use Rattle.rules.specs.declared.Payment.{Payment}
use Rattle.rules.specs.declared.Sheet.{Sheet}
use Rattle.rules.specs.declared.Refusal.{Refusal}
use Rattle.rules.specs.Said.{Said}
use Rattle.rules.specs.Lot.{Lot}
use Rattle.rules.specs.Table.{Table}
use Rattle.rules.specs.Pay.{payment}
use Rattle.rules.specs.Sheet.{sheet_of}
use Rattle.rules.specs.Entries.{evaluation_says, pay_says}
use Rattle.rules.specs.Check.{ours_says}
use Rattle.laws.specs.Column.{Columns}
use Rattle.laws.specs.Between.{Between}
use Rattle.laws.specs.Payable.{Percents}
use Rattle.laws.specs.Sheet.{SheetTaken, IsOurs}
use Rattle.laws.proofs.Ruled.{ruled_answers}
use Rattle.laws.proofs.Payable.{payable, payable_is_paid}
use Rattle.laws.proofs.OurSheet.{evaluation_refused, evaluation_answered, answered_in_percent, first_lot_refused, second_lot_refused, third_lot_refused, lots_answered, unpaid_sheet, paid_sheet}
use Rattle.laws.proofs.SheetTaken.{paid_sheet_is_taken}

-- What is said is a refusal or values, and not both.
pub unlike : {A : Type 0} {r : Refusal} {a : A} {s : Said A} → s ≡ Err r → s ≡ Ok a → ⊥
unlike {A} {r} {a} e f = let h : Err r ≡ Ok a = sym e ∙ f in let z : ◌≡◌ {A = ℕ} 0 1 = cc in omega arith

-- the values, where there are any
abbrev pub value : {A : Type 0} → A → Said A → A
value other (Err r) = other
value other (Ok a) = a

module _ (table : Table) (vma voids density : Lot) (price quantity : ℤ) where
  abbrev Ours : Sheet → Type 0
  Ours = IsOurs table vma voids density price quantity

  abbrev ours_said : Said Sheet
  ours_said = ours_says table vma voids density price quantity

  -- Where all lots are answered, it is as the pay is.
  module _ {p q s : Percentages} (a : evaluation_says table vma ≡ Ok p) (b : evaluation_says table voids ≡ Ok q) (c : evaluation_says table density ≡ Ok s) where
    pub unpaid : {r : Refusal} → pay_says p.pwl.0 q.pwl.0 s.pwl.0 price quantity ≡ Err r → ours_said ≡ Err r
    unpaid e = lots_answered table vma voids density price quantity (evaluation_answered table vma a) (evaluation_answered table voids b) (evaluation_answered table density c) ∙ unpaid_sheet _ _ _ _ _ e

    paid : {settled : Payment} → pay_says p.pwl.0 q.pwl.0 s.pwl.0 price quantity ≡ Ok settled → ours_said ≡ Ok (sheet_of p.pwl.0 q.pwl.0 s.pwl.0 settled)
    paid e = lots_answered table vma voids density price quantity (evaluation_answered table vma a) (evaluation_answered table voids b) (evaluation_answered table density c) ∙ paid_sheet _ _ _ _ _ e

  pub ours_is_answered : {ours : Sheet} → Ours ours → ours_said ≡ Ok ours
  ours_is_answered h = paid h.vma_answered h.voids_answered h.density_answered h.paid ∙ ap (λ (sheet : Sheet). Ok sheet) (sym h.same)

  pub answered_is_ours : {ours : Sheet} → ours_said ≡ Ok ours → Ours ours
  answered_is_ours {ours} e = first (evaluation_says table vma) refl
    where
      settled : (p q s : Percentages) → evaluation_says table vma ≡ Ok p → evaluation_says table voids ≡ Ok q → evaluation_says table density ≡ Ok s → (said : Said Payment) → pay_says p.pwl.0 q.pwl.0 s.pwl.0 price quantity ≡ said → Ours ours
      settled p q s a b c (Err r) f = absurd (unlike (unpaid a b c f) e)
      settled p q s a b c (Ok z) f =
          record {
            of_vma = p;
            of_voids = q;
            of_density = s;
            vma_answered = a;
            voids_answered = b;
            density_answered = c;
            settled = z;
            paid = f;
            same = ap (value ours) (sym e ∙ paid a b c f);
          }

      third : (p q : Percentages) → evaluation_says table vma ≡ Ok p → evaluation_says table voids ≡ Ok q → (said : Said Percentages) → evaluation_says table density ≡ said → Ours ours
      third p q a b (Err r) f = absurd (unlike (third_lot_refused table vma voids density price quantity (evaluation_answered table vma a) (evaluation_answered table voids b) (evaluation_refused table density f)) e)
      third p q a b (Ok s) f = settled p q s a b f (pay_says p.pwl.0 q.pwl.0 s.pwl.0 price quantity) refl

      second : (p : Percentages) → evaluation_says table vma ≡ Ok p → (said : Said Percentages) → evaluation_says table voids ≡ said → Ours ours
      second p a (Err r) f = absurd (unlike (second_lot_refused table vma voids density price quantity (evaluation_answered table vma a) (evaluation_refused table voids f)) e)
      second p a (Ok q) f = third p q a f (evaluation_says table density) refl

      first : (said : Said Percentages) → evaluation_says table vma ≡ said → Ours ours
      first (Err r) f = absurd (unlike (first_lot_refused table vma voids density price quantity (evaluation_refused table vma f)) e)
      first (Ok p) f = second p f (evaluation_says table voids) refl

  -- It is there for any lots that evaluation answers and any price and quantity in range: the PWLs are.
  pub ours_is_there :
      {p q s : Percentages} → Columns table → evaluation_says table vma ≡ Ok p → evaluation_says table voids ≡ Ok q → evaluation_says table density ≡ Ok s →
      Between (pos 0) (pos 10000000) price → Between (pos 0) (pos 100000000) quantity →
      (ours : Sheet) × Ours ours
  ours_is_there {p} {q} {s} shape a b c in_price in_quantity =
      let percents : Percents p.pwl.0 q.pwl.0 s.pwl.0 = record { vma = answered_in_percent table vma shape a; voids = answered_in_percent table voids shape b; density = answered_in_percent table density shape c } in
      let settled = payment p.pwl.0 q.pwl.0 s.pwl.0 price quantity in (
        sheet_of p.pwl.0 q.pwl.0 s.pwl.0 settled,
        record {
          of_vma = p;
          of_voids = q;
          of_density = s;
          vma_answered = a;
          voids_answered = b;
          density_answered = c;
          settled = settled;
          paid = payable_is_paid _ _ _ _ _ (record { percents = percents; price = in_price; quantity = in_quantity });
          same = refl;
        },
      )

  -- It is never refused.
  pub ours_is_taken : {ours : Sheet} → Ours ours → SheetTaken ours
  unfolding pay_says
  ours_is_taken h =
      let r = ruled_answers _ (payment h.of_vma.pwl.0 h.of_voids.pwl.0 h.of_density.pwl.0 price quantity) _ h.paid in
      let taken = paid_sheet_is_taken (payable _ _ _ _ _ r.0) in
      subst SheetTaken (ap (sheet_of h.of_vma.pwl.0 h.of_voids.pwl.0 h.of_density.pwl.0) r.1 ∙ sym h.same) taken
