-- Refusals 11, 13 and 10 where a percentage is asked for: 11 before all else; 13 and 10 where all else is in order, and 10 nowhere else.
use mathlib.Core.Path.{◌≡◌, refl, sym, ap, ◌∙◌, subst}
use mathlib.Core.Bool.{Bool, true, false, not, ◌||◌, and-false}
use mathlib.Core.List.{List, [], ◌∷◌}
use Prim.Native.Nat.{ℕ, ◌<◌}
use native.Mathlib.Omega.{arith}
use borrow.Author.Tests.{eq-eqb, lt-leb}
use lib.Dec.{T, leb, eqb}
use lib.IntN.{ℤ}
use Rattle.std.specs.Prelude.{Ok, Err}
use Rattle.rules.specs.Units.{Limit}
use Rattle.rules.specs.declared.Sheet.{Sheet}
use Rattle.rules.specs.declared.Refusal.{Refusal}
use Rattle.rules.specs.declared.Refusal.TheVariants.{NoColumn, Unsound, NoEdition}
use Rattle.rules.specs.Said.{Said, Case, checked, ruled}
use Rattle.rules.specs.Lot.{Lot}
use Rattle.rules.specs.Table.{Table, Found, no_store, no_edition, no_column, a_column, table_106_1, has_store, entries}
use Rattle.rules.specs.Percent.{Rule, nearest}
use Rattle.rules.specs.Refusals.{number_of}
use Rattle.rules.specs.Notebook.{lent_lot}
use Rattle.rules.specs.Meets.{readings_meet, counted_meets, column_meets, evaluation_meets, bytes_meet, row_meets, read_meets, write_meets, pay_meets, mixture_meets, cut_meets}
use Rattle.rules.specs.Entries.{mean_says, deviation_says, percentages, evaluated, bare, evaluation_says, read_says, write_says, pay_says, mixture_says, cut_says, row_says}
use Rattle.rules.specs.Check.{compare_meets, compare_says}
use Rattle.laws.proofs.Ruled.{ruled_none, ruled_met, ruled_passed, ruled_first, ruled_later}
use Rattle.laws.proofs.Refusals.{First, here, later, FirstGiven, first_is_given}

-- ---- where a percentage is asked for, by any rule, whatever V and the limits are

module _ (rule : Rule) (lot : Lot) where
  -- A buffer that is no store comes before anything that the lot meets.
  pub no_store_is_refused : evaluated rule no_store lot ≡ Err Unsound
  unfolding evaluated evaluation_meets
  no_store_is_refused = ruled_met _ _ _ refl

  module _ (ok : checked (counted_meets lot) ≡ Ok tt) where
    last : (found : Found) → has_store found ≡ true → evaluated rule found lot ≡ ruled (column_meets found) (percentages rule (entries found) lot)
    unfolding evaluated evaluation_meets
    last found e = ruled_passed _ _ _ (ap not e) ∙ ruled_later (counted_meets lot) (column_meets found) _ ok

    pub no_edition_is_refused : evaluated rule no_edition lot ≡ Err NoEdition
    no_edition_is_refused = last no_edition refl ∙ ruled_met _ _ _ refl

    pub no_column_is_refused : evaluated rule no_column lot ≡ Err NoColumn
    no_column_is_refused = last no_column refl ∙ ruled_passed _ _ _ refl ∙ ruled_met _ _ _ refl

    pub column_is_answered : (column : List ℕ) → evaluated rule (a_column column) lot ≡ Ok (percentages rule column lot)
    column_is_answered column = last (a_column column) refl ∙ ruled_passed _ _ _ refl ∙ ruled_passed _ _ _ refl ∙ ruled_none _

  -- What the lot meets itself comes before a missing edition and a missing column.
  pub lot_comes_first : {r : Refusal} (found : Found) → has_store found ≡ true → checked (counted_meets lot) ≡ Err r → evaluated rule found lot ≡ Err r
  unfolding evaluated evaluation_meets
  lot_comes_first found e met = ruled_passed _ _ _ (ap not e) ∙ ruled_first (counted_meets lot) (column_meets found) _ met

-- By Table 106-1, every lot of 11 to 17 readings that meets nothing else is refused so.
pub more_than_ten_is_refused : (lot : Lot) → checked (counted_meets lot) ≡ Ok tt → 10 < lot.n → evaluation_says table_106_1 lot ≡ Err NoColumn
unfolding evaluation_says table_106_1
more_than_ten_is_refused lot ok many = rw (lt-leb lot.n 10 many, and-false (leb 2 lot.n)) (no_column_is_refused nearest lot ok)

-- The row of bytes meets it in the same way.
pub row_without_column_is_refused :
    (table : Table) (upper lower : Limit) (bs : List ℕ) →
    checked (bytes_meet bs (lent_lot upper lower bs)) ≡ Ok tt → table (lent_lot upper lower bs).n ≡ no_column →
    row_says table upper lower bs ≡ Err NoColumn
unfolding row_says row_meets
row_without_column_is_refused table upper lower bs ok none =
    rw none (ruled_passed _ _ _ refl ∙ ruled_later (bytes_meet bs (lent_lot upper lower bs)) _ _ ok ∙ ruled_passed _ _ _ refl ∙ ruled_met _ _ _ refl)

-- ---- and only there

-- whether a refusal of this number is among the cases
abbrev among : ℕ → List Case → Bool
among k [] = false
among k (c ∷ cs) = eqb (number_of c.refusal) k || among k cs

first_is_among : {r : Refusal} (cs : List Case) → First r cs → T (among (number_of r) cs)
first_is_among {r = r} [] x' = elim x' [ ]
first_is_among (c ∷ cs) (here on same) = rw (eq-eqb (number_of c.refusal) _ (ap number_of same)) tt
first_is_among {r} (c ∷ cs) (later off f) = or_right (eqb (number_of c.refusal) (number_of r)) (among (number_of r) cs) (first_is_among cs f)
  where
    or_right : (b t : Bool) → T t → T (b || t)
    or_right true t h = tt
    or_right false t h = h

given_is_among : {A : Type 0} (cs : List Case) (a : A) {r : Refusal} → ruled cs a ≡ Err r → T (among (number_of r) cs)
given_is_among cs a e = first_is_among cs (subst (FirstGiven cs) e (first_is_given cs a))

-- Where an evaluation gives it, the lot meets nothing else, and the edition that is named has no column.
pub refused_has_no_column : (rule : Rule) (found : Found) (lot : Lot) → evaluated rule found lot ≡ Err NoColumn → (checked (counted_meets lot) ≡ Ok tt) × (found ≡ no_column)
refused_has_no_column rule found lot e = by found (checked (counted_meets lot)) refl e
  where
    by : (found : Found) (s : Said (Unit {0})) → checked (counted_meets lot) ≡ s → evaluated rule found lot ≡ Err NoColumn → (checked (counted_meets lot) ≡ Ok tt) × (found ≡ no_column)
    by no_store s met f = absurd (let z : ◌≡◌ {A = ℕ} 0 1 = cc (sym (no_store_is_refused rule lot) ∙ f) in omega arith)
    by no_edition (Ok u) met f = absurd (let z : ◌≡◌ {A = ℕ} 0 1 = cc (sym (no_edition_is_refused rule lot met) ∙ f) in omega arith)
    by no_column (Ok u) met f = (met, refl)
    by (a_column column) (Ok u) met f = absurd (let z : ◌≡◌ {A = ℕ} 0 1 = cc (sym (column_is_answered rule lot met column) ∙ f) in omega arith)
    by no_edition (Err r) met f = absurd (given_is_among (counted_meets lot) tt (met ∙ ap bare (sym (lot_comes_first rule lot no_edition refl met) ∙ f)))
    by no_column (Err r) met f = absurd (given_is_among (counted_meets lot) tt (met ∙ ap bare (sym (lot_comes_first rule lot no_column refl met) ∙ f)))
    by (a_column column) (Err r) met f = absurd (given_is_among (counted_meets lot) tt (met ∙ ap bare (sym (lot_comes_first rule lot (a_column column) refl met) ∙ f)))

-- ---- elsewhere

pub mean_needs_no_column : (xs : List ℤ) → mean_says xs ≡ Err NoColumn → ⊥
unfolding mean_says readings_meet
mean_needs_no_column xs e = given_is_among (readings_meet xs) _ e

pub deviation_needs_no_column : (xs : List ℤ) → deviation_says xs ≡ Err NoColumn → ⊥
unfolding deviation_says readings_meet
deviation_needs_no_column xs e = given_is_among (readings_meet xs) _ e

pub reading_needs_no_column : (bs : List ℕ) → read_says bs ≡ Err NoColumn → ⊥
unfolding read_says read_meets
reading_needs_no_column bs e = given_is_among (read_meets bs) _ e

pub writing_needs_no_column : (lot : Lot) (out : List ℕ) → write_says lot out ≡ Err NoColumn → ⊥
unfolding write_says write_meets
writing_needs_no_column lot out e = given_is_among (write_meets lot _) _ e

pub pay_needs_no_column : (vma voids density price quantity : ℤ) → pay_says vma voids density price quantity ≡ Err NoColumn → ⊥
unfolding pay_says pay_meets
pay_needs_no_column vma voids density price quantity e = given_is_among (pay_meets vma voids density price quantity) _ e

pub lookup_needs_no_column : (mixture minimum target : ℤ) → mixture_says mixture minimum target ≡ Err NoColumn → ⊥
unfolding mixture_says mixture_meets
lookup_needs_no_column mixture minimum target e = given_is_among (mixture_meets mixture minimum target) _ e

pub cutting_needs_no_column : (sublots : ℕ) (out : List ℕ) → cut_says sublots out ≡ Err NoColumn → ⊥
unfolding cut_says cut_meets
cutting_needs_no_column sublots out e = given_is_among (cut_meets sublots _) _ e

pub comparing_needs_no_column : (a b : Sheet) (out : List ℤ) → compare_says a b out ≡ Err NoColumn → ⊥
unfolding compare_says compare_meets
comparing_needs_no_column a b out e = given_is_among (compare_meets a b _) _ e
