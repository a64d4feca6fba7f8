-- A promise determines the answer: two answers that meet it are equal, whatever came in.
use mathlib.Core.Path.{◌≡◌, sym, ◌∙◌}
use mathlib.Core.List.{List}
use Prim.Native.Nat.{ℕ}
use lib.IntN.{ℤ}
use Rattle.std.specs.Prelude.{Option}
use Rattle.rules.specs.declared.Totals.{Totals}
use Rattle.rules.specs.declared.Sheet.{Sheet}
use Rattle.rules.specs.declared.Mean.{Mean}
use Rattle.rules.specs.declared.Thousandths.{Thousandths}
use Rattle.rules.specs.declared.Percentages.{Percentages}
use Rattle.rules.specs.declared.Payment.{Payment}
use Rattle.rules.specs.declared.Characteristics.{Characteristics}
use Rattle.rules.specs.declared.Pair.{Pair}
use Rattle.rules.specs.declared.ReadAnswer.{ReadAnswer}
use Rattle.rules.specs.declared.Row.{Row}
use Rattle.rules.specs.declared.Difference.{Difference}
use Rattle.rules.specs.Units.{Limit}
use Rattle.rules.specs.Said.{Said, Case, checked}
use Rattle.rules.specs.Lot.{Lot}
use Rattle.rules.specs.Table.{Table}
use Rattle.rules.specs.Entries.{mean_says, deviation_says, evaluation_says, pay_says, mixture_says, read_leaves, write_says, after_write, cut_says, after_cut, row_says, read_said}
use Rattle.rules.specs.Check.{ours_says, check_says, compare_says, after_compare}
use Rattle.rules.specs.Editions.{storing_says, after_storing, finding_says, listing_says, after_listing, default_says, after_default}
use Rattle.laws.proofs.Answers.{read_injective}

pub outcome_determined : (cases : List Case) (r q : Said (Unit {0})) → r ≡ checked cases → q ≡ checked cases → r ≡ q
outcome_determined cases r q e f = (e ∙ sym f)

pub totals_determined : (said : Said Totals) (r q : Said Totals) → r ≡ said → q ≡ said → r ≡ q
totals_determined said r q e f = (e ∙ sym f)

pub mean_determined : (xs : List ℤ) (r q : Said Mean) → r ≡ mean_says xs → q ≡ mean_says xs → r ≡ q
mean_determined xs r q e f = (e ∙ sym f)

pub deviation_determined : (xs : List ℤ) (r q : Said Thousandths) → r ≡ deviation_says xs → q ≡ deviation_says xs → r ≡ q
deviation_determined xs r q e f = (e ∙ sym f)

-- of a lent list of readings with two limits, and of a lot in memory
pub evaluation_determined : (table : Table) (lot : Lot) (r q : Said Percentages) → r ≡ evaluation_says table lot → q ≡ evaluation_says table lot → r ≡ q
evaluation_determined table lot r q e f = (e ∙ sym f)

-- A read's promise determines the lot that is left in memory too,
pub read_determined : (bs : List ℕ) (r q : ReadAnswer) → read_said r ≡ read_leaves bs → read_said q ≡ read_leaves bs → r ≡ q
read_determined bs r q e f = read_injective r q (e ∙ sym f)

-- and a write's promise every byte of the lent slice.
pub write_determined :
    (lot : Lot) (out : List ℕ) (r q : Said ℕ) (after other : List ℕ) →
    (r ≡ write_says lot out) × (after ≡ after_write lot out) → (q ≡ write_says lot out) × (other ≡ after_write lot out) →
    (r ≡ q) × (after ≡ other)
write_determined lot out r q after other e f = ((e.0 ∙ sym f.0), e.1 ∙ sym f.1)

-- The cut's promise likewise determines every number of the lent list.
pub cut_determined :
    (sublots : ℕ) (out : List ℕ) (r q : Said ℕ) (after other : List ℕ) →
    (r ≡ cut_says sublots out) × (after ≡ after_cut sublots out) → (q ≡ cut_says sublots out) × (other ≡ after_cut sublots out) →
    (r ≡ q) × (after ≡ other)
cut_determined sublots out r q after other e f = ((e.0 ∙ sym f.0), e.1 ∙ sym f.1)

-- So does the promise of a comparison.
pub compare_determined :
    (a b : Sheet) (out : List ℤ) (r q : Said ℕ) (after other : List ℤ) →
    (r ≡ compare_says a b out) × (after ≡ after_compare a b out) → (q ≡ compare_says a b out) × (other ≡ after_compare a b out) →
    (r ≡ q) × (after ≡ other)
compare_determined a b out r q after other e f = ((e.0 ∙ sym f.0), e.1 ∙ sym f.1)

pub check_determined :
    (table : Table) (vma voids density : Lot) (price quantity : ℤ) (sheet : Sheet) (r q : Said (Option Difference)) →
    r ≡ check_says table vma voids density price quantity sheet → q ≡ check_says table vma voids density price quantity sheet → r ≡ q
check_determined table vma voids density price quantity sheet r q e f = (e ∙ sym f)

-- of our own sheet, which a check holds the other against
pub ours_determined :
    (table : Table) (vma voids density : Lot) (price quantity : ℤ) (r q : Said Sheet) →
    r ≡ ours_says table vma voids density price quantity → q ≡ ours_says table vma voids density price quantity → r ≡ q
ours_determined table vma voids density price quantity r q e f = (e ∙ sym f)

pub pay_determined :
    (vma voids density price quantity : ℤ) (r q : Said Payment) →
    r ≡ pay_says vma voids density price quantity → q ≡ pay_says vma voids density price quantity → r ≡ q
pay_determined vma voids density price quantity r q e f = (e ∙ sym f)

pub mixture_determined :
    (mixture minimum target : ℤ) (r q : Said (Characteristics (Pair Thousandths))) →
    r ≡ mixture_says mixture minimum target → q ≡ mixture_says mixture minimum target → r ≡ q
mixture_determined mixture minimum target r q e f = (e ∙ sym f)

pub row_determined : (table : Table) (upper lower : Limit) (bs : List ℕ) (r q : Said Row) → r ≡ row_says table upper lower bs → q ≡ row_says table upper lower bs → r ≡ q
row_determined table upper lower bs r q e f = (e ∙ sym f)

-- of a store and an edition, with every byte of the store,
pub storing_determined :
    (s e : List ℕ) (r q : Said ℕ) (after other : List ℕ) →
    (r ≡ storing_says s e) × (after ≡ after_storing s e) → (q ≡ storing_says s e) × (other ≡ after_storing s e) →
    (r ≡ q) × (after ≡ other)
storing_determined s e r q after other f g = ((f.0 ∙ sym g.0), f.1 ∙ sym g.1)

pub finding_determined : (s : List ℕ) (named : ℕ) (r q : Said ℕ) → r ≡ finding_says s named → q ≡ finding_says s named → r ≡ q
finding_determined s named r q e f = (e ∙ sym f)

pub listing_determined :
    (s out : List ℕ) (r q : Said ℕ) (after other : List ℕ) →
    (r ≡ listing_says s out) × (after ≡ after_listing s out) → (q ≡ listing_says s out) × (other ≡ after_listing s out) →
    (r ≡ q) × (after ≡ other)
listing_determined s out r q after other e f = ((e.0 ∙ sym f.0), e.1 ∙ sym f.1)

-- and of Table 106-1's edition under a number.
pub default_determined :
    (number : ℕ) (out : List ℕ) (r q : Said ℕ) (after other : List ℕ) →
    (r ≡ default_says number out) × (after ≡ after_default number out) → (q ≡ default_says number out) × (other ≡ after_default number out) →
    (r ≡ q) × (after ≡ other)
default_determined number out r q after other e f = ((e.0 ∙ sym f.0), e.1 ∙ sym f.1)
