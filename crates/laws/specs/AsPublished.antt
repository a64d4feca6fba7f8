-- What documents 01 and 004 say of an answer (demand 2). Readings and limits are in thousandths; sides, PWL and a column's entries are in hundredths
-- of a percent.
use Rattle.std.specs.Prelude.{◌≡◌, List, ℕ, ◌*◌, ℤ, pos, ◌+ℤ◌, ◌-ℤ◌, length, ◌≤ℤ◌, ◌<ℤ◌, Some, None}
use Rattle.rules.specs.Units.{Limit}
use Rattle.rules.specs.declared.Percentages.{Percentages}
use Rattle.rules.specs.declared.Row.{Row}
use Rattle.rules.specs.Table.{Table, a_column, entry}
use Rattle.rules.specs.Notebook.{over}
use Rattle.laws.specs.Ratio.{Ratio, Is}
use Rattle.laws.specs.Root.{Root, BelowZero, magnitude, HalfUpRoot}
use Rattle.laws.specs.AllEqual.{AllEqual}
use Rattle.laws.specs.PublishedIndex.{published_mean, published_deviation, upper_beyond, lower_beyond, published_index}
use Rattle.laws.specs.NearestRow.{NearestRow}

-- A side looked up by its index q: the column's entry at the row nearest |q|, or 100 percent less that entry where q is below zero.
pub record LookedUp (column : List ℕ) (q : Root) (side : ℤ) : Type 0 where
  pub row : ℕ
  pub nearest : NearestRow (magnitude q) row
  pub inside : (BelowZero q → ⊥) → side ≡ pos (entry column row)
  pub outside : BelowZero q → side ≡ pos 10000 -ℤ pos (entry column row)

-- A side, where `beyond` is how far its limit lies beyond the mean, and below 0 if the mean is outside the limit. It is looked up by its index,
-- unless all readings are equal: these have no index, and their side is 100 percent inside the limit and 0 outside.
pub record SideAsPublished (column : List ℕ) (beyond : Ratio) (xs : List ℤ) (side : ℤ) : Type 0 where
  pub by_the_table : (AllEqual xs → ⊥) → LookedUp column (published_index beyond xs) side
  pub equal_within : AllEqual xs → pos 0 ≤ℤ beyond.top → side ≡ pos 10000
  pub equal_beyond : AllEqual xs → beyond.top <ℤ pos 0 → side ≡ pos 0

-- An absent limit's side is 100 percent.
abbrev pub UpperAsPublished : List ℕ → Limit → List ℤ → ℤ → Type 0
UpperAsPublished column None xs side = side ≡ pos 10000
UpperAsPublished column (Some u) xs side = SideAsPublished column (upper_beyond u.0 xs) xs side

abbrev pub LowerAsPublished : List ℕ → Limit → List ℤ → ℤ → Type 0
LowerAsPublished column None xs side = side ≡ pos 10000
LowerAsPublished column (Some l) xs side = SideAsPublished column (lower_beyond l.0 xs) xs side

-- (5) PWL = (P_U + P_L) − 100
pub record AsPublished (column : List ℕ) (upper lower : Limit) (xs : List ℤ) (p : Percentages) : Type 0 where
  pub upper_side : UpperAsPublished column upper xs p.upper.0
  pub lower_side : LowerAsPublished column lower xs p.lower.0
  pub pwl : p.pwl.0 ≡ (p.upper.0 +ℤ p.lower.0) -ℤ pos 10000

-- As published, by a table's column for the number of readings.
pub record ByTable (table : Table) (upper lower : Limit) (xs : List ℤ) (p : Percentages) : Type 0 where
  pub column : List ℕ
  pub found : table (length xs) ≡ a_column column
  pub published : AsPublished column upper lower xs p

-- Two answers with the same percentages. How many rows were tried for them these papers do not say; document 02 does (Tried.antt).
abbrev pub SamePercentages : Percentages → Percentages → Type 0
SamePercentages p q = (p.upper ≡ q.upper) × (p.lower ≡ q.lower) × (p.pwl ≡ q.pwl)

-- The notebook's row: each double is one division of a number that is as published.
pub record RowAsPublished (table : Table) (upper lower : Limit) (xs : List ℤ) (row : Row) : Type 0 where
  pub total : ℤ
  pub mean : Is (published_mean xs) total (length xs)
  pub mean_double : row.mean ≡ over total (1000 * length xs)
  pub thousandths : ℤ
  pub deviation : HalfUpRoot (published_deviation xs) thousandths
  pub deviation_double : row.deviation ≡ over thousandths 1000
  pub percentages : Percentages
  pub by_the_table : ByTable table upper lower xs percentages
  pub pwl_double : row.pwl ≡ over percentages.pwl.0 100
