-- What the laws of lookups ask of a column, it starts at 50.00, never falls and ends at 100.00; and of a table, that each column in it is one.
use Rattle.std.specs.Prelude.{◌≡◌, true, List, ℕ, ◌≤◌, get_or}
use Rattle.rules.specs.Table.{Table, has_column, entries, last_row}

pub record Column (column : List ℕ) : Type 0 where
  pub starts : get_or column 0 0 ≡ 5000
  pub never_falls : (j k : ℕ) → j ≤ k → k ≤ last_row → get_or column j 0 ≤ get_or column k 0
  pub ends : get_or column last_row 0 ≡ 10000

abbrev pub Columns : Table → Type 0
Columns table = (n : ℕ) → has_column (table n) ≡ true → Column (entries (table n))
