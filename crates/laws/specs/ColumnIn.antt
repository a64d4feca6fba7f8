-- A column in lent bytes, two to each of its 54 entries: there are 108 bytes, and the entries are a `Column`.
use Rattle.std.specs.Prelude.{◌≡◌, List, ℕ, length}
use Rattle.rules.specs.Table.{column_in}
use Rattle.laws.specs.Column.{Column}

pub record ColumnIn (bs : List ℕ) : Type 0 where
  pub size : length bs ≡ 108
  pub shape : Column (column_in bs)
