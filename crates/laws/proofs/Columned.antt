-- Totals beside the place of a column: the table has that column for their count, and it is one of which the laws of lookups hold.
use mathlib.Core.Path.{◌≡◌, sym, ap, ◌∙◌, subst, subst⁻¹}
use mathlib.Core.List.{List, ◌∷◌, ◌++◌}
use Prim.Native.Nat.{ℕ, ◌+◌, ◌≤◌}
use lib.ListN.{length, drop}
use Rattle.std.specs.Prelude.{Ok, Option}
use Rattle.rules.specs.Units.{Limit}
use Rattle.rules.specs.declared.Totals.{Totals}
use Rattle.rules.specs.declared.Columned.{Columned}
use Rattle.rules.specs.Said.{Said, Case}
use Rattle.rules.specs.Lot.{Lot}
use Rattle.rules.specs.Table.{Table, has_column, entries, column_in}
use Rattle.rules.specs.Percent.{Rule}
use Rattle.rules.specs.Edition.{column_size}
use Rattle.rules.specs.Store.{table_in}
use Rattle.rules.specs.Refusals.{store_case}
use Rattle.rules.specs.Meets.{column_meets}
use Rattle.rules.specs.Entries.{percentages_of}
use Rattle.laws.specs.Column.{Column}
use Rattle.laws.specs.StoreWalk.{named_says, NamedIn, table_at, ColumnPlaced}
use Rattle.laws.specs.Totalled.{with_column_say, totalled}
use Rattle.laws.proofs.StoreNamed.{named_in, table_named, at_columns}
use Rattle.laws.proofs.Accepted.{totalled_with_column}

pub record ColumnFound (table : Table) (s : List ℕ) (c : Columned) : Type 0 where
  pub within : c.column + column_size ≤ length s
  pub is : entries (table c.totals.n) ≡ column_in (drop c.column s)
  pub shape : Column (column_in (drop c.column s))

-- So percentages by that place are those by the table.
pub placed_percentages :
    (rule : Rule) {table : Table} {s : List ℕ} {c : Columned} (upper lower : Limit) → ColumnFound table s c →
    percentages_of rule (column_in (drop c.column s)) c.totals upper lower ≡ percentages_of rule (entries (table c.totals.n)) c.totals upper lower
placed_percentages rule {c = c} upper lower h = ap (λ (column : List ℕ). percentages_of rule column c.totals upper lower) (sym h.is)

pub column_placed :
    (s : List ℕ) (named : Said (Option ℕ)) {r : Said Columned} {c : Columned} → NamedIn s named →
    ColumnPlaced s named r → r ≡ Ok c → ColumnFound (table_at named s) s c
column_placed s named k placed e =
    let h = subst (ColumnPlaced s named) e placed in
    record {
      within = h.0;
      is = ap entries h.1;
      shape = subst Column (ap entries h.1) (at_columns s named k _ (ap has_column h.1));
    }

-- Where an edition is named in a store, what is found of it is an edition of that store,
module _ (s : List ℕ) (k : ℕ) {named : Said (Option ℕ)} (e : named ≡ named_says k s) where
  pub found_in_store : NamedIn s named
  found_in_store = subst⁻¹ (NamedIn s) e (named_in k s)

  pub found_table : table_at named s ≡ table_in s k
  found_table = ap (λ (d : Said (Option ℕ)). table_at d s) e ∙ table_named k s

  -- a lot meets 11 by that store before all else, and 13 and 10 after it,
  pub columned_is_totalled :
      {said told : Said Totals} (meets : Lot → List Case) (lot : Lot) → said ≡ totalled meets lot → told ≡ with_column_say named s said →
      told ≡ totalled (λ l. store_case (table_in s k l.n) ∷ (meets l ++ column_meets (table_in s k l.n))) lot
  columned_is_totalled meets lot f g =
      g
      ∙ ap (with_column_say named s) f
      ∙ totalled_with_column named s meets lot
      ∙ ap (λ (table : Table). totalled (λ l. store_case (table l.n) ∷ (meets l ++ column_meets (table l.n))) lot) found_table

  -- and its column is the one that the store has for its count.
  pub column_is_found : {r : Said Columned} {c : Columned} → ColumnPlaced s named r → r ≡ Ok c → ColumnFound (table_in s k) s c
  column_is_found {r} {c} placed f =
      subst (λ (table : Table). ColumnFound table s c) found_table (column_placed s named found_in_store placed f)
