-- The desk examples are read under Table 106-1's edition: they hold by any store that has it, under the number by which it is named there.
use mathlib.Core.Path.{◌≡◌, sym, subst}
use mathlib.Core.Bool.{true}
use mathlib.Core.List.{List}
use Prim.Native.Nat.{ℕ}
use Rattle.rules.specs.Table.{Table}
use Rattle.rules.specs.Edition.{edition_106_1}
use Rattle.rules.specs.Store.{editions, is_store, stored, edition_in, table_in}
use Rattle.laws.specs.Every.{Every}
use Rattle.laws.specs.Desk as Desk
use Rattle.laws.specs.Tried as Tried
use Rattle.laws.proofs.DefaultEdition.{holds_default}
use Rattle.laws.proofs.Desk.{desk, corrected_entries}
use Rattle.laws.proofs.DeskTried.{desk_tried}

module _
    (s : List ℕ) (named number : ℕ)
    (sound : is_store s ≡ true) (has : stored named (editions s) ≡ true) (is : edition_in named (editions s) ≡ edition_106_1 number) where
  -- D1 to D10,
  pub desk_by_edition : Every (Desk.Holds (table_in s named)) Desk.examples
  desk_by_edition = subst (λ (table : Table). Every (Desk.Holds table) Desk.examples) (sym (holds_default s named number sound has is)) desk

  -- what the corrected entries give,
  pub corrected_by_edition : Every (Desk.Holds (table_in s named)) Desk.corrected
  corrected_by_edition = subst (λ (table : Table). Every (Desk.Holds table) Desk.corrected) (sym (holds_default s named number sound has is)) corrected_entries

  -- and how many rows are tried.
  pub tried_by_edition : Every (Tried.Holds (table_in s named)) Tried.examples
  tried_by_edition = subst (λ (table : Table). Every (Tried.Holds table) Tried.examples) (sym (holds_default s named number sound has is)) desk_tried
