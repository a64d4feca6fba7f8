-- The edition's first n is read where it stands, and the column lies within the bytes, so nothing wraps.
use Rattle.std.proofs.Common.{◌≡◌, ℕ, ◌+◌, ◌≤◌, true, List, drop, get_or, sym, ◌∙◌, arith}
use mathlib.Core.Bool.{and-eq-true_iff}
use borrow.Author.Tests.{leb-true}
use Rattle.rules.specs.Table.{has_column}
use Rattle.rules.specs.Edition.{first_field, last_field, table_of}
use Rattle.rules.specs.Store.{first_entry}
use Rattle.laws.specs.StoreWalk.{EditionAccepted, EditionAt}
use Rattle.laws.proofs.Editions.{edition_has}
use Rattle.laws.proofs.StoreEntry.{edition_at}
use Rattle.editions.proofs.column.Goals as goal

-- what holds of the count and of the edition's head
held : (s : List ℕ) (start n : ℕ) → EditionAt s start × (has_column (table_of (first_entry (drop start s)) n) ≡ true) →
    EditionAccepted (first_entry (drop start s)) ×
    (get_or s (start + 5) 0 ≡ first_field (first_entry (drop start s))) ×
    (first_field (first_entry (drop start s)) ≤ n) ×
    (n ≤ last_field (first_entry (drop start s)))
held s start n h =
    let f = edition_at _ _ h.0 in
    let has = (and-eq-true_iff _ _).0 (sym (edition_has _ _) ∙ h.1) in
    (f.0, f.1, leb-true _ _ has.0, leb-true _ _ has.1)

pub bounds-store-start : goal.bounds-store-start
bounds-store-start c = let h = held _ _ _ c.requires in omega arith

pub overflow_sub-result : goal.overflow_sub-result
overflow_sub-result c = let h = held _ _ _ c.requires in omega arith

pub overflow_mul-result : goal.overflow_mul-result
overflow_mul-result c = let h = held _ _ _ c.requires in omega arith

pub overflow_add-result-2 : goal.overflow_add-result-2
overflow_add-result-2 c = let h = held _ _ _ c.requires in omega arith

pub overflow_add-result-3 : goal.overflow_add-result-3
overflow_add-result-3 c = let h = held _ _ _ c.requires in omega arith

pub returns : goal.returns
returns c = let h = held _ _ _ c.requires in omega arith
