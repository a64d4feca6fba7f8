-- The next entry decides, and then the rest; after the last the order is known, and the first and the last entry are left to see.
use Rattle.std.proofs.Common.{◌≡◌, ℕ, ◌+◌, ◌*◌, ◌≤◌, true, false, ◌&&◌, leb, List, [], ◌∷◌, length, get_or, drop, sym, ap, ◌∙◌, arith}
use mathlib.Core.Bool.{and-true, and-false}
use native.Mathlib.Nat.{add-zero}
use borrow.Author.Tests.{le-leb, lt-leb}
use lib.ListN.{drop_of_length-le}
use Rattle.rules.specs.Record.{spelled, part}
use Rattle.rules.specs.Table.{last_row, column_in, rises_from}
use Rattle.laws.proofs.ColumnIn.{column_rows, placed_entry, column_next}
use Rattle.editions.proofs.edition.column.Goals as goal

-- what the whole column says, where the entries from row k on say so, and x is the first of them
next : (bs : List ℕ) (at k before x : ℕ) → k ≤ last_row → x ≡ spelled 0 (part (at + 2 * k) 2 bs) →
    rises_from 0 (column_in (drop at bs)) ≡ rises_from before (drop k (column_in (drop at bs))) →
    rises_from 0 (column_in (drop at bs)) ≡ (leb before x && rises_from x (drop (k + 1) (column_in (drop at bs))))
next bs at k before x h is rest =
    rest ∙ ap (rises_from before) (column_next bs at k h ∙ ap (λ (y : ℕ). y ∷ drop (k + 1) (column_in (drop at bs))) (sym is))

pub returns-then-entry-before : goal.returns-then-entry-before
returns-then-entry-before c =
    let falls : leb c.loop-k.before c.two-entry.result ≡ false = lt-leb _ _ c.if-entry-before.true in
    simp (next c.args.bytes.now c.args.at c.loop-k.k _ _ (omega arith) c.two-entry.ensures c.loop-k.invariant.rest, falls, and-false)

pub loop-k-preserved : goal.loop-k-preserved
loop-k-preserved c =
    let rises : leb c.loop-k.before c.two-entry.result ≡ true = le-leb _ _ c.if-entry-before.false in
    record {
      rest = next c.args.bytes.now c.args.at c.loop-k.k _ _ (omega arith) c.two-entry.ensures c.loop-k.invariant.rest ∙ simp rises;
    }

pub returns : goal.returns
returns c =
    let bs : List ℕ = c.args.bytes.now in
    let at : ℕ = c.args.at in
    let xs : List ℕ = column_in (drop at bs) in
    let size : length xs ≡ 54 = column_rows (drop at bs) in
    let none : drop c.loop-k.k xs ≡ [] = drop_of_length-le xs {i = c.loop-k.k} (omega arith) in
    let risen : rises_from 0 xs ≡ true = c.loop-k.invariant.rest ∙ ap (rises_from c.loop-k.before) none in
    let start : get_or xs 0 0 ≡ c.two.result = placed_entry bs at 0 (omega arith) ∙ ap (λ (i : ℕ). spelled 0 (part i 2 bs)) (add-zero at) ∙ sym c.two.ensures in
    let end : get_or xs last_row 0 ≡ c.two-2.result = placed_entry bs at last_row (omega arith) ∙ sym c.two-2.ensures in
    simp (size, start, risen, end, and-true)
