-- Any row of the notebook that the promises of `notebook::row` and `tulpavice_row` allow is as published (demand 2).
use mathlib.Core.Path.{◌≡◌, refl, sym, ap, ◌∙◌}
use mathlib.Core.List.{List, ◌++◌}
use Prim.Native.Nat.{ℕ, ◌/◌}
use native.Mathlib.Omega.{arith}
use borrow.Author.Tests.{not-false}
use lib.IntN.{ℤ}
use lib.ListN.{length}
use Rattle.std.specs.Prelude.{Ok}
use Rattle.rules.specs.Units.{Limit}
use Rattle.rules.specs.declared.Percentages.{Percentages}
use Rattle.rules.specs.declared.Row.{Row}
use Rattle.rules.specs.declared.host.HostRow.{HostRow}
use Rattle.rules.specs.Said.{checked}
use Rattle.rules.specs.Lot.{Lot, lot_of}
use Rattle.rules.specs.Table.{Table, Found, entries}
use Rattle.rules.specs.Percent.{nearest, sum}
use Rattle.rules.specs.Record.{fours}
use Rattle.rules.specs.Refusals.{size_fits, bytes_count_case, store_case}
use Rattle.rules.specs.Meets.{lot_meets, counted_meets, column_meets, evaluation_meets, row_meets}
use Rattle.rules.specs.Notebook.{lent_limit, lent_lot, row_of}
use Rattle.rules.specs.Entries.{deviation_of, percentages, evaluated, evaluation_says, row_says}
use Rattle.rules.specs.Host.{given_row, host_row}
use Rattle.laws.specs.AsPublished.{RowAsPublished}
use Rattle.laws.specs.Given.{given_row_of}
use Rattle.laws.specs.Totalled.{by_table}
use Rattle.laws.proofs.Ruled.{ruled_answers, ruled_unrefused, none_met, none_of_either}
use Rattle.laws.proofs.Accepted.{lot_accepted}
use Rattle.laws.proofs.Lent.{lent_lot_is_listed, fitting_meets}
use Rattle.laws.proofs.PublishedIndex.{mean_is}
use Rattle.laws.proofs.PublishedDeviation.{deviation_is_nearest}
use Rattle.laws.proofs.PublishedAnswers.{answer_is_published}
use Rattle.laws.proofs.Given.{row_given}

-- the row of a lot
abbrev row_of_lot : Table → Lot → Row
row_of_lot table lot =
    row_of (sum lot.readings) lot.n (deviation_of lot.n lot.readings) (percentages nearest (entries (table lot.n)) lot).pwl.0

module _ (table : Table) (upper lower : Limit) (bs : List ℕ) where
  -- the numbers that the bytes spell
  abbrev xs : List ℤ
  xs = fours (length bs / 4) bs

  -- A row that is answered is the row of the lot of those numbers, and that lot is not refused a percentage.
  row_answered : (row : Row) → row_says table upper lower bs ≡ Ok row → (checked (by_table table (lot_of upper lower xs)) ≡ Ok tt) × (row_of_lot table (lot_of upper lower xs) ≡ row)
  unfolding row_says row_meets
  row_answered row e =
      let lot : Lot = lent_lot upper lower bs in
      let found : Found = table lot.n in
      let r = ruled_answers (row_meets bs found lot) (row_of_lot table lot) row e in
      let fits = not-false (size_fits (length bs)) (none_met (bytes_count_case bs) (lot_meets lot ++ column_meets found) (none_met (store_case found) _ r.0).1).0 in
      (sym (fitting_meets upper lower bs table tt fits) ∙ r.0, ap (row_of_lot table) (sym (lent_lot_is_listed upper lower bs)) ∙ r.1)

  pub row_answer_is_published : (row : Row) → (Ok row) ≡ row_says table upper lower bs → RowAsPublished table upper lower xs row
  unfolding row_of evaluation_says evaluated evaluation_meets
  row_answer_is_published row e =
      let lot : Lot = lot_of upper lower xs in
      let r = row_answered row (sym e) in
      let p : Percentages = percentages nearest (entries (table lot.n)) lot in
      let ok = lot_accepted lot (none_of_either (counted_meets lot) (column_meets (table lot.n)) (none_met (store_case (table lot.n)) _ r.0).1).0 in
      rw (sym r.1)
      (record {
        total = sum xs;
        mean = mean_is xs (omega (arith, ok.least));
        mean_double = refl;
        thousandths = deviation_of (length xs) xs;
        deviation = deviation_is_nearest xs ok.least;
        deviation_double = refl;
        percentages = p;
        by_the_table = answer_is_published table upper lower xs p (sym (ruled_unrefused (by_table table lot) p r.0));
        pwl_double = refl;
      })

-- of what C is given in one call, each double of which is also given by itself
pub given_row_is_published :
    (table : Table) (upper : ℤ) (upper_presence : ℕ) (lower : ℤ) (lower_presence : ℕ) (bs : List ℕ) (r : HostRow) →
    r ≡ host_row (given_row table upper upper_presence lower lower_presence bs) → r.refusal.number ≡ 0 →
    RowAsPublished table (lent_limit upper upper_presence) (lent_limit lower lower_presence) (fours (length bs / 4) bs) (given_row_of r)
given_row_is_published table upper up lower lp bs r e z =
    row_answer_is_published table (lent_limit upper up) (lent_limit lower lp) bs (given_row_of r) (sym (row_given _ r e z))
