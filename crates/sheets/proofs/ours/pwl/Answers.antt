-- A refusal is passed on; else the PWL is that of the totals of the lot, by the column where it stands in the store.
use Rattle.std.proofs.Common.{◌≡◌, ℕ, List, sym, ap, ◌∙◌, rules}
use Rattle.std.specs.Prelude.{Option, Ok, Err}
use Rattle.rules.specs.declared.Percentages.{Percentages}
use Rattle.rules.specs.declared.Totals.{Totals}
use Rattle.rules.specs.Said.{Said}
use Rattle.rules.specs.Lot.{Lot, lot_in}
use Rattle.rules.specs.Meets.{counted_meets, evaluation_meets}
use Rattle.rules.specs.Check.{pwl_says}
use Rattle.laws.specs.StoreWalk.{table_at}
use Rattle.laws.specs.Totalled.{with_column_say, totalled, by_table}
use Rattle.laws.proofs.Accepted.{totalled_with_column, lot_totalled}
use Rattle.laws.proofs.Columned.{placed_percentages, column_placed}
use Rattle.laws.proofs.Lots.{lot_in_counted}
use Rattle.laws.proofs.OurSheet.{totalled_pwl_is_said, untotalled_pwl_is_refused}
use Rattle.sheets.proofs.ours.pwl.Goals as goal

-- What is said of the lot where its column is asked for too.
asked :
    (edition : Said (Option ℕ)) (s : List ℕ) (lot : Lot) {said told : Said Totals} → said ≡ totalled counted_meets lot →
    told ≡ with_column_say edition s said → told ≡ totalled (by_table (table_at edition s)) lot
unfolding evaluation_meets
asked edition s lot f g = g ∙ ap (with_column_say edition s) f ∙ totalled_with_column edition s counted_meets lot

pub percentages-requires : goal.percentages-requires
percentages-requires c =
    let said = asked c.args.edition c.args.store.now _ c.held.ensures c.with_column.ensures.0 in
    let h = lot_totalled _ _ (lot_in_counted c.args.lot (search rules)) said c.in_ok-columned.was in
    let f = column_placed _ _ c.requires c.with_column.ensures.1 c.in_ok-columned.was in
    rw c.limits.ensures (h.bounded, h.accepted.upper_in_range, h.accepted.lower_in_range, f.within, f.shape)

pub returns-in_err-columned : goal.returns-in_err-columned
returns-in_err-columned c =
    let said = asked c.args.edition c.args.store.now _ c.held.ensures c.with_column.ensures.0 in
    let same : Err c.in_err-columned.field-0.0 ≡ pwl_says (table_at c.args.edition c.args.store.now) (lot_in c.args.lot) = sym (untotalled_pwl_is_refused _ _ said c.in_err-columned.was) in
    search rules

pub returns : goal.returns
returns c =
    let said = asked c.args.edition c.args.store.now _ c.held.ensures c.with_column.ensures.0 in
    let h = lot_totalled _ _ (lot_in_counted c.args.lot (search rules)) said c.in_ok-columned.was in
    let f = column_placed _ _ c.requires c.with_column.ensures.1 c.in_ok-columned.was in
    ap (λ (p : Percentages). Ok p.pwl) (rw c.limits.ensures at c.percentages.ensures ∙ placed_percentages _ _ _ f) ∙ totalled_pwl_is_said h
