-- A refusal is passed on; else the percentages are those of the totals of the readings, by the column where it stands in the store.
use Rattle.std.proofs.Common.{◌≡◌, sym, ap, ◌∙◌, rules}
use Rattle.std.specs.Prelude.{Ok, Err}
use Rattle.rules.specs.declared.Percentages.{Percentages}
use Rattle.rules.specs.Lot.{Lot, lot_of}
use Rattle.rules.specs.Store.{table_in}
use Rattle.rules.specs.Meets.{counted_meets, evaluation_meets}
use Rattle.rules.specs.Entries.{evaluation_says}
use Rattle.laws.proofs.Accepted.{lot_totalled, totalled_is_evaluated, untotalled_is_refused}
use Rattle.laws.proofs.Columned.{placed_percentages, found_in_store, columned_is_totalled, column_is_found}
use Rattle.laws.proofs.Lots.{lot_of_counted}
use Rattle.quality.proofs.evaluate.Goals as goal

pub with_column-requires : goal.with_column-requires
with_column-requires c = found_in_store _ _ c.named.ensures

pub percentages-requires : goal.percentages-requires
unfolding evaluation_meets
percentages-requires c =
    let said = columned_is_totalled _ _ c.named.ensures counted_meets _ c.lent.ensures c.with_column.ensures.0 in
    let h = lot_totalled _ _ (lot_of_counted c.args.limits.upper c.args.limits.lower c.args.readings.now) said c.in_ok-lot.was in
    let f = column_is_found _ _ c.named.ensures c.with_column.ensures.1 c.in_ok-lot.was in
    (h.bounded, h.accepted.upper_in_range, h.accepted.lower_in_range, f.within, f.shape)

pub returns-in_err-lot : goal.returns-in_err-lot
unfolding evaluation_says evaluation_meets
returns-in_err-lot c =
    let said = columned_is_totalled _ _ c.named.ensures counted_meets _ c.lent.ensures c.with_column.ensures.0 in
    let lot : Lot = lot_of c.args.limits.upper c.args.limits.lower c.args.readings.now in
    let same : Err c.in_err-lot.field-0.0 ≡ evaluation_says (table_in c.args.store.now c.args.edition) lot = sym (untotalled_is_refused _ _ _ said c.in_err-lot.was) in
    search rules

pub returns : goal.returns
unfolding evaluation_says evaluation_meets
returns c =
    let said = columned_is_totalled _ _ c.named.ensures counted_meets _ c.lent.ensures c.with_column.ensures.0 in
    let h = lot_totalled _ _ (lot_of_counted c.args.limits.upper c.args.limits.lower c.args.readings.now) said c.in_ok-lot.was in
    let f = column_is_found _ _ c.named.ensures c.with_column.ensures.1 c.in_ok-lot.was in
    ap (λ (p : Percentages). Ok p) (c.percentages.ensures ∙ placed_percentages _ _ _ f) ∙ totalled_is_evaluated _ h
