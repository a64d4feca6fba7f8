-- A refused lot has no row; else each double is that of the totals.
use Rattle.std.proofs.Common.{◌≡◌, refl, sym, ap, ◌∙◌, rules}
use Rattle.std.specs.Prelude.{Ok, Err}
use Rattle.rules.specs.declared.Percentages.{Percentages}
use Rattle.rules.specs.declared.Row.{Row}
use Rattle.rules.specs.Store.{table_in}
use Rattle.rules.specs.Entries.{row_says}
use Rattle.rules.specs.Notebook.{over, row_of}
use Rattle.laws.proofs.Columned.{placed_percentages, column_is_found}
use Rattle.laws.proofs.Lent.{lent_accepted, lent_refused}
use Rattle.notebook.proofs.row.Goals as goal

pub mean_of-requires : goal.mean_of-requires
mean_of-requires c = (lent_accepted _ _ _ _ c.lent.ensures.0 c.in_ok-lot.was).bounded

pub deviation_of-requires : goal.deviation_of-requires
deviation_of-requires c = (lent_accepted _ _ _ _ c.lent.ensures.0 c.in_ok-lot.was).bounded

pub pwl_of-requires : goal.pwl_of-requires
pwl_of-requires c =
    let h = lent_accepted _ _ _ _ c.lent.ensures.0 c.in_ok-lot.was in
    let f = column_is_found _ _ refl c.lent.ensures.1 c.in_ok-lot.was in
    (h.bounded, h.upper_in_range, h.lower_in_range, f.within, f.shape)

pub returns-in_err-lot : goal.returns-in_err-lot
returns-in_err-lot c =
    let same : Err c.in_err-lot.field-0.0 ≡ row_says (table_in c.args.store.now c.args.edition) c.args.limits.upper c.args.limits.lower c.args.bytes.now =
    sym (lent_refused _ _ _ _ c.lent.ensures.0 c.in_err-lot.was) in
    search rules

pub returns : goal.returns
unfolding row_of
returns c =
    let f = column_is_found _ _ refl c.lent.ensures.1 c.in_ok-lot.was in
    let pwl = c.pwl_of.ensures ∙ ap (λ (p : Percentages). over p.pwl.0 100) (placed_percentages _ _ _ f) in
    ap (λ (row : Row). Ok row) (λ i. record { mean = c.mean_of.ensures i; deviation = c.deviation_of.ensures i; pwl = pwl i })
    ∙ sym (lent_accepted _ _ _ _ c.lent.ensures.0 c.in_ok-lot.was).row
