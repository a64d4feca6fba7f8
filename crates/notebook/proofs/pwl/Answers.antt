-- A refused lot's PWL is 0; else it is that of the totals, and so the row's.
use Rattle.std.proofs.Common.{refl, sym, ap, ◌∙◌}
use Rattle.std.specs.Float.Ieee.{of_bits}
use Rattle.rules.specs.declared.Percentages.{Percentages}
use Rattle.rules.specs.Notebook.{over, row_of, pwl_asked}
use Rattle.laws.proofs.Columned.{placed_percentages, column_is_found}
use Rattle.laws.proofs.Lent.{lent_accepted, lent_refused}
use Rattle.notebook.proofs.pwl.Goals as goal

pub pwl_of-requires : goal.pwl_of-requires
pwl_of-requires c =
    let h = lent_accepted _ _ _ _ c.lent.ensures.0 c.in-Ok.is in
    let f = column_is_found _ _ refl c.lent.ensures.1 c.in-Ok.is in
    (h.bounded, h.upper_in_range, h.lower_in_range, f.within, f.shape)

pub returns-in_default : goal.returns-in_default
unfolding of_bits
returns-in_default c = sym (ap pwl_asked (lent_refused _ _ _ _ c.lent.ensures.0 c.in_default.is))

pub returns : goal.returns
unfolding row_of
returns c =
    let f = column_is_found _ _ refl c.lent.ensures.1 c.in-Ok.is in
    c.pwl_of.ensures
    ∙ ap (λ (p : Percentages). over p.pwl.0 100) (placed_percentages _ _ _ f)
    ∙ sym (ap pwl_asked (lent_accepted _ _ _ _ c.lent.ensures.0 c.in-Ok.is).row)
