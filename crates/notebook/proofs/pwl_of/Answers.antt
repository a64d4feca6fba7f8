-- PWL is a small number, so that its conversion is exact.
use Rattle.std.proofs.Common.{◌≤◌, ap, arith, nat_abs, SFits, rules}
use mir.Syntax.{w32}
use Rattle.integers.proofs.Magnitude.{fits_of}
use Rattle.rules.specs.declared.Percentages.{Percentages}
use Rattle.rules.specs.Notebook.{over}
use Rattle.laws.proofs.Lent.{pwl_small}
use Rattle.notebook.proofs.pwl_of.Goals as goal

pub overflow_cast-result : goal.overflow_cast-result
overflow_cast-result c =
    let small : nat_abs c.percentages-p.result.pwl.0 ≤ 30000 = rw c.percentages-p.ensures (pwl_small c.args.lot.totals c.requires.4 c.args.limits.upper c.args.limits.lower) in
    let f : SFits w32 c.percentages-p.result.pwl.0 = fits_of w32 (omega (arith, small)) in
    search rules

pub returns : goal.returns
returns c =
    let small : nat_abs c.percentages-p.result.pwl.0 ≤ 30000 = rw c.percentages-p.ensures (pwl_small c.args.lot.totals c.requires.4 c.args.limits.upper c.args.limits.lower) in
    let f : SFits w32 c.percentages-p.result.pwl.0 = fits_of w32 (omega (arith, small)) in
    search (rules, ap (λ (p : Percentages). over p.pwl.0 100) c.percentages-p.ensures)
