-- A refusal is passed on; else the search is for the V of the readings, and what it finds fits.
use Rattle.std.proofs.Common.{◌≡◌, rules, sym, ap, ◌∙◌, arith, ℕ, ℤ, pos}
use Rattle.std.specs.Prelude.{Ok, Err}
use mir.Syntax.{w32}
use mir.Val.{to_z}
use mir.Facts.{to_z_pos}
use Rattle.rules.specs.declared.Totals.{Totals}
use Rattle.rules.specs.declared.Thousandths.{Thousandths}
use Rattle.rules.specs.Units.{thousandths}
use Rattle.rules.specs.Said.{Said}
use Rattle.rules.specs.Percent.{spread}
use Rattle.rules.specs.Deviation.{deviation}
use Rattle.rules.specs.Entries.{deviation_says}
use Rattle.laws.specs.Totalled.{totals_says}
use Rattle.laws.proofs.Ruled.{ruled_unrefused, totals_refused}
use Rattle.laws.proofs.Accepted.{readings_totalled}
use Rattle.laws.proofs.Bounds.{spread_in_bounds}
use Rattle.readings.proofs.deviation.Goals as goal

abbrev answer : ℤ → Said Thousandths
answer z = Ok (thousandths z)

pub spread-requires : goal.spread-requires
spread-requires c = (readings_totalled c.args.readings.now c.totals.ensures c.in_ok-a.was).bounded

pub rounded-requires : goal.rounded-requires
rounded-requires c = spread_in_bounds (readings_totalled c.args.readings.now c.totals.ensures c.in_ok-a.was).bounded c.spread.ensures

pub returns-in_err-a : goal.returns-in_err-a
unfolding deviation_says totals_says
returns-in_err-a c =
    let same : Err c.in_err-a.field-0.0 ≡ deviation_says c.args.readings.now = sym (totals_refused _ _ c.totals.ensures _ c.in_err-a.was) in
    search rules

pub returns : goal.returns
unfolding deviation_says
returns c =
    let s : ℕ = c.rounded.result in
    let small : to_z w32 s ≡ pos s = to_z_pos w32 (omega (arith, c.rounded.ensures.1)) in
    let h = readings_totalled c.args.readings.now c.totals.ensures c.in_ok-a.was in
    ap answer (small ∙ ap pos (c.rounded.ensures.0 ∙ ap (deviation _) c.spread.ensures ∙ ap (λ (a : Totals). deviation a.n (spread a)) (sym h.same)))
    ∙ sym (ruled_unrefused _ _ h.unrefused)
