-- A refusal is passed on; else T, which fits, is the sum of the readings.
use Rattle.std.proofs.Common.{◌≡◌, rules, sym, ap, ◌∙◌, arith, SFits}
use Rattle.std.specs.Prelude.{Ok, Err}
use mir.Syntax.{w32, w64}
use mir.Facts.{to_z-of_z}
use Rattle.integers.proofs.Magnitude.{fits_of}
use Rattle.rules.specs.declared.Totals.{Totals}
use Rattle.rules.specs.declared.Mean.{Mean}
use Rattle.rules.specs.Units.{thousandths}
use Rattle.rules.specs.Said.{Said}
use Rattle.rules.specs.Entries.{mean_says}
use Rattle.laws.specs.Totalled.{totals_says}
use Rattle.laws.proofs.Ruled.{ruled_unrefused, totals_refused}
use Rattle.laws.proofs.Accepted.{readings_totalled}
use Rattle.laws.proofs.Bounds.{total_bound}
use Rattle.readings.proofs.mean.Goals as goal

abbrev mean_of : Totals → Said Mean
mean_of a = Ok (record { total = thousandths a.t; count = a.n })

pub overflow_cast-result : goal.overflow_cast-result
overflow_cast-result c =
    let b = total_bound (readings_totalled c.args.readings.now c.totals.ensures c.in_ok-a.was).bounded in
    let f : SFits w64 c.in_ok-a.a.t = fits_of w64 (omega arith) in
    simp to_z-of_z (fits_of w32 (omega arith))

pub returns-in_err-a : goal.returns-in_err-a
unfolding mean_says totals_says
returns-in_err-a c =
    let same : Err c.in_err-a.field-0.0 ≡ mean_says c.args.readings.now = sym (totals_refused _ _ c.totals.ensures _ c.in_err-a.was) in
    search rules

pub returns : goal.returns
unfolding mean_says
returns c =
    let h = readings_totalled c.args.readings.now c.totals.ensures c.in_ok-a.was in
    let b = total_bound h.bounded in
    let f : SFits w64 c.in_ok-a.a.t = fits_of w64 (omega arith) in
    let g : SFits w32 c.in_ok-a.a.t = fits_of w32 (omega arith) in
    simp to_z-of_z
    (ap mean_of (sym h.same) ∙ sym (ruled_unrefused _ _ h.unrefused))
