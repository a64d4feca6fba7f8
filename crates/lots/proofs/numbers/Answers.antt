-- A step copies one place more.
use Rattle.std.proofs.Common.{◌≡◌, ◌∙◌, rules, arith, pos, List, length, length-set, get_or, SFits}
use native.Mathlib.Numerals.{add-one}
use mir.Syntax.{w32}
use mir.Facts.{to_z-of_z}
use Rattle.rules.specs.declared.Thousandths.{Thousandths}
use Rattle.rules.specs.Units.{thousandths}
use Rattle.rules.specs.Lot.{most}
use Rattle.laws.proofs.Lists.{made_suc}
use Rattle.lots.proofs.numbers.Goals as goal

pub loop-i-preserved : goal.loop-i-preserved
loop-i-preserved c =
    let xs : List Thousandths = c.args.readings in
    let inv = c.loop-i.invariant in
    let size : length xs ≡ most = search rules in
    let f : SFits w32 (get_or xs c.loop-i.i (thousandths (pos 0))).0 = search rules in
    simp to_z-of_z (length-set c.loop-i.numbers c.loop-i.i _ ∙ inv.0, rw (add-one c.loop-i.i) (made_suc (λ (x : Thousandths). x.0) xs c.loop-i.numbers c.loop-i.i (thousandths (pos 0)) (omega arith) (omega arith) inv.1))
