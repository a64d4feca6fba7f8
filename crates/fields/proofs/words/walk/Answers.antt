-- Each reading is the one that its four bytes spell; one out of range ends the walk, and any other is put in its place.
use Rattle.std.proofs.Common.{◌≡◌, ℕ, ◌*◌, ◌<◌, List, length, get_or, set, refl, sym, ap, ◌∙◌, ℤ, pos, arith, rules, SFits}
use mathlib.Core.Path.{ap₂}
use mir.Syntax.{w32}
use mir.Facts.{to_z-of_z}
use Rattle.std.specs.Prelude.{Err}
use Rattle.rules.specs.declared.Thousandths.{Thousandths}
use Rattle.rules.specs.declared.Totals.{Totals}
use Rattle.rules.specs.Units.{thousandths}
use Rattle.rules.specs.Lot.{most, in_places}
use Rattle.rules.specs.Record.{four, fours, part}
use Rattle.rules.specs.Said.{Said}
use Rattle.laws.specs.Totalled.{pass_says, walk_says}
use Rattle.laws.proofs.Spelled.{length_fours}
use Rattle.laws.proofs.Words.{fours_at, placed_suc}
use Rattle.laws.proofs.Walked.{walk_starts, walk_refuses, walk_goes_on, walk_ends}
use Rattle.fields.proofs.words.walk.Goals as goal

-- The reading at i is among the readings, and what one more brings is by the one that was read.
module _ (n : ℕ) (bytes : List ℕ) (i : ℕ) (inside : i < n) where
  below : i < length (fours n bytes)
  below = omega (arith, length_fours n bytes)

  by_the_read : (a : Totals) (x : ℤ) {said : Said Totals} → x ≡ four (part (4 * i) 4 bytes) → said ≡ pass_says a x → said ≡ pass_says a (get_or (fours n bytes) i (pos 0))
  by_the_read a x is said = said ∙ ap (pass_says a) (is ∙ sym (fours_at n bytes i inside))

pub loop-i-init : goal.loop-i-init
unfolding fours
loop-i-init c = (walk_starts (fours c.args.n c.args.bytes.now) (sym (length_fours c.args.n c.args.bytes.now)), refl)

pub returns-in_err-walked-clause-said_value : goal.returns-in_err-walked-clause-said_value
returns-in_err-walked-clause-said_value c =
    let n : ℕ = c.args.n in
    let bytes : List ℕ = c.args.bytes.now in
    let inside = c.loop-i-test.true in
    let said = by_the_read n bytes c.loop-i.i inside c.loop-i.walked.totals c.reading-x.result c.reading-x.ensures (search rules) in
    let same : walk_says (fours n bytes) ≡ Err c.in_err-walked.field-0.0 = (walk_refuses (fours n bytes) c.loop-i.i (below n bytes c.loop-i.i inside) {t = c.pass.result} c.loop-i.invariant.0 said c.in_err-walked.was).0 in
    search rules

pub loop-i-preserved : goal.loop-i-preserved
loop-i-preserved c =
    let n : ℕ = c.args.n in
    let bytes : List ℕ = c.args.bytes.now in
    let inside = c.loop-i-test.true in
    let f : SFits w32 c.reading-x.result = search rules in
    let few : c.loop-i.i < most = omega (arith, c.requires.0) in
    let said : c.pass.result ≡ pass_says c.loop-i.walked.totals (get_or (fours n bytes) c.loop-i.i (pos 0)) = by_the_read n bytes c.loop-i.i inside c.loop-i.walked.totals c.reading-x.result c.reading-x.ensures (search rules) in
    simp to_z-of_z (
      walk_goes_on (fours n bytes) c.loop-i.i (below n bytes c.loop-i.i inside) {t = c.pass.result} c.loop-i.invariant.0 said c.in_ok-walked.was,
      ap₂ (λ (rs : List Thousandths) (x : ℤ). set rs c.loop-i.i (thousandths x)) c.loop-i.invariant.1 c.reading-x.ensures ∙ placed_suc c.loop-i.i bytes few,
    )

pub returns-clause-said_value : goal.returns-clause-said_value
returns-clause-said_value c = (walk_ends (fours c.args.n c.args.bytes.now) c.loop-i.invariant.0 (omega (arith, length_fours c.args.n c.args.bytes.now))).1

pub returns-clause-placed : goal.returns-clause-placed
returns-clause-placed c =
    let n : ℕ = c.args.n in
    let all : c.loop-i.i ≡ n = omega (arith, c.loop-i.invariant.0.passed, length_fours n c.args.bytes.now) in
    c.loop-i.invariant.1 ∙ ap (λ (i : ℕ). in_places i (fours i c.args.bytes.now)) all
