-- Bytes of a fitting size spell the numbers that the walk goes over; any other size is refusal 4.
use Rattle.std.proofs.Common.{◌≡◌, ℕ, List, ◌/◌, length, true, sym, ap, ◌∙◌, not, rules}
use Rattle.std.specs.Prelude.{Err}
use Rattle.fields.specs.declared.words.Walked.{Walked}
use Rattle.rules.specs.declared.Totals.{Totals}
use Rattle.rules.specs.Units.{Limit}
use Rattle.rules.specs.Said.{Said}
use Rattle.rules.specs.Record.{fours}
use Rattle.rules.specs.Refusals.{size_fits}
use Rattle.rules.specs.Meets.{bytes_meet}
use Rattle.rules.specs.Notebook.{lent_lot}
use Rattle.laws.specs.Totalled.{walk_says, said_of, with_limits_say, totalled}
use Rattle.laws.proofs.Ruled.{ruled_met}
use Rattle.laws.proofs.Lots.{walked_with_limits, with_limits_of}
use Rattle.laws.proofs.Lent.{fitting_totals}
use Rattle.notebook.proofs.totals.Goals as goal

abbrev totals_of : Said Walked → Said Totals
totals_of said = said_of (λ (w : Walked). w.totals) said

-- What the walk and the limits say of the totals is what is said of the lot.
said_of_lot :
    (upper lower : Limit) (bs : List ℕ) (walked met : Said Walked) → totals_of walked ≡ walk_says (fours (length bs / 4) bs) →
    met ≡ with_limits_say upper lower walked → size_fits (length bs) ≡ true → totals_of met ≡ totalled (bytes_meet bs) (lent_lot upper lower bs)
said_of_lot upper lower bs walked met e f fits =
    ap totals_of f
    ∙ with_limits_of (λ (w : Walked). w.totals) upper lower walked
    ∙ ap (with_limits_say upper lower) e
    ∙ walked_with_limits upper lower (fours (length bs / 4) bs)
    ∙ sym (fitting_totals upper lower bs fits)

pub returns-then-not-size_fits : goal.returns-then-not-size_fits
unfolding totalled
returns-then-not-size_fits c = sym (ruled_met _ _ _ (ap not (sym c.if-not-size_fits.ensures)))

pub returns-in_err-walked : goal.returns-in_err-walked
returns-in_err-walked c =
    let bs : List ℕ = c.args.bytes.now in
    let same : Err c.in_err-walked.field-0.0 ≡ totalled (bytes_meet bs) (lent_lot c.args.limits.upper c.args.limits.lower bs) =
    ap totals_of (sym c.in_err-walked.was) ∙ said_of_lot c.args.limits.upper c.args.limits.lower bs c.walk.result c.met.result c.walk.ensures.said_value c.met.ensures (sym c.if-not-size_fits.ensures) in
    search rules

pub returns : goal.returns
returns c =
    ap totals_of (sym c.in_ok-walked.was)
    ∙ said_of_lot c.args.limits.upper c.args.limits.lower c.args.bytes.now c.walk.result c.met.result c.walk.ensures.said_value c.met.ensures (sym c.if-not-size_fits.ensures)
