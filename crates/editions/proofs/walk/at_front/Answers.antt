-- Each way out is what the front of the bytes says.
use Rattle.std.proofs.Common.{◌≡◌, ℕ, ◌+◌, true, false, List, length, take, sym, ap, ◌∙◌, arith}
use mathlib.Core.Path.{ap₂}
use Rattle.rules.specs.Record.{length_field}
use Rattle.rules.specs.Edition.{number_field, accepted}
use Rattle.rules.specs.Store.{ends, first_entry}
use Rattle.laws.proofs.Editions.{edition_accepted}
use Rattle.laws.proofs.StoreEnds.{ends_short, ends_zero, not_end}
use Rattle.laws.proofs.StoreWalk.{edition_front, cut_short, front_end, front_refused, front_low, front_edition}
use Rattle.editions.proofs.walk.at_front.Goals as goal

-- the entry that is cut out is the first one
entry : (rest : List ℕ) (follow : ℕ) → follow ≡ length_field rest → take (2 + follow) rest ≡ first_entry rest
unfolding first_entry
entry rest follow is = ap (λ (n : ℕ). take (2 + n) rest) is

-- so it is accepted, if what is cut out is
taken : (rest : List ℕ) (follow : ℕ) → follow ≡ length_field rest → accepted (take (2 + follow) rest) ≡ true → accepted (first_entry rest) ≡ true
taken rest follow is t = ap accepted (sym (entry rest follow is)) ∙ t

pub returns-then-rest-lt2 : goal.returns-then-rest-lt2
returns-then-rest-lt2 c = front_end _ _ (ends_short c.args.rest.now c.if-rest-lt2.true)

pub returns-then-follow-eq0 : goal.returns-then-follow-eq0
returns-then-follow-eq0 c = front_end _ _ (ends_zero c.args.rest.now (sym c.two-follow.ensures ∙ c.if-follow-eq0.true))

pub returns-then-rest-follow : goal.returns-then-rest-follow
returns-then-rest-follow c =
    let going_on : ends c.args.rest.now ≡ false = not_end c.args.rest.now c.if-rest-lt2.false (λ z. c.if-follow-eq0.false (c.two-follow.ensures ∙ z)) in
    front_refused _ _ going_on (cut_short c.args.rest.now (omega arith) (omega arith))

pub returns-then-not-accepted : goal.returns-then-not-accepted
returns-then-not-accepted c =
    let rest : List ℕ = c.args.rest.now in
    let going_on : ends rest ≡ false = not_end rest c.if-rest-lt2.false (λ z. c.if-follow-eq0.false (c.two-follow.ensures ∙ z)) in
    let not_taken : accepted (first_entry rest) ≡ false =
    ap accepted (sym (entry rest _ c.two-follow.ensures)) ∙ sym c.accepted.ensures ∙ c.if-not-accepted.true in
    front_refused _ _ going_on not_taken

pub two-number-requires : goal.two-number-requires
two-number-requires c =
    let rest : List ℕ = c.args.rest.now in
    let a = edition_accepted (first_entry rest) (rw (taken rest _ c.two-follow.ensures (sym c.accepted.ensures ∙ c.if-not-accepted.false)) tt) in
    omega (arith, ap length (entry rest _ c.two-follow.ensures))

pub returns-then-number-least : goal.returns-then-number-least
returns-then-number-least c =
    let rest : List ℕ = c.args.rest.now in
    let going_on : ends rest ≡ false = not_end rest c.if-rest-lt2.false (λ z. c.if-follow-eq0.false (c.two-follow.ensures ∙ z)) in
    front_low _ _ going_on (omega (arith, ap number_field (entry rest _ c.two-follow.ensures), c.two-number.ensures))

pub returns : goal.returns
returns c =
    let rest : List ℕ = c.args.rest.now in
    let going_on : ends rest ≡ false = not_end rest c.if-rest-lt2.false (λ z. c.if-follow-eq0.false (c.two-follow.ensures ∙ z)) in
    let number : c.two-number.result ≡ number_field (first_entry rest) = c.two-number.ensures ∙ ap number_field (entry rest _ c.two-follow.ensures) in
    ap₂ (λ (n m : ℕ). edition_front (2 + n) m) c.two-follow.ensures number
    ∙ front_edition _ _ going_on (omega arith) (taken rest _ c.two-follow.ensures (sym c.accepted.ensures ∙ c.if-not-accepted.false)) (omega (arith, number))
