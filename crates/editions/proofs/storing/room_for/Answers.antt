-- What the walk knows of the store, and the edition's own number and size, decide.
use Rattle.std.proofs.Common.{◌≡◌, true, sym, ap, ◌∙◌, rules, arith}
use Rattle.std.specs.Prelude.{Err}
use Rattle.rules.specs.Edition.{accepted}
use Rattle.rules.specs.Editions.{storing_says}
use Rattle.laws.proofs.Editions.{edition_accepted}
use Rattle.laws.proofs.StoreKnown.{walk_ends_known, walk_is_unsound}
use Rattle.laws.proofs.StoreAnswers.{storing_unsound, storing_refused, storing_low, storing_full, storing_no_room, storing_stores}
use Rattle.editions.proofs.storing.room_for.Goals as goal

pub returns-in_err-w : goal.returns-in_err-w
returns-in_err-w c =
    let told = walk_is_unsound 0 c.args.store.now c.whole.ensures c.in_err-w.was in
    let same : Err c.in_err-w.field-0.0 ≡ storing_says c.args.store.now c.args.edition.now = ap Err told.1 ∙ storing_unsound _ _ told.0 in
    search rules

pub returns-then-not-accepted : goal.returns-then-not-accepted
returns-then-not-accepted c =
    let k = walk_ends_known 0 c.args.store.now c.whole.ensures c.in_ok-w.was in
    storing_refused _ _ _ k (sym c.accepted.ensures ∙ c.if-not-accepted.true)

pub two-requires : goal.two-requires
two-requires c =
    let taken : accepted c.args.edition.now ≡ true = sym c.accepted.ensures ∙ c.if-not-accepted.false in
    let a = edition_accepted c.args.edition.now (rw taken tt) in
    omega arith

pub returns-then-two-w : goal.returns-then-two-w
returns-then-two-w c =
    let k = walk_ends_known 0 c.args.store.now c.whole.ensures c.in_ok-w.was in
    storing_low _ _ _ k (sym c.accepted.ensures ∙ c.if-not-accepted.false) (omega (arith, c.two.ensures))

pub returns-then-w-eq-MOST_EDITIONS : goal.returns-then-w-eq-MOST_EDITIONS
returns-then-w-eq-MOST_EDITIONS c =
    let k = walk_ends_known 0 c.args.store.now c.whole.ensures c.in_ok-w.was in
    storing_full _ _ _ k (sym c.accepted.ensures ∙ c.if-not-accepted.false) (omega (arith, c.two.ensures)) c.if-w-eq-MOST_EDITIONS.true

pub overflow_sub-store : goal.overflow_sub-store
overflow_sub-store c = (walk_ends_known 0 c.args.store.now c.whole.ensures c.in_ok-w.was).within

pub returns-then-store-w : goal.returns-then-store-w
returns-then-store-w c =
    let k = walk_ends_known 0 c.args.store.now c.whole.ensures c.in_ok-w.was in
    storing_no_room _ _ _ k (sym c.accepted.ensures ∙ c.if-not-accepted.false) (omega (arith, c.two.ensures)) (omega arith) c.if-store-w.true

pub returns : goal.returns
returns c =
    let k = walk_ends_known 0 c.args.store.now c.whole.ensures c.in_ok-w.was in
    storing_stores _ _ _ k (sym c.accepted.ensures ∙ c.if-not-accepted.false) (omega (arith, c.two.ensures)) (omega arith) c.if-store-w.false
