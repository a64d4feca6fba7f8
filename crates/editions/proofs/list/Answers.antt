-- A refusal leaves the list as it was; else it begins with the numbers.
use Rattle.std.proofs.Common.{◌≡◌, ℕ, List, ◌++◌, length, drop, sym, ap, ◌∙◌, rules, arith}
use lib.ListN.{length-map}
use Rattle.std.specs.Prelude.{Err}
use Rattle.rules.specs.declared.Refusal.{Refusal}
use Rattle.rules.specs.declared.store.Walked.{Walked}
use Rattle.rules.specs.Said.{Said}
use Rattle.rules.specs.Edition.{number_field}
use Rattle.rules.specs.Store.{editions, numbers}
use Rattle.rules.specs.Editions.{listing_says}
use Rattle.rules.specs.Entries.{written}
use Rattle.laws.specs.StoreWalk.{store_walk}
use Rattle.laws.proofs.StoreKnown.{walk_ends_known, walk_is_unsound}
use Rattle.laws.proofs.StoreAnswers.{listing_unsound, listing_short, listing_answers}
use Rattle.editions.proofs.list.Goals as goal

unsound : (s out : List ℕ) {said : Said Walked} {r : Refusal} → said ≡ store_walk 0 s → said ≡ Err r → Err r ≡ listing_says s out
unsound s out e h = let told = walk_is_unsound 0 s e h in ap Err told.1 ∙ listing_unsound s out told.0

pub fill-requires : goal.fill-requires
fill-requires c =
    let k = walk_ends_known 0 c.args.store.now c.whole.ensures c.in_ok-count.was in
    (k.sound, k.count_is, omega arith)

pub returns-in_err-count-clause-result_value : goal.returns-in_err-count-clause-result_value
returns-in_err-count-clause-result_value c =
    let same : Err c.in_err-count.field-0.0 ≡ listing_says c.args.store.now c.args.out.now = unsound _ _ c.whole.ensures c.in_err-count.was in
    search rules

pub returns-in_err-count-clause-out_after : goal.returns-in_err-count-clause-out_after
unfolding written
returns-in_err-count-clause-out_after c =
    ap (written (numbers (editions c.args.store.now)) c.args.out.now) (unsound _ _ c.whole.ensures c.in_err-count.was)

pub returns-then-out-count-clause-result_value : goal.returns-then-out-count-clause-result_value
returns-then-out-count-clause-result_value c = listing_short _ c.args.out.now _ (walk_ends_known 0 c.args.store.now c.whole.ensures c.in_ok-count.was) (omega arith)

pub returns-then-out-count-clause-out_after : goal.returns-then-out-count-clause-out_after
unfolding written
returns-then-out-count-clause-out_after c =
    ap (written (numbers (editions c.args.store.now)) c.args.out.now)
    (listing_short _ c.args.out.now _ (walk_ends_known 0 c.args.store.now c.whole.ensures c.in_ok-count.was) (omega arith))

pub returns-clause-result_value : goal.returns-clause-result_value
returns-clause-result_value c = listing_answers _ c.args.out.now _ (walk_ends_known 0 c.args.store.now c.whole.ensures c.in_ok-count.was) (omega arith)

pub returns-clause-out_after : goal.returns-clause-out_after
unfolding written
returns-clause-out_after c =
    let new : List ℕ = numbers (editions c.args.store.now) in
    let k = walk_ends_known 0 c.args.store.now c.whole.ensures c.in_ok-count.was in
    let count : c.in_ok-count.field-0.count ≡ length new = k.count_is ∙ sym (length-map (editions c.args.store.now) number_field) in
    c.fill.ensures
    ∙ ap (λ (n : ℕ). new ++ drop n c.args.out.now) count
    ∙ ap (written new c.args.out.now) (listing_answers _ c.args.out.now _ k (omega arith))
