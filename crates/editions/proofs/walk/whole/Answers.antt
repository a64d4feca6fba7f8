-- What stands at the front of the bytes that are left ends the walk, or is one edition more.
use Rattle.std.proofs.Common.{◌≡◌, ℕ, ◌-◌, List, length, take, drop, sym, ap, ◌∙◌, rules, arith, length-drop}
use lib.Seq.{take_all}
use Rattle.std.specs.Prelude.{Option, Ok, Err}
use Rattle.rules.specs.declared.store.Entry.{Entry}
use Rattle.rules.specs.declared.store.Walked.{Walked}
use Rattle.rules.specs.Said.{Said}
use Rattle.laws.specs.StoreWalk.{front_of, store_walk}
use Rattle.laws.proofs.StoreWalk.{kept_end, kept_damaged, kept_ninth, kept_next}
use Rattle.editions.proofs.walk.whole.Goals as goal

-- the bytes that are cut out are those that are left
front_at :
    {f g : Said (Option Entry)} (s : List ℕ) (w : Walked) → f ≡ front_of w.least (take (length s - w.end) (drop w.end s)) → f ≡ g →
    g ≡ front_of w.least (drop w.end s)
front_at s w is same = sym same ∙ is ∙ ap (front_of w.least) (take_all (length s - w.end) (drop w.end s) (omega (arith, length-drop w.end s)))

pub returns-in_err-entry : goal.returns-in_err-entry
returns-in_err-entry c =
    let same : Err c.in_err-entry.field-0.0 ≡ store_walk c.args.named c.args.store.now =
    kept_damaged _ _ _ c.loop-entry.invariant (front_at c.args.store.now c.loop-entry.w c.at_front.ensures c.in_err-entry.was) in
    search rules

pub returns-then-w-eq-MOST_EDITIONS : goal.returns-then-w-eq-MOST_EDITIONS
returns-then-w-eq-MOST_EDITIONS c =
    kept_ninth _ _ _ c.loop-entry.invariant c.in-Some.entry.size c.in-Some.entry.number
    (front_at c.args.store.now c.loop-entry.w c.at_front.ensures (c.in_ok-entry.was ∙ ap Ok c.in-Some.is)) c.if-w-eq-MOST_EDITIONS.true

pub passed-w-requires : goal.passed-w-requires
passed-w-requires c =
    let k = kept_next _ _ _ c.loop-entry.invariant c.in-Some.entry.size c.in-Some.entry.number
    (front_at c.args.store.now c.loop-entry.w c.at_front.ensures (c.in_ok-entry.was ∙ ap Ok c.in-Some.is)) (omega arith) in
    omega arith

pub loop-entry-preserved : goal.loop-entry-preserved
loop-entry-preserved c =
    rw c.passed-w.ensures
    (kept_next _ _ _ c.loop-entry.invariant c.in-Some.entry.size c.in-Some.entry.number
    (front_at c.args.store.now c.loop-entry.w c.at_front.ensures (c.in_ok-entry.was ∙ ap Ok c.in-Some.is)) (omega arith))

pub returns : goal.returns
returns c =
    kept_end _ _ _ c.loop-entry.invariant
    (front_at c.args.store.now c.loop-entry.w c.at_front.ensures (c.in_ok-entry.was ∙ ap Ok (search rules)))
