-- A lot starts within the job. Every lot but the last has ten, and the last is filled in after them.
use Rattle.std.proofs.Common.{◌≡◌, ℕ, ◌+◌, ◌-◌, ◌*◌, List, ◌++◌, take, drop, sym, ap, ◌∙◌, arith}
use Rattle.rules.specs.Job.{cut, item_numbers}
use Rattle.laws.proofs.JobLots.{starts_within}
use Rattle.laws.proofs.JobNumbers.{ten_is_at, last_is_at, item_filled, all_filled}
use Rattle.job.proofs.fill.Goals as goal

pub returns-in_default : goal.returns-in_default
returns-in_default c = let none = c.in_default.ensures in all_filled c.args.sublots 0 c.args.lots c.args.out.now c.requires.1 (omega arith)

pub overflow_add-start : goal.overflow_add-start
overflow_add-start c = let last = c.in-Some.ensures in omega (arith, starts_within c.args.sublots c.loop-i.i (omega arith))

pub loop-i-preserved : goal.loop-i-preserved
loop-i-preserved c =
    let last = c.in-Some.ensures in
    let is = ten_is_at c.args.sublots c.loop-i.i (omega arith) in
    record {
      filled = item_filled c.args.sublots c.loop-i.i c.args.out.now c.loop-i.out (is.0 ∙ sym c.loop-i.invariant.begins, is.1) (omega arith) (omega arith) c.loop-i.invariant.filled;
      begins = omega arith;
    }

pub overflow_sub-out : goal.overflow_sub-out
overflow_sub-out c = let last = c.in-Some.ensures in omega (arith, starts_within c.args.sublots c.in-Some.last (omega arith))

pub returns : goal.returns
returns c =
    let last = c.in-Some.ensures in
    let s : ℕ = c.args.sublots in
    let all : c.loop-i.i ≡ c.in-Some.last = omega arith in
    let begins : c.loop-i.start ≡ 10 * c.in-Some.last = omega arith in
    let numbers : List ℕ = item_numbers (cut s) in
    let before = c.loop-i.invariant.filled ∙ ap (λ (k : ℕ). take (2 * k) numbers ++ drop (2 * k) c.args.out.now) all in
    let is = last_is_at s c.in-Some.last (omega arith) in
    item_filled s c.in-Some.last c.args.out.now c.loop-i.out (is.0 ∙ sym begins, is.1 ∙ ap (λ (k : ℕ). s - k) (sym begins)) (omega arith) (omega arith) before
    ∙ all_filled s (c.in-Some.last + 1) c.args.lots c.args.out.now c.requires.1 (omega arith)
