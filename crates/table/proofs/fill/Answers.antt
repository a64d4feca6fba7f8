-- Column after column is written; after the last the bytes begin with the whole edition.
use Rattle.std.proofs.Common.{rules, ◌≡◌, ℕ, ◌+◌, ◌-◌, List, ◌++◌, length, drop, refl, ap, ◌∙◌, arith}
use lib.Seq.{take_all, take-length}
use Rattle.std.proofs.lemmas.Slice.{put_mid-paste}
use Rattle.rules.specs.Edition.{column_place, edition_106_1}
use Rattle.laws.proofs.Lists.{copied_next}
use Rattle.laws.proofs.Twos.{bytes}
use Rattle.laws.proofs.DefaultEdition.{default_size, default_column}
use Rattle.table.proofs.fill.Goals as goal

pub loop-n-preserved : goal.loop-n-preserved
loop-n-preserved c =
    let number : ℕ = c.args.number in
    let n : ℕ = c.loop-n.n in
    let place : ℕ = column_place 2 n in
    let column : List ℕ = c.column.result in
    let size : length column ≡ 108 = omega arith in
    let copied = rw take-length at (put_mid-paste place (place + 108 - place) c.loop-n.out _ column (length column) c.copy_from_slice-in-loop-n.ensures.after (omega arith) refl) in
    let there = default_column number n column (omega arith) (omega arith) (bytes column (λ i. search rules)) size c.column.ensures in
    let next : column_place 2 (n + 1) ≡ place + length column = omega arith in
    rw next (copied ∙ copied_next (edition_106_1 number) _ column place (omega (arith, default_size number)) c.loop-n.invariant there)

pub returns : goal.returns
returns c =
    let whole = take_all 979 (edition_106_1 c.args.number) (omega (arith, default_size c.args.number)) in
    let last : c.loop-n.n ≡ 11 = omega arith in
    rw last at c.loop-n.invariant ∙ ap (λ (zs : List ℕ). zs ++ drop 979 c.args.out.now) whole
