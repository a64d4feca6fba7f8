-- Where two entries differ the difference is filled in.
use Rattle.std.proofs.Common.{◌≡◌, length, get_or, true, false, rules, arith, pos}
use Rattle.rules.specs.Sheet.{differ}
use Rattle.laws.proofs.Differences.{same_listed, difference_listed}
use Rattle.sheets.proofs.entries.list.Goals as goal
use Rattle.sheets.proofs.entries.list.Goals.{then-differ, else-differ}

pub loop-entry-preserved : goal.loop-entry-preserved
loop-entry-preserved c =
    let i = c.loop-entry.entry in
    let first : length c.args.a ≡ 6 = search rules in
    let second : length c.args.b ≡ 6 = search rules in
    elim c.if-differ.branch [
      | then-differ w ↦
          let differs : differ (get_or c.args.a i (pos 0)) (get_or c.args.b i (pos 0)) ≡ true = search rules in
          let more = difference_listed _ _ _ _ i c.loop-entry.items (omega arith) (omega arith) c.loop-entry.invariant.1 differs (omega arith) in
          rw (w.out-is, w.items-is) (omega arith, search rules)
      | else-differ w ↦
          let same : differ (get_or c.args.a i (pos 0)) (get_or c.args.b i (pos 0)) ≡ false = search rules in
          rw (w.out-is, w.items-is) (omega arith, same_listed _ _ _ _ _ _ (omega arith) (omega arith) c.loop-entry.invariant.1 same)
    ]
