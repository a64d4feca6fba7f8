-- The constants spell the entries of the printed table: by computation, a count at a time.
use Rattle.std.proofs.Common.{ℕ, arith}
use native.Mathlib.Nat.{le_antisymm}
use Rattle.rules.specs.Record.{spelled, twos}
use Rattle.rules.specs.Table.{rows, table_106_1, column_in}
use Rattle.laws.proofs.Tests.{this_or_later}
use Rattle.table.proofs.column.Goals as goal

pub returns-in-0-to-4 : goal.returns-in-0-to-4
unfolding spelled twos column_in rows table_106_1
returns-in-0-to-4 c =
    let n : ℕ = c.args.n in
    this_or_later 2 n (omega arith) (λ e. rw e) (λ h. this_or_later 3 n h (λ e. rw e) (λ h. rw (le_antisymm {n = n} {m = 4} (omega arith) h)))

pub returns-in-5-to-8 : goal.returns-in-5-to-8
unfolding spelled twos column_in rows table_106_1
returns-in-5-to-8 c =
    let n : ℕ = c.args.n in
    this_or_later 5 n (omega arith) (λ e. rw e) (λ h. this_or_later 6 n h (λ e. rw e) (λ h. this_or_later 7 n h (λ e. rw e) (λ h. rw (le_antisymm {n = n} {m = 8} (omega arith) h))))

pub returns-in_default : goal.returns-in_default
unfolding spelled twos column_in rows table_106_1
returns-in_default c =
    let n : ℕ = c.args.n in
    this_or_later 9 n (omega arith) (λ e. rw e) (λ h. rw (le_antisymm {n = n} {m = 10} (omega arith) h))
