-- Where none of refusals 1 to 4 applies to a record, `HeadAccepted` holds of it.
use mathlib.Core.Path.{◌≡◌}
use mathlib.Core.Bool.{Bool, false, not, ◌||◌}
use mathlib.Core.List.{List}
use Prim.Native.Nat.{ℕ, ◌/◌, ◌-◌, ◌≤◌}
use native.Mathlib.Omega.{arith}
use borrow.Author.Tests.{ltb-false, eqb-true, not-false}
use lib.Dec.{ltb, eqb}
use lib.ListN.{length}
use Rattle.std.specs.Prelude.{Ok}
use Rattle.rules.specs.Said.{checked}
use Rattle.rules.specs.Record.{spelled, length_field, version_field, flags_field, n_field, upper_field, lower_field, has_upper, has_lower, head_size, length_of}
use Rattle.rules.specs.Refusals.{size_case, version_case, flags_case, record_count_case, allowed}
use Rattle.rules.specs.Meets.{head_meets}
use Rattle.laws.specs.Head.{HeadAccepted}
use Rattle.laws.proofs.Ruled.{none_met}
use Rattle.laws.proofs.Tests.{neither}
use Rattle.laws.proofs.Accepted.{count_allowed}

-- Where refusal 1 does not apply, there are at least 13 bytes.
pub long_enough : (bs : List ℕ) → (size_case bs).applies ≡ false → head_size ≤ length bs
long_enough bs e = ltb-false (length bs) head_size (neither (ltb (length bs) head_size) _ e).0

-- Where refusal 3 does not apply, the bytes of an absent limit spell 0.
zero_when_absent : (present : Bool) (x : ℕ) → not (present || eqb x 0) ≡ false → present ≡ false → x ≡ 0
zero_when_absent present x h absent = eqb-true x 0 (rw absent at (not-false (present || eqb x 0) h))

pub head_accepted : (bs : List ℕ) → checked (head_meets bs) ≡ Ok tt → HeadAccepted bs
head_accepted bs e =
    let size = none_met (size_case bs) _ e in
    let version = none_met (version_case bs) _ size.1 in
    let flags = none_met (flags_case bs) _ version.1 in
    let count = none_met (record_count_case bs) _ flags.1 in
    let sizes = neither (ltb (length bs) head_size) _ size.0 in
    let lower = neither (not (eqb (flags_field bs / 4) 0) || not (has_upper bs || eqb (spelled 0 (upper_field bs)) 0)) _ flags.0 in
    let upper = neither (not (eqb (flags_field bs / 4) 0)) _ lower.0 in
    let counts = neither (not (allowed (n_field bs))) _ count.0 in
    let long = long_enough bs size.0 in
    let whole = eqb-true (length_field bs) (length bs - 2) (not-false _ sizes.1) in
    let follow = eqb-true (length_field bs) (length_of (n_field bs)) (not-false _ counts.1) in
    let bits = eqb-true (flags_field bs / 4) 0 (not-false _ upper.0) in
    let n = count_allowed (n_field bs) counts.0 in
    record {
      size = omega arith;
      follow = follow;
      version = eqb-true (version_field bs) 1 (not-false _ version.0);
      flags = omega arith;
      no_upper = zero_when_absent (has_upper bs) (spelled 0 (upper_field bs)) upper.1;
      no_lower = zero_when_absent (has_lower bs) (spelled 0 (lower_field bs)) lower.1;
      least = n.0;
      few = n.1;
    }
