-- The mask leaves bit 1, where it stands.
use Rattle.std.proofs.Common.{◌≡◌, ℕ, arith, get_or, bit_and, ◌*◌, ◌%◌, ◌/◌}
use Rattle.std.proofs.lemmas.Nat.Bits.{and_pow}
use Rattle.std.proofs.lemmas.Bool.Decides.{nat_tests}
use Rattle.record.proofs.head.Head.has_lower.Goals as goal

pub returns : goal.returns
returns c =
    let flags : ℕ = get_or c.args.self.bytes.now 3 0 in
    let bit : bit_and flags 2 ≡ flags / 2 % 2 * 2 = and_pow flags 1 in
    grind (arith, nat_tests)
