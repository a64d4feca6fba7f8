-- The mixture lookup answers exactly for a minimum and a target in reach and a mixture number from 0 to 3; else it gives refusal 5, or 9.
use mathlib.Core.Path.{◌≡◌, ◌∙◌}
use mathlib.Core.Bool.{false, not}
use Prim.Native.Nat.{ℕ, ◌+◌, ◌≤◌}
use native.Mathlib.Omega.{arith}
use borrow.Author.Tests.{not-false}
use lib.IntN.{ℤ, pos, nat_abs}
use Rattle.std.specs.Prelude.{Ok, Err}
use Rattle.integers.proofs.Difference.{Diff, var, nat, diff_le, arithℤ, ⊝◌, ◌⊕◌, ◌⊖◌}
use Rattle.integers.proofs.Order.{le_le_z}
use Rattle.integers.proofs.Magnitude.{diff_within, within_diff, within_low, within_high}
use Rattle.rules.specs.declared.Refusal.TheVariants.{Range, Number}
use Rattle.rules.specs.Units.{in_range}
use Rattle.rules.specs.Said.{ruled}
use Rattle.rules.specs.Mixture.{vma_pair, voids_pair, mixture_limits}
use Rattle.rules.specs.Refusals.{pair_out, mixture_case, offset_case}
use Rattle.rules.specs.Meets.{mixture_meets}
use Rattle.rules.specs.Entries.{mixture_says}
use Rattle.laws.specs.Between.{Between}
use Rattle.laws.specs.InReach.{InReach}
use Rattle.laws.proofs.Tests.{neither}
use Rattle.laws.proofs.Bounds.{in_range_bound, pair_parts, offset_below, offset_above}
use Rattle.laws.proofs.Ruled.{ruled_passed, ruled_refused}
use Rattle.laws.proofs.Between.{inside, not_outside}

-- A number p − q is in range exactly when neither of p and q is more than 500,000 above the other.
module _ {z : ℤ} {p q : ℕ} (d : Diff z p q) where
  within_reach : not (in_range z) ≡ false → (p ≤ q + 500000) × (q ≤ p + 500000)
  within_reach e = within_diff d (in_range_bound z (not-false (in_range z) e))

  not_far : (p ≤ q + 500000) × (q ≤ p + 500000) → not (in_range z) ≡ false
  not_far h = let small : nat_abs z ≤ 500000 = diff_within d h in rw (le_le_z (within_low z small), le_le_z (within_high z small))

module _ (mixture minimum target : ℤ) where
  -- Where refusal 5 does not apply, the minimum and the target are in reach,
  case_passed : (offset_case minimum target).applies ≡ false → InReach minimum target
  case_passed e =
      let h = neither (pair_out (vma_pair minimum)) (pair_out (voids_pair target)) e in
      let vma = pair_parts (vma_pair minimum) h.0 in
      let voids = pair_parts (voids_pair target) h.1 in
      let least = within_reach (var minimum ⊖ nat (offset_below vma_pair)) vma.1 in
      let greatest = within_reach (var minimum ⊕ nat (offset_above vma_pair)) vma.0 in
      let low = within_reach (var target ⊖ nat (offset_below voids_pair)) voids.1 in
      let high = within_reach (var target ⊕ nat (offset_above voids_pair)) voids.0 in
      record {
        minimum = record { low = diff_le (⊝ nat 499300) (var minimum) (omega arith); high = diff_le (var minimum) (nat 497000) (omega arith) };
        target = record { low = diff_le (⊝ nat 498650) (var target) (omega arith); high = diff_le (var target) (nat 498650) (omega arith) };
      }

  -- and where they are in reach, it does not apply.
  passes : InReach minimum target → (offset_case minimum target).applies ≡ false
  passes h =
      rw (
        not_far (var minimum ⊕ nat (offset_above vma_pair)) (omega arithℤ),
        not_far (var minimum ⊖ nat (offset_below vma_pair)) (omega arithℤ),
        not_far (var target ⊕ nat (offset_above voids_pair)) (omega arithℤ),
        not_far (var target ⊖ nat (offset_below voids_pair)) (omega arithℤ),
      )

  -- The lookup answers the mixture's limits for a minimum and a target in reach and a mixture number from 0 to 3.
  pub in_reach_is_answered :
      InReach minimum target → Between (pos 0) (pos 3) mixture → mixture_says mixture minimum target ≡ Ok (mixture_limits mixture minimum target)
  unfolding ruled mixture_says mixture_meets
  in_reach_is_answered h k = let known : (mixture_case mixture).applies ≡ false = not_outside k in rw (passes h, known)

  -- It refuses with 5 a minimum or a target out of reach, whatever the mixture number.
  pub out_of_reach_is_refused : ¬ InReach minimum target → mixture_says mixture minimum target ≡ Err Range
  unfolding mixture_says mixture_meets
  out_of_reach_is_refused h = ruled_refused _ _ _ case_passed h

  -- It refuses with 9 any other mixture number, where both are in reach.
  pub unknown_mixture_is_refused : InReach minimum target → ¬ Between (pos 0) (pos 3) mixture → mixture_says mixture minimum target ≡ Err Number
  unfolding mixture_says mixture_meets
  unknown_mixture_is_refused h k = ruled_passed _ _ _ (passes h) ∙ ruled_refused _ _ _ (inside (pos 3) mixture) k
