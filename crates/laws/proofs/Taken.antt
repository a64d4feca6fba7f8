-- An evaluation takes the limits of a mixture: a minimum or target that puts one out of range is refused, and no lower limit is above its upper.
use mathlib.Core.Path.{◌≡◌, refl, sym}
use mathlib.Core.Bool.{false}
use mathlib.Core.List.{[], ◌∷◌}
use native.Mathlib.Omega.{arith}
use lib.IntN.{ℤ, pos}
use lib.Signed.{lt_z}
use Rattle.std.specs.Prelude.{Ok}
use Rattle.integers.proofs.Difference.{var, nat, diff_le, ◌⊕◌, ◌⊖◌}
use Rattle.integers.proofs.Order.{le_lt_z}
use Rattle.rules.specs.declared.Pair.{Pair}
use Rattle.rules.specs.declared.Characteristics.{Characteristics}
use Rattle.rules.specs.declared.Thousandths.{Thousandths}
use Rattle.rules.specs.Mixture.{vma_pair, voids_pair, density_pairs, density_pair, limits, mixture_limits}
use Rattle.rules.specs.Refusals.{pair_out, mixture_case, offset_case}
use Rattle.rules.specs.Meets.{mixture_meets}
use Rattle.rules.specs.Entries.{mixture_says}
use Rattle.laws.specs.Between.{Between}
use Rattle.laws.specs.Taken.{Taken}
use Rattle.laws.proofs.Tests.{neither}
use Rattle.laws.proofs.Bounds.{pair_parts, offset_below, offset_above}
use Rattle.laws.proofs.Between.{inside, one_of_four}
use Rattle.laws.proofs.Ruled.{ruled_answers, none_met}

taken : (p : Pair ℤ) → pair_out p ≡ false → lt_z p.upper p.lower ≡ false → Taken (limits p)
taken p all_in_range uncrossed =
    let h = pair_parts p all_in_range in
    record { upper_in_range = h.0; lower_in_range = h.1; uncrossed = uncrossed }

density_taken : (mixture : ℤ) → Between (pos 0) (pos 3) mixture → Taken (limits (density_pair mixture))
unfolding density_pairs
density_taken mixture h =
    one_of_four h
    (λ e. rw e (taken (density_pair (pos 0)) refl refl))
    (λ e. rw e (taken (density_pair (pos 1)) refl refl))
    (λ e. rw e (taken (density_pair (pos 2)) refl refl))
    (λ e. rw e (taken (density_pair (pos 3)) refl refl))

-- An evaluation takes every pair of limits that a lookup answers.
pub mixture_limits_are_taken :
    (mixture minimum target : ℤ) (l : Characteristics (Pair Thousandths)) → (Ok l) ≡ mixture_says mixture minimum target →
    Taken l.vma × Taken l.voids × Taken l.density
unfolding mixture_says mixture_meets mixture_limits
mixture_limits_are_taken mixture minimum target l e =
    let given = ruled_answers _ (mixture_limits mixture minimum target) l (sym e) in
    let first = none_met (offset_case minimum target) (mixture_case mixture ∷ []) given.0 in
    let all_in_range = neither (pair_out (vma_pair minimum)) (pair_out (voids_pair target)) first.0 in
    let number = inside (pos 3) mixture (none_met (mixture_case mixture) [] first.1).0 in
    rw (← given.1) (
      taken (vma_pair minimum) all_in_range.0 (le_lt_z (diff_le (var minimum ⊖ nat (offset_below vma_pair)) (var minimum ⊕ nat (offset_above vma_pair)) (omega arith))),
      taken (voids_pair target) all_in_range.1 (le_lt_z (diff_le (var target ⊖ nat (offset_below voids_pair)) (var target ⊕ nat (offset_above voids_pair)) (omega arith))),
      density_taken mixture number,
    )
