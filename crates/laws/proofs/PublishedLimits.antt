-- The limits of a mixture are those of document 000's Table 1.
use mathlib.Core.Path.{refl}
use native.Mathlib.Omega.{arith}
use lib.IntN.{ℤ, pos}
use Rattle.integers.proofs.Difference.{var, nat, diff_eq, ◌⊕◌, ◌⊖◌, ◌⊗◌, ⊝◌}
use Rattle.rules.specs.Mixture.{vma_pair, voids_pair, density_pairs, mixture_limits}
use Rattle.laws.specs.Ratio.{ratio}
use Rattle.laws.specs.PublishedLimits.{As, printed_vma, printed_voids, printed_4_75, printed_19_0, printed_sma, printed_others}
use Rattle.laws.proofs.Bounds.{offset_below, offset_above}

module _ (mixture minimum target : ℤ) where
  -- VMA: 0.7 below the minimum and 3.0 above it.
  pub vma_is_published : As (mixture_limits mixture minimum target).vma (printed_vma (ratio minimum 1000))
  unfolding mixture_limits
  vma_is_published =
      record {
        below = diff_eq ((var minimum ⊖ nat (offset_below vma_pair)) ⊗ nat 10000) ((var minimum ⊗ nat 10 ⊕ ⊝ nat 7 ⊗ nat 1000) ⊗ nat 1000) (omega arith);
        above = diff_eq ((var minimum ⊕ nat (offset_above vma_pair)) ⊗ nat 10000) ((var minimum ⊗ nat 10 ⊕ nat 30 ⊗ nat 1000) ⊗ nat 1000) (omega arith);
      }

  -- Voids: 1.35 on either side of the target.
  pub voids_are_published : As (mixture_limits mixture minimum target).voids (printed_voids (ratio target 1000))
  unfolding mixture_limits
  voids_are_published =
      record {
        below = diff_eq ((var target ⊖ nat (offset_below voids_pair)) ⊗ nat 100000) ((var target ⊗ nat 100 ⊕ ⊝ nat 135 ⊗ nat 1000) ⊗ nat 1000) (omega arith);
        above = diff_eq ((var target ⊕ nat (offset_above voids_pair)) ⊗ nat 100000) ((var target ⊗ nat 100 ⊕ nat 135 ⊗ nat 1000) ⊗ nat 1000) (omega arith);
      }

-- Density, by mixture number: 0 IL-4.75, 1 IL-19.0 and 25.0, 2 SMA, 3 all others.
pub density_is_published :
    (minimum target : ℤ) →
    As (mixture_limits (pos 0) minimum target).density printed_4_75
    × As (mixture_limits (pos 1) minimum target).density printed_19_0
    × As (mixture_limits (pos 2) minimum target).density printed_sma
    × As (mixture_limits (pos 3) minimum target).density printed_others
unfolding mixture_limits density_pairs
density_is_published minimum target = (
  record { below = refl; above = refl },
  record { below = refl; above = refl },
  record { below = refl; above = refl },
  record { below = refl; above = refl },
)
