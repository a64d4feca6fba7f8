-- One test that computes whether every number of a run passes, and what it says of each of them.
use mathlib.Core.Path.{subst}
use mathlib.Core.Bool.{Bool}
use Prim.Native.Nat.{ℕ, zero, suc, ◌+◌, ◌≤◌, ◌<◌}
use native.Mathlib.Decide.{ℕ_discrete}
use native.Mathlib.Omega.{arith}
use lib.Dec.{T}
use lib.Ieee.Fits.{and_l, and_r}
use Rattle.rules.specs.Edition.{each}

pub each_at : (passes : ℕ → Bool) (size i : ℕ) → T (each passes size i) → (k : ℕ) → i ≤ k → k < i + size → T (passes k)
each_at passes zero i t k low high = absurd (omega arith)
each_at passes (suc size) i t k low high =
    elim (ℕ_discrete i k) [
      | yes e ↦ subst (λ (m : ℕ). T (passes m)) e (and_l (passes i) (each passes size (suc i)) t)
      | no h ↦ each_at passes size (suc i) (and_r (passes i) (each passes size (suc i)) t) k (omega arith) (omega arith)
    ]
