-- What a test that fails says of its parts, and what decides an order or a count. (borrow.Author.Tests and mathlib.Core.Bool have the others.)
use mathlib.Core.Path.{◌≡◌, refl}
use mathlib.Core.Bool.{Bool, true, false, ◌||◌, true≢false}
use mathlib.Core.Logic.{◌⊎◌, inl, inr}
use Prim.Native.Nat.{ℕ, suc, ◌≤◌, ◌<◌}
use native.Mathlib.Decide.{ℕ_discrete}
use native.Mathlib.Omega.{arith}
use borrow.Author.Tests.{leb-true, leb-false}
use lib.Dec.{leb}

pub neither : (a b : Bool) → (a || b) ≡ false → (a ≡ false) × (b ≡ false)
neither true b e = absurd (true≢false e)
neither false b e = (refl, e)

-- Of two natural numbers, the first is at most the second or the second is below it.
pub at_least_or_below : (a b : ℕ) → (a ≤ b) ⊎ (b < a)
at_least_or_below a b = by (leb a b) refl
  where
    by : (t : Bool) → leb a b ≡ t → (a ≤ b) ⊎ (b < a)
    by true e = inl (leb-true a b e)
    by false e = inr (leb-false a b e)

-- A number from k on is k, or a later one.
pub this_or_later : {X : Type 0} (k n : ℕ) → k ≤ n → (n ≡ k → X) → (suc k ≤ n → X) → X
this_or_later k n low here later = elim (ℕ_discrete n k) [ yes e ↦ here e | no h ↦ later (omega arith) ]
