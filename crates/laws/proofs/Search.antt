-- What a search from a number on finds.
use mathlib.Core.Path.{◌≡◌, refl, sym, ◌∙◌, subst}
use mathlib.Core.Bool.{Bool, true, false, true≢false}
use Prim.Native.Nat.{ℕ, zero, suc, ◌+◌, ◌≤◌, ◌<◌}
use native.Mathlib.Decide.{ℕ_discrete}
use native.Mathlib.Omega.{arith}
use Rattle.rules.specs.Deviation.{first_from}

module _ (passes : ℕ → Bool) where
  stops : (tries from : ℕ) → passes from ≡ true → first_from passes (suc tries) from ≡ from
  unfolding first_from
  stops tries from e = rw (e, first_from)

  goes_on : (tries from : ℕ) → passes from ≡ false → first_from passes (suc tries) from ≡ first_from passes tries (suc from)
  unfolding first_from
  goes_on tries from e = rw (e, first_from)

  pub first_at_most : (tries from : ℕ) → first_from passes tries from ≤ from + tries
  unfolding first_from
  first_at_most zero from = omega arith
  first_at_most (suc tries) from = by (passes from) refl (first_at_most tries (suc from))
    where
      by : (b : Bool) → passes from ≡ b → first_from passes tries (suc from) ≤ suc from + tries → first_from passes (suc tries) from ≤ from + suc tries
      by true e later = omega (arith, stops tries from e)
      by false e later = omega (arith, goes_on tries from e)

  -- It passes, if any that can be tried does;
  pub first_passes : (tries from i : ℕ) → from ≤ i → i ≤ from + tries → passes i ≡ true → passes (first_from passes tries from) ≡ true
  unfolding first_from
  first_passes zero from i low high here = subst (λ (m : ℕ). passes m ≡ true) (omega arith) here
  first_passes (suc tries) from i low high here = by (passes from) refl (first_passes tries (suc from) i)
    where
      by : (b : Bool) → passes from ≡ b → (suc from ≤ i → i ≤ suc from + tries → passes i ≡ true → passes (first_from passes tries (suc from)) ≡ true) → passes (first_from passes (suc tries) from) ≡ true
      by true e later = rw (stops tries from e) e
      by false e later =
          let other : from ≡ i → ⊥ = λ same. true≢false (sym here ∙ subst (λ (m : ℕ). passes m ≡ false) same e) in
          rw (goes_on tries from e) (later (omega arith) (omega arith) here)

  -- and nothing before it does.
  pub none_before : (tries from i : ℕ) → from ≤ i → i < first_from passes tries from → passes i ≡ false
  unfolding first_from
  none_before zero from i low high = absurd (omega arith)
  none_before (suc tries) from i low high = by (passes from) refl (none_before tries (suc from) i)
    where
      by : (b : Bool) → passes from ≡ b → (suc from ≤ i → i < first_from passes tries (suc from) → passes i ≡ false) → passes i ≡ false
      by true e later = absurd (omega (arith, rw (stops tries from e) at high))
      by false e later =
          elim (ℕ_discrete from i) [
            | yes same ↦ subst (λ (m : ℕ). passes m ≡ false) same e
            | no h ↦ later (omega arith) (rw (goes_on tries from e) at high)
          ]
