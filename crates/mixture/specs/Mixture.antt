-- What the parts of a lookup say: a limit, the limits of a row, the mixture of a number.
use Rattle.std.specs.Prelude.{◌≡◌, true, false, not, ℤ, pos, ◌+ℤ◌, MatchResult}
use Rattle.rules.specs.declared.Thousandths.{Thousandths}
use Rattle.rules.specs.declared.Pair.{Pair}
use Rattle.rules.specs.declared.Refusal.TheVariants.{Range}
use Rattle.rules.specs.Units.{in_range}
use Rattle.rules.specs.Said.{Said, Case}
use Rattle.rules.specs.Mixture.{limits}
use Rattle.rules.specs.Refusals.{given_when, pair_out, mixture_case}
use Rattle.mixture.specs.declared.Mixture.{Mixture}
use Rattle.mixture.specs.declared.Mixture.TheVariants.{Il475, Il190Or250, Sma, AllOthers}

-- a value of which P holds; or the refusal of a case, exactly where it applies
abbrev pub Gives : {A : Type 0} → Case → (A → Type 0) → Said A → Type 0
Gives c P said = MatchResult said (λ a. P a × (c.applies ≡ false)) (λ refusal. (refusal ≡ c.refusal) × (c.applies ≡ true))

-- the limit at an offset from a number, or refusal 5
abbrev pub GivesLimit : ℤ → ℤ → Said Thousandths → Type 0
GivesLimit z offset = Gives (given_when Range (not (in_range (z +ℤ offset)))) (λ limit. limit.0 ≡ z +ℤ offset)

-- the two numbers at two offsets from a number
abbrev pub pair_at : ℤ → Pair ℤ → Pair ℤ
pair_at z offsets = record { lower = z +ℤ offsets.lower; upper = z +ℤ offsets.upper }

-- these as limits, or refusal 5
abbrev pub GivesLimits : ℤ → Pair ℤ → Said (Pair Thousandths) → Type 0
GivesLimits z offsets = Gives (given_when Range (pair_out (pair_at z offsets))) (λ pair. pair ≡ limits (pair_at z offsets))

abbrev pub mixture_number : Mixture → ℤ
mixture_number Il475 = pos 0
mixture_number Il190Or250 = pos 1
mixture_number Sma = pos 2
mixture_number AllOthers = pos 3

-- the mixture of a number, or refusal 9
abbrev pub GivesMixture : ℤ → Said Mixture → Type 0
GivesMixture z = Gives (mixture_case z) (λ mixture. mixture_number mixture ≡ z)
