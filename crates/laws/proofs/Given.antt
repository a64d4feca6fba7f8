-- What C gets: the refusal is 0 exactly when there is an answer, and what is given then is the answer.
use mathlib.Core.Path.{◌≡◌, refl, sym, ap, ◌∙◌, subst⁻¹}
use Prim.Native.Nat.{ℕ}
use native.Mathlib.Omega.{arith}
use Rattle.std.specs.Prelude.{Option, Some, None, Ok, Err}
use Rattle.rules.specs.declared.Thousandths.{Thousandths}
use Rattle.rules.specs.declared.Mean.{Mean}
use Rattle.rules.specs.declared.Percentages.{Percentages}
use Rattle.rules.specs.declared.Payment.{Payment}
use Rattle.rules.specs.declared.Characteristics.{Characteristics}
use Rattle.rules.specs.declared.Pair.{Pair}
use Rattle.rules.specs.declared.Row.{Row}
use Rattle.rules.specs.declared.Refusal.{Refusal}
use Rattle.rules.specs.declared.Refusal.TheVariants.{Size, Version, Flags, Count, Range, Unlimited, Crossed, Room, Number, NoColumn, Unsound, NotRising, NoEdition}
use Rattle.rules.specs.declared.host.HostRefusal.{HostRefusal}
use Rattle.rules.specs.declared.host.HostMean.{HostMean}
use Rattle.rules.specs.declared.host.HostDeviation.{HostDeviation}
use Rattle.rules.specs.declared.host.HostPercentages.{HostPercentages}
use Rattle.rules.specs.declared.host.HostPayment.{HostPayment}
use Rattle.rules.specs.declared.host.HostMixtureLimits.{HostMixtureLimits}
use Rattle.rules.specs.declared.host.HostRead.{HostRead}
use Rattle.rules.specs.declared.host.HostWritten.{HostWritten}
use Rattle.rules.specs.declared.host.HostListed.{HostListed}
use Rattle.rules.specs.declared.host.HostPlace.{HostPlace}
use Rattle.rules.specs.declared.host.HostChecked.{HostChecked}
use Rattle.rules.specs.declared.host.HostRow.{HostRow}
use Rattle.rules.specs.declared.Difference.{Difference}
use Rattle.rules.specs.Units.{thousandths}
use Rattle.rules.specs.Said.{Said}
use Rattle.rules.specs.Lot.{Lot}
use Rattle.rules.specs.Refusals.{number_of}
use Rattle.rules.specs.Entries.{beside}
use Rattle.rules.specs.Host.{refusal_part, no_refusal, host_refusal, host_mean, host_deviation, host_percentages, host_payment, host_mixture_limits, host_read, host_written, host_listed, host_place, host_row}
use Rattle.rules.specs.HostSheet.{host_found, host_checked}
use Rattle.laws.specs.Sheet.{given_finding}
use Rattle.laws.specs.Given.{ZeroWhenAnswered, given_percentages, given_row_of}

-- No refusal has the number 0.
some_number : (r : Refusal) → number_of r ≡ 0 → ⊥
some_number Size e = omega arith
some_number Version e = omega arith
some_number Flags e = omega arith
some_number Count e = omega arith
some_number Range e = omega arith
some_number Unlimited e = omega arith
some_number Crossed e = omega arith
some_number Room e = omega arith
some_number Number e = omega arith
some_number NoColumn e = omega arith
some_number Unsound e = omega arith
some_number NotRising e = omega arith
some_number NoEdition e = omega arith

pub refusal_is_zero : {A : Type 0} (said : Said A) → ZeroWhenAnswered (host_refusal said) said
refusal_is_zero (Err r) = (λ e. absurd (some_number r e), λ a. absurd (let z : ◌≡◌ {A = ℕ} 0 1 = cc a.1 in omega arith))
refusal_is_zero (Ok a) = (λ e. (a, refl), λ e. refl)

-- The same holds of any of C's answers that begins with the refusal; and where its number is 0, what C is given is the answer.
module _ {A H : Type 0} (host : Said A → H) (part : H → HostRefusal) (refusals : (r : Refusal) → part (host (Err r)) ≡ refusal_part r) (none : (a : A) → part (host (Ok a)) ≡ no_refusal) where
  begins : (said : Said A) → part (host said) ≡ host_refusal said
  begins (Err r) = refusals r
  begins (Ok a) = none a

  zero_if_answered : (said : Said A) (r : H) → r ≡ host said → ZeroWhenAnswered (part r) said
  zero_if_answered said r e = subst⁻¹ (λ (x : HostRefusal). ZeroWhenAnswered x said) (ap part e ∙ begins said) (refusal_is_zero said)

  given : (said : Said A) (r : H) → r ≡ host said → (part r).number ≡ 0 → (a : A) × (said ≡ Ok a) × (r ≡ host (Ok a))
  given said r e z = let h = (zero_if_answered said r e).0 z in (h.0, h.1, e ∙ ap host h.1)

-- ---- each of C's answers

checked_begins : (f : Option Difference) → (host_found f).refusal ≡ no_refusal
checked_begins None = refl
checked_begins (Some d) = refl

pub zero_in_mean : (said : Said Mean) (r : HostMean) → r ≡ host_mean said → ZeroWhenAnswered r.refusal said
zero_in_mean = zero_if_answered host_mean (λ (r : HostMean). r.refusal) (λ r. refl) (λ a. refl)

pub zero_in_deviation : (said : Said Thousandths) (r : HostDeviation) → r ≡ host_deviation said → ZeroWhenAnswered r.refusal said
zero_in_deviation = zero_if_answered host_deviation (λ (r : HostDeviation). r.refusal) (λ r. refl) (λ a. refl)

pub zero_in_percentages : (said : Said Percentages) (r : HostPercentages) → r ≡ host_percentages said → ZeroWhenAnswered r.refusal said
zero_in_percentages = zero_if_answered host_percentages (λ (r : HostPercentages). r.refusal) (λ r. refl) (λ a. refl)

pub zero_in_payment : (said : Said Payment) (r : HostPayment) → r ≡ host_payment said → ZeroWhenAnswered r.refusal said
zero_in_payment = zero_if_answered host_payment (λ (r : HostPayment). r.refusal) (λ r. refl) (λ a. refl)

pub zero_in_mixture_limits : (said : Said (Characteristics (Pair Thousandths))) (r : HostMixtureLimits) → r ≡ host_mixture_limits said → ZeroWhenAnswered r.refusal said
zero_in_mixture_limits = zero_if_answered host_mixture_limits (λ (r : HostMixtureLimits). r.refusal) (λ r. refl) (λ a. refl)

pub zero_in_written : (said : Said ℕ) (r : HostWritten) → r ≡ host_written said → ZeroWhenAnswered r.refusal said
zero_in_written = zero_if_answered host_written (λ (r : HostWritten). r.refusal) (λ r. refl) (λ a. refl)

pub zero_in_listed : (said : Said ℕ) (r : HostListed) → r ≡ host_listed said → ZeroWhenAnswered r.refusal said
zero_in_listed = zero_if_answered host_listed (λ (r : HostListed). r.refusal) (λ r. refl) (λ a. refl)

pub zero_in_place : (said : Said ℕ) (r : HostPlace) → r ≡ host_place said → ZeroWhenAnswered r.refusal said
zero_in_place = zero_if_answered host_place (λ (r : HostPlace). r.refusal) (λ r. refl) (λ a. refl)

pub zero_in_checked : (said : Said (Option Difference)) (r : HostChecked) → r ≡ host_checked said → ZeroWhenAnswered r.refusal said
zero_in_checked = zero_if_answered host_checked (λ (r : HostChecked). r.refusal) (λ r. refl) checked_begins

pub zero_in_row : (said : Said Row) (r : HostRow) → r ≡ host_row said → ZeroWhenAnswered r.refusal said
zero_in_row = zero_if_answered host_row (λ (r : HostRow). r.refusal) (λ r. refl) (λ a. refl)

-- a lot that was read
abbrev host_lot_read : Said Lot → HostRead
host_lot_read said = host_read (beside said)

pub zero_in_read : (said : Said Lot) (r : HostRead) → r ≡ host_read (beside said) → ZeroWhenAnswered r.refusal said
zero_in_read = zero_if_answered host_lot_read (λ (r : HostRead). r.refusal) (λ r. refl) (λ a. refl)

-- ---- the answers that laws speak of

pub percentages_given :
    (said : Said Percentages) (r : HostPercentages) → r ≡ host_percentages said → r.refusal.number ≡ 0 → said ≡ Ok (given_percentages r)
percentages_given said r e z =
    let h = given host_percentages (λ (x : HostPercentages). x.refusal) (λ x. refl) (λ a. refl) said r e z in
    h.1 ∙ ap (λ (x : HostPercentages). Ok (given_percentages x)) (sym h.2)

pub mean_given : (said : Said Mean) (r : HostMean) → r ≡ host_mean said → r.refusal.number ≡ 0 → said ≡ Ok (record { total = thousandths r.total; count = r.count })
mean_given said r e z =
    let h = given host_mean (λ (x : HostMean). x.refusal) (λ x. refl) (λ a. refl) said r e z in
    h.1 ∙ ap (λ (x : HostMean). Ok (record { total = thousandths x.total; count = x.count })) (sym h.2)

pub row_given : (said : Said Row) (r : HostRow) → r ≡ host_row said → r.refusal.number ≡ 0 → said ≡ Ok (given_row_of r)
row_given said r e z =
    let h = given host_row (λ (x : HostRow). x.refusal) (λ x. refl) (λ a. refl) said r e z in
    h.1 ∙ ap (λ (x : HostRow). Ok (given_row_of x)) (sym h.2)

pub deviation_given : (said : Said Thousandths) (r : HostDeviation) → r ≡ host_deviation said → r.refusal.number ≡ 0 → said ≡ Ok (thousandths r.deviation)
deviation_given said r e z =
    let h = given host_deviation (λ (x : HostDeviation). x.refusal) (λ x. refl) (λ a. refl) said r e z in
    h.1 ∙ ap (λ (x : HostDeviation). Ok (thousandths x.deviation)) (sym h.2)

pub written_given : (said : Said ℕ) (r : HostWritten) → r ≡ host_written said → r.refusal.number ≡ 0 → said ≡ Ok r.size
written_given said r e z =
    let h = given host_written (λ (x : HostWritten). x.refusal) (λ x. refl) (λ a. refl) said r e z in
    h.1 ∙ ap (λ (x : HostWritten). Ok x.size) (sym h.2)

pub listed_given : (said : Said ℕ) (r : HostListed) → r ≡ host_listed said → r.refusal.number ≡ 0 → said ≡ Ok r.items
listed_given said r e z =
    let h = given host_listed (λ (x : HostListed). x.refusal) (λ x. refl) (λ a. refl) said r e z in
    h.1 ∙ ap (λ (x : HostListed). Ok x.items) (sym h.2)

pub place_given : (said : Said ℕ) (r : HostPlace) → r ≡ host_place said → r.refusal.number ≡ 0 → said ≡ Ok r.start
place_given said r e z =
    let h = given host_place (λ (x : HostPlace). x.refusal) (λ x. refl) (λ a. refl) said r e z in
    h.1 ∙ ap (λ (x : HostPlace). Ok x.start) (sym h.2)

pub checked_given : (said : Said (Option Difference)) (r : HostChecked) → r ≡ host_checked said → r.refusal.number ≡ 0 → said ≡ Ok (given_finding r)
checked_given said r e z =
    let h = given host_checked (λ (x : HostChecked). x.refusal) (λ x. refl) checked_begins said r e z in
    h.1 ∙ ap (λ (f : Option Difference). Ok f) (by h.0) ∙ ap (λ (x : HostChecked). Ok (given_finding x)) (sym h.2)
  where
    by : (f : Option Difference) → f ≡ given_finding (host_checked (Ok f))
    by None = refl
    by (Some d) = refl

pub payment_given :
    (said : Said Payment) (r : HostPayment) → r ≡ host_payment said → r.refusal.number ≡ 0 →
    (p : Payment) × (said ≡ Ok p) × (r ≡ host_payment (Ok p))
payment_given = given host_payment (λ (x : HostPayment). x.refusal) (λ x. refl) (λ a. refl)
