-- The entries take two kinds of lot, a lent list with two limits and a lot in memory. Turned or moved, each is a lot of its kind again.
use mathlib.Core.Path.{◌≡◌, refl, ap}
use mathlib.Core.Bool.{Bool, true, false, cond, ◌||◌}
use mathlib.Core.List.{List, [], ◌∷◌, map}
use Prim.Native.Nat.{ℕ, zero, suc, ◌≤◌}
use native.Mathlib.Omega.{arith}
use lib.IntN.{ℤ, neg_ℤ, ◌+ℤ◌}
use lib.ListN.{length, length-map, take}
use lib.Seq.{length-take-le}
use Rattle.std.specs.Prelude.{Ok, Err}
use Rattle.rules.specs.declared.Thousandths.{Thousandths}
use Rattle.rules.specs.Units.{Limit, thousandths}
use Rattle.rules.specs.declared.Totals.{Totals}
use Rattle.rules.specs.declared.Refusal.TheVariants.{Range}
use Rattle.rules.specs.declared.HeldLot.{HeldLot}
use Rattle.rules.specs.Said.{ruled, Said}
use Rattle.rules.specs.Lot.{lot_of, plain, places, lot_in, most}
use Rattle.rules.specs.Percent.{totals}
use Rattle.rules.specs.Refusals.{out_of_range, any_out}
use Rattle.rules.specs.Meets.{limits_meet, lot_meets}
use Rattle.laws.specs.Totalled.{walk_says, limited_say, with_limits_say, totalled, said_of}
use Rattle.laws.specs.Turned.{turned_limit, turned, turned_held}
use Rattle.laws.specs.Moved.{moved_readings, moved_limit, moved, moved_held, Counted}
use Rattle.laws.proofs.Ruled.{ruled_of}

-- To apply f at every place of a lot in memory and take the first k is to take the first k and apply f.
first_places : (f : ℤ → ℤ) (k : ℕ) (xs : List Thousandths) → take k (plain (map (λ (x : Thousandths). thousandths (f x.0)) xs)) ≡ map f (take k (plain xs))
first_places f zero xs = refl
first_places f (suc k) [] = refl
first_places f (suc k) (x ∷ xs) = ap (λ (ys : List ℤ). f x.0 ∷ ys) (first_places f k xs)

pub turned_lot_of : (upper lower : Limit) (xs : List ℤ) → lot_of (turned_limit lower) (turned_limit upper) (map neg_ℤ xs) ≡ turned (lot_of upper lower xs)
turned_lot_of upper lower xs = rw (length-map xs neg_ℤ)

pub turned_lot_in : (held : HeldLot) → lot_in (turned_held held) ≡ turned (lot_in held)
turned_lot_in held = rw (first_places neg_ℤ held.count held.readings)

pub moved_lot_of : (amount : ℤ) (upper lower : Limit) (xs : List ℤ) → lot_of (moved_limit amount upper) (moved_limit amount lower) (moved_readings amount xs) ≡ moved amount (lot_of upper lower xs)
moved_lot_of amount upper lower xs = rw (length-map xs (λ (x : ℤ). x +ℤ amount))

pub moved_lot_in : (amount : ℤ) (held : HeldLot) → lot_in (moved_held amount held) ≡ moved amount (lot_in held)
moved_lot_in amount held = rw (first_places (λ (x : ℤ). x +ℤ amount) held.count held.readings)

-- Lots of both kinds have as many readings as they say, up to what a lot can hold.
pub lot_of_counted : (upper lower : Limit) (xs : List ℤ) → Counted (lot_of upper lower xs)
lot_of_counted upper lower xs few = refl

pub lot_in_counted : (held : HeldLot) → length held.readings ≡ most → Counted (lot_in held)
lot_in_counted held e few = length-take-le held.count (places held) (rw length-map (omega arith))

-- The readings of a lot in memory, lent as plain numbers with its limits, are the same lot.
pub lent_places : (held : HeldLot) (numbers : List ℤ) → length numbers ≡ most → numbers ≡ places held → held.count ≤ most → lot_of held.upper held.lower (take held.count numbers) ≡ lot_in held
lent_places held numbers size e few =
    λ i. record { n = length-take-le held.count numbers (omega arith) i; upper = held.upper; lower = held.lower; readings = take held.count (e i) }

-- A walk over a lot's readings, with its limits, says what the lot's cases after its count say: its totals, or the first refusal that applies.
pub walked_with_limits : (upper lower : Limit) (xs : List ℤ) → with_limits_say upper lower (walk_says xs) ≡ totalled lot_meets (lot_of upper lower xs)
unfolding walk_says with_limits_say totalled ruled
walked_with_limits upper lower xs = by (out_of_range upper || out_of_range lower) (any_out xs)
  where
    a : Totals
    a = totals (length xs) xs

    by : (limits readings : Bool) → cond limits (Err Range) (limited_say upper lower (cond readings (Err Range) (Ok a))) ≡ cond (limits || readings) (Err Range) (ruled (limits_meet upper lower) a)
    by true readings = refl
    by false true = refl
    by false false = refl

-- Limits say the same of something that a walk's values have.
pub with_limits_of : {A B : Type 0} (f : A → B) (upper lower : Limit) (said : Said A) → said_of f (with_limits_say upper lower said) ≡ with_limits_say upper lower (said_of f said)
unfolding with_limits_say
with_limits_of {A} f upper lower = by (out_of_range upper || out_of_range lower)
  where
    by : (limits : Bool) (s : Said A) → said_of f (cond limits (Err Range) (limited_say upper lower s)) ≡ cond limits (Err Range) (limited_say upper lower (said_of f s))
    by true s = refl
    by false (Err r) = refl
    by false (Ok a) = ruled_of f (limits_meet upper lower) a
