-- Document 01, "Desk examples": those marked D, as it prints them but for the percentage of D9, which document 02, R-2, corrects. And what each of
-- the entries that R-2 corrects gives.
use Rattle.std.specs.Prelude.{◌≡◌, List, [], ◌∷◌, ℕ, Bool, true, ℤ, pos, neg_ℤ, length, Some, None, Ok, Err}
use Rattle.std.specs.Int.Signed.{le_z, lt_z}
use Rattle.rules.specs.Units.{Limit, thousandths}
use Rattle.rules.specs.declared.Totals.{Totals}
use Rattle.rules.specs.declared.Percentages.{Percentages}
use Rattle.rules.specs.Said.{Said}
use Rattle.rules.specs.Lot.{lot_of}
use Rattle.rules.specs.Table.{Table}
use Rattle.rules.specs.Percent.{totals, spread, upper_distance, index_squared, midpoint_squared}
use Rattle.rules.specs.Entries.{evaluation_says, deviation_says}
use Rattle.rules.specs.Host.{host_refusal}

pub data Example : Type 0 where
  -- readings, upper and lower limit, and the PWL in hundredths
  pwl : List ℤ → Limit → Limit → ℕ → Example
  -- readings, an upper limit and a row: the index is exactly the midpoint below that row
  midpoint : List ℤ → ℤ → ℕ → Example
  -- readings, and the deviation in thousandths
  deviation : List ℤ → ℕ → Example

abbrev pub at : ℕ → Limit
at z = Some (thousandths (pos z))

-- the number of refusal that a host is told, 0 for none
abbrev pub asked : {A : Type 0} → Said A → ℕ
asked said = (host_refusal said).number

abbrev pub Answered : (Percentages → Type 0) → Said Percentages → Type 0
Answered P (Err r) = ⊥
Answered P (Ok p) = P p

-- An example holds by a table: Table 106-1 is meant.
abbrev pub Holds : Table → Example → Type 0
Holds table (pwl xs upper lower expected) =
    Answered (λ (p : Percentages). p.pwl.0 ≡ pos expected) (evaluation_says table (lot_of upper lower xs))
Holds table (midpoint xs upper k) =
    let a : Totals = totals (length xs) xs in
    let d : ℤ = upper_distance a upper in
    ◌≡◌ {A = Bool × Bool × ℤ}
    (lt_z (pos 0) (spread a), le_z (pos 0) d, index_squared a.n d)
    (true, true, midpoint_squared a.n (spread a) k)
Holds table (deviation xs expected) = deviation_says xs ≡ Ok (thousandths (pos expected))

abbrev pub examples : List Example
examples =
    pwl (pos 4000 ∷ pos 4000 ∷ []) (at 4000) None 10000 ∷  -- D1
    pwl (pos 4000 ∷ pos 4000 ∷ []) (at 3999) None 0 ∷  -- D2
    pwl (pos 1000 ∷ pos 3000 ∷ []) (at 2000) None 5000 ∷  -- D3
    pwl (pos 1000 ∷ pos 3000 ∷ []) (at 2000) (at 2000) 0 ∷  -- D4
    midpoint (pos 0 ∷ pos 0 ∷ pos 0 ∷ pos 80 ∷ []) (pos 21) 1 ∷  -- D5: index exactly 0.025, halfway to row 1
    pwl (pos 0 ∷ pos 0 ∷ pos 0 ∷ pos 80 ∷ []) (at 21) None 5167 ∷  -- D5
    pwl (pos 0 ∷ pos 0 ∷ pos 0 ∷ pos 80 ∷ []) (at 19) None 4833 ∷  -- D6
    pwl (pos 0 ∷ pos 0 ∷ pos 0 ∷ pos 80 ∷ []) (at 20) None 5000 ∷  -- D7
    pwl (pos 0 ∷ pos 0 ∷ pos 0 ∷ pos 80 ∷ []) (at 21) (at 19) 334 ∷  -- D8
    pwl (pos 0 ∷ pos 1 ∷ []) (at 1) None 7349 ∷  -- D9
    deviation (pos 0 ∷ pos 1 ∷ []) 1 ∷  -- D9
    deviation (neg_ℤ (pos 500000) ∷ pos 500000 ∷ []) 707107 ∷  -- D10
    []

-- Of the two corrected entries D1 to D10 see that at n = 2, for an index of 0 or more. Here are its index below 0, and n = 3 at an index of exactly
-- 0.20 and −0.20.
abbrev pub corrected : List Example
corrected =
    pwl (pos 0 ∷ pos 1000 ∷ pos 2000 ∷ []) (at 1200) None 5554 ∷
    pwl (pos 0 ∷ pos 1000 ∷ pos 2000 ∷ []) (at 800) None 4446 ∷
    pwl (pos 0 ∷ pos 1 ∷ []) (at 0) None 2651 ∷
    []
