-- The numbers of a job's lots, place by place.
use mathlib.Core.Path.{◌≡◌, refl, ap, ◌∙◌}
use mathlib.Core.List.{List, [], ◌∷◌, ◌++◌}
use Prim.Native.Nat.{ℕ, zero, suc, ◌+◌, ◌*◌, ◌-◌, ◌<◌}
use native.Mathlib.Omega.{arith}
use lib.ListN.{length, take, drop, get_or, set}
use lib.Seq.{take_all}
use Rattle.rules.specs.Job.{lot_sizes, Item, in_order, cut, item_numbers}
use Rattle.laws.proofs.Lists.{filled_two}
use Rattle.laws.proofs.Job.{tens_and, Tens, job_tens}
use Rattle.laws.proofs.JobLots.{lots_are, no_lots}

pub length_numbers : (items : List Item) → length (item_numbers items) ≡ 2 * length items
unfolding item_numbers
length_numbers [] = refl
length_numbers (item ∷ items) = omega (arith, length_numbers items)

-- the numbers of item i
abbrev Numbers : List Item → ℕ → ℕ → ℕ → Type 0
Numbers items i start count = (get_or (item_numbers items) (2 * i) 0 ≡ start) × (get_or (item_numbers items) (2 * i + 1) 0 ≡ count)

-- The numbers of item i + 1 are those of item i after the first.
later : (item : Item) (items : List Item) (i start count : ℕ) → Numbers items i start count → Numbers (item ∷ items) (suc i) start count
unfolding item_numbers
later item items i start count h =
    let even : 2 * suc i ≡ suc (suc (2 * i)) = omega arith in
    let odd : 2 * suc i + 1 ≡ suc (suc (2 * i + 1)) = omega arith in
    let at : ℕ → ℕ = λ k. get_or (item_numbers (item ∷ items)) k 0 in
    (ap at even ∙ h.0, ap at odd ∙ h.1)

ten_at : (tens last from i start : ℕ) → i < tens → from + 10 * i ≡ start → Numbers (in_order from (tens_and tens last)) i start 10
unfolding in_order item_numbers
ten_at zero last from i start h e = absurd (omega arith)
ten_at (suc tens) last from zero start h e = (omega arith, refl)
ten_at (suc tens) last from (suc i) start h e =
    later _ (in_order (from + 10) (tens_and tens last)) i _ _ (ten_at tens last (from + 10) i start (omega arith) (omega arith))

last_at : (tens last from start : ℕ) → from + 10 * tens ≡ start → Numbers (in_order from (tens_and tens last)) tens start last
unfolding in_order item_numbers
last_at zero last from start e = (omega arith, refl)
last_at (suc tens) last from start e =
    later _ (in_order (from + 10) (tens_and tens last)) tens _ _ (last_at tens last (from + 10) start (omega arith))

-- Every lot but the last starts at ten times its place and has ten;
pub ten_is_at : (sublots i : ℕ) → i + 1 < length (cut sublots) → Numbers (cut sublots) i (10 * i) 10
unfolding cut
ten_is_at zero i h = absurd (omega (arith, no_lots))
ten_is_at (suc s) i h = by (job_tens (suc s) (omega arith))
  where
    by : Tens (suc s) (lot_sizes (suc s)) → Numbers (cut (suc s)) i (10 * i) 10
    by t = rw t.same (ten_at t.tens t.last 0 i (10 * i) (omega (arith, lots_are t)) (omega arith))

-- the last starts there too, and has the sublots that are left.
pub last_is_at : (sublots i : ℕ) → i + 1 ≡ length (cut sublots) → Numbers (cut sublots) i (10 * i) (sublots - 10 * i)
unfolding cut
last_is_at zero i h = absurd (omega (arith, no_lots))
last_is_at (suc s) i h = by (job_tens (suc s) (omega arith))
  where
    by : Tens (suc s) (lot_sizes (suc s)) → Numbers (cut (suc s)) i (10 * i) (suc s - 10 * i)
    by t =
        let e : i ≡ t.tens = omega (arith, lots_are t) in
        let f : suc s - 10 * i ≡ t.last = omega (arith, t.whole) in
        rw (f, e, t.same) (last_at t.tens t.last 0 (10 * t.tens) (omega arith))

-- ---- a lent list, as it is filled

-- Item i is filled in after those before it.
pub item_filled :
    (sublots i : ℕ) {start count : ℕ} (old out : List ℕ) → Numbers (cut sublots) i start count →
    i < length (cut sublots) → 2 * i + 1 < length old → out ≡ take (2 * i) (item_numbers (cut sublots)) ++ drop (2 * i) old →
    set (set out (2 * i) start) (2 * i + 1) count ≡ take (2 * (i + 1)) (item_numbers (cut sublots)) ++ drop (2 * (i + 1)) old
item_filled sublots i old out numbers h room e =
    let more : 2 * (i + 1) ≡ 2 * i + 2 = omega arith in
    rw (e, more) (filled_two (item_numbers (cut sublots)) old 0 (2 * i) (omega (arith, length_numbers (cut sublots))) room numbers.0 numbers.1)

-- When all items are filled in, the list is theirs and then as it was.
pub all_filled : (sublots k lots : ℕ) (old : List ℕ) → lots ≡ length (cut sublots) → k ≡ lots → take (2 * k) (item_numbers (cut sublots)) ++ drop (2 * k) old ≡ item_numbers (cut sublots) ++ drop (2 * lots) old
all_filled sublots k lots old e f =
    let all = take_all (2 * lots) (item_numbers (cut sublots)) (omega (arith, length_numbers (cut sublots))) in
    rw f (ap (λ (ns : List ℕ). ns ++ drop (2 * lots) old) all)
