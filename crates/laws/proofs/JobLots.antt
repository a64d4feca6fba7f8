-- How many lots a job is cut into, how many sublots each of them has, and that each sublot is in one of them.
use mathlib.Core.Path.{◌≡◌, refl, sym, ap, ◌∙◌, subst⁻¹}
use mathlib.Core.List.Memᴰ
use mathlib.Core.List.{List, [], ◌∷◌, Memᴰ}
use mathlib.Core.Logic.{inl, inr, ⊎_elim}
use Prim.Native.Nat.{ℕ, zero, suc, ◌+◌, ◌*◌, ◌/◌, ◌≤◌, ◌<◌}
use native.Mathlib.Omega.{arith}
use lib.ListN.{length, length-append, length-replicate, replicate}
use Rattle.rules.specs.Job.{with_leftover, lot_sizes, Item, in_order, cut}
use Rattle.laws.specs.Job.{Runs, Sized, LotOf, Holds}
use Rattle.laws.proofs.Tests.{at_least_or_below}
use Rattle.laws.proofs.Job.{Tens, job_tens, cut_by_rule}

-- ---- how many lots there are

length_in_order : (from : ℕ) (sizes : List ℕ) → length (in_order from sizes) ≡ length sizes
unfolding in_order
length_in_order from [] = refl
length_in_order from (count ∷ sizes) = ap suc (length_in_order (from + count) sizes)

pub lots_are : {sublots : ℕ} (t : Tens sublots (lot_sizes sublots)) → length (cut sublots) ≡ suc t.tens
unfolding cut
lots_are t =
    length_in_order 0 _
    ∙ ap length t.same
    ∙ length-append (replicate t.tens 10) (t.last ∷ [])
    ∙ omega (arith, length-replicate {A = ℕ} t.tens 10)

-- None without sublots, one for fewer than eight, and from eight on the whole part of (sublots + 2)/10.
pub no_lots : length (cut 0) ≡ 0
unfolding cut in_order lot_sizes with_leftover
no_lots = refl

one : {sublots : ℕ} → Tens sublots (lot_sizes sublots) → sublots < 8 → length (cut sublots) ≡ 1
one t h = omega (arith, lots_are t, t.fewer (omega (arith, t.whole)))

pub one_lot : (sublots : ℕ) → 1 ≤ sublots → sublots < 8 → length (cut sublots) ≡ 1
one_lot sublots some = one (job_tens sublots some)

many : {sublots : ℕ} → Tens sublots (lot_sizes sublots) → 8 ≤ sublots → length (cut sublots) ≡ (sublots + 2) / 10
many {sublots} t h =
    let last : 8 ≤ t.last = ⊎_elim (λ k. k) (λ k. absurd (omega (arith, t.fewer k, t.whole))) (at_least_or_below 8 t.last) in
    omega (arith, lots_are t, t.whole, t.few, last)

pub lots_by_ten : (sublots : ℕ) → 8 ≤ sublots → length (cut sublots) ≡ (sublots + 2) / 10
lots_by_ten sublots h = many (job_tens sublots (omega arith)) h

-- There are no more lots than sublots,
pub no_more_lots : (sublots : ℕ) → length (cut sublots) ≤ sublots
no_more_lots zero = omega (arith, no_lots)
no_more_lots (suc s) = by (job_tens (suc s) (omega arith))
  where
    by : Tens (suc s) (lot_sizes (suc s)) → length (cut (suc s)) ≤ suc s
    by t = omega (arith, lots_are t, t.whole, t.some)

-- and ten times a lot's place is within the job; that the lot starts there is `ten_is_at` and `last_is_at`, JobNumbers.antt.
pub starts_within : (sublots i : ℕ) → i < length (cut sublots) → 10 * i < sublots
starts_within zero i h = absurd (omega (arith, no_lots))
starts_within (suc s) i h = by (job_tens (suc s) (omega arith))
  where
    by : Tens (suc s) (lot_sizes (suc s)) → 10 * i < suc s
    by t = omega (arith, lots_are t, t.whole, t.some)

-- ---- each lot, and each sublot

lot_among :
    (before from : ℕ) (items : List Item) (end : ℕ) → (before ≡ 0 → from ≡ 0) →
    Runs from items end → Sized before items → (item : Item) → Memᴰ item items → LotOf end item
lot_among before from [] end first r s item m = absurd (Memᴰ.not-nil m)
lot_among before from (x ∷ []) end first r s item m = ⊎_elim (λ e. subst⁻¹ (LotOf end) e last) (λ m'. absurd (Memᴰ.not-nil m')) (Memᴰ.cases_cons m)
  where
    last : LotOf end x
    last =
        record {
          some = s.0;
          few = s.1;
          ten =
              ⊎_elim inl
              (λ _. inr (⊎_elim (λ h. inl (h, omega (arith, r.0, r.1))) (λ l. inr (omega (arith, first (s.2 l), r.1))) (at_least_or_below 8 x.count)))
              (at_least_or_below 10 x.count);
        }
lot_among before from (x ∷ y ∷ items) end first r s item m =
    ⊎_elim (λ e. subst⁻¹ (LotOf end) e (record { some = omega (arith, s.0); few = omega (arith, s.0); ten = inl (omega (arith, s.0)) }))
    (λ m'. lot_among (suc before) (from + x.count) (y ∷ items) end (λ z. absurd (omega arith)) r.1 s.1 item m')
    (Memᴰ.cases_cons m)

pub each_lot : (sublots : ℕ) (item : Item) → Memᴰ item (cut sublots) → LotOf sublots item
each_lot sublots item m =
    let c = cut_by_rule sublots in
    lot_among 0 0 (cut sublots) sublots (λ _. refl) c.runs c.sized item m

-- The lots run on, so each sublot is in one of them,
held_by_one : (from : ℕ) (items : List Item) (end sublot : ℕ) → Runs from items end → from ≤ sublot → sublot < end → (item : Item) × Memᴰ item items × Holds item sublot
held_by_one from [] end sublot r low high = absurd (omega (arith, r))
held_by_one from (x ∷ items) end sublot r low high =
    ⊎_elim (λ past. let more = held_by_one (from + x.count) items end sublot r.1 past high in (more.0, Memᴰ.tail more.1, more.2))
    (λ within. (x, Memᴰ.head refl, record { from = omega (arith, r.0); before = omega (arith, r.0) }))
    (at_least_or_below (from + x.count) sublot)

pub sublot_is_in_a_lot : (sublots sublot : ℕ) → sublot < sublots → (item : Item) × Memᴰ item (cut sublots) × Holds item sublot
sublot_is_in_a_lot sublots sublot h = held_by_one 0 (cut sublots) sublots sublot (cut_by_rule sublots).runs (omega arith) h

-- and in no other.
starts_after : (from : ℕ) (items : List Item) (end : ℕ) → Runs from items end → (item : Item) → Memᴰ item items → from ≤ item.start
starts_after from [] end r item m = absurd (Memᴰ.not-nil m)
starts_after from (x ∷ items) end r item m =
    ⊎_elim (λ e. omega (arith, r.0, ap (λ (i : Item). i.start) e)) (λ m'. omega (arith, starts_after (from + x.count) items end r.1 item m')) (Memᴰ.cases_cons m)

held_by_no_other :
    (from : ℕ) (items : List Item) (end sublot : ℕ) → Runs from items end →
    (x y : Item) → Memᴰ x items → Memᴰ y items → Holds x sublot → Holds y sublot → x ≡ y
held_by_no_other from [] end sublot r x y m n h k = absurd (Memᴰ.not-nil m)
held_by_no_other from (z ∷ items) end sublot r x y m n h k =
    ⊎_elim (λ e. ⊎_elim (λ f. e ∙ sym f) (λ n'. absurd (clash x e h y n' k)) (Memᴰ.cases_cons n))
    (λ m'. ⊎_elim (λ f. absurd (clash y f k x m' h)) (λ n'. held_by_no_other (from + z.count) items end sublot r.1 x y m' n' h k) (Memᴰ.cases_cons n))
    (Memᴰ.cases_cons m)
  where
    clash : (a : Item) → a ≡ z → Holds a sublot → (b : Item) → Memᴰ b items → Holds b sublot → ⊥
    clash a e h' b m' k' =
        omega (arith, r.0, ap (λ (i : Item). i.start) e, ap (λ (i : Item). i.count) e, h'.before, k'.from, starts_after (from + z.count) items end r.1 b m')

pub sublot_is_in_no_other : (sublots sublot : ℕ) (x y : Item) → Memᴰ x (cut sublots) → Memᴰ y (cut sublots) → Holds x sublot → Holds y sublot → x ≡ y
sublot_is_in_no_other sublots sublot = held_by_no_other 0 (cut sublots) sublots sublot (cut_by_rule sublots).runs
