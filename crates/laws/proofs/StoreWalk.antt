-- A store walked an entry after the other: what the front of the bytes says, and what a walk keeps.
use mathlib.Core.Path.{◌≡◌, refl, sym, ap, ap₂, ◌∙◌}
use mathlib.Core.Bool.{Bool, true, false, ◌&&◌, cond, and-false}
use mathlib.Core.List.{List, ◌∷◌}
use Prim.Native.Nat.{ℕ, zero, suc, ◌+◌, ◌-◌, ◌≤◌, ◌<◌}
use native.Mathlib.Omega.{arith}
use borrow.Author.Tests.{le-leb, lt-leb}
use lib.Dec.{leb}
use lib.ListN.{length, drop, length-drop}
use lib.Seq.{take_all, length-take-le, drop-drop}
use Rattle.std.specs.Prelude.{Option, Some, None, Ok, Err}
use Rattle.rules.specs.declared.Refusal.{Refusal}
use Rattle.rules.specs.declared.Refusal.TheVariants.{Unsound}
use Rattle.rules.specs.declared.store.Entry.{Entry}
use Rattle.rules.specs.declared.store.Walked.{Walked}
use Rattle.rules.specs.Said.{Said}
use Rattle.rules.specs.Record.{length_field}
use Rattle.rules.specs.Edition.{number_field, accepted}
use Rattle.rules.specs.Store.{ends, first_entry, after_first, entries_in, rising, most_editions}
use Rattle.laws.specs.StoreWalk.{front_of, passed_by, passed_all, none_passed, store_walk, Kept}
use Rattle.laws.proofs.Editions.{not_accepted}
use Rattle.laws.proofs.StoreEnds.{entries_end, entries_next}
use Rattle.laws.proofs.StoreEntry.{first_within}

-- ---- what stands at the front

-- an edition's entry, by its size and its number
abbrev pub edition_front : ℕ → ℕ → Said (Option Entry)
edition_front size number = Ok (Some (record { size = size; number = number }))

-- An entry that runs past the bytes is not accepted.
pub cut_short : (bs : List ℕ) → length bs < 2 + length_field bs → 2 ≤ length bs → accepted (first_entry bs) ≡ false
unfolding first_entry
cut_short bs h two =
    rw (take_all (2 + length_field bs) bs (omega arith)) (sym (not_accepted bs (λ a. omega arith)))

module _ (least : ℕ) (bs : List ℕ) where
  -- The front is an end, where the entries end.
  pub front_end : ends bs ≡ true → Ok None ≡ front_of least bs
  unfolding front_of
  front_end h = simp h

  -- It is damaged, where the entry is not accepted,
  pub front_refused : ends bs ≡ false → accepted (first_entry bs) ≡ false → Err Unsound ≡ front_of least bs
  unfolding front_of
  front_refused h a = simp (h, a)

  -- or where its number is below the least that may follow.
  pub front_low : ends bs ≡ false → number_field (first_entry bs) < least → Err Unsound ≡ front_of least bs
  unfolding front_of
  front_low h low = simp (h, lt-leb _ _ low, and-false)

  -- Else it is an edition, with its size and its number.
  pub front_edition :
      ends bs ≡ false → 2 + length_field bs ≤ length bs → accepted (first_entry bs) ≡ true → least ≤ number_field (first_entry bs) →
      edition_front (2 + length_field bs) (number_field (first_entry bs)) ≡ front_of least bs
  unfolding front_of first_entry
  front_edition h fits a high = simp (h, a, le-leb _ _ high, length-take-le (2 + length_field bs) bs fits)

  abbrev passes : Bool
  passes = accepted (first_entry bs) && leb least (number_field (first_entry bs))

  front_is_end : Ok None ≡ front_of least bs → ends bs ≡ true
  unfolding front_of
  front_is_end = by (ends bs) passes (length (first_entry bs)) (number_field (first_entry bs))
    where
      by : (e a : Bool) (size number : ℕ) → Ok None ≡ cond e (Ok None) (cond a (edition_front size number) (Err Unsound)) → e ≡ true
      by true a size number h = refl
      by false true size number h = cc
      by false false size number h = cc

  front_is_damaged : {r : Refusal} → Err r ≡ front_of least bs → (ends bs ≡ false) × (passes ≡ false) × (r ≡ Unsound)
  unfolding front_of
  front_is_damaged = by (ends bs) passes (length (first_entry bs)) (number_field (first_entry bs))
    where
      by : (e a : Bool) (size number : ℕ) {r : Refusal} → Err r ≡ cond e (Ok None) (cond a (edition_front size number) (Err Unsound)) →
          (e ≡ false) × (a ≡ false) × (r ≡ Unsound)
      by true a size number h = (cc, cc, cc)
      by false true size number h = (cc, cc, cc)
      by false false size number h = (refl, refl, cc)

  front_is_edition :
      (m n : ℕ) → edition_front m n ≡ front_of least bs →
      (ends bs ≡ false) × (passes ≡ true) × (m ≡ length (first_entry bs)) × (n ≡ number_field (first_entry bs))
  unfolding front_of
  front_is_edition = by (ends bs) passes (length (first_entry bs)) (number_field (first_entry bs))
    where
      by : (e a : Bool) (size number m n : ℕ) → edition_front m n ≡ cond e (Ok None) (cond a (edition_front size number) (Err Unsound)) →
          (e ≡ false) × (a ≡ true) × (m ≡ size) × (n ≡ number)
      by true a size number m n h = (cc, cc, cc, cc)
      by false true size number m n h =
          let same : ◌≡◌ {A = Entry} (record { size = m; number = n }) (record { size = size; number = number }) = cc in
          (refl, refl, ap (λ (e : Entry). e.size) same, ap (λ (e : Entry). e.number) same)
      by false false size number m n h = (cc, cc, cc, cc)

-- ---- what a walk keeps

rising_damaged : (room least : ℕ) (e : List ℕ) (es : List (List ℕ)) → (accepted e && leb least (number_field e)) ≡ false → rising room least (e ∷ es) ≡ false
unfolding rising
rising_damaged zero least e es h = refl
rising_damaged (suc room) least e es h = simp h

module _ (named : ℕ) (s : List ℕ) where
  -- Before the first entry nothing is passed, and all is left.
  pub kept_first : Kept named s none_passed
  kept_first = record { within = omega arith; few = omega arith; as_store = refl; as_list = refl }

  module _ (w : Walked) (k : Kept named s w) where
    abbrev left : List ℕ
    left = drop w.end s

    abbrev room_left : ℕ
    room_left = most_editions - w.count

    -- At the end the buffer is a store, and what is known of the editions passed is known of all.
    pub kept_end : Ok None ≡ front_of w.least left → Ok w ≡ store_walk named s
    unfolding store_walk passed_all rising
    kept_end h = simp (k.as_store, k.as_list, entries_end (suc room_left) left (front_is_end w.least left h))

    -- At an entry that is none of a store the buffer is no store.
    pub kept_damaged : {r : Refusal} → Err r ≡ front_of w.least left → Err r ≡ store_walk named s
    unfolding store_walk
    kept_damaged h =
        let e = front_is_damaged w.least left h in
        ap Err e.2
        ∙ simp (
          k.as_store,
          entries_next room_left left e.0,
          rising_damaged room_left w.least (first_entry left) (entries_in room_left (after_first left)) e.1,
        )

    -- At a ninth edition the buffer is no store.
    pub kept_ninth : (size number : ℕ) → edition_front size number ≡ front_of w.least left → w.count ≡ most_editions → Err Unsound ≡ store_walk named s
    unfolding store_walk rising
    kept_ninth size number h full =
        let e = front_is_edition w.least left size number h in
        let none : room_left ≡ 0 = omega arith in
        simp (k.as_store, none, entries_next 0 left e.0)

    -- An edition more is passed.
    pub kept_next : (size number : ℕ) → edition_front size number ≡ front_of w.least left → w.count < most_editions → Kept named s (passed_by named w size number)
    unfolding passed_all after_first rising
    kept_next size number h room =
        let e = front_is_edition w.least left size number h in
        let r : ℕ = most_editions - (w.count + 1) in
        let fewer : room_left ≡ suc r = omega arith in
        let rest : after_first left ≡ drop (w.end + size) s = ap (λ (n : ℕ). drop n left) (sym e.2) ∙ drop-drop size w.end s in
        let more : List (List ℕ) = entries_in (suc r) (drop (w.end + size) s) in
        let cut : entries_in (suc (suc r)) left ≡ first_entry left ∷ more = entries_next (suc r) left e.0 ∙ ap (λ (bs : List ℕ). first_entry left ∷ entries_in (suc r) bs) rest in
        record {
          within = omega (arith, first_within left, length-drop w.end s, e.2);
          few = omega arith;
          as_store = k.as_store ∙ simp (fewer, cut, e.1) (ap (λ (n : ℕ). rising r (n + 1) more) (sym e.3));
          as_list = k.as_list ∙ simp (fewer, cut) (ap₂ (λ (m n : ℕ). passed_all named (passed_by named w m n) more) (sym e.2) (sym e.3));
        }
