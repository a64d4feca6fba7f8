-- A store is a plain list of editions, one after the other, and an end; and what lies behind the end is never read.
use mathlib.Core.Path.{◌≡◌, refl, sym, ap, ◌∙◌}
use mathlib.Core.Bool.{Bool, true, false, ◌&&◌, false≢true, and-eq-true_iff}
use mathlib.Core.List.{List, [], ◌∷◌, ◌++◌, append_assoc, append-nil}
use Prim.Native.Nat.{ℕ, zero, suc, ◌+◌, ◌-◌, ◌≤◌, ◌<◌}
use native.Mathlib.Omega.{arith}
use borrow.Author.Tests.{le-leb}
use lib.Dec.{leb}
use lib.ListN.{length, take, drop, length-append, length-take, take-append-drop}
use lib.Seq.{take-append-le, take-append_seam, drop-append_seam, take-add, drop-drop}
use Rattle.rules.specs.Record.{spelled, length_field}
use Rattle.rules.specs.Edition.{number_field, accepted}
use Rattle.rules.specs.Store.{ends, first_entry, after_first, entries_in, rising, most_editions, editions, is_store, least_after, size_of}
use Rattle.laws.proofs.Editions.{edition_accepted}
use Rattle.laws.proofs.StoreEnds.{ends_short, ends_zero, not_end, entries_end, entries_next}

-- ---- editions that rise

-- What the first of a rising list is, and that the others rise after it.
pub rising_parts :
    (room least : ℕ) (e : List ℕ) (es : List (List ℕ)) → rising (suc room) least (e ∷ es) ≡ true →
    (accepted e ≡ true) × (leb least (number_field e) ≡ true) × (rising room (number_field e + 1) es ≡ true)
unfolding rising
rising_parts room least e es r =
    let two = (and-eq-true_iff (accepted e && leb least (number_field e)) (rising room (number_field e + 1) es)).0 r in
    let first = (and-eq-true_iff (accepted e) (leb least (number_field e))).0 two.0 in
    (first.0, first.1, two.1)

-- No list that rises has more editions than may be.
pub rising_few : (room least : ℕ) (es : List (List ℕ)) → rising room least es ≡ true → length es ≤ room
unfolding rising
rising_few room least [] r = omega arith
rising_few zero least (e ∷ es) r = absurd (false≢true r)
rising_few (suc room) least (e ∷ es) r = omega (arith, rising_few room (number_field e + 1) es (rising_parts room least e es r).2)

-- ---- editions one after the other

-- their bytes
unfoldable pub joined : List (List ℕ) → List ℕ
joined [] = []
joined (e ∷ es) = e ++ joined es

-- They have as many bytes as all of them together.
pub length_joined : (es : List (List ℕ)) → length (joined es) ≡ size_of es
unfolding joined size_of
length_joined [] = refl
length_joined (e ∷ es) = length-append e (joined es) ∙ ap (λ (n : ℕ). length e + n) (length_joined es)

-- ---- an accepted entry before other bytes

module _ (e rest : List ℕ) (t : accepted e ≡ true) where
  same_length_field : length_field (e ++ rest) ≡ length e - 2
  same_length_field =
      let a = edition_accepted e (rw t tt) in
      ap (spelled 0) (take-append-le 2 e rest (omega arith)) ∙ a.follow

  -- The entry that the bytes start with is it.
  pub first_joined : first_entry (e ++ rest) ≡ e
  unfolding first_entry
  first_joined =
      let a = edition_accepted e (rw t tt) in
      let size : 2 + length_field (e ++ rest) ≡ length e = omega (arith, same_length_field) in
      ap (λ (n : ℕ). take n (e ++ rest)) size ∙ take-append_seam e rest

  after_joined : after_first (e ++ rest) ≡ rest
  unfolding after_first
  after_joined = ap (λ (bs : List ℕ). drop (length bs) (e ++ rest)) first_joined ∙ drop-append_seam e rest

  goes_on : ends (e ++ rest) ≡ false
  goes_on =
      let a = edition_accepted e (rw t tt) in
      not_end (e ++ rest) (omega (arith, length-append e rest)) (λ z. omega (arith, same_length_field))

-- ---- from a plain list to a store

-- The entries of rising editions one after the other, and an end, are those editions.
pub joined_editions :
    (room least : ℕ) (es : List (List ℕ)) (tail : List ℕ) → rising room least es ≡ true → ends tail ≡ true →
    entries_in (suc room) (joined es ++ tail) ≡ es
unfolding joined rising
joined_editions room least [] tail r h = entries_end (suc room) tail h
joined_editions zero least (e ∷ es) tail r h = absurd (false≢true r)
joined_editions (suc room) least (e ∷ es) tail r h =
    let parts = rising_parts room least e es r in
    let rest : List ℕ = joined es ++ tail in
    rw (append_assoc e (joined es) tail, entries_next (suc room) (e ++ rest) (goes_on e rest parts.0), first_joined e rest parts.0, after_joined e rest parts.0)
    (ap (λ (ds : List (List ℕ)). e ∷ ds) (joined_editions room (number_field e + 1) es tail parts.2 h))

-- One edition more still rises, if there is room for it and its number is above the last.
pub rising_more :
    (room least : ℕ) (es : List (List ℕ)) (e : List ℕ) → rising room least es ≡ true → length es < room → accepted e ≡ true → least_after least es ≤ number_field e →
    rising room least (es ++ (e ∷ [])) ≡ true
unfolding rising least_after
rising_more zero least es e r few t high = absurd (omega arith)
rising_more (suc room) least [] e r few t high = simp (t, le-leb least (number_field e) high)
rising_more (suc room) least (d ∷ es) e r few t high =
    let parts = rising_parts room least d es r in
    simp (parts.0, parts.1) (rising_more room (number_field d + 1) es e parts.2 (omega arith) t high)

-- Its bytes stand after theirs.
pub joined_more : (es : List (List ℕ)) (e tail : List ℕ) → joined (es ++ (e ∷ [])) ++ tail ≡ joined es ++ e ++ tail
unfolding joined
joined_more [] e tail = simp append-nil
joined_more (d ∷ es) e tail = simp append_assoc (ap (λ (bs : List ℕ). d ++ bs) (joined_more es e tail ∙ append_assoc (joined es) e tail))

-- ---- from a store to its plain list

-- Some bytes begin with editions one after the other, and an end follows them.
pub record Splits (bs : List ℕ) (es : List (List ℕ)) : Type 0 where
  pub whole : take (size_of es) bs ≡ joined es
  pub rest_ends : ends (drop (size_of es) bs) ≡ true

front_whole : (bs : List ℕ) (n : ℕ) (js : List ℕ) → take n (after_first bs) ≡ js → take (length (first_entry bs) + n) bs ≡ first_entry bs ++ js
unfolding first_entry after_first
front_whole bs n js h =
    let m : ℕ = 2 + length_field bs in
    let f : List ℕ = take m bs in
    let front : take (length f) bs ≡ f = ap (take (length f)) (sym (take-append-drop m bs)) ∙ take-append_seam f (drop m bs) in
    rw (take-add (length f) n bs, front, h)

front_drop : (bs : List ℕ) (n : ℕ) → ends (drop n (after_first bs)) ≡ true → ends (drop (length (first_entry bs) + n) bs) ≡ true
unfolding after_first
front_drop bs n h = rw (← drop-drop) h

cut : (room least : ℕ) (bs : List ℕ) (b : Bool) → ends bs ≡ b → rising room least (entries_in (suc room) bs) ≡ true → Splits bs (entries_in (suc room) bs)
unfolding rising joined size_of
cut zero least bs true is t = rw (entries_end 1 bs is) (record { whole = refl; rest_ends = is })
cut zero least bs false is t = absurd (false≢true (sym (ap (rising 0 least) (entries_next 0 bs is)) ∙ t))
cut (suc room) least bs true is t = rw (entries_end (suc (suc room)) bs is) (record { whole = refl; rest_ends = is })
cut (suc room) least bs false is t =
    let e : List ℕ = first_entry bs in
    let es : List (List ℕ) = entries_in (suc room) (after_first bs) in
    let parts = rising_parts room least e es (rw (entries_next (suc room) bs is) at t) in
    let more = cut room (number_field e + 1) (after_first bs) (ends (after_first bs)) refl parts.2 in
    rw (entries_next (suc room) bs is)
    (record { whole = front_whole bs (size_of es) (joined es) more.whole; rest_ends = front_drop bs (size_of es) more.rest_ends })

module _ (s : List ℕ) (t : is_store s ≡ true) where
  -- A store begins with its editions, and ends after them.
  pub splits : Splits s (editions s)
  splits = cut most_editions 0 s (ends s) refl t

  -- Its bytes are theirs and what is left.
  pub whole_store : joined (editions s) ++ drop (size_of (editions s)) s ≡ s
  whole_store =
      ap (λ (bs : List ℕ). bs ++ drop (size_of (editions s)) s) (sym splits.whole)
      ∙ take-append-drop (size_of (editions s)) s

  -- The end lies within the bytes.
  pub end_within : size_of (editions s) ≤ length s
  end_within = omega (arith, length_joined (editions s), ap length splits.whole, length-take (size_of (editions s)) s)

  -- A store holds at most eight editions.
  pub few_editions : length (editions s) ≤ most_editions
  few_editions = rising_few most_editions 0 (editions s) t

-- ---- what a reader of bytes may rely on

-- A buffer that ends at once is a store that holds no edition.
pub empty_store : (s : List ℕ) → ends s ≡ true → (is_store s ≡ true) × (editions s ≡ [])
unfolding rising
empty_store s h =
    let none = entries_end (suc most_editions) s h in
    (ap (rising most_editions 0) none, none)

-- So is one of fewer than two bytes,
pub short_store : (s : List ℕ) → length s < 2 → (is_store s ≡ true) × (editions s ≡ [])
short_store s h = empty_store s (ends_short s h)

-- and one that begins with a zero length.
pub zero_store : (s : List ℕ) → length_field s ≡ 0 → (is_store s ≡ true) × (editions s ≡ [])
zero_store s h = empty_store s (ends_zero s h)

-- What lies behind the end is never read: bytes that agree with a store up to its end, and end there, are a store of the same editions.
pub unread_behind :
    (s t : List ℕ) → is_store s ≡ true → take (size_of (editions s)) t ≡ take (size_of (editions s)) s → ends (drop (size_of (editions s)) t) ≡ true →
    (is_store t ≡ true) × (editions t ≡ editions s)
unread_behind s t r front h =
    let end : ℕ = size_of (editions s) in
    let begins : joined (editions s) ≡ take end t = sym (splits s r).whole ∙ sym front in
    let whole : joined (editions s) ++ drop end t ≡ t = ap (λ (bs : List ℕ). bs ++ drop end t) begins ∙ take-append-drop end t in
    let same : editions t ≡ editions s = ap editions (sym whole) ∙ joined_editions most_editions 0 (editions s) (drop end t) r h in
    (ap (rising most_editions 0) same ∙ r, same)
