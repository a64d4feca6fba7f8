-- Where a store ends, and its entries up to there, one at a time.
use mathlib.Core.Path.{◌≡◌, refl}
use mathlib.Core.Bool.{Bool, true, false, or-true}
use mathlib.Core.List.{List, [], ◌∷◌}
use Prim.Native.Nat.{ℕ, zero, suc, ◌≤◌, ◌<◌}
use borrow.Author.Tests.{le-ltb, lt-ltb, eq-eqb, ne_eqb}
use lib.Dec.{ltb}
use lib.ListN.{length}
use Rattle.rules.specs.Record.{spelled, length_field}
use Rattle.rules.specs.Store.{ends, first_entry, after_first, entries_in, closed}

-- ---- the end

-- Fewer than two bytes are an end.
pub ends_short : (bs : List ℕ) → length bs < 2 → ends bs ≡ true
unfolding ends
ends_short bs h = simp (lt-ltb _ _ h)

-- A length of zero is an end.
pub ends_zero : (bs : List ℕ) → length_field bs ≡ 0 → ends bs ≡ true
unfolding ends
ends_zero bs h = simp (eq-eqb _ _ h, or-true)

-- Nothing else is an end.
pub not_end : (bs : List ℕ) → 2 ≤ length bs → (length_field bs ≡ 0 → ⊥) → ends bs ≡ false
unfolding ends
not_end bs two some = simp (le-ltb _ _ two, ne_eqb _ _ some)

closing : (bs : List ℕ) (b : Bool) → ltb (length bs) 2 ≡ b → ends (closed bs) ≡ true
unfolding closed ends spelled
closing bs true is = simp is
closing bs false is = simp (is, or-true)

-- Two zero bytes are an end, where two bytes follow; and so is what follows, where it is fewer.
pub closed_ends : (bs : List ℕ) → ends (closed bs) ≡ true
closed_ends bs = closing bs (ltb (length bs) 2) refl

-- ---- entries, one at a time

-- At an end there are no entries.
pub entries_end : (room : ℕ) (bs : List ℕ) → ends bs ≡ true → entries_in room bs ≡ []
unfolding entries_in
entries_end zero bs h = refl
entries_end (suc room) bs h = simp h

-- Before the end there is an entry, and then the entries of what is left.
pub entries_next : (room : ℕ) (bs : List ℕ) → ends bs ≡ false → entries_in (suc room) bs ≡ first_entry bs ∷ entries_in room (after_first bs)
unfolding entries_in
entries_next room bs h = simp h
