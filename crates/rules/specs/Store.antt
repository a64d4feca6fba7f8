-- Document 02, R-5: a store of editions in a lent buffer, and the list of editions that it holds.
use Rattle.std.specs.Prelude.{Bool, true, false, cond, ◌&&◌, ◌||◌, List, [], ◌∷◌, ◌++◌, map, ℕ, zero, suc, ◌+◌, leb, ltb, eqb, length, take, drop}
use Rattle.rules.specs.Record.{length_field}
use Rattle.rules.specs.Table.{Table, no_store, no_edition}
use Rattle.rules.specs.Edition.{number_field, accepted, table_of}

-- ---- the entries of some bytes, each length first

-- The store ends at a length of zero or where fewer than two bytes are left.
unfoldable pub ends : List ℕ → Bool
ends bs = ltb (length bs) 2 || eqb (length_field bs) 0

-- the entry that the bytes start with: its length and so many bytes after it, or what there is of them
unfoldable pub first_entry : List ℕ → List ℕ
first_entry bs = take (2 + length_field bs) bs

unfoldable pub after_first : List ℕ → List ℕ
after_first bs = drop (length (first_entry bs)) bs

-- the entries up to that end, or so many of them
unfoldable pub entries_in : ℕ → List ℕ → List (List ℕ)
entries_in zero bs = []
entries_in (suc room) bs = cond (ends bs) [] (first_entry bs ∷ entries_in room (after_first bs))

-- ---- a store

-- at most so many accepted editions, strictly rising, and the first is numbered `least` or above
unfoldable pub rising : ℕ → ℕ → List (List ℕ) → Bool
rising room least [] = true
rising zero least (e ∷ es) = false
rising (suc room) least (e ∷ es) = accepted e && leb least (number_field e) && rising room (number_field e + 1) es

abbrev pub most_editions : ℕ
most_editions = 8

-- the list of editions that a store holds: one entry more is looked at than it may hold, so that a ninth is seen
abbrev pub editions : List ℕ → List (List ℕ)
editions s = entries_in (suc most_editions) s

-- A buffer is a store exactly when it is at most 8 accepted editions strictly rising up to its end.
abbrev pub is_store : List ℕ → Bool
is_store s = rising most_editions 0 (editions s)

-- ---- a list of editions

abbrev pub numbers : List (List ℕ) → List ℕ
numbers es = map number_field es

-- whether one has the number that is named, which one, and how many bytes stand before it
unfoldable pub stored : ℕ → List (List ℕ) → Bool
stored named [] = false
stored named (e ∷ es) = eqb (number_field e) named || stored named es

unfoldable pub edition_in : ℕ → List (List ℕ) → List ℕ
edition_in named [] = []
edition_in named (e ∷ es) = cond (eqb (number_field e) named) e (edition_in named es)

unfoldable pub start_in : ℕ → List (List ℕ) → ℕ
start_in named [] = 0
start_in named (e ∷ es) = cond (eqb (number_field e) named) 0 (length e + start_in named es)

-- one above the last one's number; any number where there is none
unfoldable pub least_after : ℕ → List (List ℕ) → ℕ
least_after least [] = least
least_after least (e ∷ es) = least_after (number_field e + 1) es

-- how many bytes they have
unfoldable pub size_of : List (List ℕ) → ℕ
size_of [] = 0
size_of (e ∷ es) = length e + size_of es

-- ---- the edition that is named, as a table

unfoldable pub table_in : List ℕ → ℕ → Table
table_in s named n =
    cond (is_store s) (cond (stored named (editions s)) (table_of (edition_in named (editions s)) n) no_edition) no_store

-- ---- an edition more

-- two zero bytes, where two or more bytes follow
unfoldable pub closed : List ℕ → List ℕ
closed bs = cond (ltb (length bs) 2) bs (0 ∷ 0 ∷ drop 2 bs)

-- an entry written at a place, and an end after it
unfoldable pub stored_at : ℕ → List ℕ → List ℕ → List ℕ
stored_at at e s = take at s ++ e ++ closed (drop (at + length e) s)
