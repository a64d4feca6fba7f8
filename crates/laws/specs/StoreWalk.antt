-- A store of editions as it is walked, an entry after the other, beside the plain list of its editions.
use Rattle.std.specs.Prelude.{◌≡◌, true, cond, ◌&&◌, List, [], ◌∷◌, ℕ, suc, ◌+◌, ◌*◌, ◌-◌, ◌≤◌, T, leb, eqb, length, drop, Ok, Err, Option, None, Some, Bool}
use Rattle.rules.specs.declared.store.Entry.{Entry}
use Rattle.rules.specs.declared.store.Walked.{Walked}
use Rattle.rules.specs.declared.Refusal.TheVariants.{Unsound}
use Rattle.rules.specs.declared.Columned.{Columned}
use Rattle.rules.specs.Lot.{most}
use Rattle.rules.specs.Record.{length_field, version_field}
use Rattle.rules.specs.Table.{Table, no_store, no_edition, a_column, column_in, well_formed}
use Rattle.rules.specs.Edition.{number_field, first_field, last_field, edition_head, column_size, columns, column_of, each, accepted, table_of}
use Rattle.rules.specs.Store.{ends, first_entry, entries_in, rising, most_editions, editions, is_store, stored, start_in, least_after, size_of}
use Rattle.rules.specs.Said.{Said}

-- What holds of an accepted edition, in orders.
pub record EditionAccepted (e : List ℕ) : Type 0 where
  pub version : version_field e ≡ 1
  pub least : 2 ≤ first_field e
  pub few : last_field e ≤ most
  pub order : first_field e ≤ last_field e
  pub size : length e ≡ edition_head + column_size * columns e
  pub follow : length_field e ≡ length e - 2
  pub passing : T (each (λ n. well_formed (column_of e n)) (columns e) (first_field e))

-- ---- the walk

-- What stands at the front of the bytes that are left, where the least number that may follow is so: an edition's entry, or the end, or what is none
-- of a store.
unfoldable pub front_of : ℕ → List ℕ → Said (Option Entry)
front_of least bs =
    cond (ends bs) (Ok None)
    (cond (accepted (first_entry bs) && leb least (number_field (first_entry bs)))
    (Ok (Some (record { size = length (first_entry bs); number = number_field (first_entry bs) })))
    (Err Unsound))

-- a start that is known stays; else it is this place, where the edition that is named stands here
abbrev pub known_start : Option ℕ → Bool → ℕ → Option ℕ
known_start (Some start) here at = Some start
known_start None here at = cond here (Some at) None

-- one edition more is passed
abbrev pub passed_by : ℕ → Walked → ℕ → ℕ → Walked
passed_by named w size number =
    record {
      end = w.end + size;
      least = number + 1;
      count = w.count + 1;
      start = known_start w.start (eqb number named) w.end;
    }

unfoldable pub passed_all : ℕ → Walked → List (List ℕ) → Walked
passed_all named w [] = w
passed_all named w (e ∷ es) = passed_all named (passed_by named w (length e) (number_field e)) es

abbrev pub none_passed : Walked
none_passed = record { end = 0; least = 0; count = 0; start = None }

unfoldable pub store_walk : ℕ → List ℕ → Said Walked
store_walk named s = cond (is_store s) (Ok (passed_all named none_passed (editions s))) (Err Unsound)

-- What a walk keeps: the editions passed and the bytes that are left say what the whole store says.
pub record Kept (named : ℕ) (s : List ℕ) (w : Walked) : Type 0 where
  pub within : w.end ≤ length s
  pub few : w.count ≤ most_editions
  pub as_store :
      is_store s ≡ rising (most_editions - w.count) w.least (entries_in (suc (most_editions - w.count)) (drop w.end s))
  pub as_list :
      passed_all named none_passed (editions s) ≡
      passed_all named w (entries_in (suc (most_editions - w.count)) (drop w.end s))

-- What a walk knows of a store when it is through.
pub record Ends (s : List ℕ) (w : Walked) : Type 0 where
  pub sound : is_store s ≡ true
  pub end_is : w.end ≡ size_of (editions s)
  pub within : w.end ≤ length s
  pub count_is : w.count ≡ length (editions s)
  pub few : w.count ≤ most_editions
  pub least_is : w.least ≡ least_after 0 (editions s)

-- ---- the edition that is named

-- the place at which its entry starts, or that there is none; 11 where the bytes are no store
unfoldable pub named_says : ℕ → List ℕ → Said (Option ℕ)
named_says named s =
    cond (is_store s) (Ok (cond (stored named (editions s)) (Some (start_in named (editions s))) None)) (Err Unsound)

-- An accepted edition starts at this place, and lies within the bytes.
pub record EditionAt (s : List ℕ) (start : ℕ) : Type 0 where
  pub taken : accepted (first_entry (drop start s)) ≡ true
  pub within : start + length (first_entry (drop start s)) ≤ length s

abbrev pub NamedIn : List ℕ → Said (Option ℕ) → Type 0
NamedIn s (Err r) = r ≡ Unsound
NamedIn s (Ok None) = Unit {0}
NamedIn s (Ok (Some start)) = EditionAt s start

-- the table that is found so
abbrev pub table_at : Said (Option ℕ) → List ℕ → Table
table_at (Err r) s n = no_store
table_at (Ok None) s n = no_edition
table_at (Ok (Some start)) s n = table_of (first_entry (drop start s)) n

-- Where totals stand beside the place of a column, it is the column for their count, and it lies within the bytes.
abbrev pub ColumnPlaced : List ℕ → Said (Option ℕ) → Said Columned → Type 0
ColumnPlaced s named (Err r) = Unit {0}
ColumnPlaced s named (Ok c) =
    (c.column + column_size ≤ length s) × (table_at named s c.totals.n ≡ a_column (column_in (drop c.column s)))
