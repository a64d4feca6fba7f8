-- Document 02, R-5: what is said where an edition is stored, found, listed or written, and what the lent bytes are then.
use Rattle.std.specs.Prelude.{List, [], ◌∷◌, ℕ, ◌-◌, length, Ok, Err}
use Rattle.rules.specs.Said.{Said, Case, ruled}
use Rattle.rules.specs.Edition.{edition_106_1}
use Rattle.rules.specs.Store.{editions, numbers, start_in, size_of, stored_at}
use Rattle.rules.specs.Refusals.{room_case, sound_case, accepted_case, rising_case, ninth_case, named_case}
use Rattle.rules.specs.Entries.{written}

-- ---- storing an edition: 11, 12 and 8. It answers the place at which the entry starts, which is where the store ended.

unfoldable pub storing_meets : List ℕ → List ℕ → List Case
storing_meets s e =
    sound_case s ∷
    accepted_case e ∷
    rising_case s e ∷
    ninth_case s ∷
    room_case (length s - size_of (editions s)) (length e) ∷
    []

unfoldable pub storing_says : List ℕ → List ℕ → Said ℕ
storing_says s e = ruled (storing_meets s e) (size_of (editions s))

-- The buffer then: as it was where the edition is refused; else the entry stands where the store ended.
unfoldable pub left_by : Said ℕ → List ℕ → List ℕ → List ℕ
left_by (Err r) s e = s
left_by (Ok start) s e = stored_at start e s

abbrev pub after_storing : List ℕ → List ℕ → List ℕ
after_storing s e = left_by (storing_says s e) s e

-- ---- finding one: 11 and 13. It answers the place of its length's first byte.

unfoldable pub finding_says : List ℕ → ℕ → Said ℕ
finding_says s named = ruled (sound_case s ∷ named_case named s ∷ []) (start_in named (editions s))

-- ---- listing their numbers into a lent list: 11 and 8. It answers how many there are.

unfoldable pub listing_says : List ℕ → List ℕ → Said ℕ
listing_says s out =
    ruled (sound_case s ∷ room_case (length out) (length (numbers (editions s))) ∷ []) (length (editions s))

abbrev pub after_listing : List ℕ → List ℕ → List ℕ
after_listing s out = written (numbers (editions s)) out (listing_says s out)

-- ---- writing Table 106-1's edition, under a number: 8. It answers how many bytes are written.

unfoldable pub default_says : ℕ → List ℕ → Said ℕ
default_says number out =
    ruled (room_case (length out) (length (edition_106_1 number)) ∷ []) (length (edition_106_1 number))

abbrev pub after_default : ℕ → List ℕ → List ℕ
after_default number out = written (edition_106_1 number) out (default_says number out)
