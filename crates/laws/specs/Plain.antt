-- Document 02, R-5: a plain list of editions, asked the same as a store beside it, step for step.
use Rattle.std.specs.Prelude.{◌≡◌, true, not, List, [], ◌∷◌, ◌++◌, ℕ, ◌-◌, leb, ltb, length, Ok, Err}
use Rattle.rules.specs.declared.Refusal.TheVariants.{Room, Unsound, NotRising, NoEdition}
use Rattle.rules.specs.Said.{Said, ruled}
use Rattle.rules.specs.Edition.{number_field, accepted}
use Rattle.rules.specs.Store.{is_store, editions, most_editions, numbers, stored, start_in, least_after, size_of}
use Rattle.rules.specs.Refusals.{given_when, room_case}
use Rattle.rules.specs.Entries.{written}
use Rattle.rules.specs.Editions.{storing_says, after_storing, finding_says, listing_says, after_listing}

-- a list of editions, and how many bytes there are for them
pub record Plain : Type 0 where
  pub size : ℕ
  pub list : List (List ℕ)

-- what may be asked: to store an edition, to find one by its number, to list the numbers into a lent list
pub data Step : Type 0 where
  storing : List ℕ → Step
  finding : ℕ → Step
  listing : List ℕ → Step

-- what is said, and the lent list then
pub record Given : Type 0 where
  pub said : Said ℕ
  pub lent : List ℕ

-- the list that is lent with a step
abbrev pub lent_with : Step → List ℕ
lent_with (storing e) = []
lent_with (finding named) = []
lent_with (listing out) = out

-- ---- the plain list

unfoldable pub plain_says : Step → Plain → Said ℕ
plain_says (storing e) p =
    ruled
    (given_when Unsound (not (accepted e)) ∷
    given_when NotRising (ltb (number_field e) (least_after 0 p.list)) ∷
    given_when Room (leb most_editions (length p.list)) ∷
    room_case (p.size - size_of p.list) (length e) ∷
    [])
    (size_of p.list)
plain_says (finding named) p = ruled (given_when NoEdition (not (stored named p.list)) ∷ []) (start_in named p.list)
plain_says (listing out) p = ruled (room_case (length out) (length p.list) ∷ []) (length p.list)

unfoldable pub plain_lent : Step → Plain → List ℕ
plain_lent (storing e) p = []
plain_lent (finding named) p = []
plain_lent (listing out) p = written (numbers p.list) out (plain_says (listing out) p)

-- an edition that is stored is the last one then
abbrev pub with_last : Said ℕ → List ℕ → Plain → Plain
with_last (Err r) e p = p
with_last (Ok start) e p = record { size = p.size; list = p.list ++ (e ∷ []) }

unfoldable pub plain_after : Step → Plain → Plain
plain_after (storing e) p = with_last (plain_says (storing e) p) e p
plain_after (finding named) p = p
plain_after (listing out) p = p

-- ---- the store

unfoldable pub store_says : Step → List ℕ → Said ℕ
store_says (storing e) s = storing_says s e
store_says (finding named) s = finding_says s named
store_says (listing out) s = listing_says s out

unfoldable pub store_lent : Step → List ℕ → List ℕ
store_lent (storing e) s = []
store_lent (finding named) s = []
store_lent (listing out) s = after_listing s out

unfoldable pub store_after : Step → List ℕ → List ℕ
store_after (storing e) s = after_storing s e
store_after (finding named) s = s
store_after (listing out) s = s

-- ---- many steps

unfoldable pub plain_gives : List Step → Plain → List Given
plain_gives [] p = []
plain_gives (x ∷ xs) p = record { said = plain_says x p; lent = plain_lent x p } ∷ plain_gives xs (plain_after x p)

unfoldable pub store_gives : List Step → List ℕ → List Given
store_gives [] s = []
store_gives (x ∷ xs) s = record { said = store_says x s; lent = store_lent x s } ∷ store_gives xs (store_after x s)

unfoldable pub plain_at_last : List Step → Plain → Plain
plain_at_last [] p = p
plain_at_last (x ∷ xs) p = plain_at_last xs (plain_after x p)

unfoldable pub store_at_last : List Step → List ℕ → List ℕ
store_at_last [] s = s
store_at_last (x ∷ xs) s = store_at_last xs (store_after x s)

-- The buffer is a store, and what it holds is the list.
pub record Alike (s : List ℕ) (p : Plain) : Type 0 where
  pub sound : is_store s ≡ true
  pub size : length s ≡ p.size
  pub list : editions s ≡ p.list
