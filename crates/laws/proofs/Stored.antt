-- Document 02, R-5: an edition that is stored. The bytes are a store then, with that edition last, and it is found where storing answered.
use mathlib.Core.Path.{◌≡◌, refl, sym, ap, ◌∙◌}
use mathlib.Core.Bool.{Bool, true, false, not, or-true, false≢true}
use mathlib.Core.List.{List, [], ◌∷◌, ◌++◌}
use Prim.Native.Nat.{ℕ, zero, suc, ◌+◌, ◌-◌, ◌≤◌, ◌<◌}
use native.Mathlib.Nat.{le_refl}
use native.Mathlib.Omega.{arith}
use borrow.Author.Tests.{ltb-false, leb-false, leb-true, eq-eqb, ne_eqb, not-false}
use lib.Dec.{ltb}
use lib.ListN.{length, take, drop, length-append, length-drop}
use lib.Seq.{length-take-le}
use Rattle.std.specs.Prelude.{Ok}
use Rattle.rules.specs.Said.{Said}
use Rattle.rules.specs.Edition.{number_field, accepted}
use Rattle.rules.specs.Store.{rising, most_editions, editions, is_store, stored, start_in, least_after, size_of, closed, stored_at}
use Rattle.rules.specs.Refusals.{room_case, sound_case, accepted_case, rising_case, ninth_case, named_case}
use Rattle.rules.specs.Editions.{storing_meets, storing_says, left_by, after_storing, finding_says}
use Rattle.laws.proofs.Ruled.{ruled_passed, ruled_none, ruled_answers, none_met}
use Rattle.laws.proofs.StoreEnds.{closed_ends}
use Rattle.laws.proofs.StoreLists.{joined_editions, joined_more, rising_parts, rising_more, splits, end_within}

-- What holds where a storing is answered.
pub record Storable (s e : List ℕ) (start : ℕ) : Type 0 where
  pub sound : is_store s ≡ true
  pub taken : accepted e ≡ true
  pub high : least_after 0 (editions s) ≤ number_field e
  pub few : length (editions s) < most_editions
  pub room : length e ≤ length s - size_of (editions s)
  pub start_is : size_of (editions s) ≡ start

closing_length : (bs : List ℕ) (b : Bool) → ltb (length bs) 2 ≡ b → length (closed bs) ≡ length bs
unfolding closed
closing_length bs true is = simp is
closing_length bs false is = simp is (omega (arith, length-drop 2 bs, ltb-false (length bs) 2 is))

length_closed : (bs : List ℕ) → length (closed bs) ≡ length bs
length_closed bs = closing_length bs (ltb (length bs) 2) refl

-- The least number that may follow does not fall.
least_grows : (room least : ℕ) (es : List (List ℕ)) → rising room least es ≡ true → least ≤ least_after least es
unfolding rising least_after
least_grows room least [] r = le_refl least
least_grows zero least (e ∷ es) r = absurd (false≢true r)
least_grows (suc room) least (e ∷ es) r =
    let parts = rising_parts room least e es r in
    omega (arith, leb-true least (number_field e) parts.1, least_grows room (number_field e + 1) es parts.2)

-- The last of a list is in it, and starts after all others, where its number is above theirs.
stored_last : (es : List (List ℕ)) (e : List ℕ) → stored (number_field e) (es ++ (e ∷ [])) ≡ true
unfolding stored
stored_last [] e = simp (eq-eqb (number_field e) (number_field e) refl)
stored_last (d ∷ es) e = simp (stored_last es e, or-true)

start_last :
    (room least : ℕ) (es : List (List ℕ)) (e : List ℕ) → rising room least es ≡ true → least_after least es ≤ number_field e →
    start_in (number_field e) (es ++ (e ∷ [])) ≡ size_of es
unfolding rising least_after start_in size_of
start_last room least [] e r high = simp (eq-eqb (number_field e) (number_field e) refl)
start_last zero least (d ∷ es) e r high = absurd (false≢true r)
start_last (suc room) least (d ∷ es) e r high =
    let rest = (rising_parts room least d es r).2 in
    let other = ne_eqb (number_field d) (number_field e) (λ same. omega (arith, least_grows room (number_field d + 1) es rest)) in
    simp other (ap (λ (n : ℕ). length d + n) (start_last room (number_field d + 1) es e rest high))

module _ (s e : List ℕ) (start : ℕ) (h : storing_says s e ≡ Ok start) where
  storable : Storable s e start
  unfolding storing_says storing_meets
  storable =
      let says = ruled_answers (storing_meets s e) (size_of (editions s)) start h in
      let after_sound = none_met (sound_case s) _ says.0 in
      let after_accepted = none_met (accepted_case e) _ after_sound.1 in
      let after_rising = none_met (rising_case s e) _ after_accepted.1 in
      let after_ninth = none_met (ninth_case s) _ after_rising.1 in
      let after_room = none_met (room_case (length s - size_of (editions s)) (length e)) _ after_ninth.1 in
      record {
        sound = not-false _ after_sound.0;
        taken = not-false _ after_accepted.0;
        high = ltb-false _ _ after_rising.0;
        few = leb-false _ _ after_ninth.0;
        room = ltb-false _ _ after_room.0;
        start_is = says.1;
      }

  -- The edition lies within the bytes.
  pub stored_within : start + length e ≤ length s
  stored_within = omega (arith, storable.start_is, storable.room, end_within s storable.sound)

  after_is : after_storing s e ≡ stored_at (size_of (editions s)) e s
  unfolding left_by
  after_is = ap (λ (said : Said ℕ). left_by said s e) h ∙ ap (λ (at : ℕ). stored_at at e s) (sym storable.start_is)

  more : rising most_editions 0 (editions s ++ (e ∷ [])) ≡ true
  more = rising_more most_editions 0 (editions s) e storable.sound storable.few storable.taken storable.high

  last_is : editions (after_storing s e) ≡ editions s ++ (e ∷ [])
  unfolding stored_at
  last_is =
      let tail : List ℕ = closed (drop (size_of (editions s) + length e) s) in
      ap editions (after_is ∙ ap (λ (bs : List ℕ). bs ++ e ++ tail) (splits s storable.sound).whole ∙ sym (joined_more (editions s) e tail))
      ∙ joined_editions most_editions 0 (editions s ++ (e ∷ [])) tail more (closed_ends _)

  -- After a storing that is answered, the bytes are a store, of the editions that it held and then the one stored.
  pub stored_is_listed_last : (editions (after_storing s e) ≡ editions s ++ (e ∷ [])) × (is_store (after_storing s e) ≡ true)
  stored_is_listed_last = (last_is, ap (rising most_editions 0) last_is ∙ more)

  -- There are as many bytes as before.
  pub same_length : length (after_storing s e) ≡ length s
  unfolding stored_at
  same_length =
      let at : ℕ = size_of (editions s) in
      let tail : List ℕ = drop (at + length e) s in
      let inside : at ≤ length s = end_within s storable.sound in
      ap length after_is
      ∙ omega (arith, storable.room, length-append (take at s ++ e) (closed tail), length-append (take at s) e, length-take-le at s inside, length_closed tail, length-drop (at + length e) s)

  -- It is found under its own number, at the place that was answered.
  pub stored_is_found : finding_says (after_storing s e) (number_field e) ≡ Ok start
  unfolding finding_says
  stored_is_found =
      let s' : List ℕ = after_storing s e in
      let there : stored (number_field e) (editions s') ≡ true = ap (stored (number_field e)) last_is ∙ stored_last (editions s) e in
      ruled_passed (sound_case s') _ _ (ap not stored_is_listed_last.1)
      ∙ ruled_passed (named_case (number_field e) s') _ _ (ap not there)
      ∙ ruled_none _
      ∙ ap Ok (ap (start_in (number_field e)) last_is ∙ start_last most_editions 0 (editions s) e storable.sound storable.high ∙ storable.start_is)
