-- An entry of a store where it stands: its bytes, where each edition lies, and where the next one starts.
use mathlib.Core.Path.{◌≡◌, sym, ap, ap₂, ◌∙◌}
use mathlib.Core.Bool.{true, false≢true}
use mathlib.Core.List.{List, [], ◌∷◌, ◌++◌, append_assoc}
use Prim.Native.Nat.{ℕ, zero, suc, ◌+◌, ◌≤◌, ◌<◌}
use native.Mathlib.Nat.{add_assoc, le_of_suc-le-suc}
use native.Mathlib.Omega.{arith}
use lib.ListN.{length, take, drop, get_or, length-take, length-drop, length-append}
use lib.Seq.{take-take, get_or-take, get_or-drop, drop-append-add}
use Rattle.rules.specs.Record.{spelled, part, length_field}
use Rattle.rules.specs.Edition.{number_field, first_field, last_field, edition_head, accepted}
use Rattle.rules.specs.Store.{first_entry, rising, most_editions, editions, is_store, size_of}
use Rattle.laws.specs.StoreWalk.{EditionAccepted, EditionAt}
use Rattle.laws.proofs.Editions.{edition_accepted}
use Rattle.laws.proofs.Spelled.{part_two}
use Rattle.laws.proofs.StoreLists.{rising_parts, joined, first_joined, whole_store}

-- ---- the entry at a place

-- The first entry lies within the bytes.
pub first_within : (bs : List ℕ) → length (first_entry bs) ≤ length bs
unfolding first_entry
first_within bs = omega (arith, length-take (2 + length_field bs) bs)

-- Its bytes are those of the whole from the place on at which it starts.
pub entry_byte : (s : List ℕ) (start i : ℕ) → i < length (first_entry (drop start s)) → get_or s (start + i) 0 ≡ get_or (first_entry (drop start s)) i 0
unfolding first_entry
entry_byte s start i h =
    let rest : List ℕ = drop start s in
    let size : ℕ = 2 + length_field rest in
    sym (get_or-drop start s i 0) ∙ sym (get_or-take size rest i 0 (omega (arith, length-take size rest)))

-- So the number that two of its bytes spell is the one that is spelled there.
pub entry_two :
    (s : List ℕ) (start at : ℕ) → at + 2 ≤ length (first_entry (drop start s)) →
    spelled 0 (part (start + at) 2 s) ≡ spelled 0 (part at 2 (first_entry (drop start s)))
entry_two s start at h =
    let e : List ℕ = first_entry (drop start s) in
    let inside : start + at + 2 ≤ length s = omega (arith, first_within (drop start s), length-drop start s) in
    let later : get_or s (start + at + 1) 0 ≡ get_or e (at + 1) 0 = ap (λ (i : ℕ). get_or s i 0) (add_assoc start at 1) ∙ entry_byte s start (at + 1) (omega arith) in
    ap (spelled 0)
    (part_two s (start + at) inside
    ∙ ap₂ (λ (x y : ℕ). x ∷ y ∷ []) (entry_byte s start at (omega arith)) later
    ∙ sym (part_two e at h))

-- Where an accepted edition starts, its first n and its last n stand 5 and 6 bytes further.
pub edition_at :
    (s : List ℕ) (start : ℕ) → EditionAt s start →
    EditionAccepted (first_entry (drop start s)) ×
    (get_or s (start + 5) 0 ≡ first_field (first_entry (drop start s))) ×
    (get_or s (start + 6) 0 ≡ last_field (first_entry (drop start s)))
edition_at s start k =
    let a = edition_accepted (first_entry (drop start s)) (rw k.taken tt) in
    (a, entry_byte s start 5 (omega arith), entry_byte s start 6 (omega arith))

-- ---- where each edition lies

lies_in :
    (room least : ℕ) (es : List (List ℕ)) (tail : List ℕ) → rising room least es ≡ true → (i : ℕ) → i < length es →
    (first_entry (drop (size_of (take i es)) (joined es ++ tail)) ≡ get_or es i []) ×
    (accepted (get_or es i []) ≡ true) ×
    (size_of (take i es) + length (get_or es i []) ≤ length (joined es ++ tail))
unfolding rising joined size_of
lies_in room least [] tail r i h = absurd (omega arith)
lies_in zero least (e ∷ es) tail r i h = absurd (false≢true r)
lies_in (suc room) least (e ∷ es) tail r zero h =
    let t = (rising_parts room least e es r).0 in
    (simp (append_assoc, first_joined e (joined es ++ tail) t), t, omega (arith, length-append e (joined es), length-append (e ++ joined es) tail))
lies_in (suc room) least (e ∷ es) tail r (suc i) h =
    let more = lies_in room (number_field e + 1) es tail (rising_parts room least e es r).2 i (le_of_suc-le-suc h) in
    (simp (append_assoc, drop-append-add) more.0, more.1, omega (arith, more.2, length-append e (joined es ++ tail), ap length (append_assoc e (joined es) tail)))

-- Edition i of a store lies where those before it end: it is the entry that starts there, it is accepted, and it lies within the bytes.
pub each_lies :
    (s : List ℕ) → is_store s ≡ true → (i : ℕ) → i < length (editions s) →
    (first_entry (drop (size_of (take i (editions s))) s) ≡ get_or (editions s) i []) ×
    (accepted (get_or (editions s) i []) ≡ true) ×
    (size_of (take i (editions s)) + length (get_or (editions s) i []) ≤ length s)
each_lies s t i h =
    rw (whole_store s t) at (lies_in most_editions 0 (editions s) (drop (size_of (editions s)) s) t i h)

-- One edition more has its bytes more.
size_next : (es : List (List ℕ)) (i : ℕ) → i < length es → size_of (take (suc i) es) ≡ size_of (take i es) + length (get_or es i [])
unfolding size_of
size_next [] i h = absurd (omega arith)
size_next (e ∷ es) zero h = omega arith
size_next (e ∷ es) (suc i) h = omega (arith, size_next es i (le_of_suc-le-suc h))

-- What stands at a place where edition i starts: its number, and its length, by which the next one's place is found.
pub record EditionNext (s : List ℕ) (i at : ℕ) : Type 0 where
  pub number : spelled 0 (part (at + 3) 2 s) ≡ number_field (get_or (editions s) i [])
  pub next : at + (2 + spelled 0 (part at 2 s)) ≡ size_of (take (suc i) (editions s))
  pub head : at + edition_head ≤ length s
  pub within : size_of (take (suc i) (editions s)) ≤ length s

-- Where the editions before it end, edition i of a store starts.
pub edition_next : (s : List ℕ) → is_store s ≡ true → (i at : ℕ) → i < length (editions s) → at ≡ size_of (take i (editions s)) → EditionNext s i at
unfolding first_entry
edition_next s t i at h is =
    let l = rw (← is) at (each_lies s t i h) in
    let e : List ℕ = get_or (editions s) i [] in
    let a = edition_accepted e (rw l.1 tt) in
    let rest : List ℕ = drop at s in
    let m : ℕ = 2 + length_field rest in
    let same : length_field rest ≡ length_field e = ap (spelled 0) (sym (take-take 2 m rest (omega arith))) ∙ ap length_field l.0 in
    let size = size_next (editions s) i h in
    let size_is : length (first_entry rest) ≡ length e = ap length l.0 in
    record {
      number = entry_two s at 3 (omega arith) ∙ ap number_field l.0;
      next = omega (arith, same, size);
      head = omega (arith, l.2);
      within = omega (arith, l.2, size);
    }
