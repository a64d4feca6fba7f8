-- The record's two returns: a lot that is written reads back as the same lot, and a record that is accepted is written again as the same
-- bytes. So no lot has two records.
use mathlib.Core.Path.{◌≡◌, refl, sym, ap, ◌∙◌}
use mathlib.Core.Bool.{true, not}
use mathlib.Core.List.{List, [], ◌∷◌, ◌++◌, map}
use Prim.Native.Nat.{ℕ, ◌-◌, ◌≤◌, ◌<◌}
use native.Mathlib.Omega.{arith}
use borrow.Author.Tests.{lt-ltb, le-ltb, le-leb}
use lib.IntN.{ℤ, pos}
use lib.ListN.{length, length-append, length-map, length-replicate, take, drop, replicate}
use lib.Seq.{take_at}
use Rattle.std.specs.Prelude.{Ok, Err}
use Rattle.rules.specs.declared.Thousandths.{Thousandths}
use Rattle.rules.specs.declared.Refusal.{Refusal}
use Rattle.rules.specs.declared.Refusal.TheVariants.{Count, Room}
use Rattle.rules.specs.Units.{thousandths}
use Rattle.rules.specs.Said.{Said, ruled, checked}
use Rattle.rules.specs.Lot.{Lot, most, plain, lot_in}
use Rattle.rules.specs.Table.{Table, has_store}
use Rattle.rules.specs.Record.{n_field, head_size, lot_of_record, record_of}
use Rattle.rules.specs.Refusals.{count_case, room_case}
use Rattle.rules.specs.Meets.{head_meets, lot_meets, counted_meets, evaluation_meets, read_meets, write_meets}
use Rattle.rules.specs.Entries.{evaluated, evaluation_says, read_says, held, write_says, written, after_write}
use Rattle.laws.specs.Moved.{Counted}
use Rattle.laws.specs.Bytes.{Bytes}
use Rattle.laws.specs.Head.{HeadAccepted}
use Rattle.laws.proofs.Ruled.{ruled_none, ruled_met, ruled_passed, given, ruled_given, ruled_answers, none_met, ruled_later, none_of_either}
use Rattle.laws.proofs.Accepted.{lot_accepted}
use Rattle.laws.proofs.Spelled.{length_fours}
use Rattle.laws.proofs.HeadAccepted.{head_accepted}
use Rattle.laws.proofs.Records.{lot_of_its_record, head_passes, record_of_its_lot}

-- Where a record is read as a lot: none of refusals 1 to 4 applies to the record, none of 5 to 7 to its lot, and its lot is the one that is read.
read_parts : (bs : List ℕ) (lot : Lot) → read_says bs ≡ Ok lot → HeadAccepted bs × (checked (lot_meets (lot_of_record bs)) ≡ Ok tt) × (lot_of_record bs ≡ lot)
unfolding read_says read_meets
read_parts bs lot e =
    let r = ruled_answers (read_meets bs) (lot_of_record bs) lot e in
    let parts = none_of_either (head_meets bs) (lot_meets (lot_of_record bs)) r.0 in
    (head_accepted bs parts.0, parts.1, r.1)

-- Readings put in the first places of a lot in memory are what those places hold.
places_back : (xs : List ℤ) (rest : List Thousandths) → take (length xs) (plain (map thousandths xs ++ rest)) ≡ xs
places_back [] rest = refl
places_back (x ∷ xs) rest = ap (λ (ys : List ℤ). x ∷ ys) (places_back xs rest)

-- ---- over the definitions

pub written_lot_reads_back : (lot : Lot) → Counted lot → checked (counted_meets lot) ≡ Ok tt → read_says (record_of lot) ≡ Ok lot
unfolding read_says read_meets
written_lot_reads_back lot counted e =
    let ok = lot_accepted lot e in
    let size = counted ok.few in
    ruled_later (head_meets (record_of lot)) _ _ (head_passes lot size ok)
    ∙ ap (λ (l : Lot). ruled (lot_meets l) l) (lot_of_its_record lot size ok)
    ∙ ruled_given (lot_meets lot) lot
    ∙ ap (given lot) (none_met (count_case lot.n) (lot_meets lot) e).1

-- A lot that was read is not refused, and has as many readings as it says,
pub read_is_accepted : (bs : List ℕ) (lot : Lot) → read_says bs ≡ Ok lot → (checked (counted_meets lot) ≡ Ok tt) × (length lot.readings ≡ lot.n)
unfolding lot_of_record
read_is_accepted bs lot e =
    let r = read_parts bs lot e in
    let n : ℕ = n_field bs in
    rw (← r.2) (
      ruled_passed (count_case n) _ tt (rw (le-leb 2 n r.0.least, le-leb n most r.0.few)) ∙ r.1,
      length_fours n (drop head_size bs),
    )

-- and it stands in memory as it was read.
pub read_is_held : (bs : List ℕ) (lot : Lot) → read_says bs ≡ Ok lot → lot_in (held (read_says bs)) ≡ lot
unfolding held
read_is_held bs lot e =
    let size = (read_is_accepted bs lot e).1 in
    rw (e, ← size, places_back lot.readings)

pub read_record_is_its_own : (bs : List ℕ) (lot : Lot) → Bytes bs → read_says bs ≡ Ok lot → record_of lot ≡ bs
read_record_is_its_own bs lot h e =
    let r = read_parts bs lot e in
    ap record_of (sym r.2) ∙ record_of_its_lot bs h r.0

pub no_two_records : (bs cs : List ℕ) (lot : Lot) → Bytes bs → Bytes cs → read_says bs ≡ Ok lot → read_says cs ≡ Ok lot → bs ≡ cs
no_two_records bs cs lot h k e f = sym (read_record_is_its_own bs lot h e) ∙ read_record_is_its_own cs lot k f

-- ---- in a lent slice

pub write_reads_back : (lot : Lot) (out : List ℕ) (size : ℕ) → Counted lot → write_says lot out ≡ Ok size → read_says (take size (after_write lot out)) ≡ Ok lot
unfolding write_says write_meets written
write_reads_back lot out size counted e =
    let r = ruled_answers (write_meets lot (length out)) (length (record_of lot)) size e in
    let ok = none_of_either (counted_meets lot) (room_case (length out) (length (record_of lot)) ∷ []) r.0 in
    ap (λ (s : Said ℕ). read_says (take size (written (record_of lot) out s))) e
    ∙ ap read_says (take_at (record_of lot) (drop (length (record_of lot)) out) size r.1)
    ∙ written_lot_reads_back lot counted ok.0

pub read_writes_back :
    (bs out : List ℕ) (lot : Lot) → Bytes bs → length bs ≤ length out →
    read_says bs ≡ Ok lot →
    (write_says lot out ≡ Ok (length bs)) × (after_write lot out ≡ bs ++ drop (length bs) out)
unfolding write_says write_meets written
read_writes_back bs out lot h room e = (said, ap (written (record_of lot) out) said ∙ ap (λ (cs : List ℕ). cs ++ drop (length cs) out) own)
  where
    own : record_of lot ≡ bs
    own = read_record_is_its_own bs lot h e

    said : write_says lot out ≡ Ok (length bs)
    said =
        ruled_later (counted_meets lot) _ _ (read_is_accepted bs lot e).0
        ∙ ruled_passed (room_case (length out) (length (record_of lot))) _ _ (le-ltb (length out) (length (record_of lot)) (rw own room))
        ∙ ruled_none _
        ∙ ap (λ (cs : List ℕ). Ok (length cs)) own

-- A refused write leaves every lent byte as it was,
pub refused_write_keeps : (lot : Lot) (out : List ℕ) (r : Refusal) → write_says lot out ≡ Err r → after_write lot out ≡ out
unfolding written
refused_write_keeps lot out r e = ap (written (record_of lot) out) e

-- and for a lot that is not refused itself, too little room is refusal 8.
pub short_room_is_refused : (lot : Lot) (out : List ℕ) → checked (counted_meets lot) ≡ Ok tt → length out < length (record_of lot) → write_says lot out ≡ Err Room
unfolding write_says write_meets
short_room_is_refused lot out e short = ruled_later (counted_meets lot) _ _ e ∙ ruled_met _ _ _ (lt-ltb (length out) (length (record_of lot)) short)

-- ---- in memory

-- After a read, refused or not, the lot in memory has all its places,
pub read_has_all_places : (bs : List ℕ) → length (held (read_says bs)).readings ≡ most
unfolding held
read_has_all_places bs = by (read_says bs) refl
  where
    by : (s : Said Lot) → read_says bs ≡ s → length (held s).readings ≡ most
    by (Err r) e = refl
    by (Ok lot) e =
        let ok = read_is_accepted bs lot e in
        omega (
          arith,
          (lot_accepted lot ok.0).few,
          ok.1,
          length-map lot.readings thousandths,
          length-replicate (most - lot.n) (thousandths (pos 0)),
          length-append (map thousandths lot.readings) (replicate (most - lot.n) (thousandths (pos 0))),
        )

-- and the blank lot that a refused read leaves there is refused for its count.
pub blank_is_refused : (table : Table) (r : Refusal) (out : List ℕ) → has_store (table 0) ≡ true → (evaluation_says table (lot_in (held (Err r))) ≡ Err Count) × (write_says (lot_in (held (Err r))) out ≡ Err Count)
unfolding held evaluation_says evaluated evaluation_meets write_says write_meets
blank_is_refused table r out store = (ruled_passed _ _ _ (ap not store) ∙ ruled_met _ _ _ refl, ruled_met _ _ _ refl)
