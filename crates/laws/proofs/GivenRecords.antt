-- Through C's structs, a lot that is written reads back as the same lot, and a record that is accepted is written again as the same bytes: by what
-- `tulpavice_write` and `tulpavice_read` give, and the lent bytes.
use mathlib.Core.Path.{◌≡◌, refl, ap, ◌∙◌}
use mathlib.Core.List.{List, [], ◌∷◌, ◌++◌, map}
use Prim.Native.Nat.{ℕ, zero, suc, ◌≤◌}
use native.Mathlib.Omega.{arith}
use lib.IntN.{ℤ, pos}
use lib.ListN.{length, take, drop, get_or}
use Rattle.std.specs.Prelude.{Some, None, Ok}
use Rattle.rules.specs.declared.Thousandths.{Thousandths}
use Rattle.rules.specs.Units.{Limit, thousandths}
use Rattle.rules.specs.declared.HeldLot.{HeldLot}
use Rattle.rules.specs.declared.host.HostLot.{HostLot}
use Rattle.rules.specs.declared.host.HostRead.{HostRead}
use Rattle.rules.specs.declared.host.HostWritten.{HostWritten}
use Rattle.rules.specs.Lot.{Lot, most, plain, lot_in}
use Rattle.rules.specs.Entries.{read_says, held, read_leaves, write_says, after_write}
use Rattle.rules.specs.Host.{held_limit, held_lot, limit_numbers, host_lot, host_read, host_written}
use Rattle.laws.specs.Bytes.{Bytes}
use Rattle.laws.proofs.Lots.{lot_in_counted}
use Rattle.laws.proofs.Returns.{read_is_held, read_has_all_places, write_reads_back, read_writes_back}
use Rattle.laws.proofs.Given.{zero_in_read, written_given}

-- ---- a lot in memory, handed to C and back

limit_back : (l : Limit) → held_limit (limit_numbers l) ≡ l
limit_back None = refl
limit_back (Some z) = refl

-- what stands at the first n places
abbrev listed : ℕ → (ℕ → ℤ) → List ℤ
listed zero at = []
listed (suc n) at = at 0 ∷ listed n (λ (i : ℕ). at (suc i))

places_back : (n : ℕ) (xs : List Thousandths) → length xs ≡ n → map thousandths (listed n (λ (i : ℕ). get_or (plain xs) i (pos 0))) ≡ xs
places_back zero [] e = refl
places_back zero (x ∷ xs) e = absurd (omega arith)
places_back (suc n) [] e = absurd (omega arith)
places_back (suc n) (x ∷ xs) e = ap (λ (ys : List Thousandths). x ∷ ys) (places_back n xs (omega arith))

pub held_lot_returns : (h : HeldLot) → length h.readings ≡ most → held_lot (host_lot h) ≡ h
unfolding host_lot
held_lot_returns h size =
    λ i. record { upper = limit_back h.upper i; lower = limit_back h.lower i; count = h.count; readings = places_back most h.readings size i }

-- So the lot in C's struct after a read is the lot that was read.
pub given_lot_is_read : (bs : List ℕ) (lot : Lot) (r : HostRead) → read_says bs ≡ Ok lot → r ≡ host_read (read_leaves bs) → lot_in (held_lot r.lot) ≡ lot
given_lot_is_read bs lot r e f =
    ap (λ (x : HostRead). lot_in (held_lot x.lot)) f
    ∙ ap lot_in (held_lot_returns (held (read_says bs)) (read_has_all_places bs))
    ∙ read_is_held bs lot e

-- ---- the returns

-- A lot written and read back is the same lot, its absent limits' numbers aside, which are no part of it.
pub given_lot_reads_back :
    (lot : HostLot) (out after : List ℕ) (w : HostWritten) (r : HostRead) →
    w ≡ host_written (write_says (lot_in (held_lot lot)) out) → after ≡ after_write (lot_in (held_lot lot)) out → w.refusal.number ≡ 0 →
    r ≡ host_read (read_leaves (take w.size after)) →
    (r.refusal.number ≡ 0) × (lot_in (held_lot r.lot) ≡ lot_in (held_lot lot))
given_lot_reads_back lot out after w r e f z g =
    let back : read_says (take w.size after) ≡ Ok (lot_in (held_lot lot)) = rw f (write_reads_back (lot_in (held_lot lot)) out w.size (lot_in_counted (held_lot lot) refl) (written_given _ w e z)) in
    ((zero_in_read _ r g).1 (_, back), given_lot_is_read (take w.size after) _ r back g)

-- An accepted record, read and written again into any slice with room for it, is the same bytes, and what stood after them stays.
pub given_record_writes_back :
    (bs out after : List ℕ) (r : HostRead) (w : HostWritten) → Bytes bs → length bs ≤ length out →
    r ≡ host_read (read_leaves bs) → r.refusal.number ≡ 0 →
    w ≡ host_written (write_says (lot_in (held_lot r.lot)) out) → after ≡ after_write (lot_in (held_lot r.lot)) out →
    (w.refusal.number ≡ 0) × (w.size ≡ length bs) × (after ≡ bs ++ drop (length bs) out)
given_record_writes_back bs out after r w h room e z f g =
    let read = (zero_in_read (read_says bs) r e).0 z in
    let same = given_lot_is_read bs read.0 r read.1 e in
    let back = read_writes_back bs out read.0 h room read.1 in
    let w_is : w ≡ host_written (Ok (length bs)) = f ∙ ap host_written (ap (λ (l : Lot). write_says l out) same ∙ back.0) in
    (ap (λ (x : HostWritten). x.refusal.number) w_is, ap (λ (x : HostWritten). x.size) w_is, g ∙ ap (λ (l : Lot). after_write l out) same ∙ back.1)
