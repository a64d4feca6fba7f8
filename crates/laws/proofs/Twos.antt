-- Bytes that hold numbers of two bytes each, read and written again, are the same; so are the 108 bytes of a column.
use mathlib.Core.Path.{◌≡◌, refl}
use mathlib.Core.List.{List, [], ◌∷◌, ◌++◌}
use Prim.Native.Nat.{ℕ, zero, suc, ◌*◌, ◌<◌}
use native.Mathlib.Omega.{arith}
use lib.ListN.{length, get_or, take, drop, length-drop, take-append-drop}
use lib.Seq.{length-take-le, take-append_seam, drop-append_seam}
use Rattle.rules.specs.Record.{twos}
use Rattle.rules.specs.Table.{last_row, column_in}
use Rattle.rules.specs.Edition.{in_twos}
use Rattle.laws.specs.Every.{Every, done, ◌then◌}
use Rattle.laws.specs.Bytes.{Bytes}
use Rattle.laws.proofs.Spelled.{spell_spelled, every_take, every_drop}

-- A list is one of bytes, if each of its elements is.
pub bytes : (bs : List ℕ) → ((i : ℕ) → get_or bs i 0 < 256) → Bytes bs
bytes [] h = done
bytes (b ∷ bs) h = h 0 then bytes bs (λ i. h (suc i))

-- What holds of every element of three lists in a row holds of every element of the middle one.
pub every_middle : {A : Type 0} {P : A → Type 0} (xs ys zs : List A) → Every P (xs ++ ys ++ zs) → Every P ys
every_middle xs ys zs h =
    rw (take-append_seam (xs ++ ys) zs, drop-append_seam xs ys) at (every_drop (length xs) (every_take (length (xs ++ ys)) h))

in_twos_twos : (n : ℕ) (bs : List ℕ) → Bytes bs → length bs ≡ 2 * n → in_twos (twos n bs) ≡ bs
unfolding twos in_twos
in_twos_twos zero [] h size = refl
in_twos_twos zero (b ∷ bs) h size = absurd (omega arith)
in_twos_twos (suc n) bs h size =
    let first = rw (length-take-le 2 bs (omega arith)) at (spell_spelled (take 2 bs) (every_take 2 h)) in
    let others = in_twos_twos n (drop 2 bs) (every_drop 2 h) (omega (arith, length-drop 2 bs)) in
    cc (take-append-drop 2 bs)

-- The 108 bytes of a column, from its entries.
pub in_twos_column : (bs : List ℕ) → Bytes bs → length bs ≡ 108 → in_twos (column_in bs) ≡ bs
unfolding column_in
in_twos_column bs h size = in_twos_twos (suc last_row) bs h size
