-- A number in bytes and back: a number below 256^k is what its k bytes spell, and bytes are those of the number that they spell.
use mathlib.Core.Path.{◌≡◌, refl, sym, ap, ◌∙◌}
use mathlib.Core.Bool.{false}
use mathlib.Core.List.{List, [], ◌∷◌, ◌++◌}
use Prim.Native.Nat.{ℕ, zero, suc, ◌+◌, ◌*◌, ◌/◌, ◌%◌, ◌^◌, ◌≤◌, ◌<◌}
use native.Mathlib.Nat.{add_comm, add_assoc, mul-suc, pow-suc, one-le-pow, div-one, div-add-mod, div-eq_of_lt, div-div-eq-div-mul, lt-div-mul-add}
use native.Mathlib.Numerals.{towards_suc}
use native.Mathlib.Omega.{arith}
use lib.IntN.{ℤ}
use lib.ListN.{length, get_or, take, drop, set, length-drop, take-append-drop}
use lib.Seq.{length-take-le, take_all, drop-cons, drop-drop, take-add, sets-eq}
use mir.Facts.{to_z-of_z, of_z-to_z, Fits-of_z}
use mir.Syntax.{w16, w32}
use mir.Val.{SFits, to_z, of_z}
use Rattle.std.specs.Int.{to_be_bytes, from_be_bytes}
use Rattle.integers.proofs.Magnitude.{fits_of}
use Rattle.rules.specs.Record.{spelled, spell, four, in_four, fours, in_fours, part}
use Rattle.rules.specs.Refusals.{any_out}
use Rattle.laws.specs.Every.{Every, done, ◌then◌}
use Rattle.laws.specs.Bytes.{Bytes}
use Rattle.laws.proofs.Bounds.{reading_bound, rest_in_range}

-- ---- one number

-- To cut the last k + 1 bytes off a number is to cut the last k off, and then one more.
div_pow_suc : (x k : ℕ) → x / 256 ^ suc k ≡ x / 256 ^ k / 256
div_pow_suc x k = rw (pow-suc, div-div-eq-div-mul)

-- The last k bytes of a number, after what stands before them, spell it.
spelled_rest : (k x : ℕ) → spelled (x / 256 ^ k) (spell k x) ≡ x
unfolding spelled spell
spelled_rest zero x = div-one x
spelled_rest (suc k) x = cc (div_pow_suc x k, div-add-mod (x / 256 ^ k) 256, spelled_rest k x)

pub spelled_spell : (k x : ℕ) → x < 256 ^ k → spelled 0 (spell k x) ≡ x
spelled_spell k x h = rw (div-eq_of_lt h) at (spelled_rest k x)

-- The number that bytes spell after `before`, with those bytes cut off again, is `before`.
spelled_before : (before : ℕ) (bs : List ℕ) → Bytes bs → spelled before bs / 256 ^ length bs ≡ before
unfolding spelled
spelled_before before [] h = div-one before
spelled_before before (b ∷ bs) (small then h) = rw (div_pow_suc, spelled_before (256 * before + b) bs h) (omega arith)

-- Whatever stands before them, bytes are the last bytes of the number that is spelled.
spell_spelled_after : (before : ℕ) (bs : List ℕ) → Bytes bs → spell (length bs) (spelled before bs) ≡ bs
unfolding spelled spell
spell_spelled_after before [] h = refl
spell_spelled_after before (b ∷ bs) (small then h) =
    let first : (256 * before + b) % 256 ≡ b = omega arith in
    cc (spelled_before (256 * before + b) bs h, spell_spelled_after (256 * before + b) bs h)

pub spell_spelled : (bs : List ℕ) → Bytes bs → spell (length bs) (spelled 0 bs) ≡ bs
spell_spelled bs = spell_spelled_after 0 bs

-- k bytes spell a number below 256^k.
spelled_below : (bs : List ℕ) → Bytes bs → spelled 0 bs < 256 ^ length bs
spelled_below bs h = omega (arith, rw (spelled_before 0 bs h) at (lt-div-mul-add {a = spelled 0 bs} (one-le-pow (length bs) 256 (omega arith))))

-- ---- two and four bytes, as the methods of u16 and u32 write and read them

pub to_be_bytes_two : (x : ℕ) → to_be_bytes w16 x ≡ spell 2 x
unfolding spell
to_be_bytes_two x = simp div-one

pub to_be_bytes_four : (x : ℕ) → to_be_bytes w32 x ≡ spell 4 x
unfolding spell
to_be_bytes_four x = simp div-one

pub from_be_bytes_two : (a b : ℕ) → from_be_bytes w16 (a ∷ b ∷ []) ≡ spelled 0 (a ∷ b ∷ [])
unfolding spelled
from_be_bytes_two a b = omega arith

pub from_be_bytes_four : (a b c d : ℕ) → from_be_bytes w32 (a ∷ b ∷ c ∷ d ∷ []) ≡ spelled 0 (a ∷ b ∷ c ∷ d ∷ [])
unfolding spelled
from_be_bytes_four a b c d = omega arith

-- ---- four bytes, two's complement

pub four_in_four : (z : ℤ) → SFits w32 z → four (in_four z) ≡ z
four_in_four z f = ap (to_z w32) (spelled_spell 4 (of_z w32 z) (Fits-of_z f).fits) ∙ to_z-of_z f

pub in_four_four : (bs : List ℕ) → Bytes bs → length bs ≡ 4 → in_four (four bs) ≡ bs
in_four_four bs h size =
    ap (spell 4) (of_z-to_z {w = w32} (record { fits = rw size at (spelled_below bs h) })) ∙ rw size at (spell_spelled bs h)

-- ---- so many numbers of four bytes

pub length_fours : (n : ℕ) (bs : List ℕ) → length (fours n bs) ≡ n
unfolding fours
length_fours zero bs = refl
length_fours (suc n) bs = ap suc (length_fours n (drop 4 bs))

pub length_in_fours : (xs : List ℤ) → length (in_fours xs) ≡ 4 * length xs
unfolding in_fours spell
length_in_fours [] = refl
length_in_fours (x ∷ xs) = omega (arith, length_in_fours xs)

-- Readings in range, written in bytes and read again, are the same.
pub fours_in_fours : (xs : List ℤ) → any_out xs ≡ false → fours (length xs) (in_fours xs) ≡ xs
unfolding fours in_fours spell
fours_in_fours [] h = refl
fours_in_fours (x ∷ xs) h =
    cc (four_in_four x (fits_of w32 (omega (arith, reading_bound (x ∷ xs) 0 h (omega arith)))), fours_in_fours xs (rest_in_range 1 (x ∷ xs) h))

-- what holds of every element holds of the first ones
pub every_take : {A : Type 0} {P : A → Type 0} (n : ℕ) {xs : List A} → Every P xs → Every P (take n xs)
every_take zero h = done
every_take (suc n) done = done
every_take (suc n) (p then h) = p then every_take n h

-- and of those after them
pub every_drop : {A : Type 0} {P : A → Type 0} (n : ℕ) {xs : List A} → Every P xs → Every P (drop n xs)
every_drop zero h = h
every_drop (suc n) done = done
every_drop (suc n) (p then h) = every_drop n h

pub in_fours_fours : (n : ℕ) (bs : List ℕ) → Bytes bs → length bs ≡ 4 * n → in_fours (fours n bs) ≡ bs
unfolding fours in_fours
in_fours_fours zero [] h size = refl
in_fours_fours zero (b ∷ bs) h size = absurd (omega arith)
in_fours_fours (suc n) bs h size =
    let first = in_four_four (take 4 bs) (every_take 4 h) (length-take-le 4 bs (omega arith)) in
    let others = in_fours_fours n (drop 4 bs) (every_drop 4 h) (omega (arith, length-drop 4 bs)) in
    cc (take-append-drop 4 bs)

-- ---- a number more, as a loop that counts up goes through them

pub fours_suc : (n : ℕ) (bs : List ℕ) → fours (suc n) bs ≡ fours n bs ++ (four (part (4 * n) 4 bs) ∷ [])
unfolding fours
fours_suc zero bs = refl
fours_suc (suc n) bs = cc (fours_suc n (drop 4 bs), drop-drop (4 * n) 4 bs, mul-suc 4 n, add_comm 4 (4 * n))

pub in_fours_snoc : (xs : List ℤ) (x : ℤ) → in_fours (xs ++ (x ∷ [])) ≡ in_fours xs ++ in_four x
unfolding in_fours spell
in_fours_snoc [] x = refl
in_fours_snoc (y ∷ xs) x = ap (λ (bs : List ℕ). in_four y ++ bs) (in_fours_snoc xs x)

-- the bytes from a place on, one by one
pub part_two : (bs : List ℕ) (i : ℕ) → i + 2 ≤ length bs → part i 2 bs ≡ get_or bs i 0 ∷ get_or bs (i + 1) 0 ∷ []
part_two bs i h = simp (towards_suc, drop-cons bs i 0 (omega arith), drop-cons bs (suc i) 0 (omega arith))

pub part_four : (bs : List ℕ) (i : ℕ) → i + 4 ≤ length bs → part i 4 bs ≡ get_or bs i 0 ∷ get_or bs (i + 1) 0 ∷ get_or bs (i + 2) 0 ∷ get_or bs (i + 3) 0 ∷ []
part_four bs i h = cc (take-add 2 2 (drop i bs), drop-drop 2 i bs, add_assoc i 2 1, part_two bs i (omega arith), part_two bs (i + 2) (omega arith))

-- Two bytes from a place on, read so, are the number that they spell.
pub two_read : (bs : List ℕ) (i : ℕ) → i + 2 ≤ length bs → from_be_bytes w16 (get_or bs i 0 ∷ get_or bs (i + 1) 0 ∷ []) ≡ spelled 0 (part i 2 bs)
two_read bs i h = from_be_bytes_two (get_or bs i 0) (get_or bs (i + 1) 0) ∙ sym (ap (spelled 0) (part_two bs i h))

-- four bytes, one by one
pub four_bytes : (bs : List ℕ) → length bs ≡ 4 → bs ≡ get_or bs 0 0 ∷ get_or bs 1 0 ∷ get_or bs 2 0 ∷ get_or bs 3 0 ∷ []
four_bytes bs size = sym (take_all 4 bs (omega arith)) ∙ part_four bs 0 (omega arith)

-- four bytes stored one by one, from a place on
pub stored_four :
    (bs fs : List ℕ) (i : ℕ) → i + 4 ≤ length bs → length fs ≡ 4 →
    set (set (set (set bs i (get_or fs 0 0)) (i + 1) (get_or fs 1 0)) (i + 2) (get_or fs 2 0)) (i + 3) (get_or fs 3 0) ≡ take i bs ++ fs ++ drop (i + 4) bs
stored_four bs fs i h size =
    let vs : List ℕ = get_or fs 0 0 ∷ get_or fs 1 0 ∷ get_or fs 2 0 ∷ get_or fs 3 0 ∷ [] in
    simp towards_suc (simp towards_suc at (sets-eq vs bs i (omega arith)) ∙ ap (λ (us : List ℕ). take i bs ++ us ++ drop (suc (suc (suc (suc i)))) bs) (sym (four_bytes fs size)))
