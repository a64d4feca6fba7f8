-- Readings in bytes, as a loop reads and writes them.
use mathlib.Core.Path.{◌≡◌, refl, sym, ap, ◌∙◌}
use mathlib.Core.List.{List, [], ◌∷◌, ◌++◌, map, map-append, append_assoc}
use Prim.Native.Nat.{ℕ, zero, suc, ◌+◌, ◌-◌, ◌*◌, ◌≤◌, ◌<◌}
use native.Mathlib.Nat.{add_comm, mul-suc, le_of_suc-le-suc}
use native.Mathlib.Numerals.{add-one}
use native.Mathlib.Omega.{arith}
use lib.IntN.{ℤ, pos}
use lib.ListN.{length, length-append, length-map, get_or-map, get_or, take, drop, replicate, set}
use lib.Seq.{drop-drop, set_at, append_snoc, length-take-le, take-suc, take_at}
use Rattle.rules.specs.declared.Thousandths.{Thousandths}
use Rattle.rules.specs.Units.{thousandths}
use Rattle.rules.specs.Lot.{most, plain, in_places}
use Rattle.rules.specs.Record.{spell, four, fours, in_four, in_fours, part, head_size}
use Rattle.laws.proofs.Spelled.{length_fours, fours_suc, in_fours_snoc}

-- Reading k is what its four bytes spell.
pub fours_at : (n : ℕ) (bs : List ℕ) (k : ℕ) → k < n → get_or (fours n bs) k (pos 0) ≡ four (part (4 * k) 4 bs)
unfolding fours
fours_at zero bs k h = absurd (omega arith)
fours_at (suc n) bs zero h = refl
fours_at (suc n) bs (suc k) h = fours_at n (drop 4 bs) k (le_of_suc-le-suc h) ∙ cc (drop-drop (4 * k) 4 bs, mul-suc 4 k, add_comm 4 (4 * k))

-- With the first i readings in their places in memory, setting place i to the next one gives the first i + 1 in their places.
pub placed_suc : (i : ℕ) (bs : List ℕ) → i < most → set (in_places i (fours i bs)) i (thousandths (four (part (4 * i) 4 bs))) ≡ in_places (i + 1) (fours (i + 1) bs)
placed_suc i bs h =
    let x : ℤ = four (part (4 * i) 4 bs) in
    let xs : List Thousandths = map thousandths (fours i bs) in
    let zero : Thousandths = thousandths (pos 0) in
    let left : most - i ≡ suc (most - suc i) = omega arith in
    let next : suc i ≡ i + 1 = omega arith in
    ap (λ (k : ℕ). set (xs ++ replicate k zero) i (thousandths x)) left
    ∙ set_at xs zero (replicate (most - suc i) zero) (thousandths x) i (length-map (fours i bs) thousandths ∙ length_fours i bs)
    ∙ sym (append_snoc xs (thousandths x) (replicate (most - suc i) zero))
    ∙ ap (λ (rs : List Thousandths). rs ++ replicate (most - suc i) zero) (sym (map-append thousandths (fours i bs) (x ∷ [])) ∙ ap (map thousandths) (sym (fours_suc i bs)))
    ∙ ap (λ (k : ℕ). in_places k (fours k bs)) next

-- With a record's first 13 bytes and i readings written, writing the next reading after them gives i + 1 readings written.
pub written_suc :
    (rs : List Thousandths) (first ys : List ℕ) (i : ℕ) → i < length rs → head_size + 4 * i + 4 ≤ length ys →
    take (head_size + 4 * i) ys ≡ first ++ in_fours (take i (plain rs)) →
    take (head_size + 4 * (i + 1)) (take (head_size + 4 * i) ys ++ in_four (get_or rs i (thousandths (pos 0))).0 ++ drop (head_size + 4 * i + 4) ys) ≡ first ++ in_fours (take (i + 1) (plain rs))
unfolding spell
written_suc rs first ys i there room e =
    let xs : List ℤ = plain rs in
    let x : ℤ = (get_or rs i (thousandths (pos 0))).0 in
    let at : ℕ = head_size + 4 * i in
    let also : i < length xs = rw (length-map rs (λ (r : Thousandths). r.0)) there in
    let long : length (take at ys ++ in_four x) ≡ head_size + 4 * (i + 1) = omega (arith, length-append (take at ys) (in_four x), length-take-le at ys (omega arith)) in
    let one_more : take (i + 1) xs ≡ take i xs ++ (x ∷ []) = rw (add-one i) (take-suc xs i (pos 0) also ∙ ap (λ (z : ℤ). take i xs ++ (z ∷ [])) (get_or-map (λ (r : Thousandths). r.0) rs i (thousandths (pos 0)))) in
    take_at (take at ys ++ in_four x) (drop (at + 4) ys) (head_size + 4 * (i + 1)) long
    ∙ ap (λ (bs : List ℕ). bs ++ in_four x) e
    ∙ append_assoc first (in_fours (take i xs)) (in_four x)
    ∙ ap (λ (bs : List ℕ). first ++ bs) (sym (ap in_fours one_more ∙ in_fours_snoc (take i xs) x))
