-- A list, as a loop or a copy into a part of it fills it.
use mathlib.Core.Path.{◌≡◌, refl, sym, ap, ap₂, ◌∙◌}
use mathlib.Core.List.{List, [], ◌∷◌, ◌++◌, map, append_assoc, append-nil}
use Prim.Native.Nat.{ℕ, zero, suc, ◌+◌, ◌-◌, ◌≤◌, ◌<◌}
use native.Mathlib.Nat.{le_of_suc-le-suc}
use native.Mathlib.Numerals.{add-one}
use native.Mathlib.Omega.{arith}
use lib.ListN.{length, length-map, length-drop, get_or-map, take, drop, drop_of_length-le, get_or, set}
use lib.Seq.{take-suc, take-suc-set, length-take-le, take_all, take-length, take_at, take-add, drop-drop, drop-append-add}
use borrow.Rule.Slice.PartMut.{put_mid}

-- If the first i places of ys hold f of the elements of xs, and place i is set to f of element i, then the first i + 1 places do.
pub made_suc : {A B : Type 0} (f : A → B) (xs : List A) (ys : List B) (i : ℕ) (d : A) → i < length xs → i < length ys → take i ys ≡ take i (map f xs) → take (suc i) (set ys i (f (get_or xs i d))) ≡ take (suc i) (map f xs)
made_suc {B = B} f xs ys i d h k e =
    let there : i < length (map f xs) = rw (length-map xs f) h in
    take-suc-set ys i (f (get_or xs i d)) k
    ∙ ap₂ (λ (zs : List B) (z : B). zs ++ (z ∷ [])) e (sym (get_or-map f xs i d))
    ∙ sym (take-suc (map f xs) i (f d) there)

-- If a list begins with the first k elements of `new` and goes on as `old`, and place k is set to element k of `new`, then it begins with the first k + 1.
pub filled_suc : {A : Type 0} (new old : List A) (d : A) (k : ℕ) → k < length new → k < length old → set (take k new ++ drop k old) k (get_or new k d) ≡ take (suc k) new ++ drop (suc k) old
filled_suc [] old d k h j = absurd (omega arith)
filled_suc (x ∷ new) [] d k h j = absurd (omega arith)
filled_suc (x ∷ new) (y ∷ old) d zero h j = refl
filled_suc {A} (x ∷ new) (y ∷ old) d (suc k) h j = ap (λ (zs : List A). x ∷ zs) (filled_suc new old d k (le_of_suc-le-suc h) (le_of_suc-le-suc j))

-- The same for two places at once.
pub filled_two :
    {A : Type 0} (new old : List A) (d : A) (k : ℕ) {a b : A} → k + 1 < length new → k + 1 < length old → get_or new k d ≡ a → get_or new (k + 1) d ≡ b →
    set (set (take k new ++ drop k old) k a) (k + 1) b ≡ take (k + 2) new ++ drop (k + 2) old
filled_two new old d k h j e f =
    let two : k + 2 ≡ suc (suc k) = omega arith in
    rw (← e, ← f, add-one k, two, filled_suc new old d k (omega arith) (omega arith)) (filled_suc new old d (suc k) (omega arith) (omega arith))

-- ---- a copy into the part of a list from a place on

-- After the copy the list is as it was up to that place, then what was copied, and then as it was.
pub copied :
    {A : Type 0} (xs new : List A) (at : ℕ) → at + length new ≤ length xs →
    put_mid at (length xs - at) xs (take (length new) new ++ drop (length new) (take (length xs - at) (drop at xs))) ≡ take at xs ++ new ++ drop (at + length new) xs
copied {A} xs new at h =
    let rest : List A = drop at xs in
    let size : length rest ≡ length xs - at = length-drop at xs in
    let mid : take (length xs - at) rest ≡ rest = take_all (length xs - at) rest (omega arith) in
    let none : drop (length xs - at) rest ≡ [] = drop_of_length-le rest {i = length xs - at} (omega arith) in
    rw (mid, take-length new, none, append-nil, drop-drop (length new) at xs, ← append_assoc)

-- If a list begins with the first elements of `new` and goes on as `old`, and the next ones are copied after them, then it begins with those too.
pub copied_next :
    {A : Type 0} (new old part : List A) (at : ℕ) {xs : List A} → at + length part ≤ length new → xs ≡ take at new ++ drop at old → take (length part) (drop at new) ≡ part →
    take at xs ++ part ++ drop (at + length part) xs ≡ take (at + length part) new ++ drop (at + length part) old
copied_next {A} new old part at {xs} h is next =
    let size : length (take at new) ≡ at = length-take-le at new (omega arith) in
    let before : take at xs ≡ take at new = ap (take at) is ∙ take_at (take at new) (drop at old) at size in
    let passed = rw size at (drop-append-add (take at new) (drop at old) (length part)) in
    let after : drop (at + length part) xs ≡ drop (at + length part) old = ap (drop (at + length part)) is ∙ passed ∙ drop-drop (length part) at old in
    rw (before, after, take-add at (length part) new, next)
