-- The copy, and the two zero bytes after it where there is room for them.
use Rattle.std.proofs.Common.{◌≡◌, ℕ, ◌+◌, ◌-◌, ◌≤◌, ◌<◌, List, [], ◌∷◌, ◌++◌, length, take, drop, refl, sym, ap, ◌∙◌, arith, length-drop}
use borrow.Author.Tests.{le-ltb, lt-ltb}
use borrow.Rule.Slice.PartMut.{put_mid}
use lib.ListN.{set, length-append}
use lib.Seq.{take-length, length-take-le, set_at, append_snoc}
use Rattle.std.proofs.lemmas.Slice.{put_mid-paste}
use Rattle.rules.specs.Store.{closed, stored_at}
use Rattle.editions.proofs.storing.write_at.Goals as goal

-- two bytes set to zero behind the front
two_set : (front rest : List ℕ) (n : ℕ) → length front ≡ n → 2 ≤ length rest → set (set (front ++ rest) n 0) (n + 1) 0 ≡ front ++ (0 ∷ 0 ∷ drop 2 rest)
two_set front [] n size h = absurd (omega arith)
two_set front (x ∷ []) n size h = absurd (omega arith)
two_set front (x ∷ y ∷ zs) n size h =
    ap (λ (l : List ℕ). set l (n + 1) 0) (set_at front x (y ∷ zs) 0 n size ∙ sym (append_snoc front 0 (y ∷ zs)))
    ∙ set_at (front ++ (0 ∷ [])) y zs 0 (n + 1) (omega (arith, length-append front (0 ∷ [])))
    ∙ append_snoc front 0 (0 ∷ zs)

-- after the copy the bytes are as they were up to the place, then the entry, and then as they were
copied : (s e : List ℕ) (at part : ℕ) (new : List ℕ) → part ≡ length e → new ≡ e → put_mid at part s new ≡ take at s ++ e ++ drop (at + length e) s
copied s e at part new size same = rw take-length at (put_mid-paste at part s new e (length e) same (sym size) refl)

module _ (s e : List ℕ) (at : ℕ) (h : at + length e ≤ length s) where
  left_open : length s - (at + length e) < 2 → take at s ++ e ++ drop (at + length e) s ≡ stored_at at e s
  unfolding stored_at closed
  left_open few =
      let short : length (drop (at + length e) s) < 2 = omega (arith, length-drop (at + length e) s) in
      simp (lt-ltb (length (drop (at + length e) s)) 2 short)

  closed_after :
      2 ≤ length s - (at + length e) →
      set (set (take at s ++ e ++ drop (at + length e) s) (at + length e) 0) (at + length e + 1) 0 ≡ stored_at at e s
  unfolding stored_at closed
  closed_after many =
      let rest : List ℕ = drop (at + length e) s in
      let before : length (take at s ++ e) ≡ at + length e = length-append (take at s) e ∙ ap (λ (n : ℕ). n + length e) (length-take-le at s (omega arith)) in
      let long : 2 ≤ length rest = omega (arith, length-drop (at + length e) s) in
      two_set (take at s ++ e) rest (at + length e) before long ∙ simp (le-ltb (length rest) 2 long)

pub returns-then-store-next-ge2 : goal.returns-then-store-next-ge2
returns-then-store-next-ge2 c =
    let args = c.args in
    let next : ℕ = args.at + length args.edition.now in
    ap (λ (l : List ℕ). set (set l next 0) (next + 1) 0)
    (copied args.store.now args.edition.now args.at _ _ (omega arith) c.copy_from_slice.ensures.after)
    ∙ closed_after args.store.now args.edition.now args.at (omega arith) (omega arith)

pub returns-else-store-next-ge2 : goal.returns-else-store-next-ge2
returns-else-store-next-ge2 c =
    let args = c.args in
    copied args.store.now args.edition.now args.at _ _ (omega arith) c.copy_from_slice.ensures.after
    ∙ left_open args.store.now args.edition.now args.at (omega arith) (omega arith)
