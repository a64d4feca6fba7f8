-- What a walk knows of a store's editions when it is through, and so of the edition that is named.
use mathlib.Core.Path.{◌≡◌, refl, sym, ap, ◌∙◌}
use mathlib.Core.Bool.{Bool, true, false, ◌||◌, cond}
use mathlib.Core.List.{List, [], ◌∷◌}
use Prim.Native.Nat.{ℕ, ◌+◌}
use native.Mathlib.Nat.{add-zero, zero-add, add_assoc}
use native.Mathlib.Omega.{arith}
use lib.Dec.{eqb}
use lib.ListN.{length}
use Rattle.std.specs.Prelude.{Some, None, Ok, Err}
use Rattle.rules.specs.declared.Refusal.{Refusal}
use Rattle.rules.specs.declared.Refusal.TheVariants.{Unsound}
use Rattle.rules.specs.declared.store.Walked.{Walked}
use Rattle.rules.specs.Said.{Said}
use Rattle.rules.specs.Edition.{number_field}
use Rattle.rules.specs.Store.{editions, is_store, stored, start_in, least_after, size_of}
use Rattle.laws.specs.StoreWalk.{passed_by, passed_all, none_passed, store_walk, Ends, named_says}
use Rattle.laws.proofs.StoreLists.{end_within, few_editions}

-- ---- what a walk knows of a list of editions

-- It ends so many bytes further as they have.
pub all_end : (named : ℕ) (w : Walked) (es : List (List ℕ)) → (passed_all named w es).end ≡ w.end + size_of es
unfolding passed_all size_of
all_end named w [] = sym (add-zero w.end)
all_end named w (e ∷ es) = all_end named (passed_by named w (length e) (number_field e)) es ∙ add_assoc w.end (length e) (size_of es)

-- It counts them.
pub all_count : (named : ℕ) (w : Walked) (es : List (List ℕ)) → (passed_all named w es).count ≡ w.count + length es
unfolding passed_all
all_count named w [] = sym (add-zero w.count)
all_count named w (e ∷ es) = all_count named (passed_by named w (length e) (number_field e)) es ∙ omega arith

-- The least number that may follow is one above the last one's.
pub all_least : (named : ℕ) (w : Walked) (es : List (List ℕ)) → (passed_all named w es).least ≡ least_after w.least es
unfolding passed_all least_after
all_least named w [] = refl
all_least named w (e ∷ es) = all_least named (passed_by named w (length e) (number_field e)) es

-- A start once known is kept,
pub start_kept : (named : ℕ) (w : Walked) (es : List (List ℕ)) (at : ℕ) → w.start ≡ Some at → (passed_all named w es).start ≡ Some at
unfolding passed_all
start_kept named w [] at h = h
start_kept named w (e ∷ es) at h = start_kept named (passed_by named w (length e) (number_field e)) es at (simp h)

start_next :
    (named : ℕ) (w : Walked) (e : List ℕ) (es : List (List ℕ)) (b : Bool) → eqb (number_field e) named ≡ b → w.start ≡ None →
    ((v : Walked) → v.start ≡ None → (passed_all named v es).start ≡ cond (stored named es) (Some (v.end + start_in named es)) None) →
    (passed_all named (passed_by named w (length e) (number_field e)) es).start ≡
    cond (b || stored named es) (Some (w.end + cond b 0 (length e + start_in named es))) None
start_next named w e es true is h more =
    start_kept named (passed_by named w (length e) (number_field e)) es w.end (simp (h, is)) ∙ simp add-zero
start_next named w e es false is h more =
    more (passed_by named w (length e) (number_field e)) (simp (h, is))
    ∙ ap (λ (at : ℕ). cond (stored named es) (Some at) None) (add_assoc w.end (length e) (start_in named es))

-- and it is known where the edition that is named is among them.
pub all_start :
    (named : ℕ) (w : Walked) (es : List (List ℕ)) → w.start ≡ None →
    (passed_all named w es).start ≡ cond (stored named es) (Some (w.end + start_in named es)) None
unfolding passed_all stored start_in
all_start named w [] h = h
all_start named w (e ∷ es) h = start_next named w e es (eqb (number_field e) named) refl h (λ v. all_start named v es)

-- ---- what is said of the whole

-- Where a walk is through, the buffer is a store, and it knows what all the editions say.
pub walked_store : (named : ℕ) (s : List ℕ) (w : Walked) → Ok w ≡ store_walk named s → (is_store s ≡ true) × (w ≡ passed_all named none_passed (editions s))
unfolding store_walk
walked_store named s w = by (is_store s) (passed_all named none_passed (editions s))
  where
    by : (b : Bool) (v : Walked) → Ok w ≡ cond b (Ok v) (Err Unsound) → (b ≡ true) × (w ≡ v)
    by true v h = (refl, cc)
    by false v h = (cc, cc)

-- Where it is not, the buffer is no store, and that is the refusal.
pub walked_unsound : (named : ℕ) (s : List ℕ) {r : Refusal} → Err r ≡ store_walk named s → (is_store s ≡ false) × (r ≡ Unsound)
unfolding store_walk
walked_unsound named s = by (is_store s) (passed_all named none_passed (editions s))
  where
    by : (b : Bool) (v : Walked) {r : Refusal} → Err r ≡ cond b (Ok v) (Err Unsound) → (b ≡ false) × (r ≡ Unsound)
    by true v h = (cc, cc)
    by false v h = (refl, cc)

-- What a walk knows when it is through: where the store ends, how many editions there are, and the least number that may follow.
pub ends_known : (named : ℕ) (s : List ℕ) (w : Walked) → Ok w ≡ store_walk named s → Ends s w
ends_known named s w h =
    let told = walked_store named s w h in
    let end_is : w.end ≡ size_of (editions s) = ap (λ (v : Walked). v.end) told.1 ∙ all_end named none_passed (editions s) ∙ zero-add (size_of (editions s)) in
    let count_is : w.count ≡ length (editions s) = ap (λ (v : Walked). v.count) told.1 ∙ all_count named none_passed (editions s) ∙ zero-add (length (editions s)) in
    record {
      sound = told.0;
      end_is = end_is;
      within = omega (arith, end_within s told.0);
      count_is = count_is;
      few = omega (arith, few_editions s told.0);
      least_is = ap (λ (v : Walked). v.least) told.1 ∙ all_least named none_passed (editions s);
    }

-- The same of an answer that a walk gave.
pub walk_ends_known : (named : ℕ) (s : List ℕ) {said : Said Walked} {w : Walked} → said ≡ store_walk named s → said ≡ Ok w → Ends s w
walk_ends_known named s e h = ends_known named s _ (sym h ∙ e)

pub walk_is_unsound : (named : ℕ) (s : List ℕ) {said : Said Walked} {r : Refusal} → said ≡ store_walk named s → said ≡ Err r → (is_store s ≡ false) × (r ≡ Unsound)
walk_is_unsound named s e h = walked_unsound named s (sym h ∙ e)

-- ---- the edition that is named

module _ (named : ℕ) (s : List ℕ) where
  -- Where the walk finds no store, that is said.
  pub named_unsound : {r : Refusal} → Err r ≡ store_walk named s → Err r ≡ named_says named s
  unfolding named_says
  named_unsound h = let told = walked_unsound named s h in ap Err told.1 ∙ simp told.0

  -- Else it is the start that the walk knows, if it knows one.
  pub named_known : (w : Walked) → Ok w ≡ store_walk named s → Ok w.start ≡ named_says named s
  unfolding named_says
  named_known w h =
      let told = walked_store named s w h in
      simp told.0
      (ap Ok (ap (λ (v : Walked). v.start) told.1 ∙ all_start named none_passed (editions s) refl ∙ simp zero-add))
