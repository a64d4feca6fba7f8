-- Document 02, R-5: a store answers as a plain list of editions beside it, step for step, and a refusal changes nothing.
use mathlib.Core.Path.{◌≡◌, refl, ap, ap₂, ◌∙◌}
use mathlib.Core.Bool.{false, not}
use mathlib.Core.List.{List, [], ◌∷◌, ◌++◌}
use Prim.Native.Nat.{ℕ}
use lib.ListN.{length, length-map}
use Rattle.std.specs.Prelude.{Ok, Err}
use Rattle.rules.specs.declared.Refusal.{Refusal}
use Rattle.rules.specs.Said.{Said, ruled}
use Rattle.rules.specs.Edition.{number_field}
use Rattle.rules.specs.Store.{editions, is_store, numbers}
use Rattle.rules.specs.Refusals.{room_case, sound_case}
use Rattle.rules.specs.Entries.{written}
use Rattle.rules.specs.Editions.{storing_meets, storing_says, left_by, after_storing, finding_says, listing_says}
use Rattle.laws.specs.Plain.{Plain, Step, storing, finding, listing, lent_with, plain_says, plain_lent, with_last, plain_after, store_says, store_lent, store_after, plain_gives, store_gives, plain_at_last, store_at_last, Alike}
use Rattle.laws.proofs.Ruled.{ruled_passed}
use Rattle.laws.proofs.Stored.{stored_is_listed_last, same_length}

-- ---- a refusal

-- A refusal changes neither the store, whatever its bytes are, nor the list that is lent.
pub refused_changes_nothing : (step : Step) (s : List ℕ) (r : Refusal) → store_says step s ≡ Err r → (store_after step s ≡ s) × (store_lent step s ≡ lent_with step)
unfolding store_says store_after store_lent left_by written
refused_changes_nothing (storing e) s r h = (ap (λ (said : Said ℕ). left_by said s e) h, refl)
refused_changes_nothing (finding named) s r h = (refl, refl)
refused_changes_nothing (listing out) s r h = (refl, ap (written (numbers (editions s)) out) h)

-- ---- step for step

-- What is said of a store is what its plain list says, the list that is lent is then the same, and store and list are alike again.
module _ (s : List ℕ) (p : Plain) (k : Alike s p) where
  is_sound : not (is_store s) ≡ false
  is_sound = ap not k.sound

  same_list : (x : Step) → plain_says x (record { size = length s; list = editions s }) ≡ plain_says x p
  same_list x = ap₂ (λ (size : ℕ) (list : List (List ℕ)). plain_says x (record { size = size; list = list })) k.size k.list

  said_alike : (x : Step) → store_says x s ≡ plain_says x p
  unfolding store_says plain_says storing_says storing_meets finding_says listing_says
  said_alike (storing e) = ruled_passed (sound_case s) _ _ is_sound ∙ same_list (storing e)
  said_alike (finding named) = ruled_passed (sound_case s) _ _ is_sound ∙ same_list (finding named)
  said_alike (listing out) =
      ruled_passed (sound_case s) _ _ is_sound
      ∙ ap (λ (n : ℕ). ruled (room_case (length out) n ∷ []) (length (editions s))) (length-map (editions s) number_field)
      ∙ same_list (listing out)

  lent_alike : (x : Step) → store_lent x s ≡ plain_lent x p
  unfolding store_lent plain_lent store_says
  lent_alike (storing e) = refl
  lent_alike (finding named) = refl
  lent_alike (listing out) = ap₂ (λ (es : List (List ℕ)) (said : Said ℕ). written (numbers es) out said) k.list (said_alike (listing out))

  stored_alike : (e : List ℕ) (said : Said ℕ) → storing_says s e ≡ said → Alike (after_storing s e) (with_last said e p)
  unfolding left_by
  stored_alike e (Err r) h = rw h k
  stored_alike e (Ok start) h =
      let last = stored_is_listed_last s e start h in
      record {
        sound = last.1;
        size = same_length s e start h ∙ k.size;
        list = last.0 ∙ ap (λ (es : List (List ℕ)). es ++ (e ∷ [])) k.list;
      }

  after_alike : (x : Step) → Alike (store_after x s) (plain_after x p)
  unfolding store_after plain_after store_says
  after_alike (storing e) = stored_alike e (plain_says (storing e) p) (said_alike (storing e))
  after_alike (finding named) = k
  after_alike (listing out) = k

-- A store and a plain list that are alike give the same at each of any steps, and are alike after them.
pub step_for_step :
    (steps : List Step) (s : List ℕ) (p : Plain) → Alike s p →
    (store_gives steps s ≡ plain_gives steps p) × Alike (store_at_last steps s) (plain_at_last steps p)
unfolding store_gives plain_gives store_at_last plain_at_last
step_for_step [] s p k = (refl, k)
step_for_step (x ∷ xs) s p k =
    let others = step_for_step xs (store_after x s) (plain_after x p) (after_alike s p k x) in
    (cc (said_alike s p k x, lent_alike s p k x), others.1)
