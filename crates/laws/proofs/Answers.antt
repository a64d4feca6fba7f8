-- Two refusals of one number are the same refusal; and two answers of a read that leave the same are the same answer.
use mathlib.Core.Path.{◌≡◌, refl, sym, ap, ◌∙◌}
use mathlib.Core.List.{[], ◌∷◌}
use Prim.Native.Nat.{ℕ, ◌-◌}
use lib.ListN.{get_or}
use Rattle.rules.specs.declared.Refusal.{Refusal}
use Rattle.rules.specs.declared.Refusal.TheVariants.{Size, Version, Flags, Count, Range, Unlimited, Crossed, Room, Number, NoColumn, Unsound, NotRising, NoEdition}
use Rattle.rules.specs.Said.{Said}
use Rattle.rules.specs.Refusals.{number_of}
use Rattle.rules.specs.Entries.{ReadSaid, read_said}

-- If f x = f y, then x = y.
abbrev pub Injective : {A B : Type 0} → (A → B) → Type 0
Injective {A} f = (x y : A) → f x ≡ f y → x ≡ y

-- A function that can be undone is injective.
read_back : {A B : Type 0} (f : A → B) (g : B → A) → ((x : A) → g (f x) ≡ x) → Injective f
read_back f g back x y e = sym (back x) ∙ ap g e ∙ back y

-- the refusal of a number
refusal : ℕ → Refusal
refusal k = get_or (Size ∷ Version ∷ Flags ∷ Count ∷ Range ∷ Unlimited ∷ Crossed ∷ Room ∷ Number ∷ NoColumn ∷ Unsound ∷ NotRising ∷ NoEdition ∷ []) (k - 1) Size

refusal_back : (r : Refusal) → refusal (number_of r) ≡ r
unfolding refusal
refusal_back Size = refl
refusal_back Version = refl
refusal_back Flags = refl
refusal_back Count = refl
refusal_back Range = refl
refusal_back Unlimited = refl
refusal_back Crossed = refl
refusal_back Room = refl
refusal_back Number = refl
refusal_back NoColumn = refl
refusal_back Unsound = refl
refusal_back NotRising = refl
refusal_back NoEdition = refl

pub number_injective : Injective number_of
number_injective = read_back number_of refusal refusal_back

-- A read says its lot too, just as it stands in the answer.
pub read_injective : Injective read_said
read_injective x y e = ap (λ (r : ReadSaid). record { said = r.said; lot = r.lot }) e

-- What is said is the answer itself, so two answers that say the same are the same answer.
pub said_injective : {A : Type 0} → Injective (λ (said : Said A). said)
said_injective x y e = e
