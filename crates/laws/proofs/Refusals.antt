-- A refusal is picked as document 01 says. Of any list of cases the first that applies is given, and none exactly when none applies. Where the
-- list stands in the order of the numbers, the refusal given has the lowest number of those that apply.
use mathlib.Core.Path.{◌≡◌, refl, sym, ap, ◌∙◌}
use mathlib.Core.Bool.{Bool, true, false, cond, ◌&&◌, true≢false}
use mathlib.Core.List.Memᴰ
use mathlib.Core.List.{List, [], ◌∷◌, Memᴰ}
use mathlib.Core.Logic.{⊎_elim}
use Prim.Native.Nat.{ℕ, ◌≤◌}
use native.Mathlib.Omega.{arith}
use lib.Dec.{T, leb, leb→le}
use lib.Ieee.Fits.{and_l, and_r}
use Rattle.std.specs.Prelude.{Ok, Err}
use Rattle.rules.specs.declared.Refusal.{Refusal}
use Rattle.rules.specs.Said.{Said, Case, ruled}
use Rattle.rules.specs.Refusals.{number_of}

abbrev number : Case → ℕ
number c = number_of c.refusal

-- ---- the first

-- a case that applies and has this refusal, and none before it that applies
pub data First (r : Refusal) : List Case → Type 0 where
  here : {c : Case} {cs : List Case} → c.applies ≡ true → c.refusal ≡ r → First r (c ∷ cs)
  later : {c : Case} {cs : List Case} → c.applies ≡ false → First r cs → First r (c ∷ cs)

-- no case that applies
abbrev pub NoneApplies : List Case → Type 0
NoneApplies cases = (c : Case) → Memᴰ c cases → c.applies ≡ false

abbrev pub FirstGiven : {A : Type 0} → List Case → Said A → Type 0
FirstGiven cases (Err r) = First r cases
FirstGiven cases (Ok a) = NoneApplies cases

module _ {A : Type 0} where
  -- a case put in front that does not apply changes nothing
  passed : (c : Case) (cs : List Case) → c.applies ≡ false → (s : Said A) → FirstGiven cs s → FirstGiven (c ∷ cs) s
  passed c cs off (Err r) p = later off p
  passed c cs off (Ok a) p =
      λ d m. ⊎_elim (λ e. ap (λ (x : Case). x.applies) e ∙ off) (λ m'. p d m') (Memᴰ.cases_cons m)

  pub first_is_given : (cases : List Case) (a : A) → FirstGiven cases (ruled cases a)
  unfolding ruled
  first_is_given [] a = λ c m. absurd (Memᴰ.not-nil m)
  first_is_given (c ∷ cs) a = by c.applies refl (first_is_given cs a)
    where
      by : (b : Bool) → c.applies ≡ b → FirstGiven cs (ruled cs a) → FirstGiven (c ∷ cs) (cond b (Err c.refusal) (ruled cs a))
      by true e p = here e refl
      by false e p = passed c cs e (ruled cs a) p

-- ---- the lowest, of lists in the order of their numbers

abbrev pub rising : ℕ → List Case → Bool
rising k [] = true
rising k (c ∷ cs) = leb k (number c) && rising (number c) cs

not_lower : (k : ℕ) (cs : List Case) → T (rising k cs) → (c : Case) → Memᴰ c cs → k ≤ number c
not_lower k [] t c m = absurd (Memᴰ.not-nil m)
not_lower k (d ∷ cs) t c m =
    let h : k ≤ number d = leb→le _ _ (and_l (leb k (number d)) (rising (number d) cs) t) in
    ⊎_elim (λ e. omega (arith, ap number e))
    (λ m'. omega (arith, not_lower (number d) cs (and_r (leb k (number d)) (rising (number d) cs) t) c m'))
    (Memᴰ.cases_cons m)

-- no case that applies has a lower number
abbrev pub Lowest : List Case → Refusal → Type 0
Lowest cases r = (c : Case) → Memᴰ c cases → c.applies ≡ true → number_of r ≤ number_of c.refusal

pub first_is_lowest : (k : ℕ) (cases : List Case) (r : Refusal) → T (rising k cases) → First r cases → Lowest cases r
first_is_lowest k [] r t f c m on = absurd (Memᴰ.not-nil m)
first_is_lowest k (d ∷ cs) r t (here on' same) c m on =
    let after : T (rising (number d) cs) = and_r (leb k (number d)) (rising (number d) cs) t in
    ⊎_elim (λ e. omega (arith, ap number e, ap number_of same)) (λ m'. omega (arith, ap number_of same, not_lower (number d) cs after c m')) (Memᴰ.cases_cons m)
first_is_lowest k (d ∷ cs) r t (later off f) c m on =
    let after : T (rising (number d) cs) = and_r (leb k (number d)) (rising (number d) cs) t in
    ⊎_elim (λ e. absurd (true≢false (sym on ∙ ap (λ (x : Case). x.applies) e ∙ off))) (λ m'. first_is_lowest (number d) cs r after f c m' on) (Memᴰ.cases_cons m)

-- So such a list says what document 01 asks: of the refusals that apply the one of the lowest number, or values where none applies.
abbrev pub LowestGiven : {A : Type 0} → List Case → Said A → Type 0
LowestGiven cases (Err r) = First r cases × Lowest cases r
LowestGiven cases (Ok a) = NoneApplies cases

pub lowest : {A : Type 0} (k : ℕ) (cases : List Case) (a : A) → T (rising k cases) → LowestGiven cases (ruled cases a)
lowest {A} k cases a t = by (ruled cases a) (first_is_given cases a)
  where
    by : (s : Said A) → FirstGiven cases s → LowestGiven cases s
    by (Err r) f = (f, first_is_lowest k cases r t f)
    by (Ok b) none = none
