-- What a list of cases says, a case at a time; and whether a refusal is given does not depend on the values.
use mathlib.Core.Path.{◌≡◌, refl, sym, ap, ◌∙◌}
use mathlib.Core.Bool.{Bool, true, false, cond}
use mathlib.Core.List.{List, [], ◌∷◌, ◌++◌}
use Prim.Native.Nat.{ℕ}
use native.Mathlib.Omega.{arith}
use Rattle.std.specs.Prelude.{Ok, Err}
use Rattle.rules.specs.declared.Totals.{Totals}
use Rattle.rules.specs.declared.Refusal.{Refusal}
use Rattle.rules.specs.Said.{Said, Case, ruled, checked}
use Rattle.rules.specs.Entries.{bare}
use Rattle.laws.specs.Totalled.{said_of}

pub ruled_none : {A : Type 0} (a : A) → ruled [] a ≡ Ok a
unfolding ruled
ruled_none a = refl

module _ {A : Type 0} (c : Case) (cs : List Case) (a : A) where
  pub ruled_met : c.applies ≡ true → ruled (c ∷ cs) a ≡ Err c.refusal
  unfolding ruled
  ruled_met e = rw e

  pub ruled_passed : c.applies ≡ false → ruled (c ∷ cs) a ≡ ruled cs a
  unfolding ruled
  ruled_passed e = rw e

-- Cases that say the same say the same after one case more.
pub ruled_under : {A : Type 0} (c : Case) (cs ds : List Case) (a : A) → ruled cs a ≡ ruled ds a → ruled (c ∷ cs) a ≡ ruled (c ∷ ds) a
unfolding ruled
ruled_under c cs ds a e = ap (cond c.applies (Err c.refusal)) e

-- the values, where no refusal is given
abbrev pub given : {A : Type 0} → A → Said (Unit {0}) → Said A
given a (Err r) = Err r
given a (Ok u) = Ok a

pub ruled_given : {A : Type 0} (cs : List Case) (a : A) → ruled cs a ≡ given a (checked cs)
unfolding ruled
ruled_given [] a = refl
ruled_given (c ∷ cs) a = by c.applies (ruled_given cs a)
  where
    by : (b : Bool) → ruled cs a ≡ given a (checked cs) → cond b (Err c.refusal) (ruled cs a) ≡ given a (cond b (Err c.refusal) (checked cs))
    by true later = refl
    by false later = later

-- Of something that the values have, the same is said.
pub ruled_of : {A B : Type 0} (f : A → B) (cs : List Case) (a : A) → said_of f (ruled cs a) ≡ ruled cs (f a)
ruled_of f cs a = ap (said_of f) (ruled_given cs a) ∙ by (checked cs) ∙ sym (ruled_given cs (f a))
  where
    by : (s : Said (Unit {0})) → said_of f (given a s) ≡ given (f a) s
    by (Err r) = refl
    by (Ok u) = refl

-- So two that meet the same cases are both answered, or both get the same refusal.
pub ruled_alike : {A : Type 0} (cases others : List Case) (a b : A) → cases ≡ others → bare (ruled cases a) ≡ bare (ruled others b)
ruled_alike {A} cases others a b e =
    ap bare (ruled_given cases a) ∙ by a (checked cases) ∙ ap checked e ∙ sym (by b (checked others)) ∙ sym (ap bare (ruled_given others b))
  where
    by : (x : A) (s : Said (Unit {0})) → bare (given x s) ≡ s
    by x (Err r) = refl
    by x (Ok u) = refl

-- Where something is answered, it is the values, and no refusal is given.
pub ruled_answers : {A : Type 0} (cs : List Case) (a b : A) → ruled cs a ≡ Ok b → (checked cs ≡ Ok tt) × (a ≡ b)
ruled_answers {A} cs a b e = by (checked cs) (sym (ruled_given cs a) ∙ e)
  where
    value : Said A → A
    value (Err r) = a
    value (Ok x) = x

    by : (s : Said (Unit {0})) → given a s ≡ Ok b → (s ≡ Ok tt) × (a ≡ b)
    by (Err r) h = absurd (let z : ◌≡◌ {A = ℕ} 0 1 = cc in omega arith)
    by (Ok u) h = (refl, ap value h)

-- A refusal that is given is given whatever the values are; and where none is given, the values are answered.
pub refused_alike : {A B : Type 0} (cs : List Case) (a : A) (b : B) {r : Refusal} → ruled cs a ≡ Err r → ruled cs b ≡ Err r
refused_alike {A} cs a b {r} e = ruled_given cs b ∙ by (checked cs) (sym (ruled_given cs a) ∙ e)
  where
    by : (s : Said (Unit {0})) → given a s ≡ Err r → given b s ≡ Err r
    by (Err q) h = ap (λ (said : Said A). given b (bare said)) h
    by (Ok u) h = absurd (let z : ◌≡◌ {A = ℕ} 0 1 = cc in omega arith)

pub ruled_unrefused : {A : Type 0} (cs : List Case) (a : A) → checked cs ≡ Ok tt → ruled cs a ≡ Ok a
ruled_unrefused cs a e = ruled_given cs a ∙ ap (given a) e

-- Where no refusal is given, the first case does not apply, and the other cases give none.
pub none_met : (c : Case) (cs : List Case) → checked (c ∷ cs) ≡ Ok tt → (c.applies ≡ false) × (checked cs ≡ Ok tt)
unfolding ruled
none_met c cs = by c.applies
  where
    by : (b : Bool) → cond b (Err c.refusal) (checked cs) ≡ Ok tt → (b ≡ false) × (checked cs ≡ Ok tt)
    by true e = absurd (let z : ◌≡◌ {A = ℕ} 0 1 = cc in omega arith)
    by false e = (refl, e)

-- If P holds wherever the first case does not apply, and P does not hold, then that case's refusal is given.
pub ruled_refused : {A P : Type 0} (c : Case) (cs : List Case) (a : A) → (c.applies ≡ false → P) → ¬ P → ruled (c ∷ cs) a ≡ Err c.refusal
ruled_refused {A} {P} c cs a h not = by c.applies refl
  where
    by : (b : Bool) → c.applies ≡ b → ruled (c ∷ cs) a ≡ Err c.refusal
    by true e = ruled_met c cs a e
    by false e = absurd (not (h e))

-- The refusal of the first cases, or where they give none, what the later ones say.
abbrev before : {A : Type 0} → Said A → Said (Unit {0}) → Said A
before later (Err r) = Err r
before later (Ok u) = later

ruled_append : {A : Type 0} (cs ds : List Case) (a : A) → ruled (cs ++ ds) a ≡ before (ruled ds a) (checked cs)
unfolding ruled
ruled_append [] ds a = refl
ruled_append (c ∷ cs) ds a = by c.applies (ruled_append cs ds a)
  where
    by : (b : Bool) → ruled (cs ++ ds) a ≡ before (ruled ds a) (checked cs) → cond b (Err c.refusal) (ruled (cs ++ ds) a) ≡ before (ruled ds a) (cond b (Err c.refusal) (checked cs))
    by true later = refl
    by false later = later

-- So where more is said after some values: it follows from these, and their refusal is passed on.
abbrev pub said_then : {A B : Type 0} → (A → Said B) → Said A → Said B
said_then f (Err r) = Err r
said_then f (Ok a) = f a

pub ruled_both : {A B : Type 0} (cs ds : List Case) (a : A) (b : B) (f : A → Said B) → f a ≡ ruled ds b → ruled (cs ++ ds) b ≡ said_then f (ruled cs a)
ruled_both cs ds a b f e = ruled_append cs ds b ∙ by (checked cs) ∙ sym (ap (said_then f) (ruled_given cs a))
  where
    by : (s : Said (Unit {0})) → before (ruled ds b) s ≡ said_then f (given a s)
    by (Err r) = refl
    by (Ok u) = sym e

-- A step that passes a refusal on and looks for more cases where there are values says, after some cases, what both lists in one say.
pub ruled_then :
    {A : Type 0} (cs ds : List Case) (a : A) (then : Said A → Said A) → ((r : Refusal) → then (Err r) ≡ Err r) → then (Ok a) ≡ ruled ds a →
    then (ruled cs a) ≡ ruled (cs ++ ds) a
ruled_then cs ds a then on more = ap then (ruled_given cs a) ∙ by (checked cs) ∙ sym (ruled_append cs ds a)
  where
    by : (s : Said (Unit {0})) → then (given a s) ≡ before (ruled ds a) s
    by (Err r) = on r
    by (Ok u) = more

-- For two lists of cases, one after the other: a refusal of the first list is given, and where it gives none, the second list decides.
pub ruled_first : {A : Type 0} (cs ds : List Case) (a : A) {r : Refusal} → checked cs ≡ Err r → ruled (cs ++ ds) a ≡ Err r
ruled_first cs ds a e = ruled_append cs ds a ∙ ap (before (ruled ds a)) e

pub ruled_later : {A : Type 0} (cs ds : List Case) (a : A) → checked cs ≡ Ok tt → ruled (cs ++ ds) a ≡ ruled ds a
ruled_later cs ds a e = ruled_append cs ds a ∙ ap (before (ruled ds a)) e

-- Where the two lists together give no refusal, neither list gives one.
pub none_of_either : (cs ds : List Case) → checked (cs ++ ds) ≡ Ok tt → (checked cs ≡ Ok tt) × (checked ds ≡ Ok tt)
none_of_either cs ds e = by (checked cs) (sym (ruled_append cs ds tt) ∙ e)
  where
    by : (s : Said (Unit {0})) → before (checked ds) s ≡ Ok tt → (s ≡ Ok tt) × (checked ds ≡ Ok tt)
    by (Err r) h = absurd (let z : ◌≡◌ {A = ℕ} 0 1 = cc in omega arith)
    by (Ok u) h = (refl, h)

-- ---- an entry that asks for the outcome first, or for the totals, and has values where nothing is refused

module _ (cs : List Case) {o : Said (Unit {0})} (e : o ≡ checked cs) where
  pub nothing_refused : o ≡ Ok tt → checked cs ≡ Ok tt
  nothing_refused h = sym e ∙ h

  pub outcome_answers : {A : Type 0} (a : A) → o ≡ Ok tt → ruled cs a ≡ Ok a
  outcome_answers a h = ruled_unrefused cs a (nothing_refused h)

  pub outcome_refused : {A : Type 0} (a : A) {r : Refusal} → o ≡ Err r → ruled cs a ≡ Err r
  outcome_refused a h = ruled_given cs a ∙ ap (given a) (sym e ∙ h)

module _ (cs : List Case) (b : Totals) {t : Said Totals} (e : t ≡ ruled cs b) where
  pub totals_answered : {a : Totals} → t ≡ Ok a → (checked cs ≡ Ok tt) × (b ≡ a)
  totals_answered h = ruled_answers cs b _ (sym e ∙ h)

  pub totals_refused : {A : Type 0} (a : A) {r : Refusal} → t ≡ Err r → ruled cs a ≡ Err r
  totals_refused a h = refused_alike cs b a (sym e ∙ h)
