-- Document 01, "Numbers of refusal": an entry gives one refusal that applies and nothing else, or it gives its values.
use Rattle.std.specs.Prelude.{Bool, cond, List, [], ◌∷◌, Result, Ok, Err}
use Rattle.rules.specs.declared.Refusal.{Refusal}

-- an answer: its values, or the refusal
abbrev pub Said : Type 0 → Type 0
Said A = Result A Refusal

-- a line of the refusal table: its refusal, and whether it applies
pub record Case : Type 0 where
  pub refusal : Refusal
  pub applies : Bool

-- Of the cases that an entry can meet, the refusal of the first that applies, in the order of the list; where none applies, the values.
-- In a list ordered by number, that is the refusal of the lowest number that applies (a law).
unfoldable pub ruled : {A : Type 0} → List Case → A → Said A
ruled [] a = Ok a
ruled (c ∷ cs) a = cond c.applies (Err c.refusal) (ruled cs a)

-- the refusal, or that there is none, without values
abbrev pub checked : List Case → Said (Unit {0})
checked cases = ruled cases tt
