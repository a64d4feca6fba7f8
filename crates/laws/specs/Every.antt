-- What holds of every element of a list, one after the other.
use Rattle.std.specs.Prelude.{List, [], ◌∷◌}

infixr 5 ◌then◌
pub data Every {A : Type 0} (P : A → Type 0) : List A → Type 0 where
  done : Every P []
  ◌then◌ : {x : A} {xs : List A} → P x → Every P xs → Every P (x ∷ xs)
