-- What was written at the end of a text.
use Rattle.std.specs.Io.KnownBytes.{Appends, Consumes}
use Rattle.std.specs.Prelude.{List, Option, ℕ, ◌++◌, ◌≡◌}

-- a front of the text was written
pub record AppendsFront (old new : Option (List ℕ)) (text : List ℕ) : Type 0 where
  pub front : List ℕ
  pub rest : List ℕ
  pub is : text ≡ front ++ rest
  pub appends : Appends old new front

-- a source gave these octets, which stand behind those that were held before
pub record Fills (left_old left_new : Option (List ℕ)) (held new : List ℕ) : Type 0 where
  pub got : List ℕ
  pub consumes : Consumes left_old left_new got
  pub holds : new ≡ held ++ got
