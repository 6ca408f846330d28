-- What a sink tells of the bytes that were written to it.
use Rattle.std.specs.Prelude.{◌≡◌, ◌++◌, Option, option_map}
use Rattle.std.specs.Io.KnownBytes.{Appends}
use Rattle.desk_base.specs.Names.{Text}

-- with these bytes behind what was written
abbrev pub writing : Text → Option Text → Option Text
writing bytes = option_map (λ text. text ++ bytes)

-- a front of the bytes was written
pub record WritesFront (bytes : Text) (old new : Option Text) : Type 0 where
  pub front : Text
  pub rest : Text
  pub all : bytes ≡ front ++ rest
  pub is : new ≡ writing front old

-- the known bytes of a writer grow by a front of these
pub record AppendsFront (bytes : Text) (old new : Option Text) : Type 0 where
  pub front : Text
  pub rest : Text
  pub all : bytes ≡ front ++ rest
  pub is : Appends old new front
