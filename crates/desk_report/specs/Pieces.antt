-- A line that is put together from pieces, and what of it waits to be written.
use Rattle.std.specs.Prelude.{◌≡◌, ◌++◌, List, Option, decimal}
use Rattle.std.specs.List.{flat_map}
use Rattle.hex.specs.Hex.{encode_lower}
use Rattle.desk_base.specs.Names.{Text}
use Rattle.desk_base.specs.Shown.{shown}
use Rattle.desk_report.specs.Written.{writing}
use Rattle.desk_report.specs.declared.pieces.Piece.{Piece}
use Rattle.desk_report.specs.declared.pieces.Piece.TheVariants.{Plain, Shown, Number, Hex}

abbrev pub piece_text : Piece → Text
piece_text (Plain bytes) = bytes.now
piece_text (Shown text) = shown text.now
piece_text (Number n) = decimal n
piece_text (Hex bytes) = encode_lower bytes.now

-- the pieces, one behind the other
abbrev pub pieces_text : List Piece → Text
pieces_text = flat_map piece_text

-- bytes were put behind those that waited: a front of both was written, and the rest waits
pub record Gathers (bytes waited waits : Text) (old new : Option Text) : Type 0 where
  pub front : Text
  pub all : waited ++ bytes ≡ front ++ waits
  pub is : new ≡ writing front old
