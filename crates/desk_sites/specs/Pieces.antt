-- Pieces of a line.
use Rattle.std.specs.Prelude.{List, decimal}
use Rattle.std.specs.List.{flat_map}
use Rattle.desk_base.specs.Names.{Text}
use Rattle.desk_base.specs.Shown.{shown}
use Rattle.desk_sites.specs.declared.lines.Piece.{Piece}
use Rattle.desk_sites.specs.declared.lines.Piece.TheVariants.{Plain, Shown, Number, Hex}
use Rattle.desk_sites.specs.Hex.{hex_byte}

abbrev pub piece_text : Piece → Text
piece_text (Plain bytes) = bytes.now
piece_text (Shown text) = shown text.now
piece_text (Number n) = decimal n
piece_text (Hex byte) = hex_byte byte

-- the pieces, one behind the other
abbrev pub pieces_text : List Piece → Text
pieces_text = flat_map piece_text
