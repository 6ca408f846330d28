use Rattle.std.proofs.Common.{◌≡◌, ◌+◌, ◌∙◌, ℕ, length, ap, sym, refl}
use Rattle.desk_base.specs.Descriptors.{as_is}
use Rattle.desk_names.specs.Pieces.{Piece, piece_of, piece_text}
use Rattle.desk_rename.specs.Images.{repackaged}
use Rattle.desk_rename.proofs.Taken.{taken_same}
use Rattle.desk_rename.proofs.drafts.Draft.take.Goals as goal

pub returns-in-Other : goal.returns-in-Other
returns-in-Other c =
    let e : piece_of c.args.part ≡ Piece.other c.in-Other.bytes.now = ap piece_of c.in-Other.is in
    taken_same c.args.rules.now.renames c.args.text.now c.args.self.now (piece_of c.args.part) _ c.requires
    (ap (piece_text (repackaged c.args.rules.now.renames)) e ∙ sym (ap (piece_text as_is) e))
    (ap (λ (n : ℕ). c.args.self.now.at + n) (ap length (sym (ap (piece_text as_is) e)))) refl refl
