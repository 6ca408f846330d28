use Rattle.std.proofs.Common.{◌≡◌, ◌∙◌, sym, ap, false}
use Rattle.std.specs.Str.{bytes_eq}
use Rattle.desk_base.specs.Paths.{here, top}
use Rattle.desk_folders.specs.Contents.{behind}
use Rattle.desk_folders.proofs.Below.{folder-other}
use Rattle.desk_folders.proofs.listing.behind_folder.Goals as goal

pub returns : goal.returns
returns c =
    let not_here : bytes_eq c.args.root.now here ≡ false = ap (bytes_eq c.args.root.now) (sym c.as_slice.ensures) ∙ sym c.eq.ensures ∙ c.if-eq.false in
    let not_top : bytes_eq c.args.root.now top ≡ false = ap (bytes_eq c.args.root.now) (sym c.as_slice-2.ensures) ∙ sym c.eq-2.ensures ∙ c.if-eq-2.false in
    c.behind_both.ensures ∙ ap (λ front. behind front c.args.path.now) (sym (folder-other c.args.root.now not_here not_top))
