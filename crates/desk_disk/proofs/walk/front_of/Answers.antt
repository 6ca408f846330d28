use Rattle.std.proofs.Common.{◌≡◌, ◌∙◌, ◌++◌, ◌∷◌, [], sym, ap, false, rules}
use Rattle.std.specs.Str.{bytes_eq}
use Rattle.desk_base.specs.Names.{Text, slash}
use Rattle.desk_base.specs.Paths.{here, top}
use Rattle.desk_folders.proofs.Below.{folder-other}
use Rattle.desk_disk.proofs.walk.front_of.Goals as goal

pub returns : goal.returns
returns c =
    let not_here : bytes_eq c.args.root.now here ≡ false = ap (λ t. bytes_eq t here) (sym c.as_bytes.ensures) ∙ ap (bytes_eq c.as_bytes.result.now) (sym c.as_slice.ensures) ∙ sym c.eq.ensures ∙ c.if-eq.false in
    let not_top : bytes_eq c.args.root.now top ≡ false = ap (λ t. bytes_eq t top) (sym c.as_bytes-2.ensures) ∙ ap (bytes_eq c.as_bytes-2.result.now) (sym c.as_slice-2.ensures) ∙ sym c.eq-2.ensures ∙ c.if-eq-2.false in
    let front : c.in_ok-front.front ≡ c.args.root.now = search rules in
    c.in_ok-push.ensures.ok ∙ ap (λ (f : Text). f ++ slash ∷ []) front ∙ sym (folder-other c.args.root.now not_here not_top)
