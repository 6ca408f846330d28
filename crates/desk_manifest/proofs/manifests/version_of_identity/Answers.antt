use Rattle.std.proofs.Common.{◌++◌, ◌∙◌, ap, ap₂, sym, List}
use Rattle.desk_base.specs.Names.{Text}
use Rattle.desk_lines.specs.Lines.{Line}
use Rattle.desk_sections.specs.Sections.{unfolded}
use Rattle.desk_listings.specs.Images.{identity_version}
use Rattle.desk_manifest.proofs.Sought.{further_of}
use Rattle.desk_manifest.proofs.manifests.version_of_identity.Goals as goal

pub returns : goal.returns
returns c =
    let k = further_of c.args.more.now _ _ _ c.skip_continuations-behind.ensures in
    c.identity_version.ensures
    ∙ ap (identity_version c.args.rules.now) (c.as_bytes.ensures ∙ c.in_ok-value.ensures ∙ ap₂ (λ (v : Text) (f : List Line). v ++ unfolded f) c.cut_header_line.ensures.value (k.0 ∙ sym k.1))
