-- What a scan keeps.
use Rattle.std.proofs.Common.{◌≡◌, Bool, List, Ok, ap, ◌∙◌}
use Rattle.desk_base.specs.Names.{Text}
use Rattle.desk_class.specs.Held.{each_once, held_in}
use Rattle.desk_class.specs.Parts.{class_name, name_in}
use Rattle.desk_class.proofs.Named.{held_is, name_is}
use Rattle.desk_format.specs.Classes.{Class, read_class}
use Rattle.desk_graph.specs.Scans.{scan_of}

pub scanned : (bytes path path' name : Text) (selected : Bool) (held : List Text) (c : Class) → read_class bytes ≡ Ok c → path' ≡ path → name ≡ name_in bytes → held ≡ each_once (held_in bytes)
    → record { path = path'; selected = selected; name = name; held = held } ≡ scan_of path selected c
scanned bytes path path' name selected held c reads path_is name_same held_same =
    ap (λ (t : Text). record { path = t; selected = selected; name = name; held = held }) path_is
    ∙ ap (λ (t : Text). record { path = path; selected = selected; name = t; held = held }) (name_same ∙ name_is bytes c reads)
    ∙ ap (λ (ns : List Text). record { path = path; selected = selected; name = class_name c; held = ns }) (held_same ∙ ap each_once (held_is bytes c reads))
