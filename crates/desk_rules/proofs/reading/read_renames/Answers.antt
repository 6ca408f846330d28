use Rattle.std.proofs.Common.{◌≡◌, ◌∙◌, ap, sym, List, Result, Ok, Err, IfOk, map}
use Rattle.std.proofs.lemmas.Bool.{both_ways}
use Rattle.desk_properties.specs.Properties.{Entry}
use Rattle.desk_packages.specs.Renames.{Renaming, key_of}
use Rattle.desk_packages.specs.Keys.{IsTable}
use Rattle.desk_rules.specs.Files.{renames_name}
use Rattle.desk_rules.specs.RuleFiles.{entries_in, renames_in, renames_of, each, rename_entry, in_order}
use Rattle.desk_rules.proofs.Faults.{ok_next, read_whole, refused_whole}
use Rattle.desk_rules.proofs.Ordered.{order_rises, rise_of_keys}
use Rattle.desk_rules.proofs.RenameEntries.{renames_formed, renames_some}
use Rattle.desk_rules.proofs.reading.read_renames.Goals as goal

table_of : {V F : Type 0} (items : V → List Renaming) (res : Result V F) (es sorted : List Entry) → sorted ≡ in_order es → IfOk res (λ v. each renames_name rename_entry sorted ≡ Ok (items v)) → IfOk res (λ v. map key_of (items v) ≡ map (λ (e : Entry). e.0) sorted) → IfOk res (λ v. IsTable (items v))
table_of items (Ok v) es sorted is read keys =
    record { formed = renames_formed sorted (items v) read; rising = rise_of_keys key_of (items v) (in_order es) (keys ∙ ap (map (λ (e : Entry). e.0)) is) (order_rises es) }
table_of items (Err e) es sorted is read keys = tt

pub returns-clause-read : goal.returns-clause-read
returns-clause-read c =
    let whole : renames_in c.args.files.now ≡ each renames_name rename_entry c.in_ok-entries-2.entries.entries =
    ok_next (entries_in c.args.files.now renames_name) c.in_ok-entries.entries.entries renames_of c.in_ok-entries.ensures.read
    ∙ renames_some c.in_ok-entries.entries.entries (λ none. both_ways c.is_empty.result c.if-is_empty.false (c.is_empty.ensures.1 none))
    ∙ ap (each renames_name rename_entry) (sym c.in_ok-entries-2.ensures) in
    read_whole (renames_in c.args.files.now) (each renames_name rename_entry c.in_ok-entries-2.entries.entries) (λ v. v.items) c.read_each.result whole c.read_each.ensures.read

pub returns-clause-refused : goal.returns-clause-refused
returns-clause-refused c =
    let whole : renames_in c.args.files.now ≡ each renames_name rename_entry c.in_ok-entries-2.entries.entries =
    ok_next (entries_in c.args.files.now renames_name) c.in_ok-entries.entries.entries renames_of c.in_ok-entries.ensures.read
    ∙ renames_some c.in_ok-entries.entries.entries (λ none. both_ways c.is_empty.result c.if-is_empty.false (c.is_empty.ensures.1 none))
    ∙ ap (each renames_name rename_entry) (sym c.in_ok-entries-2.ensures) in
    refused_whole (renames_in c.args.files.now) (each renames_name rename_entry c.in_ok-entries-2.entries.entries) c.read_each.result whole c.read_each.ensures.refused

pub returns-clause-table : goal.returns-clause-table
returns-clause-table c = table_of (λ v. v.items) c.read_each.result c.in_ok-entries.entries.entries c.in_ok-entries-2.entries.entries c.in_ok-entries-2.ensures c.read_each.ensures.read c.read_each.ensures.keyed
