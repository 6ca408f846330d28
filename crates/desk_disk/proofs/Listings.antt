-- Listings that grow.
use Rattle.std.proofs.Common.{◌≡◌, ◌+◌, List, [], ◌∷◌, ◌++◌, ap, ◌∙◌, arith, rules, append_assoc, length-append}
use Rattle.desk_base.specs.Names.{Text}
use Rattle.desk_disk.specs.declared.walk.Entry.{Entry}
use Rattle.desk_disk.specs.declared.walk.Entry.TheVariants.{File, Folder}
use Rattle.desk_disk.specs.Disk.{Looked, IsLooked, IsLonger, taken}

pub IsLonger-refl : (l : Looked) → IsLonger l l
IsLonger-refl l = record { files = []; more = []; found = search rules; folders = search rules; count = search rules }

added : (old files : List Text) (path : Text) (all new : List Text) → all ≡ old ++ files → new ≡ all ++ path ∷ [] → new ≡ old ++ (files ++ path ∷ [])
added old files path all new e f = f ∙ ap (λ xs. xs ++ path ∷ []) e ∙ append_assoc old files (path ∷ [])

-- an entry more
pub IsLonger-more : (a b d : Looked) (path : Text) → IsLonger a b → IsLooked path b d → IsLonger a d
IsLonger-more a b d path longer looked = at looked.entry looked.is where
  at : (e : Entry) → d ≡ taken path e b → IsLonger a d
  at File is =
      let count = ap (λ (l : Looked). l.count) is in
      let more = length-append longer.files (path ∷ []) in
      let had = longer.count in record {
        files = longer.files ++ path ∷ [];
        more = longer.more;
        found = added a.found longer.files path b.found d.found longer.found (ap (λ (l : Looked). l.found) is);
        folders = ap (λ (l : Looked). l.folders) is ∙ longer.folders;
        count = omega (arith, count, more, had);
      }
  at Folder is =
      let count = ap (λ (l : Looked). l.count) is in
      let more = length-append longer.more (path ∷ []) in
      let had = longer.count in record {
        files = longer.files;
        more = longer.more ++ path ∷ [];
        found = ap (λ (l : Looked). l.found) is ∙ longer.found;
        folders = added a.folders longer.more path b.folders d.folders longer.folders (ap (λ (l : Looked). l.folders) is);
        count = omega (arith, count, more, had);
      }

-- one entry more is counted
pub IsLooked-count : (b d : Looked) (path : Text) → IsLooked path b d → d.count ≡ b.count + 1
IsLooked-count b d path looked = at looked.entry looked.is where
  at : (e : Entry) → d ≡ taken path e b → d.count ≡ b.count + 1
  at File is = ap (λ (l : Looked). l.count) is
  at Folder is = ap (λ (l : Looked). l.count) is
