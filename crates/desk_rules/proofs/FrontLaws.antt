-- The front of a path that is exchanged.
use Rattle.std.proofs.Common.{◌≡◌, ℕ, Bool, true, cond, List, length, Some, None, ap, ◌∙◌}
use Rattle.std.proofs.lemmas.Bool.{and_parts}
use Rattle.desk_base.specs.Names.{Text, Package, segments, written}
use Rattle.desk_packages.specs.Renames.{Renaming, in_scope, is_rename, pick, changes}
use Rattle.desk_packages.specs.Keys.{IsTable}
use Rattle.desk_rules.specs.RuleSets.{IsFrontOf, only_changing}
use Rattle.desk_packages.proofs.Same.{covers_is}
use Rattle.desk_packages.proofs.Picks.{Found, pick_Some, all_In}
use Rattle.desk_packages.proofs.Lookup.{start_prefix}

pub front_found : (rs : List Renaming) (table : IsTable rs) (s : ℕ) (path : Text) (r : Renaming) → pick rs (segments s path) ≡ Some r → changes r ≡ true → (taken : ℕ) (target : Package) → taken ≡ length (written s r.source) → target ≡ r.target → IsFrontOf rs s path taken target
front_found rs table s path r picked moves taken target width same_target =
    let f : Found (λ (r : Renaming). in_scope r (segments s path)) rs r = pick_Some rs (segments s path) r picked in
    let source = and_parts _ _ (and_parts _ _ (all_In is_rename rs r table.formed f.there)).0 in
    record {
      rename = r;
      picked = ap only_changing picked ∙ ap (λ (b : Bool). cond b (Some r) None) moves;
      within = rw width (start_prefix s path r.source source.0 _ (covers_is r.below r.source (segments s path) f.passes)).within;
      taken_is = width;
      target_is = same_target;
    }
