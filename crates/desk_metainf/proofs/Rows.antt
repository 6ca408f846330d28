-- Small service files and their images under the one rule that renames `javax.servlet` to `jakarta.servlet`.
use Rattle.std.proofs.Common.{◌≡◌, ℕ, false, [], ◌∷◌, ◌++◌, Result, Ok, Err, refl}
use Rattle.std.specs.FinMap as fin
use Rattle.std.specs.Prelude.{codes}
use Rattle.desk_base.specs.Names.{Text}
use Rattle.desk_base.specs.declared.Changed.{Changed}
use Rattle.desk_rules.specs.Rules.{Rules}
use Rattle.desk_metainf.specs.Services.{service}

abbrev servlet : Rules
servlet = record {
  renames = record { source = codes "javax" ∷ codes "servlet" ∷ []; target = codes "jakarta" ∷ codes "servlet" ∷ []; below = false } ∷ [];
  versions = fin.empty;
  bundles = fin.empty;
  direct = fin.empty;
  selection = [];
  texts = [];
}

abbrev gives : Text → ℕ → Result Changed ℕ
gives bytes changed = Ok (record { bytes = bytes; changed = changed })

abbrev lf : Text
lf = 10 ∷ []

abbrev cr : Text
cr = 13 ∷ []

abbrev tab : Text
tab = 9 ∷ []

pub no_bytes : service servlet [] ≡ gives [] 0
no_bytes = refl

pub no_provider : service servlet (codes "# javax.servlet.F" ++ lf ++ lf ++ codes "  ") ≡ gives (codes "# javax.servlet.F" ++ lf ++ lf ++ codes "  ") 0
no_provider = refl

pub one_provider : service servlet (codes "javax.servlet.F" ++ lf) ≡ gives (codes "jakarta.servlet.F" ++ lf) 1
one_provider = refl

pub other_package : service servlet (codes "javax.servlet.http.F" ++ lf) ≡ gives (codes "javax.servlet.http.F" ++ lf) 0
other_package = refl

pub comment_behind : service servlet (codes "web.Init # first" ++ lf ++ codes "javax.servlet.X") ≡ gives (codes "web.Init # first" ++ lf ++ codes "jakarta.servlet.X") 1
comment_behind = refl

pub comment_kept : service servlet (codes "javax.servlet.X#y # z" ++ lf) ≡ gives (codes "jakarta.servlet.X#y # z" ++ lf) 1
comment_kept = refl

pub lone_cr : service servlet (codes "javax.servlet.A" ++ cr ++ codes "javax.servlet.B" ++ cr ++ cr) ≡ gives (codes "jakarta.servlet.A" ++ cr ++ codes "jakarta.servlet.B" ++ cr ++ cr) 2
lone_cr = refl

pub cr_lf : service servlet (codes "javax.servlet.A" ++ cr ++ lf ++ codes "b.C" ++ cr ++ lf) ≡ gives (codes "jakarta.servlet.A" ++ cr ++ lf ++ codes "b.C" ++ cr ++ lf) 1
cr_lf = refl

pub blanks_around : service servlet (tab ++ codes " javax.servlet.A " ++ tab ++ codes "# c" ++ lf) ≡ gives (tab ++ codes " jakarta.servlet.A " ++ tab ++ codes "# c" ++ lf) 1
blanks_around = refl

pub no_dotted_name : service servlet (codes "javax.servlet.9" ++ lf ++ codes "javax/servlet/F" ++ lf) ≡ gives (codes "javax.servlet.9" ++ lf ++ codes "javax/servlet/F" ++ lf) 0
no_dotted_name = refl

pub already_renamed : service servlet (codes "jakarta.servlet.F" ++ lf) ≡ gives (codes "jakarta.servlet.F" ++ lf) 0
already_renamed = refl

pub bad_line : service servlet (codes "web.Init x") ≡ Err 0
bad_line = refl

pub bad_second_line : service servlet (codes "a.B" ++ cr ++ lf ++ codes "  web.Init" ++ tab ++ codes "x # y" ++ lf) ≡ Err 5
bad_second_line = refl
