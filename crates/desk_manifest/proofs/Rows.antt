-- Small manifests and their images, under the one rule that renames `javax.servlet` and what is below it to `jakarta.servlet`.
use Rattle.std.proofs.Common.{◌≡◌, ℕ, true, [], ◌∷◌, ◌++◌, Result, Ok, Err, refl}
use Rattle.std.specs.FinMap as fin
use Rattle.std.specs.Prelude.{codes}
use Rattle.desk_base.specs.Names.{Text}
use Rattle.desk_base.specs.declared.Changed.{Changed}
use Rattle.desk_rules.specs.Rules.{Rules}
use Rattle.desk_manifest.specs.Manifests.{manifest}

abbrev plain : Rules
plain = record {
  renames = record { source = codes "javax" ∷ codes "servlet" ∷ []; target = codes "jakarta" ∷ codes "servlet" ∷ []; below = true } ∷ [];
  versions = fin.empty;
  bundles = fin.empty;
  direct = fin.empty;
  selection = [];
  texts = [];
}

abbrev gives : Text → ℕ → Result Changed ℕ
gives bytes changed = Ok (record { bytes = bytes; changed = changed })

abbrev lf : Text
lf = 10 ∷ []

abbrev cr : Text
cr = 13 ∷ []

abbrev cr_lf : Text
cr_lf = 13 ∷ 10 ∷ []

abbrev tab : Text
tab = 9 ∷ []

pub no_bytes : manifest plain [] ≡ gives [] 0
no_bytes = refl

pub one_import : manifest plain (codes "Import-Package: javax.servlet.http" ++ lf) ≡ gives (codes "Import-Package: jakarta.servlet.http" ++ lf) 1
one_import = refl

pub open_quote : manifest plain (codes "Import-Package: javax.servlet;version=\"3" ++ lf) ≡ gives (codes "Import-Package: javax.servlet;version=\"3" ++ lf) 0
open_quote = refl

pub empty_main : manifest plain (cr ++ codes "Main-Class: javax.servlet.M") ≡ gives (cr ++ codes "Main-Class: javax.servlet.M") 0
empty_main = refl

pub bad_line : manifest plain (codes "Manifest-Version: 1.0" ++ cr_lf ++ codes "Broken" ++ cr_lf) ≡ Err 23
bad_line = refl

pub bad_continuation : manifest plain (codes "A: b" ++ lf ++ lf ++ codes " c" ++ lf) ≡ Err 6
bad_continuation = refl

pub class_with_tab : manifest plain (codes "Main-Class: javax.servlet.M" ++ tab ++ lf) ≡ gives (codes "Main-Class: javax.servlet.M" ++ tab ++ lf) 0
class_with_tab = refl
