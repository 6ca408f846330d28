-- Images that rename a class, and a class whose name becomes too long.
use Rattle.std.specs.Prelude.{ℕ, List, [], ◌∷◌, ◌++◌, codes, replicate, take, drop, Some}
use Rattle.desk_base.specs.Entries.{utf8, class, string}
use Rattle.desk_format.specs.Trees.{Tree}
use Rattle.desk_format.specs.Classes.{Class}
use Rattle.desk_base.specs.Names.{Text}
use Rattle.desk_format.specs.Resolved.{Images}
use Rattle.worked_classes.specs.Servlet.{Pair, to, images_by}
use Rattle.worked_classes.specs.Samples.{utf8_entry}
use Rattle.worked_classes.specs.declared.samples.TheConstants.{CLASS_A}

-- a name of so many letters F in the package of servlets
abbrev pub long_name : ℕ → Text
long_name n = codes "javax/servlet/" ++ replicate n 70

abbrev pub new_long_name : ℕ → Text
new_long_name n = codes "jakarta/servlet/" ++ replicate n 70

abbrev pub new_names : List Pair
new_names =
    to (codes "javax/servlet/F") (codes "jakarta/servlet/F")
    ∷ to (codes "(Ljavax/servlet/F;)V") (codes "(Ljakarta/servlet/F;)V")
    ∷ []

abbrev pub renamed_name : Images
renamed_name = images_by new_names []

abbrev pub renamed_name_and_string : Images
renamed_name_and_string = images_by new_names (to (codes "javax/servlet/F") (codes "x") ∷ [])

abbrev pub renamed_long : ℕ → Images
renamed_long n = images_by (to (long_name n) (new_long_name n) ∷ []) []

-- CLASS_A with that name
abbrev pub long_class : ℕ → List ℕ
long_class n = take 10 CLASS_A ++ (utf8_entry (long_name n) ++ drop 14 CLASS_A)

-- A class of a pool that begins as that of SHARED, with so many empty texts behind it, and of an empty body.
abbrev pub shared_with : ℕ → Class
shared_with more = record {
  minor = 0;
  major = 52;
  pool = Some (utf8 (codes "javax/servlet/F")) ∷ Some (class 1) ∷ Some (utf8 (codes "java/lang/Object")) ∷ Some (class 3) ∷ Some (string 1)
      ∷ replicate more (Some (utf8 []));
  body_at = 0;
  body = Tree.nothing;
}
