-- What the definitions say of the bytes of a class.
use Rattle.std.specs.Prelude.{ℕ, List, [], ◌∷◌, ◌++◌, codes, Option, None, Result, Ok, Err, if◌then◌else◌}
use Rattle.std.specs.Str.{bytes_eq}
use Rattle.desk_base.specs.Names.{Text}
use Rattle.desk_base.specs.declared.faults.Malformed.{Malformed}
use Rattle.desk_format.specs.Trees.{Tree, Use}
use Rattle.desk_format.specs.Classes.{Class, read_class, list_in}
use Rattle.desk_format.specs.Resolved.{Images}
use Rattle.desk_format.specs.NewClass.{Refusal, refusal, new_bytes}

-- the code arrays of a tree, one behind the other (JVMS 4.7.3)
abbrev pub code_within : Tree Use → List ℕ
code_within Tree.nothing = []
code_within (Tree.number bytes) = []
code_within (Tree.raw bytes) = []
code_within (Tree.code bytes) = bytes
code_within (Tree.used u) = []
code_within (Tree.both a b) = code_within a ++ code_within b
code_within (Tree.member a) = code_within a

abbrev pub code_in : List ℕ → List ℕ
code_in bytes = list_in (λ c. code_within c.body) (read_class bytes)

-- ---- images

-- a text and its image
pub record Pair : Type 0 where
  pub text : Text
  pub image : Text

abbrev pub to : Text → Text → Pair
to text image = record { text = text; image = image }

-- the image of each of these texts; every other stays
abbrev pub by_pairs : List Pair → Text → Text
by_pairs [] t = t
by_pairs (p ∷ ps) t = if bytes_eq t p.text then p.image else by_pairs ps t

-- images of class names and descriptors, and of strings
abbrev pub images_by : List Pair → List Pair → Images
images_by names strings = record {
  cls = by_pairs names;
  pkg = by_pairs names;
  desc = by_pairs names;
  class_sig = by_pairs names;
  method_sig = by_pairs names;
  field_sig = by_pairs names;
  str = by_pairs strings;
}

abbrev pub to_jakarta : Images
to_jakarta = images_by (
    to (codes "javax/servlet/http/HttpServlet") (codes "jakarta/servlet/http/HttpServlet")
    ∷ to (codes "javax/servlet/ServletException") (codes "jakarta/servlet/ServletException")
    ∷ to (codes "Ljavax/servlet/annotation/WebServlet;") (codes "Ljakarta/servlet/annotation/WebServlet;")
    ∷ to (codes "(Ljavax/servlet/http/HttpServletRequest;Ljavax/servlet/http/HttpServletResponse;)V")
    (codes "(Ljakarta/servlet/http/HttpServletRequest;Ljakarta/servlet/http/HttpServletResponse;)V")
    ∷ []) []

abbrev pub renamed_bytes : Images → List ℕ → List ℕ
renamed_bytes im bytes = list_in (new_bytes im bytes) (read_class bytes)

abbrev pub refusal_by : Images → Result Class Malformed → Option Refusal
refusal_by im (Ok c) = refusal im c
refusal_by im (Err e) = None

abbrev pub refusal_in : Images → List ℕ → Option Refusal
refusal_in im bytes = refusal_by im (read_class bytes)
