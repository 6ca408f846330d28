-- Worked rows, by the definitions.
use Rattle.std.proofs.Common.{◌≡◌, true, false, [], ◌∷◌, Some, None, refl}
use Rattle.std.specs.Prelude.{codes}
use Rattle.std.specs.Fmt.{digits}
use Rattle.desk_base.specs.Names.{Package}
use Rattle.desk_base.specs.declared.faults.CodeFault.TheVariants as faults
use Rattle.desk_base.specs.Entries.{Pool, utf8, class, methodref, name_and_type}
use Rattle.desk_code.specs.declared.places.CodeAt.{CodeAt}
use Rattle.desk_code.specs.Faults.{place_of}
use Rattle.desk_code.specs.Instructions.{instruction}
use Rattle.desk_sites.specs.Packages.{lies_in, named_class, is_in_package}
use Rattle.desk_sites.specs.Faults.{moved_fault, fault_name}
use Rattle.desk_sites.specs.Lines.{refusal, site_line}
use Rattle.desk_sites.specs.Sites.{is_site, site_in}

abbrev servlet : Package
servlet = codes "javax" ∷ codes "servlet" ∷ []

in_it : lies_in servlet (codes "javax/servlet/Servlet") ≡ true
in_it = refl

below_it : lies_in servlet (codes "javax/servlet/http/HttpServlet") ≡ true
below_it = refl

-- segments are compared, and not texts
beside_it : lies_in servlet (codes "javax/servletx/A") ≡ false
beside_it = refl

-- a class of the package above, with the name of this one
above_it : lies_in servlet (codes "javax/servlet") ≡ false
above_it = refl

element_class : named_class (codes "[[Ljavax/servlet/Filter;") ≡ Some (codes "javax/servlet/Filter")
element_class = refl

element_of_base_type : named_class (codes "[[I") ≡ None
element_of_base_type = refl

array_in_it : is_in_package servlet (named_class (codes "[Ljavax/servlet/Filter;")) ≡ true
array_in_it = refl

refused : refusal (codes "a b.class") (codes " code ") (fault_name (faults.UnexpectedEnd 414)) (place_of (moved_fault 400 (faults.UnexpectedEnd 14))) ≡ codes "refused a\\20b.class code short at=414\n"
unfolding digits
refused = refl

-- a servlet calls what it extends
abbrev pool : Pool
pool = Some (methodref 2 3) ∷ Some (class 4) ∷ Some (name_and_type 5 6) ∷ Some (utf8 (codes "javax/servlet/http/HttpServlet")) ∷ Some (utf8 (codes "<init>")) ∷ Some (utf8 (codes "()V")) ∷ []

abbrev code : CodeAt
code = record { member = 388; name = 5; descriptor = 6; at = 410; length = 5 }

calls_it : is_site pool servlet (instruction 1 183 3 (Some 1)) ≡ true
calls_it = refl

call_line : site_line (codes "web/Hello.class") pool (site_in code (instruction 1 183 3 (Some 1))) ≡ codes "site web/Hello.class <init> ()V at=1 op=b7 javax/servlet/http/HttpServlet <init> ()V\n"
unfolding digits
call_line = refl
