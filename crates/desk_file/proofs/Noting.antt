-- What is noted of a class in which nothing changes: it has itself for its image.
use Rattle.std.proofs.Common.{◌≡◌, ℕ, Bool, true, false, List, length, Option, Some, None, Result, Ok, Err, IfSome, refl, sym, ap, ◌∙◌}
use Rattle.desk_base.specs.Names.{Text}
use Rattle.desk_base.specs.declared.faults.Malformed.{Malformed}
use Rattle.desk_follow.specs.RuleImages.{images_of}
use Rattle.desk_format.specs.Classes.{Class, read_class, class_fault}
use Rattle.desk_format.specs.Laws.{IsBytes}
use Rattle.desk_graph.specs.Graphs.{links_of}
use Rattle.desk_report.specs.declared.lines.Detail.TheVariants as detail
use Rattle.desk_rewrite.specs.Counts.{odd_count}
use Rattle.desk_rewrite.specs.Unchanged.{IsItself, odd_if_unchanged}
use Rattle.desk_rewrite.proofs.OwnTexts.{IsCounted, counted_by, itself_class}
use Rattle.desk_rules.specs.Rules.{Rules}
use Rattle.desk_file.specs.Classes.{class_image, image_of_read, renamed_image, unless_refused}
use Rattle.desk_file.specs.ClassScans.{noted_of, odd_as, odd_of, unchanged_image, unchanged_linked}
use Rattle.desk_file.specs.Linked.{linked_class, with_links}
use Rattle.desk_file.specs.declared.images.Image.{Image}
use Rattle.desk_file.specs.declared.scans.NotedClass.{NotedClass}
use Rattle.desk_file.proofs.ClassImages.{Reads, reads}

itself_image : (rules : Rules) (bytes : Text) (c : Class) (odd : ℕ) → IsItself (images_of rules) bytes c → odd ≡ odd_count c → renamed_image rules bytes c ≡ unchanged_image odd bytes
itself_image rules bytes c odd h e = λ i. record { bytes = h.same i; detail = detail.Class (h.none i) (ap length h.none_added i) (sym e i) 0 }

-- a class that is its own image has itself for its image
pub image_itself : (rules : Rules) (bytes : Text) (c : Class) (odd : ℕ) → read_class bytes ≡ Ok c → IsItself (images_of rules) bytes c → odd ≡ odd_count c → class_image rules bytes ≡ Ok (unchanged_image odd bytes)
unfolding class_image
image_itself rules bytes c odd reads h e =
    ap (image_of_read rules bytes) reads ∙ ap (unless_refused (renamed_image rules bytes c)) h.accepted ∙ ap (λ (i : Image). Ok i) (itself_image rules bytes c odd h e)

selected_odd : (rules : Rules) (selected : Bool) (c : Class) (odd : ℕ) → odd_of rules selected c ≡ Some odd → odd_if_unchanged (images_of rules) c ≡ Some odd
selected_odd rules true c odd e = e
selected_odd rules false c odd e = absurd cc

-- A selected class whose odd texts were counted has itself for its image.
pub noted_itself : (rules : Rules) (selected : Bool) (bytes : Text) (odd : ℕ) → IsBytes bytes → odd_as rules selected (read_class bytes) ≡ Some odd → class_image rules bytes ≡ Ok (unchanged_image odd bytes)
noted_itself rules selected bytes odd b h = elim (read_class bytes) as (λ (r : Result Class Malformed). read_class bytes ≡ r → odd_as rules selected r ≡ Some odd → class_image rules bytes ≡ Ok (unchanged_image odd bytes)) [
  | Ok c ↦ λ q k.
      let counted : IsCounted (images_of rules) c odd = counted_by (images_of rules) c odd (selected_odd rules selected c odd k) in
      image_itself rules bytes c odd q (itself_class (images_of rules) bytes c b q counted.none) counted.counts
  | Err f ↦ λ q k. absurd cc
] refl h

-- and in an application that defines these names
pub linked_itself : (rules : Rules) (defined : List Text) (bytes : Text) (odd : ℕ) → class_image rules bytes ≡ Ok (unchanged_image odd bytes)
    → linked_class rules defined bytes ≡ Ok (unchanged_linked (length (links_of defined bytes)) odd bytes)
linked_itself rules defined bytes odd h = ap (with_links (length (links_of defined bytes))) h

-- what is noted of a class that was read
pub image_noted : (rules : Rules) (path view bytes : Text) (selected : Bool) (n : NotedClass) → view ≡ bytes → class_fault bytes ≡ None → IsBytes bytes → ((c : Class) → read_class view ≡ Ok c → n ≡ noted_of rules path selected c)
    → IfSome n.odd (λ odd. class_image rules bytes ≡ Ok (unchanged_image odd bytes))
image_noted rules path view bytes selected n same sound b is = by n.odd as_read where
  r : Reads bytes
  r = reads bytes sound

  as_read : odd_as rules selected (read_class bytes) ≡ n.odd
  as_read = ap (odd_as rules selected) r.is ∙ sym (ap (λ (x : NotedClass). x.odd) (is r.class (ap read_class same ∙ r.is)))

  by : (o : Option ℕ) → odd_as rules selected (read_class bytes) ≡ o → IfSome o (λ odd. class_image rules bytes ≡ Ok (unchanged_image odd bytes))
  by None e = tt
  by (Some odd) e = noted_itself rules selected bytes odd b e
