-- The body of a class, part by part.
use Rattle.std.proofs.Common.{◌≡◌, ◌∙◌, List, Result, Ok, Err, true, false}
use Rattle.desk_base.specs.Spot.{Spot}
use Rattle.desk_base.specs.declared.faults.ReadFault.{ReadFault}
use Rattle.desk_base.specs.declared.kinds.Used.{Used}
use Rattle.desk_base.specs.Entries.{Pool}
use Rattle.desk_format.specs.declared.attributes.Location.TheVariants.{OfClass}
use Rattle.desk_format.specs.declared.members.Member.{Member}
use Rattle.desk_format.specs.ClassBody.{class_body}
use Rattle.desk_format.specs.Layouts.{Layout}
use Rattle.desk_format.specs.Rows.{many}
use Rattle.desk_format.specs.Attributes.{attributes_of}
use Rattle.desk_format.specs.Reading.{read}
use Rattle.desk_format.specs.Walk.{walk, walk_at, Walks}
use Rattle.desk_format.specs.Walk.{Stops as WalkStops}
use Rattle.desk_pool.specs.Seen.{Stops}
use Rattle.desk_class.specs.Scan.{scan, scan_at, Scans, class_head, interfaces, member_layout}
use Rattle.desk_class.proofs.Bare.{bare_row, bare_attributes}
use Rattle.desk_class.proofs.Scans.{row_scans, row_scan_stopped, row_scan_last, bare_scans, part_stops}

abbrev of_fields : Layout
of_fields = many (Layout.member (member_layout false))

abbrev of_methods : Layout
of_methods = many (Layout.member (member_layout true))

abbrev pub passed : Unit {0} → Result (Unit {0}) ReadFault
passed u = Ok u

module _ (pool : Pool) (us : List Used) (ms : List Member) (s s1 : Spot) where
  head : walk (read pool class_head) (walk_at us s) ≡ Ok (walk_at us s1) → scan (read pool class_head) (scan_at us ms s) ≡ Ok (scan_at us ms s1)
  head h = bare_scans (passed tt) pool class_head (bare_row _) us us ms s s1 h

  tables : walk (read pool interfaces) (walk_at us s) ≡ Ok (walk_at us s1) → scan (read pool interfaces) (scan_at us ms s) ≡ Ok (scan_at us ms s1)
  tables h = bare_scans (passed tt) pool interfaces (bare_row _) us us ms s s1 h

-- the body up to its members, and what comes then
pub body_is : (pool : Pool) (us us1 us2 : List Used) (ms ms1 ms2 : List Member) (s s1 s2 s3 s4 : Spot) → walk (read pool class_head) (walk_at us s) ≡ Ok (walk_at us s1) → walk (read pool interfaces) (walk_at us s1) ≡ Ok (walk_at us s2)
    → scan (read pool of_fields) (scan_at us ms s2) ≡ Ok (scan_at us1 ms1 s3) → scan (read pool of_methods) (scan_at us1 ms1 s3) ≡ Ok (scan_at us2 ms2 s4)
    → scan (read pool class_body) (scan_at us ms s) ≡ scan (read pool (attributes_of OfClass)) (scan_at us2 ms2 s4)
unfolding class_body
body_is pool us us1 us2 ms ms1 ms2 s s1 s2 s3 s4 a b c d =
    row_scans pool class_head _ (scan_at us ms s) (scan_at us ms s1) (head pool us ms s s1 a)
    ∙ row_scans pool interfaces _ (scan_at us ms s1) (scan_at us ms s2) (tables pool us ms s1 s2 b)
    ∙ row_scans pool of_fields _ (scan_at us ms s2) (scan_at us1 ms1 s3) c
    ∙ row_scans pool of_methods _ (scan_at us1 ms1 s3) (scan_at us2 ms2 s4) d
    ∙ row_scan_last pool (attributes_of OfClass) (scan_at us2 ms2 s4)

abbrev pub failed : ReadFault → Result (Unit {0}) ReadFault
failed e = Err e

pub head_stops : (e : ReadFault) (pool : Pool) (us : List Used) (ms : List Member) (s : Spot) → WalkStops e (walk (read pool class_head) (walk_at us s)) us → Stops e (scan (read pool class_body) (scan_at us ms s))
unfolding class_body
head_stops e pool us ms s h = row_scan_stopped e pool class_head _ (scan_at us ms s) (bare_scans (failed e) pool class_head (bare_row _) us us ms s s h)

pub interfaces_stop : (e : ReadFault) (pool : Pool) (us : List Used) (ms : List Member) (s s1 : Spot) → walk (read pool class_head) (walk_at us s) ≡ Ok (walk_at us s1)
    → WalkStops e (walk (read pool interfaces) (walk_at us s1)) us → Stops e (scan (read pool class_body) (scan_at us ms s))
unfolding class_body
interfaces_stop e pool us ms s s1 a h =
    part_stops e _ _ (row_scan_stopped e pool interfaces _ (scan_at us ms s1) (bare_scans (failed e) pool interfaces (bare_row _) us us ms s1 s1 h))
    (λ f k. row_scans pool class_head _ (scan_at us ms s) (scan_at us ms s1) (head pool us ms s s1 a) ∙ k)

pub fields_stop : (e : ReadFault) (pool : Pool) (us : List Used) (ms : List Member) (s s1 s2 : Spot) → walk (read pool class_head) (walk_at us s) ≡ Ok (walk_at us s1) → walk (read pool interfaces) (walk_at us s1) ≡ Ok (walk_at us s2)
    → Stops e (scan (read pool of_fields) (scan_at us ms s2)) → Stops e (scan (read pool class_body) (scan_at us ms s))
unfolding class_body
fields_stop e pool us ms s s1 s2 a b h =
    part_stops e _ _ (row_scan_stopped e pool of_fields _ (scan_at us ms s2) h)
    (λ f k. row_scans pool class_head _ (scan_at us ms s) (scan_at us ms s1) (head pool us ms s s1 a) ∙ row_scans pool interfaces _ (scan_at us ms s1) (scan_at us ms s2) (tables pool us ms s1 s2 b) ∙ k)

pub methods_stop : (e : ReadFault) (pool : Pool) (us us1 : List Used) (ms ms1 : List Member) (s s1 s2 s3 : Spot) → walk (read pool class_head) (walk_at us s) ≡ Ok (walk_at us s1) → walk (read pool interfaces) (walk_at us s1) ≡ Ok (walk_at us s2)
    → scan (read pool of_fields) (scan_at us ms s2) ≡ Ok (scan_at us1 ms1 s3) → Stops e (scan (read pool of_methods) (scan_at us1 ms1 s3)) → Stops e (scan (read pool class_body) (scan_at us ms s))
unfolding class_body
methods_stop e pool us us1 ms ms1 s s1 s2 s3 a b c h =
    part_stops e _ _ (row_scan_stopped e pool of_methods _ (scan_at us1 ms1 s3) h)
    (λ f k.
    row_scans pool class_head _ (scan_at us ms s) (scan_at us ms s1) (head pool us ms s s1 a)
    ∙ row_scans pool interfaces _ (scan_at us ms s1) (scan_at us ms s2) (tables pool us ms s1 s2 b)
    ∙ row_scans pool of_fields _ (scan_at us ms s2) (scan_at us1 ms1 s3) c ∙ k)

-- what is left is the attributes of the class
pub body_scans : {T : Type 0} (result : Result T ReadFault) (pool : Pool) (us us1 us2 us3 : List Used) (ms ms1 ms2 : List Member) (s s1 s2 s3 s4 s5 : Spot)
    → walk (read pool class_head) (walk_at us s) ≡ Ok (walk_at us s1) → walk (read pool interfaces) (walk_at us s1) ≡ Ok (walk_at us s2)
    → scan (read pool of_fields) (scan_at us ms s2) ≡ Ok (scan_at us1 ms1 s3) → scan (read pool of_methods) (scan_at us1 ms1 s3) ≡ Ok (scan_at us2 ms2 s4)
    → Walks result (walk (read pool (attributes_of OfClass)) (walk_at us2 s4)) s5 us3 → Scans result (scan (read pool class_body) (scan_at us ms s)) s5 us3 ms2
body_scans result pool us us1 us2 us3 ms ms1 ms2 s s1 s2 s3 s4 s5 a b c d e =
    rw (body_is pool us us1 us2 ms ms1 ms2 s s1 s2 s3 s4 a b c d) (bare_scans result pool (attributes_of OfClass) (bare_attributes OfClass) us2 us3 ms2 s4 s5 e)
