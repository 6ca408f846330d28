-- Images of modified UTF-8 are modified UTF-8, where the targets of the renames are.
use Rattle.std.proofs.Common.{◌≡◌, ℕ, ◌-◌, ◌+◌, Bool, true, false, cond, not, ◌&&◌, ◌||◌, ◌==◌, List, [], ◌∷◌, ◌++◌, length, drop, Option, Some, None, refl, sym, subst, inl, inr}
use Rattle.std.specs.Prelude.{if◌then◌else◌, nat_lt}
use Rattle.std.specs.List.{AllByRecursion}
use Rattle.std.proofs.lemmas.Bool.{and_parts, cases_Bool, both_ways, or_cases, eqb-true, true_from_ne_false}
use Rattle.std.proofs.lemmas.List.{append_assoc}
use Rattle.desk_base.specs.Names.{Text, Package, segments, written, front, simple, is_name, is_part, is_identifier, dot, slash}
use Rattle.desk_base.specs.Descriptors.{is_base}
use Rattle.desk_base.specs.Signatures.{SignatureKind, is_mark}
use Rattle.desk_base.specs.Utf8.{bad_form}
use Rattle.desk_base.specs.Referents.{begins_array}
use Rattle.desk_names.specs.declared.signatures.Owner.{Owner}
use Rattle.desk_names.specs.declared.signatures.Owner.TheVariants as owners
use Rattle.desk_names.specs.declared.signatures.RefPlace.{RefPlace}
use Rattle.desk_names.specs.declared.signatures.RefPlace.TheVariants as ref_places
use Rattle.desk_names.specs.declared.signatures.Spot.TheVariants as spots
use Rattle.desk_names.specs.declared.signatures.RefState.{RefState}
use Rattle.desk_names.specs.declared.signatures.RefState.TheVariants as ref_states
use Rattle.desk_names.specs.declared.signatures.SigState.{SigState}
use Rattle.desk_names.specs.declared.signatures.SigState.TheVariants as sig_states
use Rattle.desk_names.specs.ClassNames.{package_of, simple_of, class_name}
use Rattle.desk_names.specs.Pieces.{Piece, class_piece, last_piece, cut, joined}
use Rattle.desk_names.specs.SignatureScan.{ref_behind, in_class, ref_step, after, at_place, has_bound, first_bound, body_step, sig_step, sig_start, is_sound_signature}
use Rattle.desk_names.specs.SignaturePieces.{is_naming, ends_name, named, sig_cut}
use Rattle.desk_packages.specs.Renames.{Renaming, has_source, pkg, pick, renamed_by, in_scope}
use Rattle.desk_rules.specs.Images.{refronted, name_image, dotted, package_written, renamed_string}
use Rattle.desk_packages.proofs.Picks.{In, Found, pick_Some}
use Rattle.desk_packages.proofs.Same.{covers_is}
use Rattle.desk_packages.proofs.Cuts.{written-segments}
use Rattle.desk_rename.specs.Images.{repackaged, is_any_descriptor, desc, cls, sig}
use Rattle.desk_rules.specs.RuleSets.{HaveUtf8Targets}
use Rattle.desk_rename.specs.Laws.{Utf8Images}
use Rattle.desk_rename.proofs.Finished.{desc_is, desc_other, sig_is, sig_other, cls_array, cls_name}
use Rattle.desk_rename.proofs.Runs.{IsWhole, IsPlain, whole_from, good_from, cut_plain, join_whole, before_plain}

-- ---- packages and names

dot_plain : IsPlain dot
dot_plain = record { single = refl; first = refl }

slash_plain : IsPlain slash
slash_plain = record { single = refl; first = refl }

abbrev AllWhole : Package → Type 0
AllWhole = AllByRecursion IsWhole

parts_whole : (s : ℕ) → IsPlain s → (ps : Package) → IsWhole (written s ps) → AllWhole ps
parts_whole s plain [] h = tt
parts_whole s plain (x ∷ []) h = (h, tt)
parts_whole s plain (x ∷ y ∷ ps) h =
    let c = cut_plain s plain x (written s (y ∷ ps)) h in
    (c.0, parts_whole s plain (y ∷ ps) c.1)

written_whole : (s : ℕ) → IsPlain s → (ps : Package) → AllWhole ps → IsWhole (written s ps)
written_whole s plain [] h = refl
written_whole s plain (x ∷ []) h = h.0
written_whole s plain (x ∷ y ∷ ps) h =
    join_whole x (s ∷ written s (y ∷ ps)) h.0 (before_plain s plain (written s (y ∷ ps)) (written_whole s plain (y ∷ ps) h.1))

cut_whole : (s : ℕ) → IsPlain s → (t : Text) → IsWhole t → AllWhole (segments s t)
cut_whole s plain t h = let P : Text → Type 0 = λ u. IsWhole u in parts_whole s plain (segments s t) (subst P (sym (written-segments s t)) h)

all_append : (xs ys : Package) → AllWhole xs → AllWhole ys → AllWhole (xs ++ ys)
all_append [] ys h k = k
all_append (x ∷ xs) ys h k = (h.0, all_append xs ys h.1 k)

all_behind : (xs ys : Package) → AllWhole (xs ++ ys) → AllWhole ys
all_behind [] ys h = h
all_behind (x ∷ xs) ys h = all_behind xs ys h.1

front_whole : (ps : Package) → AllWhole ps → AllWhole (front ps)
front_whole [] h = tt
front_whole (x ∷ []) h = tt
front_whole (x ∷ y ∷ ps) h = (h.0, front_whole (y ∷ ps) h.1)

last_whole : (ps : Package) → AllWhole ps → IsWhole (simple ps)
last_whole [] h = refl
last_whole (x ∷ []) h = h.0
last_whole (x ∷ y ∷ ps) h = last_whole (y ∷ ps) h.1

target_in : (rs : List Renaming) (r : Renaming) → HaveUtf8Targets rs → In rs r → bad_form (written dot r.target) ≡ None
target_in [] r h is = absurd is
target_in (q ∷ rs) r h (inl same) = let P : Renaming → Type 0 = λ x. bad_form (written dot x.target) ≡ None in subst P same h.0
target_in (q ∷ rs) r h (inr later) = target_in rs r h.1 later

pkg_whole : (rs : List Renaming) → HaveUtf8Targets rs → (p : Package) → AllWhole p → AllWhole (pkg rs p)
pkg_whole rs targets p h =
    elim (pick rs p) as (λ (o : Option Renaming). pick rs p ≡ o → AllWhole (renamed_by o p)) [
      | None ↦ λ q. h
      | Some r ↦ λ q.
          let f : Found (λ (r : Renaming). in_scope r p) rs r = pick_Some rs p r q in
          let P : Package → Type 0 = λ x. AllWhole x in
          all_append r.target (drop (length r.source) p)
          (parts_whole dot dot_plain r.target (whole_from (written dot r.target) (target_in rs r targets f.there)))
          (all_behind r.source (drop (length r.source) p) (subst P (covers_is r.below r.source p f.passes) h))
    ] refl

refronted_whole : (rs : List Renaming) → HaveUtf8Targets rs → (ps : Package) → AllWhole ps → AllWhole (refronted rs ps)
refronted_whole rs targets ps h = all_append (pkg rs (front ps)) (simple ps ∷ []) (pkg_whole rs targets (front ps) (front_whole ps h)) (last_whole ps h, tt)

name_whole : (rs : List Renaming) → HaveUtf8Targets rs → (part : Text → Bool) (s : ℕ) → IsPlain s → (t : Text) → IsWhole t → IsWhole (name_image part s rs t)
name_whole rs targets part s plain t h =
    elim (is_name part s t) as (λ (b : Bool). IsWhole (cond b (written s (refronted rs (segments s t))) t)) [
      | true ↦ written_whole s plain (refronted rs (segments s t)) (refronted_whole rs targets (segments s t) (cut_whole s plain t h))
      | false ↦ h
    ]

repackaged_whole : (rs : List Renaming) → HaveUtf8Targets rs → (t : Text) → IsWhole t → IsWhole (repackaged rs t)
repackaged_whole rs targets t h = written_whole slash slash_plain (refronted rs (segments slash t)) (refronted_whole rs targets (segments slash t) (cut_whole slash slash_plain t h))

package_whole : (rs : List Renaming) → HaveUtf8Targets rs → (s : ℕ) → IsPlain s → (t : Text) → IsWhole t → IsWhole (package_written s rs t)
package_whole rs targets s plain t h = written_whole s plain (pkg rs (segments s t)) (pkg_whole rs targets (segments s t) (cut_whole s plain t h))

string_whole : (rs : List Renaming) → HaveUtf8Targets rs → (t : Text) → IsWhole t → IsWhole (renamed_string rs t)
string_whole rs targets t h =
    elim (has_source rs (segments dot t)) as (λ (b : Bool). IsWhole (cond b (package_written dot rs t) (dotted rs t))) [
      | true ↦ package_whole rs targets dot dot_plain t h
      | false ↦ name_whole rs targets is_identifier dot dot_plain t h
    ]

-- ---- parts

abbrev Keeps : (Text → Text) → Type 0
Keeps f = (t : Text) → IsWhole t → IsWhole (f t)

again_whole : (before last : Text) → IsWhole before → IsWhole last → IsWhole (class_name before last)
again_whole [] last h k = k
again_whole (b ∷ t) last h k = join_whole (b ∷ t) (slash ∷ last) h (before_plain slash slash_plain last k)

class_whole : (f : Text → Text) → Keeps f → (t : Text) → IsWhole t → IsWhole (f (class_name (package_of t) (simple_of t)))
unfolding package_of simple_of
class_whole f keeps t h =
    let ps = segments slash t in
    let all = cut_whole slash slash_plain t h in
    keeps (class_name (written slash (front ps)) (simple ps)) (again_whole (written slash (front ps)) (simple ps) (written_whole slash slash_plain (front ps) (front_whole ps all)) (last_whole ps all))

last_part : (f : Text → Text) (seen : Text) → IsWhole (seen ++ []) → IsWhole (joined f (last_piece seen))
unfolding joined
last_part f [] h = refl
last_part f (a ∷ seen) h = h

moved_on : (seen t : Text) (b : ℕ) → IsWhole (seen ++ b ∷ t) → IsWhole ((seen ++ b ∷ []) ++ t)
moved_on seen t b h = let P : Text → Type 0 = λ u. IsWhole u in subst P (sym (append_assoc seen (b ∷ []) t)) h

-- a part that ends with a plain byte, and what follows
behind_part : (seen t more : Text) (b : ℕ) → IsPlain b → IsWhole (seen ++ b ∷ t) → (IsWhole t → IsWhole more) → IsWhole ((seen ++ b ∷ []) ++ more)
behind_part seen t more b plain h next =
    let c = cut_plain b plain seen t h in
    join_whole (seen ++ b ∷ []) more (join_whole seen (b ∷ []) c.0 (before_plain b plain [] refl)) (next c.1)

-- a class name up to a plain byte, and what follows from that byte on
behind_name : (f : Text → Text) → Keeps f → (seen t more : Text) (b : ℕ) → IsPlain b → IsWhole (seen ++ b ∷ t) → (IsWhole (b ∷ t) → IsWhole more) → IsWhole (f (class_name (package_of seen) (simple_of seen)) ++ more)
behind_name f keeps seen t more b plain h next =
    let c = cut_plain b plain seen t h in
    join_whole (f (class_name (package_of seen) (simple_of seen))) more (class_whole f keeps seen c.0) (next (before_plain b plain t c.1))

plain_at : (c : ℕ) → IsPlain c → (b : ℕ) → (b == c) ≡ true → IsPlain b
plain_at c plain b e = let P : ℕ → Type 0 = λ x. IsPlain x in subst P (sym (eqb-true b c e)) plain

other_by : (f : Text → Text) (seen t : Text) (b : ℕ) (c : Bool) → (b == 76) ≡ c → IsWhole (seen ++ b ∷ t) → (IsWhole t → IsWhole (joined f (cut true [] t))) → (IsWhole ((seen ++ b ∷ []) ++ t) → IsWhole (joined f (cut false (seen ++ b ∷ []) t)))
    → IsWhole (joined f (if c then Piece.other (seen ++ b ∷ []) ∷ cut true [] t else cut false (seen ++ b ∷ []) t))
unfolding joined
other_by f seen t b true e h next on = behind_part seen t (joined f (cut true [] t)) b (plain_at 76 (record { single = refl; first = refl }) b e) h next
other_by f seen t b false e h next on = on (moved_on seen t b h)

class_by : (f : Text → Text) → Keeps f → (seen t : Text) (b : ℕ) (c : Bool) → (b == 59) ≡ c → IsWhole (seen ++ b ∷ t) → (IsWhole (b ∷ t) → IsWhole (joined f (cut false (b ∷ []) t))) → (IsWhole ((seen ++ b ∷ []) ++ t) → IsWhole (joined f (cut true (seen ++ b ∷ []) t)))
    → IsWhole (joined f (if c then class_piece seen ∷ cut false (b ∷ []) t else cut true (seen ++ b ∷ []) t))
unfolding joined
class_by f keeps seen t b true e h next on = behind_name f keeps seen t (joined f (cut false (b ∷ []) t)) b (plain_at 59 (record { single = refl; first = refl }) b e) h next
class_by f keeps seen t b false e h next on = on (moved_on seen t b h)

cut_joined : (f : Text → Text) → Keeps f → (inside : Bool) (seen u : Text) → IsWhole (seen ++ u) → IsWhole (joined f (cut inside seen u))
unfolding cut
cut_joined f keeps inside seen [] h = last_part f seen h
cut_joined f keeps false seen (b ∷ t) h = other_by f seen t b (b == 76) refl h (λ k. cut_joined f keeps true [] t k) (λ k. cut_joined f keeps false (seen ++ b ∷ []) t k)
cut_joined f keeps true seen (b ∷ t) h = class_by f keeps seen t b (b == 59) refl h (λ k. cut_joined f keeps false (b ∷ []) t k) (λ k. cut_joined f keeps true (seen ++ b ∷ []) t k)

-- ---- a signature comes to a class name behind an `L` alone

abbrev ref_naming : RefState → Bool
ref_naming (ref_states.Class depth (spots.Package inside)) = true
ref_naming _ = false

either : (c : Bool) (x y : RefState) → ref_naming x ≡ false → ref_naming y ≡ false → ref_naming (cond c x y) ≡ false
either true x y h k = h
either false x y h k = k

past : (c : Bool) (x y : RefState) → c ≡ false → ref_naming y ≡ false → ref_naming (cond c x y) ≡ false
past true x y e k = absurd cc
past false x y e k = k

behind_out : (d : ℕ) → ref_naming (ref_behind d) ≡ false
behind_out d = either (d == 0) ref_states.Over (ref_states.Args d true) refl refl

class_out : (d : ℕ) (wide : Bool) (b : ℕ) → ref_naming (in_class d wide b) ≡ false
class_out d wide b =
    either (b == 59) (ref_behind d) _ (behind_out d)
    (either (b == 46) (ref_states.Class d (spots.Inner false)) _ refl
    (either (b == 60) _ ref_states.Wrong (either (wide && nat_lt d 64) (ref_states.Args (d + 1) false) ref_states.Wrong refl refl) refl))

ref_out : (r : RefState) (b : ℕ) → ref_naming r ≡ false → (b == 76) ≡ false → ref_naming (ref_step r b) ≡ false
unfolding ref_step
ref_out (ref_states.Ref d base) b h e =
    past (b == 76) _ _ e
    (either (b == 84) (ref_states.Variable d false) _ refl
    (either (b == 91) (ref_states.Ref d true) _ refl
    (either (base && is_base b) (ref_behind d) ref_states.Wrong (behind_out d) refl)))
ref_out (ref_states.Class d (spots.Package inside)) b h e = absurd cc
ref_out (ref_states.Class d (spots.Inner inside)) b h e =
    either (not (is_mark b)) (ref_states.Class d (spots.Inner true)) _ refl (either inside (in_class d true b) ref_states.Wrong (class_out d true b) refl)
ref_out (ref_states.Class d spots.Closed) b h e = class_out d false b
ref_out (ref_states.Variable d inside) b h e =
    either (not (is_mark b)) (ref_states.Variable d true) _ refl (either (inside && (b == 59)) (ref_behind d) ref_states.Wrong (behind_out d) refl)
ref_out (ref_states.Args d some) b h e =
    either (b == 42) (ref_states.Args d true) _ refl
    (either (b == 43 || b == 45) (ref_states.Ref d false) _ refl
    (either (b == 62) _ _ (either (some && nat_lt 0 d) (ref_states.Class (d - 1) spots.Closed) ref_states.Wrong refl refl)
    (past (b == 76) _ _ e
    (either (b == 84) (ref_states.Variable d false) _ refl (either (b == 91) (ref_states.Ref d true) ref_states.Wrong refl refl)))))
ref_out ref_states.Over b h e = refl
ref_out ref_states.Wrong b h e = refl

after_out : (place : RefPlace) → is_naming (after place) ≡ false
after_out ref_places.Alone = refl
after_out (ref_places.Bound owner) = refl
after_out ref_places.Super = refl
after_out ref_places.Parameter = refl
after_out ref_places.Outcome = refl
after_out ref_places.Thrown = refl

place_out : (place : RefPlace) (r : RefState) → ref_naming r ≡ false → is_naming (at_place place r) ≡ false
place_out place ref_states.Over h = after_out place
place_out place ref_states.Wrong h = refl
place_out place (ref_states.Ref d base) h = refl
place_out place (ref_states.Class d (spots.Package inside)) h = absurd cc
place_out place (ref_states.Class d (spots.Inner inside)) h = refl
place_out place (ref_states.Class d spots.Closed) h = refl
place_out place (ref_states.Variable d inside) h = refl
place_out place (ref_states.Args d some) h = refl

choice : (c : Bool) (x y : SigState) → is_naming x ≡ false → is_naming y ≡ false → is_naming (cond c x y) ≡ false
choice true x y h k = h
choice false x y h k = k

passed : (c : Bool) (x y : SigState) → c ≡ false → is_naming y ≡ false → is_naming (cond c x y) ≡ false
passed true x y e k = absurd cc
passed false x y e k = k

body_out : (owner : Owner) (b : ℕ) → (b == 76) ≡ false → is_naming (body_step owner b) ≡ false
body_out owners.Class b e = passed (b == 76) _ sig_states.Wrong e refl
body_out owners.Method b e = choice (b == 40) sig_states.Parameters sig_states.Wrong refl refl

step_out : (st : SigState) (b : ℕ) (t : Text) → is_naming st ≡ false → (b == 76) ≡ false → is_naming (sig_step st b t) ≡ false
unfolding sig_step
step_out (sig_states.Opening owner) b t h e = choice (b == 60) (sig_states.ParamName owner false) (body_step owner b) refl (body_out owner b e)
step_out (sig_states.ParamName owner inside) b t h e =
    choice (not (is_mark b)) (sig_states.ParamName owner true) _ refl
    (choice (inside && (b == 58)) (first_bound owner t) sig_states.Wrong (choice (has_bound t) (sig_states.In (ref_places.Bound owner) (ref_states.Ref 0 false)) (sig_states.Bounds owner) refl refl) refl)
step_out (sig_states.Bounds owner) b t h e =
    choice (not (is_mark b)) (sig_states.ParamName owner true) _ refl
    (choice (b == 58) (sig_states.In (ref_places.Bound owner) (ref_states.Ref 0 false)) _ refl (choice (b == 62) (sig_states.Body owner) sig_states.Wrong refl refl))
step_out (sig_states.Body owner) b t h e = body_out owner b e
step_out sig_states.Supers b t h e = body_out owners.Class b e
step_out sig_states.Parameters b t h e =
    choice (b == 41) sig_states.Outcome _ refl (place_out ref_places.Parameter (ref_step (ref_states.Ref 0 true) b) (ref_out (ref_states.Ref 0 true) b refl e))
step_out sig_states.Outcome b t h e =
    choice (b == 86) sig_states.Throws _ refl (place_out ref_places.Outcome (ref_step (ref_states.Ref 0 true) b) (ref_out (ref_states.Ref 0 true) b refl e))
step_out sig_states.Throws b t h e = choice (b == 94) sig_states.Thrown sig_states.Wrong refl refl
step_out sig_states.Thrown b t h e =
    passed (b == 76) _ _ e (choice (b == 84) (sig_states.In ref_places.Thrown (ref_states.Variable 0 false)) sig_states.Wrong refl refl)
step_out (sig_states.In place (ref_states.Ref d base)) b t h e = place_out place (ref_step (ref_states.Ref d base) b) (ref_out (ref_states.Ref d base) b refl e)
step_out (sig_states.In place (ref_states.Class d (spots.Package inside))) b t h e = absurd cc
step_out (sig_states.In place (ref_states.Class d (spots.Inner inside))) b t h e = place_out place (ref_step (ref_states.Class d (spots.Inner inside)) b) (ref_out (ref_states.Class d (spots.Inner inside)) b refl e)
step_out (sig_states.In place (ref_states.Class d spots.Closed)) b t h e = place_out place (ref_step (ref_states.Class d spots.Closed) b) (ref_out (ref_states.Class d spots.Closed) b refl e)
step_out (sig_states.In place (ref_states.Variable d inside)) b t h e = place_out place (ref_step (ref_states.Variable d inside) b) (ref_out (ref_states.Variable d inside) b refl e)
step_out (sig_states.In place (ref_states.Args d some)) b t h e = place_out place (ref_step (ref_states.Args d some) b) (ref_out (ref_states.Args d some) b refl e)
step_out (sig_states.In place ref_states.Over) b t h e = place_out place (ref_step ref_states.Over b) (ref_out ref_states.Over b refl e)
step_out (sig_states.In place ref_states.Wrong) b t h e = place_out place (ref_step ref_states.Wrong b) (ref_out ref_states.Wrong b refl e)
step_out sig_states.Over b t h e = refl
step_out sig_states.Wrong b t h e = refl

enters : (st : SigState) (b : ℕ) (t : Text) → is_naming st ≡ false → is_naming (sig_step st b t) ≡ true → (b == 76) ≡ true
enters st b t h k = true_from_ne_false (b == 76) (λ e. both_ways (is_naming (sig_step st b t)) (step_out st b t h e) k)

-- a byte that ends a class name is plain
mark_plain : (b : ℕ) → is_mark b ≡ true → IsPlain b
mark_plain b h = elim (or_cases _ _ h) [
  | inl h2 ↦ elim (or_cases _ _ h2) [
    | inl h3 ↦ elim (or_cases _ _ h3) [
      | inl h4 ↦ elim (or_cases _ _ h4) [
        | inl h5 ↦ elim (or_cases _ _ h5) [
          | inl h6 ↦ elim (or_cases _ _ h6) [
            | inl e ↦ plain_at 46 (record { single = refl; first = refl }) b e
            | inr e ↦ plain_at 59 (record { single = refl; first = refl }) b e
          ]
          | inr e ↦ plain_at 91 (record { single = refl; first = refl }) b e
        ]
        | inr e ↦ plain_at 47 (record { single = refl; first = refl }) b e
      ]
      | inr e ↦ plain_at 60 (record { single = refl; first = refl }) b e
    ]
    | inr e ↦ plain_at 62 (record { single = refl; first = refl }) b e
  ]
  | inr e ↦ plain_at 58 (record { single = refl; first = refl }) b e
]

sig_by : (f : Text → Text) → Keeps f → (st : SigState) (seen t : Text) (b : ℕ) (w e c : Bool) → is_naming st ≡ w → ends_name b ≡ e → is_naming (sig_step st b t) ≡ c → IsWhole (seen ++ b ∷ t)
    → (IsWhole (b ∷ t) → IsWhole (joined f (sig_cut (sig_step (named st) b t) (b ∷ []) t))) → (IsWhole ((seen ++ b ∷ []) ++ t) → IsWhole (joined f (sig_cut st (seen ++ b ∷ []) t)))
    → (IsWhole t → IsWhole (joined f (sig_cut (sig_step st b t) [] t))) → (IsWhole ((seen ++ b ∷ []) ++ t) → IsWhole (joined f (sig_cut (sig_step st b t) (seen ++ b ∷ []) t)))
    → IsWhole (joined f (if w then (if e then class_piece seen ∷ sig_cut (sig_step (named st) b t) (b ∷ []) t else sig_cut st (seen ++ b ∷ []) t) else if c then Piece.other (seen ++ b ∷ []) ∷ sig_cut (sig_step st b t) [] t else sig_cut (sig_step st b t) (seen ++ b ∷ []) t))
unfolding joined
sig_by f keeps st seen t b true true c p q r h i j k l = behind_name f keeps seen t (joined f (sig_cut (sig_step (named st) b t) (b ∷ []) t)) b (mark_plain b (and_parts _ _ q).0) h i
sig_by f keeps st seen t b true false c p q r h i j k l = j (moved_on seen t b h)
sig_by f keeps st seen t b false e true p q r h i j k l = behind_part seen t (joined f (sig_cut (sig_step st b t) [] t)) b (plain_at 76 (record { single = refl; first = refl }) b (enters st b t p r)) h k
sig_by f keeps st seen t b false e false p q r h i j k l = l (moved_on seen t b h)

sig_joined : (f : Text → Text) → Keeps f → (st : SigState) (seen u : Text) → IsWhole (seen ++ u) → IsWhole (joined f (sig_cut st seen u))
unfolding sig_cut
sig_joined f keeps st seen [] h = last_part f seen h
sig_joined f keeps st seen (b ∷ t) h =
    sig_by f keeps st seen t b (is_naming st) (ends_name b) (is_naming (sig_step st b t)) refl refl refl h
    (λ k. sig_joined f keeps (sig_step (named st) b t) (b ∷ []) t k) (λ k. sig_joined f keeps st (seen ++ b ∷ []) t k)
    (λ k. sig_joined f keeps (sig_step st b t) [] t k) (λ k. sig_joined f keeps (sig_step st b t) (seen ++ b ∷ []) t k)

-- ---- the images

desc_whole : (rs : List Renaming) → HaveUtf8Targets rs → (t : Text) → IsWhole t → IsWhole (desc rs t)
desc_whole rs targets t h =
    let P : Text → Type 0 = λ u. IsWhole u in
    elim (cases_Bool (is_any_descriptor t)) [
      | inl any ↦ subst P (sym (desc_is rs t any)) (cut_joined (repackaged rs) (repackaged_whole rs targets) false [] t h)
      | inr other ↦ subst P (sym (desc_other rs t other)) h
    ]

cls_whole : (rs : List Renaming) → HaveUtf8Targets rs → (t : Text) → IsWhole t → IsWhole (cls rs t)
cls_whole rs targets t h =
    let P : Text → Type 0 = λ u. IsWhole u in
    elim (cases_Bool (begins_array t)) [
      | inl array ↦ subst P (sym (cls_array rs t array)) (desc_whole rs targets t h)
      | inr name ↦ subst P (sym (cls_name rs t name)) (name_whole rs targets is_part slash slash_plain t h)
    ]

sig_whole : (rs : List Renaming) → HaveUtf8Targets rs → (kind : SignatureKind) (t : Text) → IsWhole t → IsWhole (sig rs kind t)
sig_whole rs targets kind t h =
    let P : Text → Type 0 = λ u. IsWhole u in
    elim (cases_Bool (is_sound_signature kind t)) [
      | inl sound ↦ subst P (sym (sig_is rs kind t sound)) (sig_joined (repackaged rs) (repackaged_whole rs targets) (sig_start kind) [] t h)
      | inr odd ↦ subst P (sym (sig_other rs kind t odd)) h
    ]

pub utf8_laws : (rs : List Renaming) → HaveUtf8Targets rs → Utf8Images rs
utf8_laws rs targets = record {
  packages = λ t h. good_from _ (package_whole rs targets slash slash_plain t (whole_from t h));
  classes = λ t h. good_from _ (cls_whole rs targets t (whole_from t h));
  dotted_names = λ t h. good_from _ (name_whole rs targets is_identifier dot dot_plain t (whole_from t h));
  strings = λ t h. good_from _ (string_whole rs targets t (whole_from t h));
  descriptors = λ t h. good_from _ (desc_whole rs targets t (whole_from t h));
  signatures = λ kind t h. good_from _ (sig_whole rs targets kind t (whole_from t h));
}
