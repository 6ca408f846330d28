-- Telling whether a text is a signature (JVMS 4.7.9.1), byte by byte. A law of the readers says that this is so exactly where
-- some tree is one of that text.
use Rattle.std.specs.Prelude.{ℕ, suc, ◌+◌, ◌-◌, Bool, true, false, not, ◌&&◌, ◌||◌, ◌==◌, nat_lt, [], ◌∷◌, if◌then◌else◌}
use Rattle.desk_names.specs.declared.signatures.Which.{Which}
use Rattle.desk_names.specs.declared.signatures.Which.TheVariants as whiches
use Rattle.desk_names.specs.declared.signatures.Owner.{Owner}
use Rattle.desk_names.specs.declared.signatures.Owner.TheVariants as owners
use Rattle.desk_names.specs.declared.signatures.RefPlace.{RefPlace}
use Rattle.desk_names.specs.declared.signatures.RefPlace.TheVariants as ref_places
use Rattle.desk_names.specs.declared.signatures.Spot.TheVariants as spots
use Rattle.desk_names.specs.declared.signatures.RefState.{RefState}
use Rattle.desk_names.specs.declared.signatures.RefState.TheVariants as ref_states
use Rattle.desk_names.specs.declared.signatures.SigState.{SigState}
use Rattle.desk_names.specs.declared.signatures.SigState.TheVariants as sig_states
use Rattle.desk_base.specs.Names.{Text}
use Rattle.desk_base.specs.Descriptors.{is_base}
use Rattle.desk_base.specs.Signatures.{SignatureKind, is_mark}

-- the kind of a signature that is wanted
abbrev pub wanted_signature : Which → SignatureKind
wanted_signature whiches.Class = SignatureKind.class
wanted_signature whiches.Method = SignatureKind.method
wanted_signature whiches.Field = SignatureKind.field

-- Within a reference

-- behind a reference in so many open argument lists
abbrev pub ref_behind : ℕ → RefState
ref_behind depth = if depth == 0 then ref_states.Over else ref_states.Args depth true

-- behind a byte of a class type, where a name or its arguments are whole
abbrev pub in_class : ℕ → Bool → ℕ → RefState
in_class depth wide b =
    if b == 59 then ref_behind depth
    else if b == 46 then ref_states.Class depth (spots.Inner false)
    else if b == 60 then (if wide && nat_lt depth 64 then ref_states.Args (depth + 1) false else ref_states.Wrong)
    else ref_states.Wrong

unfoldable pub ref_step : RefState → ℕ → RefState
ref_step (ref_states.Ref depth base) b =
    if b == 76 then ref_states.Class depth (spots.Package false)
    else if b == 84 then ref_states.Variable depth false
    else if b == 91 then ref_states.Ref depth true
    else if base && is_base b then ref_behind depth
    else ref_states.Wrong
ref_step (ref_states.Class depth (spots.Package inside)) b =
    if not (is_mark b) then ref_states.Class depth (spots.Package true)
    else if not inside then ref_states.Wrong
    else if b == 47 then ref_states.Class depth (spots.Package false)
    else in_class depth true b
ref_step (ref_states.Class depth (spots.Inner inside)) b =
    if not (is_mark b) then ref_states.Class depth (spots.Inner true)
    else if inside then in_class depth true b
    else ref_states.Wrong
ref_step (ref_states.Class depth spots.Closed) b = in_class depth false b
ref_step (ref_states.Variable depth inside) b =
    if not (is_mark b) then ref_states.Variable depth true
    else if inside && b == 59 then ref_behind depth
    else ref_states.Wrong
ref_step (ref_states.Args depth some) b =
    if b == 42 then ref_states.Args depth true
    else if b == 43 || b == 45 then ref_states.Ref depth false
    else if b == 62 then (if some && nat_lt 0 depth then ref_states.Class (depth - 1) spots.Closed else ref_states.Wrong)
    else if b == 76 then ref_states.Class depth (spots.Package false)
    else if b == 84 then ref_states.Variable depth false
    else if b == 91 then ref_states.Ref depth true
    else ref_states.Wrong
ref_step ref_states.Over b = ref_states.Wrong
ref_step ref_states.Wrong b = ref_states.Wrong

-- Around references

-- behind a reference at a place
abbrev pub after : RefPlace → SigState
after ref_places.Alone = sig_states.Over
after (ref_places.Bound owner) = sig_states.Bounds owner
after ref_places.Super = sig_states.Supers
after ref_places.Parameter = sig_states.Parameters
after ref_places.Outcome = sig_states.Throws
after ref_places.Thrown = sig_states.Throws

-- a state within a reference at a place, or what stands behind it
abbrev pub at_place : RefPlace → RefState → SigState
at_place place ref_states.Over = after place
at_place place ref_states.Wrong = sig_states.Wrong
at_place place (ref_states.Ref depth base) = sig_states.In place (ref_states.Ref depth base)
at_place place (ref_states.Class depth spot) = sig_states.In place (ref_states.Class depth spot)
at_place place (ref_states.Variable depth inside) = sig_states.In place (ref_states.Variable depth inside)
at_place place (ref_states.Args depth some) = sig_states.In place (ref_states.Args depth some)

-- whether what stands behind a type parameter's first `:` is a bound: the first mark in it is neither `:` nor `>`
unfoldable pub has_bound : Text → Bool
has_bound [] = true
has_bound (b ∷ t) = if is_mark b then not (b == 58) && not (b == 62) else has_bound t

-- behind a type parameter's first `:`
abbrev pub first_bound : Owner → Text → SigState
first_bound owner t = if has_bound t then sig_states.In (ref_places.Bound owner) (ref_states.Ref 0 false) else sig_states.Bounds owner

-- behind the first byte that stands behind type parameters
abbrev pub body_step : Owner → ℕ → SigState
body_step owners.Class b = if b == 76 then sig_states.In ref_places.Super (ref_states.Class 0 (spots.Package false)) else sig_states.Wrong
body_step owners.Method b = if b == 40 then sig_states.Parameters else sig_states.Wrong

-- behind a byte, in front of a text
unfoldable pub sig_step : SigState → ℕ → Text → SigState
sig_step (sig_states.Opening owner) b t = if b == 60 then sig_states.ParamName owner false else body_step owner b
sig_step (sig_states.ParamName owner inside) b t =
    if not (is_mark b) then sig_states.ParamName owner true
    else if inside && b == 58 then first_bound owner t
    else sig_states.Wrong
sig_step (sig_states.Bounds owner) b t =
    if not (is_mark b) then sig_states.ParamName owner true
    else if b == 58 then sig_states.In (ref_places.Bound owner) (ref_states.Ref 0 false)
    else if b == 62 then sig_states.Body owner
    else sig_states.Wrong
sig_step (sig_states.Body owner) b t = body_step owner b
sig_step sig_states.Supers b t = body_step owners.Class b
sig_step sig_states.Parameters b t = if b == 41 then sig_states.Outcome else at_place ref_places.Parameter (ref_step (ref_states.Ref 0 true) b)
sig_step sig_states.Outcome b t = if b == 86 then sig_states.Throws else at_place ref_places.Outcome (ref_step (ref_states.Ref 0 true) b)
sig_step sig_states.Throws b t = if b == 94 then sig_states.Thrown else sig_states.Wrong
sig_step sig_states.Thrown b t =
    if b == 76 then sig_states.In ref_places.Thrown (ref_states.Class 0 (spots.Package false))
    else if b == 84 then sig_states.In ref_places.Thrown (ref_states.Variable 0 false)
    else sig_states.Wrong
sig_step (sig_states.In place state) b t = at_place place (ref_step state b)
sig_step sig_states.Over b t = sig_states.Wrong
sig_step sig_states.Wrong b t = sig_states.Wrong

unfoldable pub sig_run : SigState → Text → SigState
sig_run state [] = state
sig_run state (b ∷ t) = sig_run (sig_step state b t) t

-- whether a signature may end
abbrev pub may_end : SigState → Bool
may_end sig_states.Supers = true
may_end sig_states.Throws = true
may_end sig_states.Over = true
may_end _ = false

abbrev pub sig_start : SignatureKind → SigState
sig_start SignatureKind.class = sig_states.Opening owners.Class
sig_start SignatureKind.method = sig_states.Opening owners.Method
sig_start SignatureKind.field = sig_states.In ref_places.Alone (ref_states.Ref 0 false)

-- whether a text is a signature of a kind
unfoldable pub is_sound_signature : SignatureKind → Text → Bool
is_sound_signature kind text = may_end (sig_run (sig_start kind) text)

-- within a name, of which a byte has been read: a byte that is no mark changes nothing
abbrev pub is_within : SigState → Bool
is_within (sig_states.In place (ref_states.Class depth (spots.Package inside))) = inside
is_within (sig_states.In place (ref_states.Class depth (spots.Inner inside))) = inside
is_within (sig_states.In place (ref_states.Variable depth inside)) = inside
is_within (sig_states.ParamName owner inside) = inside
is_within _ = false

-- the first place of a mark in a text, or the text's length
unfoldable pub mark_place : Text → ℕ
mark_place [] = 0
mark_place (b ∷ t) = if is_mark b then 0 else suc (mark_place t)
