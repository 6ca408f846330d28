-- Attributes in attributes, and tables of them.
use Rattle.std.proofs.Common.{◌≡◌, ℕ, ◌+◌, ◌<◌, ◌≤◌, List, [], length, take, Some, None, Option, Result, Ok, Err, refl, sym, ap, subst, ◌∙◌, arith}
use Rattle.std.specs.Int.{w16, w32, from_be_bytes}
use Rattle.desk_base.specs.Spot.{Spot, first, past}
use Rattle.desk_base.specs.Entries.{Pool, text_at, utf8_at, entry_at, utf8_in, text_in, Entry, utf8}
use Rattle.desk_base.specs.declared.kinds.Used.{Used}
use Rattle.desk_base.specs.declared.kinds.UseKind.TheVariants as kinds
use Rattle.desk_base.specs.declared.faults.FaultKind.TheVariants as faults
use Rattle.desk_base.specs.declared.faults.ReadFault.{ReadFault}
use Rattle.desk_base.specs.declared.faults.ReadFault.TheVariants as read_faults
use Rattle.desk_format.specs.declared.attributes.Attribute.{Attribute}
use Rattle.desk_format.specs.declared.attributes.Location.{Location}
use Rattle.desk_format.specs.declared.attributes.Location.TheVariants as places
use Rattle.desk_format.specs.Layouts.{Layout, any}
use Rattle.desk_format.specs.Attributes.{attribute_named, body_at, attributes_of, inner_attributes, code_head, component_head}
use Rattle.desk_format.specs.Reading.{Reader, read, times, number_at, index_at, fenced, fence_fault, attribute_at}
use Rattle.desk_format.specs.Walk.{Walk, walk, walk_at, Walks, Stops, fault_in_fence}
use Rattle.desk_format.proofs.Walks.{stops, row_walks, attributes_walk, attributes_stop, attribute_walks, name_stops, length_stops, fence_short, fence_stops, fence_left, fence_walks}
use Rattle.desk_format.proofs.Nested.{nested_in_code, nested_in_component}
use Rattle.desk_attrs.specs.Heads.{HeadWalked}

-- how deep attributes may nest below those of a place
abbrev pub rank : Location → ℕ
rank places.OfCode = 0
rank places.OfComponent = 0
rank _ = 1

pub code_walked : {T : Type 0} (result : Result T ReadFault) (spot : Spot) (us : List Used) (pool : Pool) (w w' : Walk) → walk (read pool code_head) w ≡ Ok w' → Walks result (walk (read pool (attributes_of places.OfCode)) w') spot us
    → Walks result (walk (read pool (Layout.row code_head (inner_attributes places.OfCode))) w) spot us
code_walked result spot us pool w w' h k =
    rw (row_walks pool code_head (inner_attributes places.OfCode) w w' h) (subst (λ (l : Layout). Walks result (walk (read pool l) w') spot us) (sym nested_in_code) k)

pub component_walked : {T : Type 0} (result : Result T ReadFault) (spot : Spot) (us : List Used) (pool : Pool) (w w' : Walk) → walk (read pool component_head) w ≡ Ok w' → Walks result (walk (read pool (attributes_of places.OfComponent)) w') spot us
    → Walks result (walk (read pool (Layout.row component_head (inner_attributes places.OfComponent))) w) spot us
component_walked result spot us pool w w' h k =
    rw (row_walks pool component_head (inner_attributes places.OfComponent) w w' h) (subst (λ (l : Layout). Walks result (walk (read pool l) w') spot us) (sym nested_in_component) k)

abbrev pub body_in : Location → Pool → ℕ → List ℕ → Reader
body_in place pool size name = read pool (body_at place size (attribute_named name))

pub attributes_walked : {T : Type 0} (result : Result T ReadFault) (spot : Spot) (us : List Used) (pool : Pool) (place : Location) (w w' : Walk) (n : ℕ) → walk (number_at w16 any) w ≡ Ok w' → n ≡ from_be_bytes w16 (take 2 w.left)
    → Walks result (walk (times n (attribute_at pool (body_in place pool))) w') spot us → Walks result (walk (read pool (attributes_of place)) w) spot us
attributes_walked result spot us pool place w w' n h is k = rw (attributes_walk pool (λ size name. body_at place size (attribute_named name)) w w' n h is) k

pub attributes_stopped : (e : ReadFault) (us : List Used) (pool : Pool) (place : Location) (w : Walk) → Stops e (walk (number_at w16 any) w) us → Stops e (walk (read pool (attributes_of place)) w) us
attributes_stopped e us pool place w h = stops e _ _ us h (λ f k. attributes_stop pool (λ size name. body_at place size (attribute_named name)) w f k)

-- ---- the head of an attribute, and its body

pub head_walked : (pool : Pool) (w w' w'' : Walk) (i n at : ℕ) (k : Option Attribute) → walk (index_at pool kinds.AttrName) w ≡ Ok w' → i ≡ from_be_bytes w16 (take 2 w.left)
    → walk (number_at w32 any) w' ≡ Ok w'' → n ≡ from_be_bytes w32 (take 4 w'.left) → k ≡ attribute_named (text_at pool i) → w''.at ≡ at + 4 → HeadWalked pool w w'' k n at
head_walked pool w w' w'' i n at k named i_is sized n_is is place = record {
  goes_on = λ body.
      attribute_walks pool (λ size name. read pool (body size (attribute_named name))) w w' w'' i n named i_is sized n_is
      ∙ ap (λ (x : Option Attribute). walk (fenced n (read pool (body n x))) w'') (sym is);
  place = place;
}

pub name_stopped : (e : ReadFault) (us : List Used) (pool : Pool) (body : ℕ → Option Attribute → Layout) (w : Walk) → Stops e (walk (index_at pool kinds.AttrName) w) us
    → Stops e (walk (attribute_at pool (λ size name. read pool (body size (attribute_named name)))) w) us
name_stopped e us pool body w h = stops e _ _ us h (λ f k. name_stops pool (λ size name. read pool (body size (attribute_named name))) w f k)

pub length_stopped : (e : ReadFault) (us : List Used) (pool : Pool) (body : ℕ → Option Attribute → Layout) (w w' : Walk) → walk (index_at pool kinds.AttrName) w ≡ Ok w' → Stops e (walk (number_at w32 any) w') us
    → Stops e (walk (attribute_at pool (λ size name. read pool (body size (attribute_named name)))) w) us
length_stopped e us pool body w w' named h = stops e _ _ us h (λ f k. length_stops pool (λ size name. read pool (body size (attribute_named name))) w w' f named k)

-- a body that reaches past the end
pub body_short : (pool : Pool) (place : Location) (w : Walk) (us : List Used) (spot : Spot) (k : Option Attribute) (n at : ℕ) → HeadWalked pool w (walk_at us spot) k n at → length spot.left < n
    → walk (attribute_at pool (body_in place pool)) w ≡ Err (record { fault = record { kind = faults.Truncated; at = spot.at }; before = us })
body_short pool place w us spot k n at h short = h.goes_on (body_at place) ∙ fence_short n (read pool (body_at place n k)) (walk_at us spot) short

-- one with a fault
pub body_stopped : (e : ReadFault) (vs : List Used) (pool : Pool) (place : Location) (w : Walk) (us : List Used) (spot inner : Spot) (k : Option Attribute) (n at : ℕ) → HeadWalked pool w (walk_at us spot) k n at
    → n ≤ length spot.left → inner ≡ first n spot → Stops e (walk (read pool (body_at place n k)) (walk_at us inner)) vs → Stops (fault_in_fence (at + 4) e) (walk (attribute_at pool (body_in place pool)) w) vs
body_stopped (read_faults.Malformed f) vs pool place w us spot inner k n at h room is fails =
    h.goes_on (body_at place)
    ∙ fence_stops n (read pool (body_at place n k)) (walk_at us spot) (record { fault = f; before = vs }) room (sym (ap (λ (s : Spot). walk (read pool (body_at place n k)) (walk_at us s)) is) ∙ fails)
    ∙ ap (λ (m : ℕ). Err (record { fault = fence_fault m f; before = vs })) h.place
body_stopped read_faults.Memory vs pool place w us spot inner k n at h room is fails = tt

-- one of which bytes are left
pub body_left : (pool : Pool) (place : Location) (w : Walk) (us vs : List Used) (spot inner behind : Spot) (k : Option Attribute) (n at : ℕ) → HeadWalked pool w (walk_at us spot) k n at
    → n ≤ length spot.left → inner ≡ first n spot → walk (read pool (body_at place n k)) (walk_at us inner) ≡ Ok (walk_at vs behind) → 0 < length behind.left
    → walk (attribute_at pool (body_in place pool)) w ≡ Err (record { fault = record { kind = faults.AttributeLength; at = at }; before = vs })
body_left pool place w us vs spot inner behind k n at h room is reads more =
    h.goes_on (body_at place)
    ∙ fence_left n (read pool (body_at place n k)) (walk_at us spot) (walk_at vs behind) room (sym (ap (λ (s : Spot). walk (read pool (body_at place n k)) (walk_at us s)) is) ∙ reads) more
    ∙ ap (λ (m : ℕ). Err (record { fault = record { kind = faults.AttributeLength; at = m }; before = vs })) (omega (arith, h.place))

-- one that was read to its end
pub body_done : (pool : Pool) (place : Location) (w : Walk) (us vs : List Used) (spot inner behind new : Spot) (k : Option Attribute) (n at : ℕ) → HeadWalked pool w (walk_at us spot) k n at
    → n ≤ length spot.left → inner ≡ first n spot → new ≡ past n spot → walk (read pool (body_at place n k)) (walk_at us inner) ≡ Ok (walk_at vs behind) → length behind.left ≡ 0
    → walk (attribute_at pool (body_in place pool)) w ≡ Ok (walk_at vs new)
body_done pool place w us vs spot inner behind new k n at h room is moved reads none =
    h.goes_on (body_at place)
    ∙ fence_walks n (read pool (body_at place n k)) (walk_at us spot) (walk_at vs behind) room (sym (ap (λ (s : Spot). walk (read pool (body_at place n k)) (walk_at us s)) is) ∙ reads) none
    ∙ ap (λ (s : Spot). Ok (walk_at vs s)) (sym moved)

-- ---- the text of a name

no_text_is : (e : Option Entry) → utf8_in e ≡ None → text_in e ≡ []
no_text_is (Some (utf8 s)) h = absurd cc
no_text_is (Some _) h = refl
no_text_is None h = refl

pub named_none : (pool : Pool) (i : ℕ) → utf8_at pool i ≡ None → attribute_named (text_at pool i) ≡ None
unfolding attribute_named
named_none pool i h = ap attribute_named (no_text_is (entry_at pool i) h)
