-- A walk, step by step.
use Rattle.std.proofs.Common.{◌≡◌, ℕ, zero, suc, ◌+◌, ◌-◌, ◌<◌, ◌≤◌, List, [], ◌∷◌, length, drop, get_or, map, Option, Some, None, Result, refl, sym, ap, subst, ◌∙◌, arith, drop-cons, add-one}
use Rattle.std.proofs.lemmas.List.{drop_all}
use Rattle.desk_format.specs.declared.attributes.Slot.{Slot}
use Rattle.desk_format.specs.declared.attributes.Slot.TheVariants as slot
use Rattle.desk_format.specs.Layouts.{Layout}
use Rattle.desk_format.specs.Rows.{rows, slot_layout, row_layout}
use Rattle.std.specs.Int.{w16, w32}
use Rattle.desk_base.specs.Names.{Text}
use Rattle.desk_base.specs.Spot.{Spot}
use Rattle.desk_base.specs.declared.kinds.UseKind.TheVariants as kinds
use Rattle.desk_format.specs.declared.attributes.Attribute.{Attribute}
use Rattle.desk_format.specs.declared.attributes.Location.{Location}
use Rattle.desk_format.specs.Attributes.{attribute_named, body_at, attributes_of}
use Rattle.desk_parts.specs.declared.parts.Part.{Part}
use Rattle.desk_parts.specs.declared.parts.Part.TheVariants as part
use Rattle.desk_parts.specs.Parts.{part_layout, rank, depth_of}
use Rattle.desk_parts.specs.Steps.{Steps, on, counted, fence_on, attribute_on, times_on, along, location_on}
use Rattle.desk_parts.specs.Gives.{Gives, Stops}
use Rattle.desk_parts.specs.declared.walker.Stop.{Stop}
use Rattle.desk_parts.specs.declared.walker.Stop.TheVariants as stop

row_cons : (slots : List Slot) (i : ℕ) → i < length slots → drop i slots ≡ get_or slots i slot.Number ∷ drop (i + 1) slots
row_cons slots i h = drop-cons slots i slot.Number h ∙ rw add-one refl

slots_step : {S : Type 0} (by : Steps S) (slots : List Slot) (i : ℕ) (p : S) → i < length slots → along by (row_layout (drop i slots)) p ≡ on (along by (slot_layout (get_or slots i slot.Number)) p) (along by (row_layout (drop (i + 1) slots)))
unfolding along row_layout
slots_step {S = S} by slots i p h = ap (λ (ss : List Slot). along by (row_layout ss) p) (row_cons slots i h)

pub slots_on : {S : Type 0} (by : Steps S) (slots : List Slot) (i : ℕ) (p q : S) (total : Option S) → i < length slots → along by (slot_layout (get_or slots i slot.Number)) p ≡ Some q
    → along by (row_layout (drop i slots)) p ≡ total → along by (row_layout (drop (i + 1) slots)) q ≡ total
slots_on {S = S} by slots i p q total h one so_far = sym (slots_step by slots i p h ∙ ap (λ (o : Option S). on o (along by (row_layout (drop (i + 1) slots)))) one) ∙ so_far

pub slots_differ : {S : Type 0} (by : Steps S) (slots : List Slot) (i : ℕ) (p : S) (total : Option S) → i < length slots → along by (slot_layout (get_or slots i slot.Number)) p ≡ None
    → along by (row_layout (drop i slots)) p ≡ total → total ≡ None
slots_differ {S = S} by slots i p total h one so_far = sym so_far ∙ slots_step by slots i p h ∙ ap (λ (o : Option S). on o (along by (row_layout (drop (i + 1) slots)))) one

pub slots_done : {S : Type 0} (by : Steps S) (slots : List Slot) (i : ℕ) (p : S) (total : Option S) → length slots ≤ i → along by (row_layout (drop i slots)) p ≡ total → total ≡ Some p
unfolding along row_layout
slots_done {S = S} by slots i p total h so_far = sym so_far ∙ ap (λ (ss : List Slot). along by (row_layout ss) p) (drop_all i slots h)

pub times_begin : {S : Type 0} (m : S → Option S) (n : ℕ) (p : S) → times_on (n - 0) m p ≡ times_on n m p
times_begin {S = S} m n p = let z : n - 0 ≡ n = omega arith in ap (λ (k : ℕ). times_on k m p) z

times_step : {S : Type 0} (m : S → Option S) (n i : ℕ) (p : S) → i < n → times_on (n - i) m p ≡ on (m p) (times_on (n - (i + 1)) m)
unfolding times_on
times_step {S = S} m n i p h = let k : n - i ≡ suc (n - (i + 1)) = omega arith in ap (λ (j : ℕ). times_on j m p) k

pub times_more : {S : Type 0} (m : S → Option S) (n i : ℕ) (p q : S) (total : Option S) → i < n → m p ≡ Some q → times_on (n - i) m p ≡ total → times_on (n - (i + 1)) m q ≡ total
times_more {S = S} m n i p q total h one so_far = sym (times_step m n i p h ∙ ap (λ (o : Option S). on o (times_on (n - (i + 1)) m)) one) ∙ so_far

pub times_differ : {S : Type 0} (m : S → Option S) (n i : ℕ) (p : S) (total : Option S) → i < n → m p ≡ None → times_on (n - i) m p ≡ total → total ≡ None
times_differ {S = S} m n i p total h one so_far = sym so_far ∙ times_step m n i p h ∙ ap (λ (o : Option S). on o (times_on (n - (i + 1)) m)) one

pub times_done : {S : Type 0} (m : S → Option S) (n i : ℕ) (p : S) (total : Option S) → n ≤ i → times_on (n - i) m p ≡ total → total ≡ Some p
unfolding times_on
times_done {S = S} m n i p total h so_far = let k : n - i ≡ zero = omega arith in sym so_far ∙ ap (λ (j : ℕ). times_on j m p) k

-- what the structure of a part gives, the part gives
pub structured : {T S : Type 0} (b : Result T Stop) (by : Steps S) (l k : Layout) (p q : S) → l ≡ k → Gives b (along by k p) q → Gives b (along by l p) q
structured b by l k p q e h = subst (λ (x : Layout). Gives b (along by x p) q) (sym e) h

stop_by : {S : Type 0} (e : Stop) (part whole : Option S) → Stops e part → (part ≡ None → whole ≡ None) → Stops e whole
stop_by stop.Ended part whole h k = k h
stop_by stop.Memory part whole h k = tt

pub on_stops : {S : Type 0} (e : Stop) (o : Option S) (m : S → Option S) → Stops e o → Stops e (on o m)
on_stops {S = S} e o m h = stop_by e o (on o m) h (λ k. ap (λ (x : Option S). on x m) k)

pub slots_stop : {S : Type 0} (e : Stop) (by : Steps S) (slots : List Slot) (i : ℕ) (p : S) (total : Option S) → i < length slots → along by (row_layout (drop i slots)) p ≡ total → Stops e (along by (slot_layout (get_or slots i slot.Number)) p) → Stops e total
slots_stop e by slots i p total h so_far one = stop_by e _ total one (λ k. slots_differ by slots i p total h k so_far)

pub times_stop : {S : Type 0} (e : Stop) (m : S → Option S) (n i : ℕ) (p : S) (total : Option S) → i < n → times_on (n - i) m p ≡ total → Stops e (m p) → Stops e total
times_stop e m n i p total h so_far one = stop_by e _ total one (λ k. times_differ m n i p total h k so_far)

-- ---- parts one behind the other

row_cons_parts : (ps : List Part) (i : ℕ) → i < length ps → drop i ps ≡ get_or ps i part.Nothing ∷ drop (i + 1) ps
row_cons_parts ps i h = drop-cons ps i part.Nothing h ∙ rw add-one refl

row_step : {S : Type 0} (by : Steps S) (ps : List Part) (i : ℕ) (p : S) → i < length ps → along by (rows (map part_layout (drop i ps))) p ≡ on (along by (part_layout (get_or ps i part.Nothing)) p) (along by (rows (map part_layout (drop (i + 1) ps))))
unfolding along
row_step {S = S} by ps i p h = ap (λ (qs : List Part). along by (rows (map part_layout qs)) p) (row_cons_parts ps i h)

pub row_on : {S : Type 0} (by : Steps S) (ps : List Part) (i : ℕ) (p q : S) (total : Option S) → i < length ps → along by (part_layout (get_or ps i part.Nothing)) p ≡ Some q
    → along by (rows (map part_layout (drop i ps))) p ≡ total → along by (rows (map part_layout (drop (i + 1) ps))) q ≡ total
row_on {S = S} by ps i p q total h one so_far = sym (row_step by ps i p h ∙ ap (λ (o : Option S). on o (along by (rows (map part_layout (drop (i + 1) ps))))) one) ∙ so_far

pub row_differ : {S : Type 0} (by : Steps S) (ps : List Part) (i : ℕ) (p : S) (total : Option S) → i < length ps → along by (part_layout (get_or ps i part.Nothing)) p ≡ None
    → along by (rows (map part_layout (drop i ps))) p ≡ total → total ≡ None
row_differ {S = S} by ps i p total h one so_far = sym so_far ∙ row_step by ps i p h ∙ ap (λ (o : Option S). on o (along by (rows (map part_layout (drop (i + 1) ps))))) one

pub row_stop : {S : Type 0} (e : Stop) (by : Steps S) (ps : List Part) (i : ℕ) (p : S) (total : Option S) → i < length ps → along by (rows (map part_layout (drop i ps))) p ≡ total → Stops e (along by (part_layout (get_or ps i part.Nothing)) p) → Stops e total
row_stop e by ps i p total h so_far one = stop_by e _ total one (λ k. row_differ by ps i p total h k so_far)

pub row_done : {S : Type 0} (by : Steps S) (ps : List Part) (i : ℕ) (p : S) (total : Option S) → length ps ≤ i → along by (rows (map part_layout (drop i ps))) p ≡ total → total ≡ Some p
unfolding along
row_done {S = S} by ps i p total h so_far = sym so_far ∙ ap (λ (qs : List Part). along by (rows (map part_layout qs)) p) (drop_all i ps h)

pub row_rank : (ps : List Part) (i : ℕ) (d : Part) → i < length ps → rank (get_or ps i d) ≤ depth_of ps
row_rank [] i d h = absurd (omega arith)
row_rank (p ∷ ps) zero d h = omega arith
row_rank (p ∷ ps) (suc i) d h = let lt : i < length ps = omega arith in omega (arith, row_rank ps i d lt)

-- ---- an attribute

module _ {S : Type 0} (by : Steps S) (place : Location) (p : S) where
  abbrev body : ℕ → Text → S → Option S
  body size name = along by (body_at place size (attribute_named name))

  abbrev behind : S → Option S
  behind = counted by w32 (λ n. fence_on by n (body n (by.name p)))

  pub name_differs : by.index kinds.AttrName p ≡ None → attribute_on by body p ≡ None
  name_differs h = ap (λ (o : Option S). on o behind) h

  named : (q : S) → by.index kinds.AttrName p ≡ Some q → attribute_on by body p ≡ behind q
  named q h = ap (λ (o : Option S). on o behind) h

  pub length_differs : (q : S) → by.index kinds.AttrName p ≡ Some q → by.bytes 4 q ≡ None → attribute_on by body p ≡ None
  length_differs q h k = named q h ∙ ap (λ (o : Option S). on o (fence_on by (by.ahead w32 q) (body (by.ahead w32 q) (by.name p)))) k

  sized : (q r : S) (n : ℕ) → by.index kinds.AttrName p ≡ Some q → by.bytes 4 q ≡ Some r → n ≡ by.ahead w32 q → attribute_on by body p ≡ fence_on by n (body n (by.name p)) r
  sized q r n h k is =
      named q h ∙ ap (λ (o : Option S). on o (fence_on by (by.ahead w32 q) (body (by.ahead w32 q) (by.name p)))) k
      ∙ ap (λ (m : ℕ). fence_on by m (body m (by.name p)) r) (sym is)

  pub no_room : (q r : S) (n : ℕ) → by.index kinds.AttrName p ≡ Some q → by.bytes 4 q ≡ Some r → n ≡ by.ahead w32 q → by.enter n r ≡ None → attribute_on by body p ≡ None
  no_room q r n h k is none = sized q r n h k is ∙ ap (λ (o : Option S). on o (λ x. on (body n (by.name p) x) (by.leave (by.behind n r)))) none

  fenced_body : (q r inner : S) (n : ℕ) (a : Option Attribute) (l : Layout) → by.index kinds.AttrName p ≡ Some q → by.bytes 4 q ≡ Some r → n ≡ by.ahead w32 q → a ≡ attribute_named (by.name p) → by.enter n r ≡ Some inner → l ≡ body_at place n a
      → attribute_on by body p ≡ on (along by l inner) (by.leave (by.behind n r))
  fenced_body q r inner n a l h k is named_is enters l_is =
      sized q r n h k is ∙ ap (λ (o : Option S). on o (λ x. on (body n (by.name p) x) (by.leave (by.behind n r)))) enters
      ∙ ap (λ (x : Layout). on (along by x inner) (by.leave (by.behind n r))) (ap (body_at place n) (sym named_is) ∙ sym l_is)

  pub body_differs : (q r inner : S) (n : ℕ) (a : Option Attribute) (l : Layout) → by.index kinds.AttrName p ≡ Some q → by.bytes 4 q ≡ Some r → n ≡ by.ahead w32 q → a ≡ attribute_named (by.name p) → by.enter n r ≡ Some inner → l ≡ body_at place n a
      → along by l inner ≡ None → attribute_on by body p ≡ None
  body_differs q r inner n a l h k is named_is enters l_is e = fenced_body q r inner n a l h k is named_is enters l_is ∙ ap (λ (o : Option S). on o (by.leave (by.behind n r))) e

  pub body_same : {T : Type 0} (q r inner t : S) (n : ℕ) (a : Option Attribute) (l : Layout) (b : Result T Stop) (rest : Spot) (new : S) → by.index kinds.AttrName p ≡ Some q → by.bytes 4 q ≡ Some r → n ≡ by.ahead w32 q → a ≡ attribute_named (by.name p) → by.enter n r ≡ Some inner → l ≡ body_at place n a
      → along by l inner ≡ Some t → rest ≡ by.behind n r → Gives b (by.leave rest t) new → Gives b (attribute_on by body p) new
  body_same q r inner t n a l b rest new h k is named_is enters l_is e rest_is g =
      subst (λ (o : Option S). Gives b o new) (ap (λ (x : Spot). by.leave x t) rest_is ∙ sym (fenced_body q r inner n a l h k is named_is enters l_is ∙ ap (λ (o : Option S). on o (by.leave (by.behind n r))) e)) g

  pub name_stops : (e : Stop) → Stops e (by.index kinds.AttrName p) → Stops e (attribute_on by body p)
  name_stops e h = stop_by e _ _ h name_differs

  pub length_stops : (e : Stop) (q : S) → by.index kinds.AttrName p ≡ Some q → Stops e (by.bytes 4 q) → Stops e (attribute_on by body p)
  length_stops e q h k = stop_by e _ _ k (length_differs q h)

  pub enter_stops : (e : Stop) (q r : S) (n : ℕ) → by.index kinds.AttrName p ≡ Some q → by.bytes 4 q ≡ Some r → n ≡ by.ahead w32 q → Stops e (by.enter n r) → Stops e (attribute_on by body p)
  enter_stops e q r n h k is x = stop_by e _ _ x (no_room q r n h k is)

  pub body_stops : (e : Stop) (q r inner : S) (n : ℕ) (a : Option Attribute) (l : Layout) → by.index kinds.AttrName p ≡ Some q → by.bytes 4 q ≡ Some r → n ≡ by.ahead w32 q → a ≡ attribute_named (by.name p) → by.enter n r ≡ Some inner → l ≡ body_at place n a
      → Stops e (along by l inner) → Stops e (attribute_on by body p)
  body_stops e q r inner n a l h k is named_is enters l_is x = stop_by e _ _ x (body_differs q r inner n a l h k is named_is enters l_is)

-- the attributes of a place, behind their count
attributes_are : {S : Type 0} (by : Steps S) (place : Location) (p q : S) (n : ℕ) → by.bytes 2 p ≡ Some q → n ≡ by.ahead w16 p → along by (attributes_of place) p ≡ times_on n (location_on by place) q
unfolding along location_on
attributes_are {S = S} by place p q n h is =
    ap (λ (o : Option S). on o (times_on (by.ahead w16 p) (attribute_on by (λ size name. along by (body_at place size (attribute_named name)))))) h
    ∙ ap (λ (m : ℕ). times_on m (attribute_on by (λ size name. along by (body_at place size (attribute_named name)))) q) (sym is)

pub attributes_on : {T S : Type 0} (b : Result T Stop) (by : Steps S) (l : Layout) (place : Location) (p q new : S) (n : ℕ) → l ≡ attributes_of place → by.bytes 2 p ≡ Some q → n ≡ by.ahead w16 p → Gives b (times_on n (location_on by place) q) new
    → Gives b (along by l p) new
attributes_on {S = S} b by l place p q new n l_is h is g = subst (λ (o : Option S). Gives b o new) (sym (ap (λ (x : Layout). along by x p) l_is ∙ attributes_are by place p q n h is)) g
