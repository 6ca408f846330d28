-- A walk along a body by its layout, in steps that go on or end.
use Rattle.std.specs.Prelude.{ℕ, zero, suc, Option, Some, None}
use Rattle.std.specs.Int.{Width, w8, w16, w32, byte_len}
use Rattle.desk_base.specs.Names.{Text}
use Rattle.desk_base.specs.Spot.{Spot}
use Rattle.desk_base.specs.declared.kinds.UseKind.{UseKind}
use Rattle.desk_base.specs.declared.kinds.UseKind.TheVariants as kinds
use Rattle.desk_format.specs.Layouts.{Layout}
use Rattle.desk_format.specs.declared.attributes.Location.{Location}
use Rattle.desk_format.specs.Attributes.{attribute_named, body_at}

-- What a walk does at each kind of item; None where it ends there.
-- bytes: so many bytes that are no index and no code. ahead: the number that stands in front. index: an index of a use kind.
-- code: a code array of so many bytes. name: the text that the index in front names. enter: the body of an attribute, which are
-- the next bytes alone, so many of them. behind: what stands behind these. leave: on there, where nothing of the body is left.
-- member: a field or a method begins.
pub record Steps (S : Type 0) : Type 0 where
  pub bytes : ℕ → S → Option S
  pub ahead : Width → S → ℕ
  pub index : UseKind → S → Option S
  pub code : ℕ → S → Option S
  pub name : S → Text
  pub enter : ℕ → S → Option S
  pub behind : ℕ → S → Spot
  pub leave : Spot → S → Option S
  pub member : S → S

-- on from where one step led
abbrev pub on : {S : Type 0} → Option S → (S → Option S) → Option S
on None m = None
on (Some p) m = m p

abbrev pub stay : {S : Type 0} → S → Option S
stay p = Some p

-- one step, and another
abbrev pub and_on : {S : Type 0} → (S → Option S) → (S → Option S) → S → Option S
and_on m n p = on (m p) n

-- a step so many times
unfoldable pub times_on : {S : Type 0} → ℕ → (S → Option S) → S → Option S
times_on zero m p = Some p
times_on (suc n) m p = on (m p) (times_on n m)

-- a number, and what goes by it
abbrev pub counted : {S : Type 0} → Steps S → Width → (ℕ → S → Option S) → S → Option S
counted by w next p = on (by.bytes (byte_len w) p) (next (by.ahead w p))

-- the body of an attribute, of so many bytes
abbrev pub fence_on : {S : Type 0} → Steps S → ℕ → (S → Option S) → S → Option S
fence_on by n m p = on (by.enter n p) (λ q. on (m q) (by.leave (by.behind n p)))

-- an attribute: the index of its name, its length and its body
abbrev pub attribute_on : {S : Type 0} → Steps S → (ℕ → Text → S → Option S) → S → Option S
attribute_on by body p = on (by.index kinds.AttrName p) (counted by w32 (λ n. fence_on by n (body n (by.name p))))

-- a walk along all of a layout, item after item
unfoldable pub along : {S : Type 0} → Steps S → Layout → S → Option S
along by (Layout.number w check) = by.bytes (byte_len w)
along by (Layout.sized w check) = counted by w by.code
along by (Layout.raw n) = by.bytes n
along by (Layout.index kind) = by.index kind
along by Layout.nothing = stay
along by (Layout.row a b) = and_on (along by a) (along by b)
along by (Layout.table w each) = counted by w (λ n. times_on n (along by each))
along by (Layout.tagged check branch) = counted by w8 (λ tag. along by (branch tag))
along by (Layout.attributes body) = counted by w16 (λ n. times_on n (attribute_on by (λ size name. along by (body size name))))
along by (Layout.member each) = λ p. along by each (by.member p)
along by (Layout.fault kind) = λ p. None

-- an attribute at a location
unfoldable pub location_on : {S : Type 0} → Steps S → Location → S → Option S
location_on by location = attribute_on by (λ size name. along by (body_at location size (attribute_named name)))
