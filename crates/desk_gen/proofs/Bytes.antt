-- The bytes of a generated class.
use Rattle.std.proofs.Common.{◌≡◌, ℕ, ◌<◌, ◌^◌, List, [], ◌∷◌, ◌++◌, length, map, sym, ap, ◌∙◌, subst}
use Rattle.std.specs.Prelude.{Some, codes}
use Rattle.std.proofs.lemmas.List.{append_assoc}
use denote.Ref.{Bor}
use Rattle.std.specs.List.{All}
use Rattle.std.proofs.lemmas.List.Elements.{All-nil, All-cons}
use Rattle.desk_base.specs.Names.{Text}
use Rattle.desk_base.specs.Entries.{Pool, utf8, class, string, name_and_type, fieldref}
use Rattle.desk_format.specs.PoolBytes.{two, print_slots}
use Rattle.desk_format.specs.Classes.{magic}
use Rattle.desk_gen.specs.declared.class.TheConstants.{HEADER, BODY}
use Rattle.desk_gen.specs.declared.entries.Entry.{Entry as Held}
use Rattle.desk_gen.specs.declared.entries.Entry.TheVariants as held
use Rattle.desk_gen.specs.Entries.{IsShort}
use Rattle.desk_gen.specs.Names.{class_name, dotted_name, descriptor}
use Rattle.desk_gen.specs.Classes.{version, class_head, fields, class_end, class_file}

-- the pool of a class with these texts
abbrev pub pool_of : Text → Text → Text → Text → Pool
pool_of own other dotted field = map Some (
    utf8 own
    ∷ class 1
    ∷ utf8 (codes "java/lang/Object")
    ∷ class 3
    ∷ utf8 other
    ∷ class 5
    ∷ utf8 dotted
    ∷ string 7
    ∷ utf8 field
    ∷ utf8 (codes "f")
    ∷ name_and_type 10 9
    ∷ fieldref 6 11
    ∷ string 1
    ∷ [])

frame : (slots : Text) → (HEADER ++ slots) ++ BODY ≡ magic ++ (version ++ ((two 14 ++ slots) ++ (class_head ++ (fields ++ class_end))))
frame slots = append_assoc HEADER slots BODY

pub class_bytes : (own other dotted field : Text) (i j : ℕ) (before between behind : Text) → own ≡ class_name i → other ≡ class_name j → dotted ≡ dotted_name j → field ≡ descriptor j
    → before ≡ HEADER → between ≡ before ++ print_slots (pool_of own other dotted field) → behind ≡ between ++ BODY → behind ≡ class_file i j
class_bytes own other dotted field i j before between behind a b c d e f g =
    g ∙ ap (λ t. t ++ BODY) (f ∙ ap (λ t. t ++ print_slots (pool_of own other dotted field)) e)
    ∙ frame (print_slots (pool_of own other dotted field))
    ∙ ap (λ slots. magic ++ (version ++ ((two 14 ++ slots) ++ (class_head ++ (fields ++ class_end)))))
    (ap (λ t. print_slots (pool_of t other dotted field)) a ∙ ap (λ t. print_slots (pool_of (class_name i) t dotted field)) b
    ∙ ap (λ t. print_slots (pool_of (class_name i) (class_name j) t field)) c ∙ ap (λ t. print_slots (pool_of (class_name i) (class_name j) (dotted_name j) t)) d)

pub short_as : (t u : Text) → t ≡ u → length u < 2 ^ 16 → length t < 2 ^ 16
short_as t u e h = subst (λ x. length x < 2 ^ 16) (sym e) h

-- entries whose texts are short
pub short_entries : (own object other dotted field name : Bor Text) → length own.now < 2 ^ 16 → length object.now < 2 ^ 16 → length other.now < 2 ^ 16 → length dotted.now < 2 ^ 16 → length field.now < 2 ^ 16 → length name.now < 2 ^ 16
    → All IsShort (held.Utf8 own ∷ held.Class 1 ∷ held.Utf8 object ∷ held.Class 3 ∷ held.Utf8 other ∷ held.Class 5 ∷ held.Utf8 dotted ∷ held.String 7 ∷ held.Utf8 field ∷ held.Utf8 name ∷ held.NameAndType 10 9 ∷ held.Fieldref 6 11 ∷ held.String 1 ∷ [])
short_entries own object other dotted field name a b c d e f =
    let l13 : List Held = [] in
    let l12 : List Held = held.String 1 ∷ l13 in
    let l11 : List Held = held.Fieldref 6 11 ∷ l12 in
    let l10 : List Held = held.NameAndType 10 9 ∷ l11 in
    let l9 : List Held = held.Utf8 name ∷ l10 in
    let l8 : List Held = held.Utf8 field ∷ l9 in
    let l7 : List Held = held.String 7 ∷ l8 in
    let l6 : List Held = held.Utf8 dotted ∷ l7 in
    let l5 : List Held = held.Class 5 ∷ l6 in
    let l4 : List Held = held.Utf8 other ∷ l5 in
    let l3 : List Held = held.Class 3 ∷ l4 in
    let l2 : List Held = held.Utf8 object ∷ l3 in
    let l1 : List Held = held.Class 1 ∷ l2 in
    let l0 : List Held = held.Utf8 own ∷ l1 in
    let s13 : All IsShort l13 = All-nil IsShort in
    let s12 : All IsShort l12 = All-cons IsShort (held.String 1) l13 tt s13 in
    let s11 : All IsShort l11 = All-cons IsShort (held.Fieldref 6 11) l12 tt s12 in
    let s10 : All IsShort l10 = All-cons IsShort (held.NameAndType 10 9) l11 tt s11 in
    let s9 : All IsShort l9 = All-cons IsShort (held.Utf8 name) l10 f s10 in
    let s8 : All IsShort l8 = All-cons IsShort (held.Utf8 field) l9 e s9 in
    let s7 : All IsShort l7 = All-cons IsShort (held.String 7) l8 tt s8 in
    let s6 : All IsShort l6 = All-cons IsShort (held.Utf8 dotted) l7 d s7 in
    let s5 : All IsShort l5 = All-cons IsShort (held.Class 5) l6 tt s6 in
    let s4 : All IsShort l4 = All-cons IsShort (held.Utf8 other) l5 c s5 in
    let s3 : All IsShort l3 = All-cons IsShort (held.Class 3) l4 tt s4 in
    let s2 : All IsShort l2 = All-cons IsShort (held.Utf8 object) l3 b s3 in
    let s1 : All IsShort l1 = All-cons IsShort (held.Class 1) l2 tt s2 in
    All-cons IsShort (held.Utf8 own) l1 a s1
