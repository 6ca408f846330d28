-- Lines none of which is bad, as items and back.
use Rattle.std.proofs.Common.{◌≡◌, ℕ, ◌+◌, Bool, true, false, cond, not, ◌&&◌, List, [], ◌∷◌, ◌++◌, length, Some, None, refl, ap, ap₂, sym, ◌∙◌, append-nil}
use Rattle.std.specs.List.{list_all}
use Rattle.std.proofs.lemmas.Bool.{and_parts, and_from, not-true, not-false, both_ways}
use Rattle.desk_base.specs.Names.{Text, is_empty}
use Rattle.desk_base.proofs.Bools.{none_parts}
use Rattle.desk_lines.specs.declared.lines.LineEnd.{LineEnd}
use Rattle.desk_lines.specs.Lines.{Line, line, end_bytes}
use Rattle.desk_sections.specs.Sections.{is_continuation, is_header_line, Item, section_end, header, Grouped, put, grouped, item_lines, is_bad_line, first_bad_line}
use Rattle.desk_manifest_laws.proofs.Folding.{is_header}

-- lines that continue a header
abbrev pub all_further : List Line → Bool
all_further = list_all (λ m. is_continuation m.content)

-- items as they are read of lines none of which is bad
abbrev pub is_good : List Item → Bool
is_good [] = true
is_good (section_end end ∷ items) = is_good items
is_good (header ls ∷ items) = is_header ls && is_good items

-- what is known of the groups of lines
pub record GroupedWell (inside : Bool) (ls : List Line) (g : Grouped) : Type 0 where
  pub good : is_good g.items ≡ true
  pub further : all_further g.further ≡ true
  pub outside : inside ≡ false → g.further ≡ []
  pub same : g.further ++ item_lines g.items ≡ ls

put_empty : (inside : Bool) (content : Text) (end : LineEnd) (ls : List Line) (g : Grouped) → is_empty content ≡ true → GroupedWell false ls g → GroupedWell inside (line content end ∷ ls) (record { further = []; items = section_end end ∷ g.items })
put_empty inside [] end ls g h w = record {
  good = w.good;
  further = refl;
  outside = λ e. refl;
  same = ap (λ (r : List Line). line [] end ∷ r) (ap (λ (f : List Line). f ++ item_lines g.items) (sym (w.outside refl)) ∙ w.same);
}
put_empty inside (b ∷ content) end ls g h w = absurd cc

put_further : (inside : Bool) (l : Line) (ls : List Line) (g : Grouped) → is_continuation l.content ≡ true → inside ≡ true → GroupedWell true ls g → GroupedWell inside (l ∷ ls) (record { further = l ∷ g.further; items = g.items })
put_further inside l ls g h e w = record {
  good = w.good;
  further = and_from _ _ h w.further;
  outside = λ k. absurd (both_ways inside k e);
  same = ap (λ (r : List Line). l ∷ r) w.same;
}

put_header : (inside : Bool) (l : Line) (ls : List Line) (g : Grouped) → is_header_line l.content ≡ true → GroupedWell true ls g → GroupedWell inside (l ∷ ls) (record { further = []; items = header (l ∷ g.further) ∷ g.items })
put_header inside l ls g h w = record {
  good = and_from _ _ (and_from _ _ h w.further) w.good;
  further = refl;
  outside = λ e. refl;
  same = ap (λ (r : List Line). l ∷ r) w.same;
}

put_well : (inside : Bool) (l : Line) (ls : List Line) (g : Grouped) → is_bad_line inside l.content ≡ false → GroupedWell (not (is_empty l.content)) ls g → GroupedWell inside (l ∷ ls) (put l g)
put_well inside l ls g h w = elim (is_empty l.content) as (λ (t : Bool). is_empty l.content ≡ t → GroupedWell (not t) ls g → (not t && not (cond (is_continuation l.content) inside (is_header_line l.content))) ≡ false → GroupedWell inside (l ∷ ls) (cond t (record { further = []; items = section_end l.end ∷ g.items }) (cond (is_continuation l.content) (record { further = l ∷ g.further; items = g.items }) (record { further = []; items = header (l ∷ g.further) ∷ g.items })))) [
  | true ↦ λ e v k. put_empty inside l.content l.end ls g e v
  | false ↦ λ e v k. elim (is_continuation l.content) as (λ (t : Bool). is_continuation l.content ≡ t → not (cond t inside (is_header_line l.content)) ≡ false → GroupedWell inside (l ∷ ls) (cond t (record { further = l ∷ g.further; items = g.items }) (record { further = []; items = header (l ∷ g.further) ∷ g.items }))) [
    | true ↦ λ f n. put_further inside l ls g f (not-false _ n) v
    | false ↦ λ f n. put_header inside l ls g (not-false _ n) v
  ] refl k
] refl w h

-- lines none of which is bad are those of good items
pub grouped_well : (inside : Bool) (at : ℕ) (ls : List Line) → first_bad_line inside at ls ≡ None → GroupedWell inside ls (grouped ls)
grouped_well inside at [] h = record { good = refl; further = refl; outside = λ e. refl; same = refl }
grouped_well inside at (l ∷ ls) h =
    let k : (is_bad_line inside l.content ≡ false) × (first_bad_line (not (is_empty l.content)) (at + length (l.content ++ end_bytes l.end)) ls ≡ None) = none_parts (is_bad_line inside l.content) at (first_bad_line (not (is_empty l.content)) (at + length (l.content ++ end_bytes l.end)) ls) h in
    put_well inside l ls (grouped ls) k.0 (grouped_well (not (is_empty l.content)) (at + length (l.content ++ end_bytes l.end)) ls k.1)

pub filled_further : (content : Text) → is_continuation content ≡ true → is_empty content ≡ false
filled_further [] h = absurd cc
filled_further (b ∷ content) h = refl

pub filled_header : (content : Text) → is_header_line content ≡ true → is_empty content ≡ false
filled_header [] h = absurd cc
filled_header (b ∷ content) h = refl

grouped_further : (fs rest : List Line) (g : Grouped) → all_further fs ≡ true → grouped rest ≡ g → grouped (fs ++ rest) ≡ record { further = fs ++ g.further; items = g.items }
grouped_further [] rest g h e = e
grouped_further (l ∷ fs) rest g h e =
    let f : is_continuation l.content ≡ true = (and_parts _ _ h).0 in
    ap (put l) (grouped_further fs rest g (and_parts _ _ h).1 e)
    ∙ ap (λ (t : Bool). cond t (record { further = []; items = section_end l.end ∷ g.items }) (cond (is_continuation l.content) (record { further = l ∷ (fs ++ g.further); items = g.items }) (record { further = []; items = header (l ∷ (fs ++ g.further)) ∷ g.items }))) (filled_further l.content f)
    ∙ ap (λ (t : Bool). cond t (record { further = l ∷ (fs ++ g.further); items = g.items }) (record { further = []; items = header (l ∷ (fs ++ g.further)) ∷ g.items })) f

put_head : (l : Line) (g : Grouped) → is_header_line l.content ≡ true → put l g ≡ record { further = []; items = header (l ∷ g.further) ∷ g.items }
put_head l g h =
    ap (λ (t : Bool). cond t (record { further = []; items = section_end l.end ∷ g.items }) (cond (is_continuation l.content) (record { further = l ∷ g.further; items = g.items }) (record { further = []; items = header (l ∷ g.further) ∷ g.items }))) (filled_header l.content h)
    ∙ ap (λ (t : Bool). cond t (record { further = l ∷ g.further; items = g.items }) (record { further = []; items = header (l ∷ g.further) ∷ g.items })) (not-true _ (and_parts _ _ h).0)

abbrev pub alone : List Item → Grouped
alone items = record { further = []; items = items }

-- good items are those of their lines
pub grouped-items : (items : List Item) → is_good items ≡ true → grouped (item_lines items) ≡ alone items
grouped-items [] h = refl
grouped-items (section_end end ∷ items) h = ap (put (line [] end)) (grouped-items items h)
grouped-items (header [] ∷ items) h = absurd cc
grouped-items (header (l ∷ fs) ∷ items) h =
    let k : is_header (l ∷ fs) ≡ true = (and_parts _ _ h).0 in
    ap (put l) (grouped_further fs (item_lines items) (alone items) (and_parts _ _ k).1 (grouped-items items (and_parts _ _ h).1))
    ∙ put_head l (record { further = fs ++ []; items = items }) (and_parts _ _ k).0
    ∙ ap (λ (r : List Line). alone (header (l ∷ r) ∷ items)) (append-nil fs)

good_further : (at : ℕ) (fs rest : List Line) → all_further fs ≡ true → ((other : ℕ) → first_bad_line true other rest ≡ None) → first_bad_line true at (fs ++ rest) ≡ None
good_further at [] rest h k = k at
good_further at (l ∷ fs) rest h k =
    let f : is_continuation l.content ≡ true = (and_parts _ _ h).0 in
    let e : is_empty l.content ≡ false = filled_further l.content f in
    ap₂ (λ (t u : Bool). cond (not t && not (cond u true (is_header_line l.content))) (Some at) (first_bad_line (not t) (at + length (l.content ++ end_bytes l.end)) (fs ++ rest))) e f
    ∙ good_further (at + length (l.content ++ end_bytes l.end)) fs rest (and_parts _ _ h).1 k

good_head : (inside : Bool) (content : Text) → is_header_line content ≡ true → is_bad_line inside content ≡ false
good_head inside content h =
    ap₂ (λ (t u : Bool). not t && not (cond u inside (is_header_line content))) (filled_header content h) (not-true _ (and_parts _ _ h).0) ∙ ap not h

-- no line of good items is bad
pub good_none : (inside : Bool) (at : ℕ) (items : List Item) → is_good items ≡ true → first_bad_line inside at (item_lines items) ≡ None
good_none inside at [] h = refl
good_none inside at (section_end end ∷ items) h = good_none false (at + length (end_bytes end)) items h
good_none inside at (header [] ∷ items) h = absurd cc
good_none inside at (header (l ∷ fs) ∷ items) h =
    let k : is_header (l ∷ fs) ≡ true = (and_parts _ _ h).0 in
    ap (λ (t : Bool). cond t (Some at) (first_bad_line (not (is_empty l.content)) (at + length (l.content ++ end_bytes l.end)) (fs ++ item_lines items))) (good_head inside l.content (and_parts _ _ k).0)
    ∙ ap (λ (t : Bool). first_bad_line (not t) (at + length (l.content ++ end_bytes l.end)) (fs ++ item_lines items)) (filled_header l.content (and_parts _ _ k).0)
    ∙ good_further (at + length (l.content ++ end_bytes l.end)) fs (item_lines items) (and_parts _ _ k).1 (λ other. good_none true other items (and_parts _ _ h).1)
