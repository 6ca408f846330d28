-- Indices, attributes and interfaces, as a walk goes through them.
use Rattle.std.proofs.Common.{◌≡◌, ℕ, zero, suc, Bool, true, false, cond, ◌==◌, List, [], ◌∷◌, ◌++◌, take, Option, None, Result, Ok, Err, refl, sym, ap, ◌∙◌}
use Rattle.std.specs.Int.{w16, from_be_bytes}
use Rattle.desk_base.specs.Spot.{Spot}
use Rattle.desk_base.specs.declared.faults.ReadFault.{ReadFault}
use Rattle.desk_base.specs.declared.kinds.Used.{Used}
use Rattle.desk_base.specs.declared.kinds.UseKind.{UseKind}
use Rattle.desk_base.specs.declared.kinds.UseKind.TheVariants as kinds
use Rattle.desk_base.specs.Entries.{Pool}
use Rattle.desk_format.specs.declared.attributes.Slot.TheVariants.{Number, Index}
use Rattle.desk_format.specs.Layouts.{Layout, any}
use Rattle.desk_format.specs.Trees.{text_use, uses_of}
use Rattle.desk_format.specs.Reading.{Failed, number_at, read, times}
use Rattle.desk_format.specs.Rows.{row_layout}
use Rattle.desk_format.specs.Walk.{Walk, walk, Walks, Stops}
use Rattle.desk_format.proofs.Walks.{table_walks, table_stops, stops, row_last, then_walks, then_fails}
use Rattle.desk_class.specs.Scan.{class_kind, interfaces}

same : (x : Bool) (o : Option Used) → o ≡ None → cond x None o ≡ None
same true o h = refl
same false o h = h

-- the index of a class names no text
pub no_text : (optional : Bool) (at index : ℕ) (us : List Used) → us ++ uses_of (text_use (record { at = at; kind = class_kind optional; index = index })) ≡ us ++ []
no_text true at index us = ap (λ (o : Option Used). us ++ uses_of o) (same (index == 0) None refl)
no_text false at index us = refl

-- ---- a number and two indices

abbrev head : UseKind → UseKind → Layout
head k l = row_layout (Number ∷ Index k ∷ Index l ∷ [])

head_is : (pool : Pool) (k l : UseKind) (w w' w'' : Walk) → walk (number_at w16 any) w ≡ Ok w' → walk (read pool (Layout.index k)) w' ≡ Ok w'' → walk (read pool (head k l)) w ≡ walk (read pool (Layout.index l)) w''
unfolding read row_layout
head_is pool k l w w' w'' h i =
    then_walks (number_at w16 any) (read pool (Layout.row (Layout.index k) (Layout.row (Layout.index l) Layout.nothing))) w w' h
    ∙ then_walks (read pool (Layout.index k)) (read pool (Layout.row (Layout.index l) Layout.nothing)) w' w'' i
    ∙ row_last pool (Layout.index l) w''

pub head_walked : (pool : Pool) (k l : UseKind) (w w' w'' w''' : Walk) → walk (number_at w16 any) w ≡ Ok w' → walk (read pool (Layout.index k)) w' ≡ Ok w'' → walk (read pool (Layout.index l)) w'' ≡ Ok w''' → walk (read pool (head k l)) w ≡ Ok w'''
head_walked pool k l w w' w'' w''' h i j = head_is pool k l w w' w'' h i ∙ j

pub head_first : (e : ReadFault) (us : List Used) (pool : Pool) (k l : UseKind) (w : Walk) → Stops e (walk (number_at w16 any) w) us → Stops e (walk (read pool (head k l)) w) us
unfolding read row_layout
head_first e us pool k l w h = stops e _ _ us h (λ f x. then_fails (number_at w16 any) _ w _ x)

pub head_second : (e : ReadFault) (us : List Used) (pool : Pool) (k l : UseKind) (w w' : Walk) → walk (number_at w16 any) w ≡ Ok w' → Stops e (walk (read pool (Layout.index k)) w') us → Stops e (walk (read pool (head k l)) w) us
unfolding read row_layout
head_second e us pool k l w w' h i =
    stops e _ _ us i (λ f x.
    then_walks (number_at w16 any) (read pool (Layout.row (Layout.index k) (Layout.row (Layout.index l) Layout.nothing))) w w' h
    ∙ then_fails (read pool (Layout.index k)) _ w' _ x)

pub head_third : (e : ReadFault) (us : List Used) (pool : Pool) (k l : UseKind) (w w' w'' : Walk) → walk (number_at w16 any) w ≡ Ok w' → walk (read pool (Layout.index k)) w' ≡ Ok w'' → Stops e (walk (read pool (Layout.index l)) w'') us → Stops e (walk (read pool (head k l)) w) us
head_third e us pool k l w w' w'' h i j = stops e _ _ us j (λ f x. head_is pool k l w w' w'' h i ∙ x)

-- ---- interfaces

row_times : (pool : Pool) (l : Layout) (n : ℕ) (w : Walk) → walk (times n (read pool (Layout.row l Layout.nothing))) w ≡ walk (times n (read pool l)) w
unfolding times
row_times pool l zero w = refl
row_times pool l (suc n) w = step (λ w'. row_times pool l n w') (walk (read pool l) w) refl
  where
    step : ((w' : Walk) → walk (times n (read pool (Layout.row l Layout.nothing))) w' ≡ walk (times n (read pool l)) w') → (r : Result Walk Failed) → walk (read pool l) w ≡ r → walk (times (suc n) (read pool (Layout.row l Layout.nothing))) w ≡ walk (times (suc n) (read pool l)) w
    step ih (Ok w') h =
        then_walks (read pool (Layout.row l Layout.nothing)) (times n (read pool (Layout.row l Layout.nothing))) w w' (row_last pool l w ∙ h)
        ∙ ih w' ∙ sym (then_walks (read pool l) (times n (read pool l)) w w' h)
    step ih (Err e) h =
        then_fails (read pool (Layout.row l Layout.nothing)) (λ _. times n (read pool (Layout.row l Layout.nothing))) w e (row_last pool l w ∙ h)
        ∙ sym (then_fails (read pool l) (λ _. times n (read pool l)) w e h)

pub interfaces_walked : {T : Type 0} (result : Result T ReadFault) (spot : Spot) (us : List Used) (pool : Pool) (w w' : Walk) (n : ℕ) → walk (number_at w16 any) w ≡ Ok w' → n ≡ from_be_bytes w16 (take 2 w.left)
    → Walks result (walk (times n (read pool (Layout.index kinds.ClassName))) w') spot us → Walks result (walk (read pool interfaces) w) spot us
unfolding row_layout
interfaces_walked result spot us pool w w' n h is k =
    rw (table_walks pool (Layout.row (Layout.index kinds.ClassName) Layout.nothing) w w' n h is, row_times pool (Layout.index kinds.ClassName) n w') k

pub interfaces_stopped : (e : ReadFault) (us : List Used) (pool : Pool) (w : Walk) → Stops e (walk (number_at w16 any) w) us → Stops e (walk (read pool interfaces) w) us
interfaces_stopped e us pool w h = stops e _ _ us h (λ f k. table_stops pool _ w _ k)
