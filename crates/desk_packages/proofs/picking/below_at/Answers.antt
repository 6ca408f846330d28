use Rattle.std.proofs.Common.{◌≡◌, ◌∙◌, [], ◌∷◌, ◌++◌, ◌==◌, inl, inr, arith}
use Rattle.std.specs.List.{filter, starts_with}
use Rattle.desk_packages.specs.Renames.{Renaming, key_of}
use Rattle.desk_packages.specs.Keys.{byte_of, EndsAt}
use Rattle.desk_packages.proofs.Sources.{separates}
use Rattle.desk_packages.proofs.Along.{start_of, start_length, start_dotted, left_begins, star_below, none_starred, none_there, first_there}
use Rattle.desk_packages.proofs.picking.below_at.Goals as goal
use Rattle.desk_packages.proofs.picking.below_at.Goals.{After-narrowed, else-end-path-via-then-end-path+else-path-end, else-end-path-via-else-end-path}

-- those that go on with a dot
dotted : (c : After-narrowed) → c.narrowed-dotted.result.now ≡ filter (λ (r : Renaming). starts_with ◌==◌ (key_of r) (start_of (byte_of c.args.separator) c.args.path.now c.args.end ++ 46 ∷ [])) c.args.renames.now
dotted c =
    let s = byte_of c.args.separator in
    c.narrowed-dotted.ensures.narrowed (start_of s c.args.path.now c.args.end) (start_length s c.args.path.now c.args.end c.requires.within) c.requires.alike

-- and then with a star
starred : (c : After-narrowed) → c.narrowed.result.now ≡ filter (λ (r : Renaming). starts_with ◌==◌ (key_of r) ((start_of (byte_of c.args.separator) c.args.path.now c.args.end ++ 46 ∷ []) ++ 42 ∷ [])) c.narrowed-dotted.result.now
starred c =
    let s = byte_of c.args.separator in
    let start = start_of s c.args.path.now c.args.end ++ 46 ∷ [] in
    c.narrowed.ensures.narrowed start (start_dotted s c.args.path.now c.args.end c.requires.within) (left_begins key_of c.args.renames.now c.narrowed-dotted.result.now start (dotted c))

ends : (c : After-narrowed) → EndsAt (byte_of c.args.separator) c.args.path.now c.args.end
ends c = elim c.else-end-path.branch [
  | else-end-path-via-then-end-path+else-path-end w ↦ inr (w.if-end-path.true, w.if-path-end.false ∙ w.byte.ensures)
  | else-end-path-via-else-end-path w ↦ inl (omega (arith, w.if-end-path.false, c.requires.within))
]

pub returns-in-empty : goal.returns-in-empty
returns-in-empty c =
    let at = (goal.at.returns-in-empty c).After-narrowed in
    none_starred c.args.renames.now c.requires.table (byte_of c.args.separator) (separates c.args.separator) c.args.path.now c.args.end
    c.narrowed-dotted.result.now c.narrowed.result.now (dotted at) (starred at) (none_there c.narrowed.result.now c.in-empty.len_below)

pub returns-in-len1-up : goal.returns-in-len1-up
returns-in-len1-up c =
    let at = (goal.at.returns-in-len1-up c).After-narrowed in
    star_below c.args.renames.now c.requires.table (byte_of c.args.separator) (separates c.args.separator) c.args.path.now c.args.end
    c.narrowed-dotted.result.now c.narrowed.result.now (dotted at) (starred at) (ends at) c.rename-item.result
    (first_there c.narrowed.result.now c.rename-item.result c.rename-item.is (omega (arith, c.in-len1-up.len_at_least)))
