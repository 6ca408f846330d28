-- Continuation lines, skipped one by one.
use Rattle.std.proofs.Common.{◌≡◌, ℕ, Bool, true, false, cond, not, ◌&&◌, List, [], ◌∷◌, ◌++◌, refl, ap, sym, ◌∙◌, append_assoc, append-nil}
use Rattle.std.specs.List.{list_all}
use Rattle.std.proofs.lemmas.Bool.{and_parts, and_from}
use Rattle.std.proofs.lemmas.List.Folds.{list_all-append}
use Rattle.desk_base.specs.Names.{Text, is_empty}
use Rattle.desk_lines.specs.declared.lines.LineEnd.{LineEnd}
use Rattle.desk_lines.specs.declared.lines.LineEnd.TheVariants as ends
use Rattle.desk_lines.specs.Lines.{Line, line, lines, end_bytes, joined, begins_lf, ends_well, are_well_ended}
use Rattle.desk_lines.proofs.LineLaws as laws
use Rattle.desk_sections.specs.Sections.{is_continuation}
use Rattle.desk_sections.specs.Reading.{begins_anew, end_behind, IsContinued}

-- lines before others are well ended too
front_ends : (content : Text) (end : LineEnd) (a b : List Line) → ends_well content end (a ++ b) ≡ true → ends_well content end a ≡ true
front_ends content ends.EndOfText [] b h = and_from _ _ (and_parts _ _ h).0 refl
front_ends content ends.EndOfText (l ∷ a) b h = h
front_ends content ends.Lf a b h = refl
front_ends content ends.Cr [] b h = refl
front_ends content ends.Cr (l ∷ a) b h = h
front_ends content ends.CrLf a b h = refl

pub front_well : (a b : List Line) → are_well_ended (a ++ b) ≡ true → are_well_ended a ≡ true
front_well [] b h = refl
front_well (l ∷ a) b h =
    let more = and_parts _ _ h in
    let tail = and_parts _ _ more.1 in
    and_from _ _ more.0 (and_from _ _ (front_ends l.content l.end a b tail.0) (front_well a b tail.1))

pub joined_append : (a b : List Line) → joined (a ++ b) ≡ joined a ++ joined b
joined_append [] b = refl
joined_append (l ∷ a) b =
    ap (λ (t : Text). l.content ++ (end_bytes l.end ++ t)) (joined_append a b)
    ∙ ap (λ (t : Text). l.content ++ t) (sym (append_assoc (end_bytes l.end) (joined a) (joined b)))
    ∙ sym (append_assoc l.content (end_bytes l.end ++ joined a) (joined b))

pub end_append : (end : LineEnd) (a : List Line) (l : Line) → end_behind end (a ++ l ∷ []) ≡ l.end
end_append end [] l = refl
end_append end (m ∷ a) l = end_append m.end a l

-- some continuation lines were skipped
pub record IsSkippedTo (text : Text) (before last : LineEnd) (rest : Text) : Type 0 where
  pub further : List Line
  pub lines_are : lines text ≡ further ++ lines rest
  pub all : list_all (λ l. is_continuation l.content) further ≡ true
  pub last_is : last ≡ end_behind before further

pub one_more : (text : Text) (before last : LineEnd) (rest content : Text) (end : LineEnd) (more : Text) → IsSkippedTo text before last rest
    → lines rest ≡ line content end ∷ lines more → is_continuation content ≡ true → IsSkippedTo text before end more
one_more text before last rest content end more k same is = record {
  further = k.further ++ line content end ∷ [];
  lines_are = k.lines_are ∙ ap (λ (ls : List Line). k.further ++ ls) same ∙ sym (append_assoc k.further (line content end ∷ []) (lines more));
  all = list_all-append (λ (l : Line). is_continuation l.content) k.further (line content end ∷ []) ∙ and_from _ _ k.all (and_from _ _ is refl);
  last_is = sym (end_append before k.further (line content end));
}

pub skipped_all : (text : Text) (before last : LineEnd) (rest : Text) → IsSkippedTo text before last rest → begins_anew (lines rest) ≡ true → IsContinued text before last rest
skipped_all text before last rest k anew = record {
  further = k.further;
  lines_are = k.lines_are;
  all = k.all;
  no_more = anew;
  whole = sym (laws.joined-lines text) ∙ ap joined k.lines_are ∙ joined_append k.further (lines rest) ∙ ap (λ (t : Text). joined k.further ++ t) (laws.joined-lines rest);
  last_is = k.last_is;
  own = laws.lines-joined k.further (front_well k.further (lines rest) (ap are_well_ended (sym k.lines_are) ∙ laws.formed-lines text));
}

pub nothing_anew : (rest : Text) → rest ≡ [] → begins_anew (lines rest) ≡ true
nothing_anew rest h = ap (λ (t : Text). begins_anew (lines t)) h

pub line_anew : (rest content : Text) (end : LineEnd) (more : Text) → lines rest ≡ line content end ∷ lines more → is_continuation content ≡ false → begins_anew (lines rest) ≡ true
line_anew rest content end more same h = ap begins_anew same ∙ ap not h
