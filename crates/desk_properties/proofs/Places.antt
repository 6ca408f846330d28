-- What is left of a file from an offset on, as the bytes there tell.
use Rattle.std.proofs.Common.{◌≡◌, ℕ, ◌+◌, ◌<◌, ◌≤◌, Bool, true, false, cond, List, [], ◌∷◌, length, drop, slice_index, refl, sym, ap, ◌∙◌, arith}
use Rattle.std.proofs.lemmas.Bool.{eqb-true}
use Rattle.desk_base.specs.Names.{Text}
use Rattle.desk_properties.specs.Lines.{Placed, placed, Line, natural_lines, behind, is_end, is_cr_of_lf, is_backslash, unindented, is_continued, with_continued, logical_lines}
use Rattle.desk_properties.specs.Reading.{natural_from, natural_line_from, natural_behind, line_from, lines_behind, first_of, behind_first, end_size, here, IsPair, IsUnindented}
use Rattle.desk_properties.proofs.Natural.{natural_end, natural_byte, natural_last, is_some_behind}
use Rattle.desk_properties.proofs.Logical.{continued_plain, continued_pair, continued_lone, continued_unindented, with_plain, with_pair, with_lone, with_lone_last, with_none}

some_lines : (ps : List Placed) → natural_lines ps ≡ first_of (natural_lines ps) ∷ behind_first (natural_lines ps)
some_lines [] = refl
some_lines (p ∷ ps) = elim (is_cr_of_lf p ps) as (λ (x : Bool). cond x (natural_lines ps) (cond (is_end p) ([] ∷ natural_lines ps) (behind p (natural_lines ps))) ≡ first_of (cond x (natural_lines ps) (cond (is_end p) ([] ∷ natural_lines ps) (behind p (natural_lines ps)))) ∷ behind_first (cond x (natural_lines ps) (cond (is_end p) ([] ∷ natural_lines ps) (behind p (natural_lines ps))))) [
  | true ↦ some_lines ps
  | false ↦ elim (is_end p) as (λ (x : Bool). cond x ([] ∷ natural_lines ps) (behind p (natural_lines ps)) ≡ first_of (cond x ([] ∷ natural_lines ps) (behind p (natural_lines ps))) ∷ behind_first (cond x ([] ∷ natural_lines ps) (behind p (natural_lines ps)))) [
    | true ↦ refl
    | false ↦ is_some_behind p (natural_lines ps) ∙ ap (λ (ls : List Line). first_of ls ∷ behind_first ls) (sym (is_some_behind p (natural_lines ps)))
  ]
]

-- there is always a natural line from an offset on, be it empty
pub natural_parts : (file : Text) (at : ℕ) → natural_from file at ≡ natural_line_from file at ∷ natural_behind file at
unfolding natural_from natural_line_from natural_behind
natural_parts file at = some_lines (placed at (drop at file))

-- a natural line from an offset on: a byte that ends no line, and what is left of it behind that byte
pub record IsByte (file : Text) (at : ℕ) : Type 0 where
  pub line : natural_line_from file at ≡ here file at ∷ natural_line_from file (at + 1)
  pub behind : natural_behind file at ≡ natural_behind file (at + 1)

pub byte_at : (file : Text) (at : ℕ) → at < length file → end_size (drop at file) ≡ 0 → IsByte file at
unfolding natural_line_from natural_behind
byte_at file at h k =
    let e : natural_from file at ≡ (here file at ∷ first_of (natural_from file (at + 1))) ∷ behind_first (natural_from file (at + 1)) = natural_byte file at h k ∙ is_some_behind _ _ in
    record { line = ap first_of e; behind = ap behind_first e }

-- an end of a natural line, behind which another begins
pub record IsEnd (file : Text) (at : ℕ) : Type 0 where
  pub line : natural_line_from file at ≡ []
  pub behind : natural_behind file at ≡ natural_from file (at + end_size (drop at file))

pub end_at : (file : Text) (at : ℕ) → 0 < end_size (drop at file) → IsEnd file at
unfolding natural_line_from natural_behind
end_at file at h = record { line = ap first_of (natural_end file at h); behind = ap behind_first (natural_end file at h) }

-- the end of the file
pub record IsLast (file : Text) (at : ℕ) : Type 0 where
  pub line : natural_line_from file at ≡ []
  pub behind : natural_behind file at ≡ []

pub last_at : (file : Text) (at : ℕ) → length file ≤ at → IsLast file at
unfolding natural_line_from natural_behind
last_at file at h = record { line = ap first_of (natural_last file at h); behind = ap behind_first (natural_last file at h) }

-- a logical line from an offset on: a byte that is no backslash and ends no line, and what is left of it behind that byte
pub record IsPlain (file : Text) (at : ℕ) : Type 0 where
  pub line : line_from file at ≡ here file at ∷ line_from file (at + 1)
  pub behind : lines_behind file at ≡ lines_behind file (at + 1)

pub plain_at : (file : Text) (at : ℕ) → IsByte file at → is_backslash (here file at) ≡ false → IsPlain file at
unfolding line_from lines_behind
plain_at file at byte h = record {
  line = ap (λ (l : Line). with_continued l (natural_behind file at)) byte.line ∙ ap (with_continued (here file at ∷ natural_line_from file (at + 1))) byte.behind ∙ with_plain _ _ _ h;
  behind = ap (λ (l : Line). logical_lines (is_continued l) (natural_behind file at)) byte.line ∙ ap (logical_lines (is_continued (here file at ∷ natural_line_from file (at + 1)))) byte.behind ∙ ap (λ (x : Bool). logical_lines x (natural_behind file (at + 1))) (continued_plain (here file at) (natural_line_from file (at + 1)) h);
}

two : (file : Text) (at : ℕ) → natural_line_from file (at + 1 + 1) ≡ natural_line_from file (at + 2)
two file at = ap (natural_line_from file) (omega arith)

pub pair_at : (file : Text) (at : ℕ) → IsByte file at → IsByte file (at + 1) → is_backslash (here file at) ≡ true → IsPair file at
unfolding line_from lines_behind
pair_at file at first second h =
    let l : Line = natural_line_from file (at + 2) in
    let ls : List Line = natural_behind file (at + 2) in
    let line : natural_line_from file at ≡ here file at ∷ here file (at + 1) ∷ l = first.line ∙ ap (λ (m : Line). here file at ∷ m) (second.line ∙ ap (λ (m : Line). here file (at + 1) ∷ m) (two file at)) in
    let others : natural_behind file at ≡ ls = first.behind ∙ second.behind ∙ ap (natural_behind file) (omega arith) in
    record {
      backslash = eqb-true (slice_index file at) 92 h;
      line = ap (λ (m : Line). with_continued m (natural_behind file at)) line ∙ ap (with_continued (here file at ∷ here file (at + 1) ∷ l)) others ∙ with_pair _ _ _ _ h;
      behind = ap (λ (m : Line). logical_lines (is_continued m) (natural_behind file at)) line ∙ ap (logical_lines (is_continued (here file at ∷ here file (at + 1) ∷ l))) others ∙ ap (λ (x : Bool). logical_lines x ls) (continued_pair (here file at) (here file (at + 1)) l h);
    }

-- where nothing is left of the natural line, nothing is left of the logical line
pub record IsEnded (file : Text) (at : ℕ) : Type 0 where
  pub line : line_from file at ≡ []
  pub behind : lines_behind file at ≡ logical_lines false (natural_behind file at)

pub ended_at : (file : Text) (at : ℕ) → natural_line_from file at ≡ [] → IsEnded file at
unfolding line_from lines_behind
ended_at file at h = record {
  line = ap (λ (l : Line). with_continued l (natural_behind file at)) h ∙ with_none _;
  behind = ap (λ (l : Line). logical_lines (is_continued l) (natural_behind file at)) h;
}

-- a logical line goes on behind a backslash, a line end and white space
pub record IsSame (file : Text) (from to : ℕ) : Type 0 where
  pub line : line_from file to ≡ line_from file from
  pub behind : lines_behind file to ≡ lines_behind file from

pub same_trans : (file : Text) (from mid to : ℕ) → IsSame file from mid → IsSame file mid to → IsSame file from to
same_trans file from mid to a b = record { line = b.line ∙ a.line; behind = b.behind ∙ a.behind }

pub break_line : (file : Text) (at to : ℕ) → IsByte file at → is_backslash (here file at) ≡ true → IsEnd file (at + 1) → IsUnindented file (at + 1 + end_size (drop (at + 1) file)) to → IsSame file at to
unfolding line_from lines_behind
break_line file at to byte h end white =
    let next : ℕ = at + 1 + end_size (drop (at + 1) file) in
    let line : natural_line_from file at ≡ here file at ∷ [] = byte.line ∙ ap (λ (m : Line). here file at ∷ m) end.line in
    let others : natural_behind file at ≡ natural_line_from file next ∷ natural_behind file next = byte.behind ∙ end.behind ∙ natural_parts file next in
    record {
      line = ap (λ (m : Line). with_continued m (natural_behind file to)) white.line ∙ ap (with_continued (unindented (natural_line_from file next))) white.behind ∙ sym (ap (λ (m : Line). with_continued m (natural_behind file at)) line ∙ ap (with_continued (here file at ∷ [])) others ∙ with_lone (here file at) (natural_line_from file next) (natural_behind file next) h);
      behind = ap (λ (m : Line). logical_lines (is_continued m) (natural_behind file to)) white.line ∙ ap (logical_lines (is_continued (unindented (natural_line_from file next)))) white.behind ∙ ap (λ (x : Bool). logical_lines x (natural_behind file next)) (continued_unindented (natural_line_from file next)) ∙ sym (ap (λ (m : Line). logical_lines (is_continued m) (natural_behind file at)) line ∙ ap (λ (x : Bool). logical_lines x (natural_behind file at)) (continued_lone (here file at) h) ∙ ap (logical_lines true) others);
    }

pub break_last : (file : Text) (at to : ℕ) → IsByte file at → is_backslash (here file at) ≡ true → IsLast file (at + 1) → IsUnindented file (at + 1) to → IsSame file at to
unfolding line_from lines_behind
break_last file at to byte h end white =
    let line : natural_line_from file at ≡ here file at ∷ [] = byte.line ∙ ap (λ (m : Line). here file at ∷ m) end.line in
    let others : natural_behind file at ≡ [] = byte.behind ∙ end.behind in
    record {
      line = ap (λ (m : Line). with_continued m (natural_behind file to)) (white.line ∙ ap unindented end.line) ∙ with_none _ ∙ sym (ap (λ (m : Line). with_continued m (natural_behind file at)) line ∙ ap (with_continued (here file at ∷ [])) others ∙ with_lone_last (here file at) h);
      behind = ap (λ (m : Line). logical_lines (is_continued m) (natural_behind file to)) (white.line ∙ ap unindented end.line) ∙ ap (logical_lines false) (white.behind ∙ end.behind) ∙ sym (ap (λ (m : Line). logical_lines (is_continued m) (natural_behind file at)) line ∙ ap (λ (x : Bool). logical_lines x (natural_behind file at)) (continued_lone (here file at) h) ∙ ap (logical_lines true) others);
    }
