use Rattle.std.proofs.Common.{◌≡◌, ◌+◌, ◌∙◌, sym, ap, ap₂, subst, [], ◌∷◌, ℕ, Option, Some, true, length, drop, add-one}
use Rattle.memchr.specs.Find.{NoneBefore, IsFirstByte, Passes, is_byte}
use Rattle.desk_base.specs.Names.{Text}
use Rattle.desk_class.specs.Standing.{standing, standing_in}
use Rattle.desk_class.proofs.Standing.{name_begins, no_name, name_ends, name_open}
use Rattle.desk_class.proofs.names.first_name.Goals as goal

pub returns-in_default-clause-name : goal.returns-in_default-clause-name
returns-in_default-clause-name c = no_name c.args.text.now (subst (IsFirstByte (is_byte 76) c.args.text.now) c.in_default.is c.memchr.ensures)

-- what stands behind the `L`
begun : (t left : Text) (r : Option ℕ) (start : ℕ) → r ≡ Some start → IsFirstByte (is_byte 76) t r → left ≡ drop (start + 1) t → standing_in t ≡ standing true [] left
begun t left r start e first back =
    let f : NoneBefore (Passes (is_byte 76) t) 0 (length t) start × Passes (is_byte 76) t start = subst (IsFirstByte (is_byte 76) t) e first in
    name_begins t start f.0.high f.0.before f.1 ∙ ap (λ (n : ℕ). standing true [] (drop n t)) (sym (add-one start)) ∙ ap (standing true []) (sym back)

pub returns-in-Some-memchr-clause-name : goal.returns-in-Some-memchr-clause-name
returns-in-Some-memchr-clause-name c =
    let left : Text = c.split_at.result.1.now in
    let f = subst (IsFirstByte (is_byte 59) left) c.in-Some-memchr.is c.memchr-2.ensures in
    begun c.args.text.now left c.memchr.result c.in-Some.start c.in-Some.is c.memchr.ensures c.split_at.ensures.back
    ∙ name_ends [] left c.in-Some-memchr.end f.0.high f.0.before f.1
    ∙ ap₂ (λ (n more : Text). n ∷ standing_in more) (sym c.split_at-in-Some-memchr.ensures.front) (sym c.split_at-in-Some-memchr.ensures.back)

pub returns-in-None-clause-name : goal.returns-in-None-clause-name
returns-in-None-clause-name c =
    let left : Text = c.split_at.result.1.now in
    begun c.args.text.now left c.memchr.result c.in-Some.start c.in-Some.is c.memchr.ensures c.split_at.ensures.back
    ∙ name_open [] left (subst (IsFirstByte (is_byte 59) left) c.in-None.is c.memchr-2.ensures)
