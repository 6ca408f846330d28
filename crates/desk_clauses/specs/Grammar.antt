-- Header values as clauses (OSGi Core 3.2.4): cut at `,` into clauses and each clause at `;` into parts, outside quotes. A part
-- is a path, or a parameter, which is a directive or an attribute.
use Rattle.std.specs.Prelude.{Bool, true, false, cond, not, ◌&&◌, ◌==◌, ◌-◌, List, [], ◌∷◌, ◌++◌, map, take, length}
use Rattle.std.specs.List.{list_all, ends_with}
use Rattle.std.specs.Str.{bytes_eq}
use Rattle.desk_base.specs.Names.{Text, is_empty}
use Rattle.desk_lines.specs.Lines.{rest}
use Rattle.desk_lines.specs.Cuts.{onward}
use Rattle.desk_lines.specs.Blanks.{not_blank, leading_blanks, trailing_blanks, trimmed}
use Rattle.desk_clauses.specs.Quotes.{is_closed, before_mark, from_mark, cut, with_marks}
use Rattle.desk_clauses.specs.declared.quotes.Quoting.TheVariants.{Outside}

-- the parts of a clause, and the clauses of a value
abbrev pub parts : Text → List Text
parts = cut 59 Outside

abbrev pub clauses : Text → List (List Text)
clauses value = map parts (cut 44 Outside value)

-- clauses put together again
abbrev pub clause_text : List Text → Text
clause_text = with_marks 59

abbrev pub value_text : List (List Text) → Text
value_text cs = with_marks 44 (map clause_text cs)

-- a part with a `=` outside quotes is a parameter, and any other a path
abbrev pub is_parameter : Text → Bool
is_parameter part = not (is_empty (from_mark 61 Outside part))

-- what stands before a parameter's `=`, without blanks around it: the name, and behind a directive's name a `:`
abbrev pub key : Text → Text
key part = trimmed (before_mark 61 Outside part)

-- what follows the `=`, blanks around it included
abbrev pub argument : Text → Text
argument part = rest (from_mark 61 Outside part)

-- whether a text ends in a colon, and what stands before its last byte
abbrev pub ends_in_colon : Text → Bool
ends_in_colon t = ends_with ◌==◌ t (58 ∷ [])

abbrev pub but_last : Text → Text
but_last t = take (length t - 1) t

-- whether a parameter is the attribute of a name, which does not end in a colon
abbrev pub is_attribute : Text → Text → Bool
is_attribute name part = bytes_eq (key part) name

-- whether it is the directive of a name: a colon ends its key
abbrev pub is_directive : Text → Text → Bool
is_directive name part = ends_in_colon (key part) && bytes_eq (trimmed (but_last (key part))) name

-- a text with other bytes between the blanks around it; of blanks alone all stand in front
abbrev pub between_blanks : Text → Text → Text
between_blanks inner text = leading_blanks text ++ (inner ++ trailing_blanks (onward not_blank text))

-- a parameter with another argument
abbrev pub with_argument : Text → Text → Text
with_argument new part = before_mark 61 Outside part ++ (61 ∷ new)

-- whether paths, none of them empty, stand first, and behind a parameter only parameters
abbrev pub are_parts : List Text → Bool
are_parts [] = true
are_parts (p ∷ ps) = cond (is_parameter p) (list_all is_parameter ps) (not (is_empty (trimmed p)) && are_parts ps)

-- whether a clause begins with a path
abbrev pub is_clause : List Text → Bool
is_clause [] = false
is_clause (p ∷ ps) = not (is_parameter p) && are_parts (p ∷ ps)

-- whether a value is in the grammar: each quote is closed, and its clauses have their form
abbrev pub is_in_grammar : Text → Bool
is_in_grammar value = is_closed Outside value && list_all is_clause (clauses value)

-- the first path of a value in the grammar
abbrev pub first_path : Text → Text
first_path value = trimmed (before_mark 59 Outside (before_mark 44 Outside value))

-- ---- arguments in quotes

abbrev pub ends_in_quote : Text → Bool
ends_in_quote list = ends_with ◌==◌ list (34 ∷ [])

-- whether a text stands between two quotes
abbrev pub is_quoted : Text → Bool
is_quoted [] = false
is_quoted (b ∷ t) = b == 34 && ends_in_quote t

-- what stands between them
abbrev pub unquoted : Text → Text
unquoted text = take (length text - 2) (rest text)

abbrev pub quoted : Text → Text
quoted text = 34 ∷ (text ++ 34 ∷ [])
