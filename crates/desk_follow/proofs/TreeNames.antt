-- The class names that a class holds, by what its indices lead to.
use Rattle.std.proofs.Common.{◌≡◌, ℕ, suc, ◌+◌, ◌<◌, ◌≤◌, Bool, true, false, cond, ◌&&◌, nat_eq, List, [], ◌∷◌, ◌++◌, map, length, drop, get_or, Option, Some, None, refl, sym, ap, ap₂, ◌∙◌, append_assoc, append-nil, arith}
use Rattle.std.proofs.lemmas.List.{map-append}
use Rattle.desk_base.specs.Names.{Text}
use Rattle.desk_base.specs.declared.kinds.Role.{Role}
use Rattle.desk_base.specs.declared.kinds.Role.TheVariants as roles
use Rattle.desk_base.specs.declared.kinds.Used.{Used}
use Rattle.desk_base.specs.declared.referents.Referent.{Referent}
use Rattle.desk_base.specs.declared.referents.Referent.TheVariants as referents
use Rattle.desk_base.specs.Entries.{Entry, utf8, integer, float, long, double, class, string, fieldref, methodref, interface_methodref, name_and_type, method_handle, method_type, dynamic, invoke_dynamic, module_named, package_named, Pool, entry_at, text_at}
use Rattle.desk_base.specs.Referents.{referent_of, may_be_none, links, handled}
use Rattle.desk_format.specs.Trees.{Tree, Use, uses, uses_of, text_in_role}
use Rattle.desk_format.specs.Values.{Value, none, text, text_as, number, class_named, string_of, named_typed, member, handle, method_typed, computed, module_called, package_called, value_in, value_within, value_of, value_as}
use Rattle.desk_format.specs.Resolved.{Images, image, resolved, renamed_value, renamed}
use Rattle.desk_format.specs.PoolBytes.{uses_among, pool_uses, size}
use Rattle.desk_format.specs.Split.{entry_of}
use Rattle.desk_laws.proofs.Moved.{handled_all}
use Rattle.desk_class.specs.Held.{names_of, held_by}

pub held-append : (pool : Pool) (us vs : List Used) → held_by pool (us ++ vs) ≡ held_by pool us ++ held_by pool vs
held-append pool [] vs = refl
held-append pool (u ∷ us) vs = ap (λ (ns : List Text). names_of u.role (text_at pool u.index) ++ ns) (held-append pool us vs) ∙ sym (append_assoc (names_of u.role (text_at pool u.index)) (held_by pool us) (held_by pool vs))

-- ---- the body

-- the class names of a text that an index of the body names in a role
abbrev pub body_names : Value → List Text
body_names (text_as role t) = names_of role t
body_names _ = []

pub tree_names : Tree Value → List Text
tree_names Tree.nothing = []
tree_names (Tree.number bytes) = []
tree_names (Tree.raw bytes) = []
tree_names (Tree.code bytes) = []
tree_names (Tree.used v) = body_names v
tree_names (Tree.both a b) = tree_names a ++ tree_names b
tree_names (Tree.member a) = tree_names a

no_role : (v : ℕ → Value) (t : ℕ → Text) (o : Option Entry) → body_names (value_in v t o) ≡ []
no_role v t None = refl
no_role v t (Some (utf8 s)) = refl
no_role v t (Some (integer b)) = refl
no_role v t (Some (float b)) = refl
no_role v t (Some (long b)) = refl
no_role v t (Some (double b)) = refl
no_role v t (Some (class i)) = refl
no_role v t (Some (string i)) = refl
no_role v t (Some (fieldref c n)) = refl
no_role v t (Some (methodref c n)) = refl
no_role v t (Some (interface_methodref c n)) = refl
no_role v t (Some (name_and_type n d)) = refl
no_role v t (Some (method_handle k i)) = refl
no_role v t (Some (method_type d)) = refl
no_role v t (Some (dynamic n i)) = refl
no_role v t (Some (invoke_dynamic n i)) = refl
no_role v t (Some (module_named i)) = refl
no_role v t (Some (package_named i)) = refl

no_role_within : (pool : Pool) (i : ℕ) → body_names (value_of pool i) ≡ []
unfolding value_within
no_role_within pool i = no_role (value_within 2 pool) (text_at pool) (entry_at pool i)

by_target : (pool : Pool) (t : Referent) (at i : ℕ) → held_by pool (uses_of (text_in_role t at i)) ≡ body_names (value_as t pool i)
by_target pool (referents.Text role form) at i = append-nil (names_of role (text_at pool i))
by_target pool (referents.Class form) at i = sym (no_role_within pool i)
by_target pool (referents.NameAndType form) at i = sym (no_role_within pool i)
by_target pool (referents.Entry choice) at i = sym (no_role_within pool i)

by_use : (pool : Pool) (u : Use) (x : Bool) → held_by pool (uses_of (cond x None (text_in_role (referent_of u.kind) u.at u.index))) ≡ body_names (cond x none (value_as (referent_of u.kind) pool u.index))
by_use pool u true = refl
by_use pool u false = by_target pool (referent_of u.kind) u.at u.index

pub body_held : (pool : Pool) (t : Tree Use) → held_by pool (uses t) ≡ tree_names (resolved pool t)
unfolding tree_names
body_held pool Tree.nothing = refl
body_held pool (Tree.number bytes) = refl
body_held pool (Tree.raw bytes) = refl
body_held pool (Tree.code bytes) = refl
body_held pool (Tree.used u) = by_use pool u (may_be_none u.kind && nat_eq u.index 0)
body_held pool (Tree.both a b) = held-append pool (uses a) (uses b) ∙ ap₂ (λ (xs ys : List Text). xs ++ ys) (body_held pool a) (body_held pool b)
body_held pool (Tree.member a) = body_held pool a

-- ---- the pool

-- the class names of the texts that an entry names
abbrev pub entry_names : Value → List Text
entry_names (class_named t) = names_of roles.Class t
entry_names (named_typed n d) = names_of roles.Descriptor d
entry_names (method_typed d) = names_of roles.Descriptor d
entry_names _ = []

abbrev pub slot_names : Pool → Option Entry → List Text
slot_names pool slot = entry_names (value_in (value_within 2 pool) (text_at pool) slot)

unfoldable pub slots_names : Pool → List (Option Entry) → List Text
slots_names pool [] = []
slots_names pool (slot ∷ slots) = slot_names pool slot ++ slots_names pool slots

module _ (pool : Pool) where
  nothing_named : (k : ℕ) (at i : ℕ) → held_by pool (uses_of (text_in_role (handled k) at i)) ≡ []
  nothing_named k at i = handled_all (λ (t : Referent). held_by pool (uses_of (text_in_role t at i)) ≡ []) refl refl refl refl k

  among : (at : ℕ) (e : Entry) → held_by pool (uses_among at (links e)) ≡ slot_names pool (Some e)
  unfolding names_of
  among at (utf8 s) = refl
  among at (integer b) = refl
  among at (float b) = refl
  among at (long b) = refl
  among at (double b) = refl
  among at (class i) = append-nil (names_of roles.Class (text_at pool i))
  among at (string i) = refl
  among at (fieldref c n) = refl
  among at (methodref c n) = refl
  among at (interface_methodref c n) = refl
  among at (name_and_type n d) = append-nil (names_of roles.Descriptor (text_at pool d))
  among at (method_handle k i) = held-append pool (uses_of (text_in_role (handled k) (at + 2) i)) [] ∙ ap (λ (xs : List Text). xs ++ []) (nothing_named k (at + 2) i)
  among at (method_type d) = append-nil (names_of roles.Descriptor (text_at pool d))
  among at (dynamic n i) = refl
  among at (invoke_dynamic n i) = refl
  among at (module_named i) = refl
  among at (package_named i) = refl

  pub pool_held : (at : ℕ) (slots : List (Option Entry)) → held_by pool (pool_uses at slots) ≡ slots_names pool slots
  unfolding slots_names
  pool_held at [] = refl
  pool_held at (None ∷ slots) = pool_held at slots
  pool_held at (Some e ∷ slots) =
      held-append pool (uses_among at (links e)) (pool_uses (at + size e) slots)
      ∙ ap₂ (λ (xs ys : List Text). xs ++ ys) (among at e) (pool_held (at + size e) slots)

-- ---- renaming

module _ (im : Images) (f : Text → Text) (follow : (role : Role) (t : Text) → names_of role (image im role t) ≡ map f (names_of role t)) where
  body_renamed : (v : Value) → body_names (renamed_value im v) ≡ map f (body_names v)
  body_renamed none = refl
  body_renamed (text t) = refl
  body_renamed (text_as role t) = follow role t
  body_renamed (number tag b) = refl
  body_renamed (class_named t) = refl
  body_renamed (string_of t) = refl
  body_renamed (named_typed n d) = refl
  body_renamed (member tag c n) = refl
  body_renamed (handle k v) = refl
  body_renamed (method_typed d) = refl
  body_renamed (computed tag n v) = refl
  body_renamed (module_called t) = refl
  body_renamed (package_called t) = refl

  pub tree_renamed : (t : Tree Value) → tree_names (renamed im t) ≡ map f (tree_names t)
  unfolding tree_names
  tree_renamed Tree.nothing = refl
  tree_renamed (Tree.number bytes) = refl
  tree_renamed (Tree.raw bytes) = refl
  tree_renamed (Tree.code bytes) = refl
  tree_renamed (Tree.used v) = body_renamed v
  tree_renamed (Tree.both a b) = ap₂ (λ (xs ys : List Text). xs ++ ys) (tree_renamed a) (tree_renamed b) ∙ sym (map-append f (tree_names a) (tree_names b))
  tree_renamed (Tree.member a) = tree_renamed a

  pub entry_renamed : (v : Value) → entry_names (renamed_value im v) ≡ map f (entry_names v)
  entry_renamed none = refl
  entry_renamed (text t) = refl
  entry_renamed (text_as role t) = refl
  entry_renamed (number tag b) = refl
  entry_renamed (class_named t) = follow roles.Class t
  entry_renamed (string_of t) = refl
  entry_renamed (named_typed n d) = follow roles.Descriptor d
  entry_renamed (member tag c n) = refl
  entry_renamed (handle k v) = refl
  entry_renamed (method_typed d) = follow roles.Descriptor d
  entry_renamed (computed tag n v) = refl
  entry_renamed (module_called t) = refl
  entry_renamed (package_called t) = refl

-- ---- the slots of two pools

-- an entry that names no text
texts_name_none : (pool : Pool) (ts : List Text) → slots_names pool (map entry_of ts) ≡ []
unfolding slots_names
texts_name_none pool [] = refl
texts_name_none pool (t ∷ ts) = texts_name_none pool ts

-- of two pools the names of the second are the images of those of the first, where slot for slot they are and the rest are texts
pub slots_follow : (f : Text → Text) (old new : Pool) (xs ys : List (Option Entry)) (ts : List Text) → length xs ≤ length ys → drop (length xs) ys ≡ map entry_of ts
    → ((j : ℕ) → j < length xs → slot_names new (get_or ys j None) ≡ map f (slot_names old (get_or xs j None))) → slots_names new ys ≡ map f (slots_names old xs)
unfolding slots_names
slots_follow f old new [] ys ts within rest each = ap (slots_names new) rest ∙ texts_name_none new ts
slots_follow f old new (x ∷ xs) [] ts within rest each = absurd (omega arith)
slots_follow f old new (x ∷ xs) (y ∷ ys) ts within rest each =
    ap₂ (λ (ns ms : List Text). ns ++ ms) (each 0 (omega arith)) (slots_follow f old new xs ys ts (omega arith) rest (λ j h. each (suc j) (omega arith)))
    ∙ sym (map-append f (slot_names old x) (slots_names old xs))
