-- A text is printed by at most one signature of a kind.
use Rattle.std.proofs.Common.{◌≡◌, ℕ, ◌-◌, Bool, true, false, not, ◌&&◌, ◌==◌, List, [], ◌∷◌, ◌++◌, Option, Some, None, refl, sym, ap, ◌∙◌, get_or}
use Rattle.std.specs.Prelude.{if◌then◌else◌}
use Rattle.std.specs.List.{list_all}
use Rattle.std.proofs.lemmas.Bool.{and_parts, and_from, not-true, both_ways, eqb-true}
use Rattle.desk_base.specs.Names.{Text}
use Rattle.desk_base.specs.Descriptors.{is_base, as_is}
use Rattle.desk_base.specs.Signatures.{JavaType, Ref, ClassType, Inner, Args, Arg, Param, Thrown, Signature, SignatureKind, IsSignature, kind_of, is_mark, is_signature_identifier, is_signature_name, java_text, ref_text, class_text, inner_text, args_text, each_text, arg_text, bound_text, bounds_text, each_param, params_text, classes_text, javas_text, result_text, thrown_text, signature_text, is_java, is_ref, is_class, is_inner, is_args, is_each, is_arg, is_bound, is_param, is_result, is_thrown, is_signature}
use Rattle.desk_names.specs.SignatureScan.{has_bound}
use Rattle.desk_names.proofs.Bytes.{name_from, signature_name_is}
use Rattle.desk_names.proofs.Cuts.{Same, head_is, tail_is, cut}
use Rattle.desk_names.proofs.Takes.{other}

-- two texts whose first bytes a test tells apart
clash : (p : ℕ → Bool) (x y : Text) → x ≡ y → p (get_or x 0 0) ≡ true → p (get_or y 0 0) ≡ false → ⊥
clash p x y e h k = both_ways (p (get_or y 0 0)) k (ap (λ (t : Text). p (get_or t 0 0)) (sym e) ∙ h)

-- a text that begins with a mark, kind_of is no `/`
abbrev pub stopped : Text → Bool
stopped [] = false
stopped (x ∷ t) = is_mark x && not (x == 47)

cut_stopped : (n m x y : Text) → name_from is_mark false n ≡ true → name_from is_mark false m ≡ true → stopped x ≡ true → stopped y ≡ true → n ++ x ≡ m ++ y → Same Text n m x y
cut_stopped n m [] y hn hm hx hy e = absurd cc
cut_stopped n m (a ∷ x) [] hn hm hx hy e = absurd cc
cut_stopped n m (a ∷ x) (b ∷ y) hn hm hx hy e =
    let p = and_parts _ _ hx in
    let q = and_parts _ _ hy in
    cut is_mark false false n m a b x y hn hm p.0 (not-true _ p.1) q.0 (not-true _ q.1) e

-- an identifier is a name
no_slash : (b : ℕ) (c v w : Bool) → is_mark b ≡ false → (b == 47) ≡ c → (not (is_mark b) && w) ≡ true → (if c then v else not (is_mark b) && w) ≡ true
no_slash b true v w h e k = absurd (both_ways (is_mark b) h (marks b e))
  where
    marks : (b : ℕ) → (b == 47) ≡ true → is_mark b ≡ true
    marks b e = ap is_mark (eqb-true b 47 e)
no_slash b false v w h e k = k

all_name : (n : Text) → list_all (λ b. not (is_mark b)) n ≡ true → name_from is_mark true n ≡ true
unfolding name_from
all_name [] h = refl
all_name (b ∷ n) h =
    let p = and_parts _ _ h in
    no_slash b (b == 47) (name_from is_mark false n) (name_from is_mark true n) (not-true _ p.0) refl (and_from _ _ p.0 (all_name n p.1))

pub identifier_name : (i : Bool) (n : Text) → is_signature_identifier n ≡ true → name_from is_mark i n ≡ true
unfolding name_from
identifier_name i [] h = absurd cc
identifier_name i (b ∷ n) h =
    let p = and_parts _ _ h in
    no_slash b (b == 47) (i && name_from is_mark false n) (name_from is_mark true n) (not-true _ p.0) refl (and_from _ _ p.0 (all_name n p.1))

-- a class name of a signature, byte by byte
by_bytes : (n : Text) → is_signature_name n ≡ true → name_from is_mark false n ≡ true
by_bytes n h = sym (signature_name_is n) ∙ h

class_first : (p : ℕ → Bool) (v : Bool) → p 76 ≡ v → (c : ClassType) (t : Text) → p (get_or (class_text as_is c t) 0 0) ≡ v
unfolding class_text
class_first p v h (ClassType.named n x i) t = h

ref_first : (p : ℕ → Bool) (v : Bool) → p 76 ≡ v → p 84 ≡ v → p 91 ≡ v → (r : Ref) (t : Text) → p (get_or (ref_text as_is r t) 0 0) ≡ v
unfolding ref_text
ref_first p v h k l (Ref.class c) t = class_first p v h c t
ref_first p v h k l (Ref.variable n) t = k
ref_first p v h k l (Ref.array j) t = l

arg_first : (a : Arg) (t : Text) → (get_or (arg_text as_is a t) 0 0 == 62) ≡ false
unfolding arg_text
arg_first Arg.any t = refl
arg_first (Arg.exactly r) t = ref_first (λ c. c == 62) false refl refl refl r t
arg_first (Arg.extends r) t = refl
arg_first (Arg.super_of r) t = refl

inner_closed : (i : Inner) (s : Text) → (get_or (inner_text as_is i (59 ∷ s)) 0 0 == 60) ≡ false
unfolding inner_text
inner_closed Inner.done s = refl
inner_closed (Inner.dot n x i) s = refl

inner_stopped : (i : Inner) (s : Text) → stopped (inner_text as_is i (59 ∷ s)) ≡ true
unfolding inner_text
inner_stopped Inner.done s = refl
inner_stopped (Inner.dot n x i) s = refl

args_stopped : (x : Args) (t : Text) → stopped t ≡ true → stopped (args_text as_is x t) ≡ true
unfolding args_text
args_stopped Args.none t h = h
args_stopped (Args.more a rest) t h = refl

-- what stands behind a name: its arguments and the inner names
pub behind_stopped : (x : Args) (i : Inner) (s : Text) → stopped (args_text as_is x (inner_text as_is i (59 ∷ s))) ≡ true
behind_stopped x i s = args_stopped x _ (inner_stopped i s)

mutual
  unfolding java_text is_java

  pub one_java : (k : ℕ) (a b : JavaType) (s t : Text) → is_java k a ≡ true → is_java k b ≡ true → java_text as_is a s ≡ java_text as_is b t → Same JavaType a b s t
  one_java k (JavaType.base c) (JavaType.base d) s t h l e = record { first = ap JavaType.base (head_is _ _ _ _ e); left = tail_is _ _ _ _ e }
  one_java k (JavaType.base c) (JavaType.ref r) s t h l e = absurd (clash is_base (c ∷ s) (ref_text as_is r t) e h (ref_first is_base false refl refl refl r t))
  one_java k (JavaType.ref r) (JavaType.base d) s t h l e = absurd (clash is_base (d ∷ t) (ref_text as_is r s) (sym e) l (ref_first is_base false refl refl refl r s))
  one_java k (JavaType.ref r) (JavaType.ref q) s t h l e =
      let w : Same Ref r q s t = one_ref k r q s t h l e in
      record { first = ap JavaType.ref w.first; left = w.left }

  pub one_ref : (k : ℕ) (a b : Ref) (s t : Text) → is_ref k a ≡ true → is_ref k b ≡ true → ref_text as_is a s ≡ ref_text as_is b t → Same Ref a b s t
  one_ref k (Ref.class c) (Ref.class d) s t h l e =
      let w : Same ClassType c d s t = one_class k c d s t h l e in
      record { first = ap Ref.class w.first; left = w.left }
  one_ref k (Ref.class c) (Ref.variable m) s t h l e = absurd (clash (λ c. c == 76) (class_text as_is c s) _ e (class_first (λ c. c == 76) true refl c s) refl)
  one_ref k (Ref.class c) (Ref.array j) s t h l e = absurd (clash (λ c. c == 76) (class_text as_is c s) _ e (class_first (λ c. c == 76) true refl c s) refl)
  one_ref k (Ref.variable n) (Ref.class d) s t h l e = absurd (clash (λ c. c == 76) (class_text as_is d t) _ (sym e) (class_first (λ c. c == 76) true refl d t) refl)
  one_ref k (Ref.variable n) (Ref.variable m) s t h l e =
      let w : Same Text n m (59 ∷ s) (59 ∷ t) = cut_stopped n m (59 ∷ s) (59 ∷ t) (identifier_name false n h) (identifier_name false m l) refl refl (tail_is _ _ _ _ e) in
      record { first = ap Ref.variable w.first; left = tail_is _ _ _ _ w.left }
  one_ref k (Ref.variable n) (Ref.array j) s t h l e = absurd (clash (λ c. c == 84) _ _ e refl refl)
  one_ref k (Ref.array i) (Ref.class d) s t h l e = absurd (clash (λ c. c == 76) (class_text as_is d t) _ (sym e) (class_first (λ c. c == 76) true refl d t) refl)
  one_ref k (Ref.array i) (Ref.variable m) s t h l e = absurd (clash (λ c. c == 91) _ _ e refl refl)
  one_ref k (Ref.array i) (Ref.array j) s t h l e =
      let w : Same JavaType i j s t = one_java k i j s t h l (tail_is _ _ _ _ e) in
      record { first = ap Ref.array w.first; left = w.left }

  pub one_class : (k : ℕ) (a b : ClassType) (s t : Text) → is_class k a ≡ true → is_class k b ≡ true → class_text as_is a s ≡ class_text as_is b t → Same ClassType a b s t
  one_class k (ClassType.named n x i) (ClassType.named m y j) s t h l e =
      let p2 = and_parts _ _ h in
      let p = and_parts _ _ p2.0 in
      let q2 = and_parts _ _ l in
      let q = and_parts _ _ q2.0 in
      let w : Same Text n m (args_text as_is x (inner_text as_is i (59 ∷ s))) (args_text as_is y (inner_text as_is j (59 ∷ t))) = cut_stopped n m _ _ (by_bytes n p.0) (by_bytes m q.0) (behind_stopped x i s) (behind_stopped y j t) (tail_is _ _ _ _ e) in
      let v : Same Args x y (inner_text as_is i (59 ∷ s)) (inner_text as_is j (59 ∷ t)) = one_args k x y _ _ p.1 q.1 (inner_closed i s) (inner_closed j t) w.left in
      let u : Same Inner i j s t = one_inner k i j s t p2.1 q2.1 v.left in
      record { first = ap (λ (z : Text). ClassType.named z x i) w.first ∙ ap (λ (z : Args). ClassType.named m z i) v.first ∙ ap (ClassType.named m y) u.first; left = u.left }

  pub one_inner : (k : ℕ) (a b : Inner) (s t : Text) → is_inner k a ≡ true → is_inner k b ≡ true → inner_text as_is a (59 ∷ s) ≡ inner_text as_is b (59 ∷ t) → Same Inner a b s t
  one_inner k Inner.done Inner.done s t h l e = record { first = refl; left = tail_is _ _ _ _ e }
  one_inner k Inner.done (Inner.dot m y j) s t h l e = absurd (clash (λ c. c == 59) _ _ e refl refl)
  one_inner k (Inner.dot n x i) Inner.done s t h l e = absurd (clash (λ c. c == 46) _ _ e refl refl)
  one_inner k (Inner.dot n x i) (Inner.dot m y j) s t h l e =
      let p2 = and_parts _ _ h in
      let p = and_parts _ _ p2.0 in
      let q2 = and_parts _ _ l in
      let q = and_parts _ _ q2.0 in
      let w : Same Text n m (args_text as_is x (inner_text as_is i (59 ∷ s))) (args_text as_is y (inner_text as_is j (59 ∷ t))) = cut_stopped n m _ _ (identifier_name false n p.0) (identifier_name false m q.0) (behind_stopped x i s) (behind_stopped y j t) (tail_is _ _ _ _ e) in
      let v : Same Args x y (inner_text as_is i (59 ∷ s)) (inner_text as_is j (59 ∷ t)) = one_args k x y _ _ p.1 q.1 (inner_closed i s) (inner_closed j t) w.left in
      let u : Same Inner i j s t = one_inner k i j s t p2.1 q2.1 v.left in
      record { first = ap (λ (z : Text). Inner.dot z x i) w.first ∙ ap (λ (z : Args). Inner.dot m z i) v.first ∙ ap (Inner.dot m y) u.first; left = u.left }

  pub one_args : (k : ℕ) (a b : Args) (s t : Text) → is_args k a ≡ true → is_args k b ≡ true → (get_or s 0 0 == 60) ≡ false → (get_or t 0 0 == 60) ≡ false → args_text as_is a s ≡ args_text as_is b t → Same Args a b s t
  one_args k Args.none Args.none s t h l x y e = record { first = refl; left = e }
  one_args k Args.none (Args.more b bs) s t h l x y e = absurd (clash (λ c. c == 60) _ s (sym e) refl x)
  one_args k (Args.more a rest) Args.none s t h l x y e = absurd (clash (λ c. c == 60) _ t e refl y)
  one_args k (Args.more a rest) (Args.more b bs) s t h l x y e =
      let p2 = and_parts _ _ h in
      let p = and_parts _ _ p2.0 in
      let q2 = and_parts _ _ l in
      let q = and_parts _ _ q2.0 in
      let w : Same Arg a b (each_text as_is rest (62 ∷ s)) (each_text as_is bs (62 ∷ t)) = one_arg (k - 1) a b _ _ p.1 q.1 (tail_is _ _ _ _ e) in
      let v : Same Args rest bs s t = one_each (k - 1) rest bs s t p2.1 q2.1 w.left in
      record { first = ap (λ (z : Arg). Args.more z rest) w.first ∙ ap (Args.more b) v.first; left = v.left }

  pub one_each : (k : ℕ) (a b : Args) (s t : Text) → is_each k a ≡ true → is_each k b ≡ true → each_text as_is a (62 ∷ s) ≡ each_text as_is b (62 ∷ t) → Same Args a b s t
  one_each k Args.none Args.none s t h l e = record { first = refl; left = tail_is _ _ _ _ e }
  one_each k Args.none (Args.more b bs) s t h l e = absurd (clash (λ c. c == 62) _ _ e refl (arg_first b _))
  one_each k (Args.more a rest) Args.none s t h l e = absurd (clash (λ c. c == 62) _ _ (sym e) refl (arg_first a _))
  one_each k (Args.more a rest) (Args.more b bs) s t h l e =
      let p = and_parts _ _ h in
      let q = and_parts _ _ l in
      let w : Same Arg a b (each_text as_is rest (62 ∷ s)) (each_text as_is bs (62 ∷ t)) = one_arg k a b _ _ p.0 q.0 e in
      let v : Same Args rest bs s t = one_each k rest bs s t p.1 q.1 w.left in
      record { first = ap (λ (z : Arg). Args.more z rest) w.first ∙ ap (Args.more b) v.first; left = v.left }

  pub one_arg : (k : ℕ) (a b : Arg) (s t : Text) → is_arg k a ≡ true → is_arg k b ≡ true → arg_text as_is a s ≡ arg_text as_is b t → Same Arg a b s t
  one_arg k Arg.any Arg.any s t h l e = record { first = refl; left = tail_is _ _ _ _ e }
  one_arg k Arg.any (Arg.exactly r) s t h l e = absurd (clash (λ c. c == 42) _ _ e refl (ref_first (λ c. c == 42) false refl refl refl r t))
  one_arg k Arg.any (Arg.extends r) s t h l e = absurd (clash (λ c. c == 42) _ _ e refl refl)
  one_arg k Arg.any (Arg.super_of r) s t h l e = absurd (clash (λ c. c == 42) _ _ e refl refl)
  one_arg k (Arg.exactly q) Arg.any s t h l e = absurd (clash (λ c. c == 42) _ _ (sym e) refl (ref_first (λ c. c == 42) false refl refl refl q s))
  one_arg k (Arg.exactly q) (Arg.exactly r) s t h l e =
      let w : Same Ref q r s t = one_ref k q r s t h l e in
      record { first = ap Arg.exactly w.first; left = w.left }
  one_arg k (Arg.exactly q) (Arg.extends r) s t h l e = absurd (clash (λ c. c == 43) _ _ (sym e) refl (ref_first (λ c. c == 43) false refl refl refl q s))
  one_arg k (Arg.exactly q) (Arg.super_of r) s t h l e = absurd (clash (λ c. c == 45) _ _ (sym e) refl (ref_first (λ c. c == 45) false refl refl refl q s))
  one_arg k (Arg.extends q) Arg.any s t h l e = absurd (clash (λ c. c == 43) _ _ e refl refl)
  one_arg k (Arg.extends q) (Arg.exactly r) s t h l e = absurd (clash (λ c. c == 43) _ _ e refl (ref_first (λ c. c == 43) false refl refl refl r t))
  one_arg k (Arg.extends q) (Arg.extends r) s t h l e =
      let w : Same Ref q r s t = one_ref k q r s t h l (tail_is _ _ _ _ e) in
      record { first = ap Arg.extends w.first; left = w.left }
  one_arg k (Arg.extends q) (Arg.super_of r) s t h l e = absurd (clash (λ c. c == 43) _ _ e refl refl)
  one_arg k (Arg.super_of q) Arg.any s t h l e = absurd (clash (λ c. c == 45) _ _ e refl refl)
  one_arg k (Arg.super_of q) (Arg.exactly r) s t h l e = absurd (clash (λ c. c == 45) _ _ e refl (ref_first (λ c. c == 45) false refl refl refl r t))
  one_arg k (Arg.super_of q) (Arg.extends r) s t h l e = absurd (clash (λ c. c == 45) _ _ e refl refl)
  one_arg k (Arg.super_of q) (Arg.super_of r) s t h l e =
      let w : Same Ref q r s t = one_ref k q r s t h l (tail_is _ _ _ _ e) in
      record { first = ap Arg.super_of w.first; left = w.left }

-- Type parameters. A bound by a class and the name of the next parameter can begin alike: the first mark behind them tells them apart.

-- the first mark of a text
unfoldable pub mark_of : Text → ℕ
mark_of [] = 0
mark_of (b ∷ t) = if is_mark b then b else mark_of t

mark_at : (x : ℕ) (t : Text) → is_mark x ≡ true → mark_of (x ∷ t) ≡ x
unfolding mark_of
mark_at x t h = ap (λ (c : Bool). if c then x else mark_of t) h

mark_past : (b : ℕ) (t : Text) → is_mark b ≡ false → mark_of (b ∷ t) ≡ mark_of t
unfolding mark_of
mark_past b t h = ap (λ (c : Bool). if c then b else mark_of t) h

all_mark : (n t : Text) → list_all (λ b. not (is_mark b)) n ≡ true → mark_of (n ++ t) ≡ mark_of t
all_mark [] t h = refl
all_mark (b ∷ n) t h = mark_past b (n ++ t) (not-true _ (and_parts _ _ h).0) ∙ all_mark n t (and_parts _ _ h).1

identifier_mark : (n t : Text) → is_signature_identifier n ≡ true → mark_of (n ++ t) ≡ mark_of t
identifier_mark [] t h = absurd cc
identifier_mark (b ∷ n) t h = mark_past b (n ++ t) (not-true _ (and_parts _ _ h).0) ∙ all_mark n t (and_parts _ _ h).1

-- neither `:` nor `>`
pub no_bound_end : ℕ → Bool
no_bound_end x = not (x == 58) && not (x == 62)

pub ends_class : Text → Bool
ends_class t = no_bound_end (mark_of t)

name_mark : (i : Bool) (n x : Text) → name_from is_mark i n ≡ true → ends_class x ≡ true → ends_class (n ++ x) ≡ true
unfolding name_from ends_class no_bound_end
name_mark i [] x h k = k
name_mark i (b ∷ n) x h k = go (b == 47) refl h (name_mark true n x)
  where
    go : (c : Bool) → (b == 47) ≡ c → (if c then i && name_from is_mark false n else not (is_mark b) && name_from is_mark true n) ≡ true → (name_from is_mark true n ≡ true → no_bound_end (mark_of x) ≡ true → no_bound_end (mark_of (n ++ x)) ≡ true) → no_bound_end (mark_of (b ∷ (n ++ x))) ≡ true
    go true e h f = ap (λ (y : ℕ). no_bound_end (mark_of (y ∷ (n ++ x)))) (eqb-true b 47 e) ∙ ap no_bound_end (mark_at 47 (n ++ x) refl)
    go false e h f = ap no_bound_end (mark_past b (n ++ x) (not-true _ (and_parts _ _ h).0)) ∙ f (and_parts _ _ h).1 k

inner_mark : (i : Inner) (s : Text) → ends_class (inner_text as_is i (59 ∷ s)) ≡ true
unfolding inner_text ends_class no_bound_end
inner_mark Inner.done s = ap no_bound_end (mark_at 59 s refl)
inner_mark (Inner.dot n x i) s = ap no_bound_end (mark_at 46 _ refl)

args_mark : (x : Args) (t : Text) → ends_class t ≡ true → ends_class (args_text as_is x t) ≡ true
unfolding args_text ends_class no_bound_end
args_mark Args.none t h = h
args_mark (Args.more a rest) t h = ap no_bound_end (mark_at 60 _ refl)

pub ref_mark : (k : ℕ) (r : Ref) (s : Text) → is_ref k r ≡ true → ends_class (ref_text as_is r s) ≡ true
unfolding ref_text is_ref ends_class no_bound_end
ref_mark k (Ref.class (ClassType.named n x i)) s h =
    let p2 = and_parts _ _ h in
    let p = and_parts _ _ p2.0 in
    ap no_bound_end (mark_past 76 (n ++ args_text as_is x (inner_text as_is i (59 ∷ s))) refl) ∙ name_mark false n (args_text as_is x (inner_text as_is i (59 ∷ s))) (by_bytes n p.0) (args_mark x _ (inner_mark i s))
ref_mark k (Ref.variable n) s h = ap no_bound_end (mark_past 84 (n ++ 59 ∷ s) refl ∙ identifier_mark n (59 ∷ s) h ∙ mark_at 59 s refl)
ref_mark k (Ref.array j) s h = ap no_bound_end (mark_at 91 _ refl)

pub params_mark : (k : ℕ) (ps : List Param) (s : Text) → list_all (is_param k) ps ≡ true → ends_class (each_param as_is ps (62 ∷ s)) ≡ false
unfolding each_param ends_class no_bound_end
params_mark k [] s h = ap no_bound_end (mark_at 62 s refl)
params_mark k (p ∷ ps) s h =
    let w = and_parts _ _ (and_parts _ _ (and_parts _ _ h).0).0 in
    ap no_bound_end (identifier_mark p.name _ w.0 ∙ mark_at 58 _ refl)

pub bounds_mark : (rs : List Ref) (t : Text) → ends_class t ≡ false → ends_class (bounds_text as_is rs t) ≡ false
unfolding bounds_text ends_class no_bound_end
bounds_mark [] t h = h
bounds_mark (r ∷ rs) t h = ap no_bound_end (mark_at 58 _ refl)

-- an identifier begins with no mark
identifier_first : (n t : Text) (x : ℕ) → is_signature_identifier n ≡ true → is_mark x ≡ true → (get_or (n ++ t) 0 0 == x) ≡ false
identifier_first [] t x h k = absurd cc
identifier_first (b ∷ n) t x h k = other is_mark true b x (not-true _ (and_parts _ _ h).0) k

params_first : (k : ℕ) (ps : List Param) (s : Text) → list_all (is_param k) ps ≡ true → (get_or (each_param as_is ps (62 ∷ s)) 0 0 == 58) ≡ false
unfolding each_param
params_first k [] s h = refl
params_first k (p ∷ ps) s h =
    let w = and_parts _ _ (and_parts _ _ (and_parts _ _ h).0).0 in
    identifier_first p.name _ 58 w.0 refl

one_bound : (k : ℕ) (a b : Option Ref) (s t : Text) → is_bound k a ≡ true → is_bound k b ≡ true → ends_class s ≡ false → ends_class t ≡ false → bound_text as_is a s ≡ bound_text as_is b t → Same (Option Ref) a b s t
unfolding bound_text is_bound
one_bound k None None s t h l x y e = record { first = refl; left = e }
one_bound k None (Some r) s t h l x y e = absurd (both_ways _ x (ap ends_class e ∙ ref_mark k r t l))
one_bound k (Some q) None s t h l x y e = absurd (both_ways _ y (ap ends_class (sym e) ∙ ref_mark k q s h))
one_bound k (Some q) (Some r) s t h l x y e =
    let w : Same Ref q r s t = one_ref k q r s t h l e in
    record { first = ap (λ (z : Ref). Some z) w.first; left = w.left }

one_bounds : (k : ℕ) (a b : List Ref) (s t : Text) → list_all (is_ref k) a ≡ true → list_all (is_ref k) b ≡ true → (get_or s 0 0 == 58) ≡ false → (get_or t 0 0 == 58) ≡ false → bounds_text as_is a s ≡ bounds_text as_is b t → Same (List Ref) a b s t
unfolding bounds_text
one_bounds k [] [] s t h l x y e = record { first = refl; left = e }
one_bounds k [] (r ∷ rs) s t h l x y e = absurd (clash (λ c. c == 58) _ s (sym e) refl x)
one_bounds k (q ∷ qs) [] s t h l x y e = absurd (clash (λ c. c == 58) _ t e refl y)
one_bounds k (q ∷ qs) (r ∷ rs) s t h l x y e =
    let w : Same Ref q r (bounds_text as_is qs s) (bounds_text as_is rs t) = one_ref k q r _ _ (and_parts _ _ h).0 (and_parts _ _ l).0 (tail_is _ _ _ _ e) in
    let v : Same (List Ref) qs rs s t = one_bounds k qs rs s t (and_parts _ _ h).1 (and_parts _ _ l).1 x y w.left in
    record { first = ap (λ (z : Ref). z ∷ qs) w.first ∙ ap (λ (z : List Ref). r ∷ z) v.first; left = v.left }

same_param : (p q : Param) → p.name ≡ q.name → p.bound ≡ q.bound → p.others ≡ q.others → p ≡ q
same_param p q a b c =
    let one : p ≡ record { name = q.name; bound = p.bound; others = p.others } = ap (λ (n : Text). record { name = n; bound = p.bound; others = p.others }) a in
    let two : record { name = q.name; bound = p.bound; others = p.others } ≡ record { name = q.name; bound = q.bound; others = p.others } = ap (λ (n : Option Ref). record { name = q.name; bound = n; others = p.others }) b in
    let three : record { name = q.name; bound = q.bound; others = p.others } ≡ q = ap (λ (n : List Ref). record { name = q.name; bound = q.bound; others = n }) c in
    one ∙ two ∙ three

pub one_params : (k : ℕ) (a b : List Param) (s t : Text) → list_all (is_param k) a ≡ true → list_all (is_param k) b ≡ true → each_param as_is a (62 ∷ s) ≡ each_param as_is b (62 ∷ t) → Same (List Param) a b s t
unfolding each_param
one_params k [] [] s t h l e = record { first = refl; left = tail_is _ _ _ _ e }
one_params k [] (q ∷ qs) s t h l e =
    let w = and_parts _ _ (and_parts _ _ (and_parts _ _ l).0).0 in
    absurd (clash (λ c. c == 62) _ _ e refl (identifier_first q.name _ 62 w.0 refl))
one_params k (p ∷ ps) [] s t h l e =
    let w = and_parts _ _ (and_parts _ _ (and_parts _ _ h).0).0 in
    absurd (clash (λ c. c == 62) _ _ (sym e) refl (identifier_first p.name _ 62 w.0 refl))
one_params k (p ∷ ps) (q ∷ qs) s t h l e =
    let h3 = and_parts _ _ h in
    let h2 = and_parts _ _ h3.0 in
    let h1 = and_parts _ _ h2.0 in
    let l3 = and_parts _ _ l in
    let l2 = and_parts _ _ l3.0 in
    let l1 = and_parts _ _ l2.0 in
    let rest : Text = each_param as_is ps (62 ∷ s) in
    let more : Text = each_param as_is qs (62 ∷ t) in
    let u : Same Text p.name q.name (58 ∷ bound_text as_is p.bound (bounds_text as_is p.others (each_param as_is ps (62 ∷ s)))) (58 ∷ bound_text as_is q.bound (bounds_text as_is q.others (each_param as_is qs (62 ∷ t)))) = cut_stopped p.name q.name _ _ (identifier_name false p.name h1.0) (identifier_name false q.name l1.0) refl refl e in
    let v : Same (Option Ref) p.bound q.bound (bounds_text as_is p.others (each_param as_is ps (62 ∷ s))) (bounds_text as_is q.others (each_param as_is qs (62 ∷ t))) = one_bound k p.bound q.bound _ _ h1.1 l1.1 (bounds_mark p.others _ (params_mark k ps s h3.1)) (bounds_mark q.others _ (params_mark k qs t l3.1)) (tail_is _ _ _ _ u.left) in
    let w : Same (List Ref) p.others q.others (each_param as_is ps (62 ∷ s)) (each_param as_is qs (62 ∷ t)) = one_bounds k p.others q.others _ _ h2.1 l2.1 (params_first k ps s h3.1) (params_first k qs t l3.1) v.left in
    let z : Same (List Param) ps qs s t = one_params k ps qs s t h3.1 l3.1 w.left in
    record { first = ap (λ (y : Param). y ∷ ps) (same_param p q u.first v.first w.first) ∙ ap (λ (y : List Param). q ∷ y) z.first; left = z.left }

one_params_text : (k : ℕ) (a b : List Param) (s t : Text) → list_all (is_param k) a ≡ true → list_all (is_param k) b ≡ true → (get_or s 0 0 == 60) ≡ false → (get_or t 0 0 == 60) ≡ false → params_text as_is a s ≡ params_text as_is b t → Same (List Param) a b s t
unfolding params_text
one_params_text k [] [] s t h l x y e = record { first = refl; left = e }
one_params_text k [] (q ∷ qs) s t h l x y e = absurd (clash (λ c. c == 60) _ s (sym e) refl x)
one_params_text k (p ∷ ps) [] s t h l x y e = absurd (clash (λ c. c == 60) _ t e refl y)
one_params_text k (p ∷ ps) (q ∷ qs) s t h l x y e = one_params k (p ∷ ps) (q ∷ qs) s t h l (tail_is _ _ _ _ e)

one_classes : (k : ℕ) (a b : List ClassType) → list_all (is_class k) a ≡ true → list_all (is_class k) b ≡ true → classes_text as_is a ≡ classes_text as_is b → a ≡ b
unfolding classes_text
one_classes k [] [] h l e = refl
one_classes k [] (d ∷ ds) h l e = absurd (clash (λ c. c == 76) _ _ (sym e) (class_first (λ c. c == 76) true refl d _) refl)
one_classes k (c ∷ cs) [] h l e = absurd (clash (λ c. c == 76) _ _ e (class_first (λ c. c == 76) true refl c _) refl)
one_classes k (c ∷ cs) (d ∷ ds) h l e =
    let w : Same ClassType c d (classes_text as_is cs) (classes_text as_is ds) = one_class k c d _ _ (and_parts _ _ h).0 (and_parts _ _ l).0 e in
    ap (λ (z : ClassType). z ∷ cs) w.first ∙ ap (λ (z : List ClassType). d ∷ z) (one_classes k cs ds (and_parts _ _ h).1 (and_parts _ _ l).1 w.left)

-- a byte that begins no type
java_first : (x : ℕ) → is_base x ≡ false → (76 == x) ≡ false → (84 == x) ≡ false → (91 == x) ≡ false → (k : ℕ) (j : JavaType) (t : Text) → is_java k j ≡ true → (get_or (java_text as_is j t) 0 0 == x) ≡ false
unfolding java_text is_java
java_first x h a b c k (JavaType.base d) t f = other is_base false d x f h
java_first x h a b c k (JavaType.ref r) t f = ref_first (λ y. y == x) false a b c r t

one_javas : (k : ℕ) (a b : List JavaType) (s t : Text) → list_all (is_java k) a ≡ true → list_all (is_java k) b ≡ true → javas_text as_is a (41 ∷ s) ≡ javas_text as_is b (41 ∷ t) → Same (List JavaType) a b s t
unfolding javas_text
one_javas k [] [] s t h l e = record { first = refl; left = tail_is _ _ _ _ e }
one_javas k [] (j ∷ js) s t h l e = absurd (clash (λ c. c == 41) _ _ e refl (java_first 41 refl refl refl refl k j _ (and_parts _ _ l).0))
one_javas k (i ∷ is) [] s t h l e = absurd (clash (λ c. c == 41) _ _ (sym e) refl (java_first 41 refl refl refl refl k i _ (and_parts _ _ h).0))
one_javas k (i ∷ is) (j ∷ js) s t h l e =
    let w : Same JavaType i j (javas_text as_is is (41 ∷ s)) (javas_text as_is js (41 ∷ t)) = one_java k i j _ _ (and_parts _ _ h).0 (and_parts _ _ l).0 e in
    let v : Same (List JavaType) is js s t = one_javas k is js s t (and_parts _ _ h).1 (and_parts _ _ l).1 w.left in
    record { first = ap (λ (z : JavaType). z ∷ is) w.first ∙ ap (λ (z : List JavaType). j ∷ z) v.first; left = v.left }

one_result : (k : ℕ) (a b : Option JavaType) (s t : Text) → is_result k a ≡ true → is_result k b ≡ true → result_text as_is a s ≡ result_text as_is b t → Same (Option JavaType) a b s t
unfolding result_text is_result
one_result k None None s t h l e = record { first = refl; left = tail_is _ _ _ _ e }
one_result k None (Some j) s t h l e = absurd (clash (λ c. c == 86) _ _ e refl (java_first 86 refl refl refl refl k j t l))
one_result k (Some i) None s t h l e = absurd (clash (λ c. c == 86) _ _ (sym e) refl (java_first 86 refl refl refl refl k i s h))
one_result k (Some i) (Some j) s t h l e =
    let w : Same JavaType i j s t = one_java k i j s t h l e in
    record { first = ap (λ (z : JavaType). Some z) w.first; left = w.left }

one_thrown : (k : ℕ) (a b : List Thrown) → list_all (is_thrown k) a ≡ true → list_all (is_thrown k) b ≡ true → thrown_text as_is a ≡ thrown_text as_is b → a ≡ b
unfolding thrown_text is_thrown
one_thrown k [] [] h l e = refl
one_thrown k [] (Thrown.class d ∷ ds) h l e = absurd (clash (λ c. c == 94) _ _ (sym e) refl refl)
one_thrown k [] (Thrown.variable m ∷ ds) h l e = absurd (clash (λ c. c == 94) _ _ (sym e) refl refl)
one_thrown k (Thrown.class c ∷ cs) [] h l e = absurd (clash (λ c. c == 94) _ _ e refl refl)
one_thrown k (Thrown.variable n ∷ cs) [] h l e = absurd (clash (λ c. c == 94) _ _ e refl refl)
one_thrown k (Thrown.class c ∷ cs) (Thrown.class d ∷ ds) h l e =
    let w : Same ClassType c d (thrown_text as_is cs) (thrown_text as_is ds) = one_class k c d _ _ (and_parts _ _ h).0 (and_parts _ _ l).0 (tail_is _ _ _ _ e) in
    ap (λ (z : ClassType). Thrown.class z ∷ cs) w.first ∙ ap (λ (z : List Thrown). Thrown.class d ∷ z) (one_thrown k cs ds (and_parts _ _ h).1 (and_parts _ _ l).1 w.left)
one_thrown k (Thrown.class c ∷ cs) (Thrown.variable m ∷ ds) h l e = absurd (clash (λ c. c == 76) _ _ (tail_is _ _ _ _ e) (class_first (λ c. c == 76) true refl c _) refl)
one_thrown k (Thrown.variable n ∷ cs) (Thrown.class d ∷ ds) h l e = absurd (clash (λ c. c == 76) _ _ (sym (tail_is _ _ _ _ e)) (class_first (λ c. c == 76) true refl d _) refl)
one_thrown k (Thrown.variable n ∷ cs) (Thrown.variable m ∷ ds) h l e =
    let w : Same Text n m (59 ∷ thrown_text as_is cs) (59 ∷ thrown_text as_is ds) = cut_stopped n m _ _ (identifier_name false n (and_parts _ _ h).0) (identifier_name false m (and_parts _ _ l).0) refl refl (tail_is _ _ _ _ (tail_is _ _ _ _ e)) in
    ap (λ (z : Text). Thrown.variable z ∷ cs) w.first ∙ ap (λ (z : List Thrown). Thrown.variable m ∷ z) (one_thrown k cs ds (and_parts _ _ h).1 (and_parts _ _ l).1 (tail_is _ _ _ _ w.left))

pub one_signature : (k : ℕ) (a b : Signature) → kind_of a ≡ kind_of b → is_signature k a ≡ true → is_signature k b ≡ true → signature_text as_is a ≡ signature_text as_is b → a ≡ b
unfolding signature_text is_signature kind_of
one_signature k (Signature.field q) (Signature.field r) w h l e = ap Signature.field (one_ref k q r [] [] h l e).first
one_signature k (Signature.class ps c cs) (Signature.class qs d ds) w h l e =
    let p = and_parts _ _ h in
    let q = and_parts _ _ l in
    let u : Same (List Param) ps qs (class_text as_is c (classes_text as_is cs)) (class_text as_is d (classes_text as_is ds)) = one_params_text k ps qs _ _ p.0 q.0 (class_first (λ c. c == 60) false refl c _) (class_first (λ c. c == 60) false refl d _) e in
    let v : Same ClassType c d (classes_text as_is cs) (classes_text as_is ds) = one_class k c d _ _ (and_parts _ _ p.1).0 (and_parts _ _ q.1).0 u.left in
    ap (λ (z : List Param). Signature.class z c cs) u.first ∙ ap (λ (z : ClassType). Signature.class qs z cs) v.first ∙ ap (Signature.class qs d) (one_classes k cs ds (and_parts _ _ p.1).1 (and_parts _ _ q.1).1 v.left)
one_signature k (Signature.method ps is r ts) (Signature.method qs js o us) w h l e =
    let p3 = and_parts _ _ h in
    let p2 = and_parts _ _ p3.0 in
    let p1 = and_parts _ _ p2.0 in
    let q3 = and_parts _ _ l in
    let q2 = and_parts _ _ q3.0 in
    let q1 = and_parts _ _ q2.0 in
    let u : Same (List Param) ps qs (40 ∷ javas_text as_is is (41 ∷ result_text as_is r (thrown_text as_is ts))) (40 ∷ javas_text as_is js (41 ∷ result_text as_is o (thrown_text as_is us))) = one_params_text k ps qs _ _ p1.0 q1.0 refl refl e in
    let v : Same (List JavaType) is js (result_text as_is r (thrown_text as_is ts)) (result_text as_is o (thrown_text as_is us)) = one_javas k is js _ _ p1.1 q1.1 (tail_is _ _ _ _ u.left) in
    let x : Same (Option JavaType) r o (thrown_text as_is ts) (thrown_text as_is us) = one_result k r o _ _ p2.1 q2.1 v.left in
    ap (λ (z : List Param). Signature.method z is r ts) u.first ∙ ap (λ (z : List JavaType). Signature.method qs z r ts) v.first ∙ ap (λ (z : Option JavaType). Signature.method qs js z ts) x.first ∙ ap (Signature.method qs js o) (one_thrown k ts us p3.1 q3.1 x.left)
one_signature k (Signature.field q) (Signature.class qs d ds) w h l e = absurd cc
one_signature k (Signature.field q) (Signature.method qs js o us) w h l e = absurd cc
one_signature k (Signature.class ps c cs) (Signature.field r) w h l e = absurd cc
one_signature k (Signature.class ps c cs) (Signature.method qs js o us) w h l e = absurd cc
one_signature k (Signature.method ps is r ts) (Signature.field q) w h l e = absurd cc
one_signature k (Signature.method ps is r ts) (Signature.class qs d ds) w h l e = absurd cc

pub one_signature_tree : (kind : SignatureKind) (text : Text) (a b : Signature) → IsSignature kind text a → IsSignature kind text b → a ≡ b
one_signature_tree kind text a b p q = one_signature 64 a b (p.kind ∙ sym q.kind) p.formed q.formed (p.prints ∙ sym q.prints)

-- whether a bound stands in front, by the first mark
pub bound_by_mark : (t : Text) → has_bound t ≡ ends_class t
unfolding has_bound ends_class no_bound_end mark_of
bound_by_mark [] = refl
bound_by_mark (b ∷ t) = go (is_mark b) (bound_by_mark t)
  where
    go : (c : Bool) → has_bound t ≡ (not (mark_of t == 58) && not (mark_of t == 62)) → (if c then not (b == 58) && not (b == 62) else has_bound t) ≡ (not ((if c then b else mark_of t) == 58) && not ((if c then b else mark_of t) == 62))
    go true h = refl
    go false h = h
