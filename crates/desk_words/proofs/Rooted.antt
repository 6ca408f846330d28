-- What roots of words are: their segments are names, and what is written of them are roots and full paths.
use Rattle.std.proofs.Common.{◌≡◌, ℕ, Bool, true, false, List, [], ◌∷◌, ◌++◌, Option, Some, None, refl, sym, ap, ◌∙◌, subst, cond, arith}
use Rattle.std.specs.Prelude.{not, ◌&&◌, ◌==◌, filter, codes, Ok, if◌then◌else◌}
use Rattle.std.specs.List.{list_all, list_any}
use Rattle.std.specs.Option.{option_and_then}
use Rattle.std.specs.Str.{bytes_eq}
use Rattle.std.proofs.lemmas.Bool.{and_parts, and_from, not-true, eq-eqb, or_right, or_left, or_parts}
use Rattle.std.proofs.lemmas.List.Splits.{slice_split_none, slice_split_at}
use Rattle.desk_base.specs.Names.{Text, slash, is_empty, is_whole, written}
use Rattle.desk_base.specs.Paths.{here, top, is_segment, is_relative_path, is_full_path, is_root, written_root, full}
use Rattle.desk_base.proofs.Separated.{none_is, split_whole}
use Rattle.desk_words.specs.declared.roots.Root.{Root}
use Rattle.desk_words.specs.declared.words.Task.{Task}
use Rattle.desk_words.specs.declared.words.Task.TheVariants.{Run, Generate, Calls, Compare, Invert}
use Rattle.desk_options.specs.declared.values.RunValues.{RunValues}
use Rattle.desk_options.specs.declared.values.GenerateValues.{GenerateValues}
use Rattle.desk_options.specs.declared.values.CallsValues.{CallsValues}
use Rattle.desk_options.specs.declared.values.CompareValues.{CompareValues}
use Rattle.desk_options.specs.declared.values.InvertValues.{InvertValues}
use Rattle.desk_options.specs.Values.{run_values, generate_values, calls_values, compare_values, invert_values}
use Rattle.desk_words.specs.Numbers.{workers_of, count_of}
use Rattle.desk_words.specs.Packages.{package_of}
use Rattle.desk_words.specs.Words.{parts, is_upward, is_dropped, named_parts, is_value, is_absolute, root_of, written as written_of, run_of, run_task, generate_of, generate_task, calls_of, calls_task, compare_of, compare_task, invert_of, invert_task, task_of}
use Rattle.desk_words.specs.Words.{overlap, first_nested}
use Rattle.desk_words.specs.declared.roots.Order.{Order}
use Rattle.desk_words.specs.declared.roots.Order.TheVariants as order
use Rattle.desk_words.specs.declared.roots.Query.TheVariants as query
use Rattle.desk_words.specs.Roots.{generate_order, order_apart, order_of_task, order_of_words}
use Rattle.desk_words.specs.Roots.{AreWorkers, IsSound}
use Rattle.desk_words.proofs.Digits.{number_bounds}
use Rattle.desk_words.proofs.Apart.{is_named, before, full_relative, full_absolute, roots_apart as apart_roots}

segment_of : (s : Text) → is_dropped s ≡ false → is_upward s ≡ false → is_whole slash s ≡ true → is_named s ≡ true
segment_of s d u w =
    let n = or_parts (is_empty s) (bytes_eq s here) d in
    and_from _ _ (and_from _ _ (ap not n.0) (and_from _ _ (ap not n.1) (ap not u))) w

named_left : (ps : List Text) → list_all (is_whole slash) ps ≡ true → list_any is_upward ps ≡ false → list_all is_named (filter (λ part. not (is_dropped part)) ps) ≡ true
named_left [] w u = refl
named_left (s ∷ ss) w u = by (named_left ss (and_parts _ _ w).1 (or_parts (is_upward s) (list_any is_upward ss) u).1) (is_dropped s) refl where
  up : (is_upward s ≡ false) × (list_any is_upward ss ≡ false)
  up = or_parts (is_upward s) (list_any is_upward ss) u

  by : list_all is_named (filter (λ part. not (is_dropped part)) ss) ≡ true → (x : Bool) → is_dropped s ≡ x → list_all is_named (filter (λ part. not (is_dropped part)) (s ∷ ss)) ≡ true
  by rest true e = ap (λ x. list_all is_named (cond (not x) (s ∷ filter (λ part. not (is_dropped part)) ss) (filter (λ part. not (is_dropped part)) ss))) e ∙ rest
  by rest false e = ap (λ x. list_all is_named (cond (not x) (s ∷ filter (λ part. not (is_dropped part)) ss) (filter (λ part. not (is_dropped part)) ss))) e
      ∙ and_from _ _ (segment_of s e up.0 (and_parts _ _ w).0) rest

-- the segments of a root that a value names
pub root_named : (text : Text) (root : Root) → root_of text ≡ Some root → list_all is_named root.segments ≡ true
root_named text root e = by (is_value text && not (list_any is_upward (parts text))) refl e where
  by : (x : Bool) → is_value text && not (list_any is_upward (parts text)) ≡ x → (if x then Some (record { absolute = is_absolute text; segments = named_parts text }) else None) ≡ Some root → list_all is_named root.segments ≡ true
  by false f g = cc
  by true f g =
      let h : record { absolute = is_absolute text; segments = named_parts text } ≡ root = cc in
      ap (λ (r : Root). list_all is_named r.segments) (sym h) ∙ named_left (parts text) (split_whole slash text) (not-true _ (and_parts _ _ f).1)

relative_more : (s t : Text) → is_named s ≡ true → is_relative_path t ≡ true → is_relative_path (s ++ (slash ∷ t)) ≡ true
relative_more s t e f =
    let named = and_parts (is_segment s) (is_whole slash s) e in
    ap (list_all is_segment) (slice_split_at (λ b. b == slash) s slash t (none_is slash s named.1) (eq-eqb slash slash refl)) ∙ and_from _ _ named.0 f

relative_one : (s : Text) → is_named s ≡ true → is_relative_path s ≡ true
relative_one s e =
    let named = and_parts (is_segment s) (is_whole slash s) e in
    ap (list_all is_segment) (slice_split_none (λ b. b == slash) s (none_is slash s named.1)) ∙ and_from _ _ named.0 refl

relative_before : (ss : List Text) (p : Text) → list_all is_named ss ≡ true → is_relative_path p ≡ true → is_relative_path (before ss p) ≡ true
relative_before [] p e f = f
relative_before (s ∷ ss) p e f = relative_more s (before ss p) (and_parts _ _ e).0 (relative_before ss p (and_parts _ _ e).1 f)

relative_written : (s : Text) (ss : List Text) → list_all is_named (s ∷ ss) ≡ true → is_relative_path (written slash (s ∷ ss)) ≡ true
relative_written s [] e = relative_one s (and_parts _ _ e).0
relative_written s (t ∷ ss) e = relative_more s (written slash (t ∷ ss)) (and_parts _ _ e).0 (relative_written t ss (and_parts _ _ e).1)

relative_full : (t : Text) → is_relative_path t ≡ true → is_full_path t ≡ true
relative_full [] e = cc
relative_full (b ∷ t) e = or_left _ _ e

absolute_full : (t : Text) → is_relative_path t ≡ true → is_full_path (slash ∷ t) ≡ true
absolute_full t e = or_right (is_relative_path (slash ∷ t)) (is_relative_path t) e

root_by : (a : Bool) (ss : List Text) → list_all is_named ss ≡ true → is_root (written_root a ss) ≡ true
root_by true [] e = refl
root_by false [] e = refl
root_by true (s ∷ ss) e = or_right (bytes_eq (slash ∷ written slash (s ∷ ss)) here) _ (or_right (bytes_eq (slash ∷ written slash (s ∷ ss)) top) _ (absolute_full (written slash (s ∷ ss)) (relative_written s ss e)))
root_by false (s ∷ ss) e = or_right (bytes_eq (written slash (s ∷ ss)) here) _ (or_right (bytes_eq (written slash (s ∷ ss)) top) _ (relative_full (written slash (s ∷ ss)) (relative_written s ss e)))

-- what is written of a root is a root
pub written_is_root : (x : Root) → list_all is_named x.segments ≡ true → is_root (written_of x) ≡ true
written_is_root x e = root_by x.absolute x.segments e

path_by : (a : Bool) (ss : List Text) (p : Text) → list_all is_named ss ≡ true → is_relative_path p ≡ true → is_full_path (full (written_root a ss) p) ≡ true
path_by true ss p e f = ap is_full_path (full_absolute ss p e) ∙ absolute_full (before ss p) (relative_before ss p e f)
path_by false ss p e f = ap is_full_path (full_relative ss p e) ∙ relative_full (before ss p) (relative_before ss p e f)

-- a relative path below a root is a full path
pub full_is_path : (x : Root) (p : Text) → list_all is_named x.segments ≡ true → is_relative_path p ≡ true → is_full_path (full (written_of x) p) ≡ true
full_is_path x p e f = path_by x.absolute x.segments p e f

-- roots of a task, whose segments are names
pub record AreNamed (task : Task) : Type 0 where
  pub rules : Root
  pub from : Root
  pub to : Root
  pub ledger : Root
  pub workers : ℕ
  pub verify : Bool
  pub are_workers : AreWorkers workers
  pub is : task ≡ Run rules from to ledger workers verify
  pub rules_named : list_all is_named rules.segments ≡ true
  pub from_named : list_all is_named from.segments ≡ true
  pub to_named : list_all is_named to.segments ≡ true

-- as many workers as a value asks for
some_workers : (value : Option Text) (n : ℕ) → workers_of value ≡ Some n → AreWorkers n
some_workers None n e = let h : 1 ≡ n = cc in subst AreWorkers h (record { some = omega arith; most = omega arith })
some_workers (Some text) n e = let p = number_bounds 64 text n e in record { some = p.0; most = p.1 }

named_by : (r a b l : Text) (w : Option Text) (or oa ob ol : Option Root) (ow : Option ℕ) (v : Bool) (task : Task) → root_of r ≡ or → root_of a ≡ oa → root_of b ≡ ob → workers_of w ≡ ow → run_of or oa ob ol ow v ≡ Some task → AreNamed task
named_by r a b l w (Some rules) (Some from) (Some to) (Some ledger) (Some workers) v task er ea eb ew e = record {
  rules = rules;
  from = from;
  to = to;
  ledger = ledger;
  workers = workers;
  verify = v;
  are_workers = some_workers w workers ew;
  is = let h : Run rules from to ledger workers v ≡ task = cc in sym h;
  rules_named = root_named r rules er;
  from_named = root_named a from ea;
  to_named = root_named b to eb;
}
named_by r a b l w None oa ob ol ow v task er ea eb ew e = cc
named_by r a b l w (Some rules) None ob ol ow v task er ea eb ew e = cc
named_by r a b l w (Some rules) (Some from) None ol ow v task er ea eb ew e = cc
named_by r a b l w (Some rules) (Some from) (Some to) None ow v task er ea eb ew e = cc
named_by r a b l w (Some rules) (Some from) (Some to) (Some ledger) None v task er ea eb ew e = cc

run_named : (o : Option RunValues) (task : Task) → option_and_then run_task o ≡ Some task → AreNamed task
run_named None task e = cc
run_named (Some values) task e = named_by values.rules values.from values.to values.ledger values.workers _ _ _ _ _ values.verify task refl refl refl refl e

-- a task whose roots are named; the roots that `generate` has are none of words
pub data Named (task : Task) : Type 0 where
  of_run : AreNamed task → Named task
  of_generate : (count workers : ℕ) (sql : Bool) → AreWorkers workers → task ≡ Generate count workers sql → Named task
  of_calls : (from : Root) (segments : List Text) → list_all is_named from.segments ≡ true → task ≡ Calls from segments → Named task
  of_compare : (rules from other : Root) → list_all is_named rules.segments ≡ true → list_all is_named from.segments ≡ true → list_all is_named other.segments ≡ true → task ≡ Compare rules from other → Named task
  of_invert : (rules : Root) → list_all is_named rules.segments ≡ true → task ≡ Invert rules → Named task

generate_named : (o : Option GenerateValues) (task : Task) → option_and_then generate_task o ≡ Some task → Named task
generate_named None task e = cc
generate_named (Some values) task e = by (count_of values.count) (workers_of values.workers) refl e where
  by : (c w : Option ℕ) → workers_of values.workers ≡ w → generate_of c w values.sql ≡ Some task → Named task
  by (Some c) (Some w) k f = of_generate c w values.sql (some_workers values.workers w k) (let h : Generate c w values.sql ≡ task = cc in sym h)
  by None w k f = cc
  by (Some c) None k f = cc

calls_named : (o : Option CallsValues) (task : Task) → option_and_then calls_task o ≡ Some task → Named task
calls_named None task e = cc
calls_named (Some values) task e = by (root_of values.from) (package_of values.«package») refl e where
  by : (r : Option Root) (p : Option (List Text)) → root_of values.from ≡ r → calls_of r p ≡ Some task → Named task
  by (Some from) (Some segments) k f = of_calls from segments (root_named values.from from k) (let h : Calls from segments ≡ task = cc in sym h)
  by None p k f = cc
  by (Some from) None k f = cc

compare_named : (o : Option CompareValues) (task : Task) → option_and_then compare_task o ≡ Some task → Named task
compare_named None task e = cc
compare_named (Some values) task e = by (root_of values.rules) (root_of values.from) (root_of values.other) refl refl refl e where
  by : (r f o : Option Root) → root_of values.rules ≡ r → root_of values.from ≡ f → root_of values.other ≡ o → compare_of r f o ≡ Some task → Named task
  by (Some rules) (Some from) (Some other) j k l g =
      of_compare rules from other (root_named values.rules rules j) (root_named values.from from k) (root_named values.other other l) (let h : Compare rules from other ≡ task = cc in sym h)
  by None f o j k l g = cc
  by (Some rules) None o j k l g = cc
  by (Some rules) (Some from) None j k l g = cc

invert_named : (o : Option InvertValues) (task : Task) → option_and_then invert_task o ≡ Some task → Named task
invert_named None task e = cc
invert_named (Some values) task e = by (root_of values.rules) refl e where
  by : (r : Option Root) → root_of values.rules ≡ r → invert_of r ≡ Some task → Named task
  by (Some rules) k f = of_invert rules (root_named values.rules rules k) (let h : Invert rules ≡ task = cc in sym h)
  by None k f = cc

-- the task of words has such roots
pub task_named : (words : List Text) (task : Task) → task_of words ≡ Some task → Named task
task_named [] task e = cc
task_named (first ∷ behind) task e = by (bytes_eq first (codes "run")) (bytes_eq first (codes "generate")) (bytes_eq first (codes "calls")) (bytes_eq first (codes "compare")) (bytes_eq first (codes "invert")) e where
  by : (x y z v w : Bool) → (if x then option_and_then run_task (run_values behind) else if y then option_and_then generate_task (generate_values behind)
      else if z then option_and_then calls_task (calls_values behind) else if v then option_and_then compare_task (compare_values behind) else if w then option_and_then invert_task (invert_values behind) else None) ≡ Some task → Named task
  by true y z v w f = of_run (run_named (run_values behind) task f)
  by false true z v w f = generate_named (generate_values behind) task f
  by false false true v w f = calls_named (calls_values behind) task f
  by false false false true w f = compare_named (compare_values behind) task f
  by false false false false true f = invert_named (invert_values behind) task f
  by false false false false false f = cc

if_some_no : {X : Type 0} (b : Bool) (x : X) (o : Option X) → (if b then Some x else o) ≡ None → (b ≡ false) × (o ≡ None)
if_some_no true x o e = cc
if_some_no false x o e = (refl, e)

roots_by : (rules from to ledger : Root) (workers : ℕ) (verify : Bool) (given : Order) (o : Option (Root × Root)) → first_nested rules from to ledger ≡ o → list_all is_named rules.segments ≡ true → list_all is_named from.segments ≡ true
    → list_all is_named to.segments ≡ true → AreWorkers workers → order_apart rules from to ledger workers verify o ≡ Ok given → IsSound given
roots_by rules from to ledger workers verify given (Some pair) n fr ff ft w e = cc
roots_by rules from to ledger workers verify given None n fr ff ft w e =
    let is : order.Run (record { rules = written_of rules; from = written_of from; to = written_of to; ledger = written_of ledger; verify = verify }) workers ≡ given = cc in
    let not_from = if_some_no (overlap from to) _ _ n in
    subst IsSound is (
      record {
        rules_is_root = written_is_root rules fr;
        from_is_root = written_is_root from ff;
        below_to = λ p rel. full_is_path to p ft rel;
        apart = apart_roots from to ff ft not_from.0;
        rules_apart = apart_roots rules to fr ft (if_some_no (overlap rules to) _ _ not_from.1).0;
      },
      w,
    )

-- what words ask for is sound
pub order_is_sound : (words : List Text) (given : Order) → order_of_words words ≡ Ok given → IsSound given
order_is_sound words given e = by (task_of words) refl e where
  by : (o : Option Task) → task_of words ≡ o → order_of_task o ≡ Ok given → IsSound given
  by None f g = cc
  by (Some task) f g = with_order (task_named words task f) where
    with_order : Named task → IsSound given
    with_order (of_run n) = roots_by n.rules n.from n.to n.ledger n.workers n.verify given (first_nested n.rules n.from n.to n.ledger) refl n.rules_named n.from_named n.to_named n.are_workers (ap (λ (t : Task). order_of_task (Some t)) (sym n.is) ∙ g)
    with_order (of_generate count workers sql are is) =
        let h : Ok (generate_order count workers sql) ≡ Ok given = ap (λ (t : Task). order_of_task (Some t)) (sym is) ∙ g in
        let k : generate_order count workers sql ≡ given = cc in
        subst IsSound k (generates sql)
      where
        generates : (b : Bool) → IsSound (generate_order count workers b)
        generates true = are
        generates false = are
    with_order (of_calls from segments named is) =
        let h : order_of_task (Some (Calls from segments)) ≡ Ok given = ap (λ (t : Task). order_of_task (Some t)) (sym is) ∙ g in
        let k : order.Query (query.Calls (written_of from) segments) ≡ given = cc in
        subst IsSound k (written_is_root from named)
    with_order (of_compare rules from other rules_named from_named other_named is) =
        let h : order_of_task (Some (Compare rules from other)) ≡ Ok given = ap (λ (t : Task). order_of_task (Some t)) (sym is) ∙ g in
        let k : order.Query (query.Compare (written_of rules) (written_of from) (written_of other)) ≡ given = cc in
        subst IsSound k (written_is_root rules rules_named, (written_is_root from from_named, written_is_root other other_named))
    with_order (of_invert rules named is) =
        let h : order_of_task (Some (Invert rules)) ≡ Ok given = ap (λ (t : Task). order_of_task (Some t)) (sym is) ∙ g in
        let k : order.Query (query.Invert (written_of rules)) ≡ given = cc in
        subst IsSound k (written_is_root rules named)
