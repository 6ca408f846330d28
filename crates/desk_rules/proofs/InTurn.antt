-- Reading entries one after another.
use Rattle.std.proofs.Common.{◌≡◌, ◌<◌, ◌≤◌, ◌+◌, ℕ, List, [], ◌∷◌, ◌++◌, length, map, take, drop, get_or, Some, None, Result, Ok, Err, refl, sym, ap, ◌∙◌}
use Rattle.std.specs.Prelude.{slice_get}
use Rattle.std.proofs.lemmas.List.{append-nil, append_assoc, drop_more, drop_all, take_more, take_all, map-append}
use Rattle.std.proofs.lemmas.Option.{slice_get_within, get_or_from_slice_get, slice_get-get_or}
use Rattle.desk_base.specs.Names.{Text}
use Rattle.desk_properties.specs.Properties.{Entry}
use Rattle.desk_entries.specs.declared.faults.EntryFault.{EntryFault}
use Rattle.desk_rules.specs.RuleFiles.{each, with_first, fault_at}
use Rattle.desk_rules.specs.Builds.{IsFaultOf, IsEntryFault}
use Rattle.desk_rules.specs.declared.RuleFault.{RuleFault}
use Rattle.desk_rules.specs.declared.BuildFault.{BuildFault}
use Rattle.desk_rules.specs.declared.BuildFault.TheVariants.{Rules, Memory}

-- what was read, and then what comes
abbrev pub after : {X : Type 0} → List X → Result (List X) RuleFault → Result (List X) RuleFault
after xs (Ok ys) = Ok (xs ++ ys)
after xs (Err fault) = Err fault

module _ {X : Type 0} (file : Text) (read : Text → Text → Result X EntryFault) (es : List Entry) where
  -- what is read of the entries from a place on, behind what was read before
  pub record IsReadTo (key_of : X → Text) (i : ℕ) (xs : List X) : Type 0 where
    pub rest : after xs (each file read (drop i es)) ≡ each file read es
    pub keys : map key_of xs ≡ map (λ e. e.0) (take i es)

  pub read_start : (key_of : X → Text) → IsReadTo key_of 0 []
  read_start key_of = record { rest = nothing_before (each file read es); keys = refl }
    where
      nothing_before : (r : Result (List X) RuleFault) → after [] r ≡ r
      nothing_before (Ok ys) = refl
      nothing_before (Err fault) = refl

  -- an entry stands at each place within
  pub entry_there : (i : ℕ) → slice_get es i ≡ None → i < length es → ⊥
  entry_there i none within = let some : slice_get es i ≡ Some (get_or es i ([], [])) = slice_get-get_or es i ([], []) within in absurd (cc (none, some))

  -- the entry at a place, and those behind it
  here : (i : ℕ) (e : Entry) → slice_get es i ≡ Some e → drop i es ≡ e ∷ drop (i + 1) es
  here i e h = drop_more es i e (slice_get_within es i e h) ∙ ap (λ (x : Entry). x ∷ drop (i + 1) es) (get_or_from_slice_get es i e e h)

  one_after : (xs : List X) (x : X) (key : Text) (rest : Result (List X) RuleFault) → after (xs ++ x ∷ []) rest ≡ after xs (with_first file key (Ok x) rest)
  one_after xs x key (Ok ys) = ap (λ (zs : List X). Ok zs) (append_assoc xs (x ∷ []) ys)
  one_after xs x key (Err fault) = refl

  pub read_more : (key_of : X → Text) (i : ℕ) (xs ys : List X) (e : Entry) (x : X) → IsReadTo key_of i xs → slice_get es i ≡ Some e → read e.0 e.1 ≡ Ok x → key_of x ≡ e.0 → ys ≡ xs ++ x ∷ [] → IsReadTo key_of (i + 1) ys
  read_more key_of i xs ys e x so_far there is key more = record {
    rest = ap (λ (zs : List X). after zs (each file read (drop (i + 1) es))) more ∙ one_after xs x e.0 (each file read (drop (i + 1) es))
        ∙ ap (λ (r : Result X EntryFault). after xs (with_first file e.0 r (each file read (drop (i + 1) es)))) (sym is)
        ∙ ap (λ (l : List Entry). after xs (each file read l)) (sym (here i e there))
        ∙ so_far.rest;
    keys = ap (map key_of) more ∙ map-append key_of xs (x ∷ []) ∙ ap (λ (ks : List Text). ks ++ key_of x ∷ []) so_far.keys
        ∙ ap (λ (k : Text). map (λ (e : Entry). e.0) (take i es) ++ k ∷ []) key
        ∙ sym (map-append (λ (e : Entry). e.0) (take i es) (e ∷ []))
        ∙ ap (map (λ (e : Entry). e.0)) (sym (take_more es i e (slice_get_within es i e there) ∙ ap (λ (x : Entry). take i es ++ x ∷ []) (get_or_from_slice_get es i e e there)));
  }

  -- a fault of an entry is the first
  pub read_fault : (key_of : X → Text) (i : ℕ) (xs : List X) (e : Entry) (at : EntryFault) → IsReadTo key_of i xs → slice_get es i ≡ Some e → read e.0 e.1 ≡ Err at → each file read es ≡ Err (fault_at file e.0 at)
  read_fault key_of i xs e at so_far there is =
      sym so_far.rest
      ∙ ap (λ (l : List Entry). after xs (each file read l)) (here i e there)
      ∙ ap (λ (r : Result X EntryFault). after xs (with_first file e.0 r (each file read (drop (i + 1) es)))) is

  pub refused_at : (key_of : X → Text) (i : ℕ) (xs : List X) (e : Entry) (b : BuildFault) → IsReadTo key_of i xs → slice_get es i ≡ Some e → (key value : Text) → key ≡ e.0 → value ≡ e.1 → IsEntryFault file key (read key value) b → IsFaultOf (each file read es) b
  refused_at key_of i xs e Memory so_far there key value key_is value_is h = tt
  refused_at key_of i xs e (Rules fault) so_far there key value key_is value_is h =
      read_fault key_of i xs e h.at so_far there (ap (λ (t : Text). read t e.1) (sym key_is) ∙ ap (read key) (sym value_is) ∙ h.read_is)
      ∙ ap (λ (f : RuleFault). Err f) (ap (λ (t : Text). fault_at file t h.at) (sym key_is) ∙ sym h.fault_is)

  pub read_end : (key_of : X → Text) (i : ℕ) (xs : List X) → IsReadTo key_of i xs → length es ≤ i → each file read es ≡ Ok xs
  read_end key_of i xs so_far done =
      sym so_far.rest ∙ ap (λ (l : List Entry). after xs (each file read l)) (drop_all i es done) ∙ ap (λ (zs : List X). Ok zs) (append-nil xs)

  pub keys_end : (key_of : X → Text) (i : ℕ) (xs : List X) → IsReadTo key_of i xs → length es ≤ i → map key_of xs ≡ map (λ e. e.0) es
  keys_end key_of i xs so_far done = so_far.keys ∙ ap (map (λ (e : Entry). e.0)) (take_all i es done)
