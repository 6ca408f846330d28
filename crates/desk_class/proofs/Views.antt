-- What a view of a class keeps, and the fault of bytes that are no class, by what was read of them.
use Rattle.std.proofs.Common.{◌≡◌, ℕ, ◌+◌, ◌<◌, ◌≤◌, List, [], ◌++◌, length, take, drop, Some, None, Result, Ok, Err, sym, ap, subst, ◌∙◌}
use Rattle.std.specs.Int.{w16, from_be_bytes}
use Rattle.desk_base.specs.Spot.{Spot}
use Rattle.desk_base.specs.Names.{Text}
use Rattle.desk_base.specs.Entries.{class_name_at}
use Rattle.desk_base.specs.declared.faults.Malformed.{Malformed}
use Rattle.desk_base.specs.declared.faults.FaultKind.TheVariants as faults
use Rattle.desk_base.specs.declared.faults.ReadFault.{ReadFault}
use Rattle.desk_base.specs.declared.faults.ReadFault.TheVariants as read_faults
use Rattle.desk_base.specs.declared.kinds.Used.{Used}
use Rattle.desk_format.specs.declared.members.Member.{Member}
use Rattle.desk_format.specs.Trees.{uses}
use Rattle.desk_format.specs.Members.{members, first_twins, named_in}
use Rattle.desk_format.specs.ClassBody.{class_body}
use Rattle.desk_format.specs.PoolBytes.{pool_uses}
use Rattle.desk_format.specs.PoolReading.{got, read_pool}
use Rattle.desk_format.specs.Reading.{read}
use Rattle.desk_format.specs.Classes.{Class, Version, header_read, class_of, read_class, fault_in, class_fault, class_uses, entries_at, list_in}
use Rattle.desk_base.specs.Limits.{file_size}
use Rattle.desk_pool.specs.Seen.{Stops, ReadPool}
use Rattle.desk_class.specs.Scan.{Scan, scan}
use Rattle.desk_class.specs.Parts.{class_name, body_at_of, IsRead}
use Rattle.desk_class.specs.Faults.{IsFirst}
use Rattle.desk_format.specs.Laws.{IsBytes}
use Rattle.desk_class.specs.Formed.{AreFormed}
use Rattle.desk_class.proofs.Formed.{formed_class}
use Rattle.desk_class.proofs.Pairs.{second_of}
use Rattle.desk_class.proofs.Wholes.{header_fault, pool_fault, body_fault, trailing_fault, twins_fault, Bodied, bodied, whole}

abbrev pub start_of : List ℕ → Spot
start_of bytes = record { at = 0; left = bytes }

pub first_header : (bytes : List ℕ) (spot : Spot) (f : Malformed) → spot ≡ start_of bytes → header_read spot.at spot.left ≡ Err f → class_fault bytes ≡ Some f
first_header bytes spot f e h = header_fault bytes f (ap (λ (x : Spot). header_read x.at x.left) (sym e) ∙ h)

module _ (bytes : List ℕ) (spot : Spot) (v : Version) (at : ℕ) (s : List ℕ) (begin : spot ≡ start_of bytes) (header : header_read spot.at spot.left ≡ Ok (got v at s)) where
  headed : header_read 0 bytes ≡ Ok (got v at s)
  headed = ap (λ (x : Spot). header_read x.at x.left) (sym begin) ∙ header

  pub first_pool : (e : ReadFault) → Stops e (read_pool at s) → IsFirst (class_fault bytes) e
  first_pool (read_faults.Malformed f) h = pool_fault bytes v at s headed f h
  first_pool read_faults.Memory h = tt

  module _ (pool : ReadPool) (at' : ℕ) (s' : List ℕ) (pooled : read_pool at s ≡ Ok (got pool.entries at' s')) (us : List Used) (ms : List Member) (none : ms ≡ []) where
    abbrev scanning : List Member → Result Scan Malformed
    scanning xs = scan (read pool.entries class_body) (record { uses = us; members = xs; at = at'; left = s' })

    pub first_body : (e : ReadFault) → Stops e (scanning ms) → IsFirst (class_fault bytes) e
    first_body (read_faults.Malformed f) h = body_fault bytes v at s headed pool.entries at' s' pooled us f (ap scanning (sym none) ∙ h)
    first_body read_faults.Memory h = tt

    module _ (scan' : Scan) (scans : scanning ms ≡ Ok scan') where
      whole_body : Bodied bytes v at s headed pool.entries at' s' pooled us scan'
      whole_body = bodied bytes v at s headed pool.entries at' s' pooled us scan' (ap scanning (sym none) ∙ scans)

      pub first_trailing : 0 < length scan'.left → class_fault bytes ≡ Some (record { kind = faults.Trailing; at = scan'.at })
      first_trailing more = trailing_fault bytes v at s headed pool.entries at' s' pooled us scan' whole_body more

      pub first_twin : length scan'.left ≤ 0 → (m : Member) → Some m ≡ second_of (first_twins (named_in pool.entries) scan'.members) → class_fault bytes ≡ Some (record { kind = faults.Twins; at = m.at })
      first_twin end m h = twins_fault bytes v at s headed pool.entries at' s' pooled us scan' whole_body end m h

      module _ (end : length scan'.left ≤ 0) (single : None ≡ second_of (first_twins (named_in pool.entries) scan'.members)) where
        reads : read_class bytes ≡ Ok (class_of v pool.entries at' whole_body.tree)
        reads = whole bytes v at s headed pool.entries at' s' pooled us scan' whole_body end single

        pub is_sound : class_fault bytes ≡ None
        is_sound = ap fault_in reads

        pub is_read : IsBytes bytes → length bytes ≤ file_size → at ≡ 8 → pool.uses ≡ pool_uses (at + 2) pool.entries → us ≡ pool.uses → (body_at : ℕ) → body_at ≡ at' → (i : ℕ) → i ≡ from_be_bytes w16 (take 2 (drop 2 s'))
            → (name : Text) → name ≡ class_name_at pool.entries i → IsRead bytes pool body_at scan'.uses scan'.members name
        is_read b short eight used copied body_at body i this name named =
            let texts : pool.uses ≡ pool_uses entries_at pool.entries = used ∙ ap (λ (n : ℕ). pool_uses (n + 2) pool.entries) eight in
            record {
              short = short;
              sound = is_sound;
              entries = sym (ap (list_in (λ c. c.pool)) reads);
              pool_texts = texts ∙ sym (ap (λ (r : Result Class Malformed). pool_uses entries_at (list_in (λ c. c.pool) r)) reads);
              body = body ∙ sym (ap body_at_of reads);
              texts = sym whole_body.used ∙ ap (λ (vs : List Used). vs ++ uses whole_body.tree) (copied ∙ texts) ∙ sym (ap (list_in class_uses) reads);
              formed = subst (λ (r : Result Class Malformed). AreFormed (list_in (λ c. c.pool) r) (list_in class_uses r)) (sym reads) (formed_class bytes (class_of v pool.entries at' whole_body.tree) b reads);
              fields_and_methods = sym whole_body.members_are ∙ sym (ap (list_in (λ c. members c.body)) reads);
              named = named ∙ ap (class_name_at pool.entries) (this ∙ sym whole_body.this_is) ∙ sym (ap (list_in class_name) reads);
            }
