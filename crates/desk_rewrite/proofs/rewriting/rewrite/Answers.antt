use Rattle.std.proofs.Common.{◌<◌, ◌≤◌, ◌^◌, ℕ, List, length, ap, sym, ◌∙◌, subst, All}
use Rattle.std.specs.List.{AllByRecursion}
use Rattle.std.proofs.lemmas.Result.{err_from_is_err_and}
use Rattle.desk_base.specs.Entries.{Pool}
use Rattle.desk_base.specs.declared.kinds.Used.{Used}
use Rattle.desk_format.specs.Classes.{class_uses}
use Rattle.desk_format.specs.Classes.{uses_in}
use Rattle.desk_class.specs.Parts.{pool_in}
use Rattle.desk_laws.proofs.Bodies.{NamesText}
use Rattle.desk_laws.proofs.Whole.{renamed_classes, unchanged_classes}
use Rattle.desk_laws.specs.Classes.{IsUnchangedClass}
use Rattle.desk_format.specs.NewClass.{new_class}
use Rattle.desk_follow.specs.RuleImages.{images_of}
use Rattle.desk_follow.proofs.Follow.{follow}
use Rattle.desk_rewrite.specs.Wanting.{IsWantedUnder}
use Rattle.desk_rewrite.proofs.Making.{IsWantedIn, wanted_in, wants_in, IsOwnIn, own_in}
use Rattle.desk_rewrite.proofs.Forms.{forms_kept, images_settled}
use Rattle.desk_rewrite.proofs.Parts.{IsKnown, known, IsFound, found}
use Rattle.desk_rewrite.proofs.Unchanged.{no_added, same_bytes, not_refused}
use Rattle.desk_rewrite.proofs.Wanting.{are_wanted, within, wants_few, renamed_are, none_renamed}
use Rattle.desk_rewrite.proofs.rewriting.rewrite.Goals as goal
use Rattle.desk_rewrite.proofs.rewriting.rewrite.Goals.{then-is_empty+in_ok-from_bytes, else-is_empty+in_ok-wants+in_ok-bytes}

pub odd_uses-requires : goal.odd_uses-requires
odd_uses-requires g c =
    let k : IsKnown c.args.view.now = known c.args.view.now c.bytes_of-bytes.ensures.each c.bytes_of-bytes.ensures.sound in
    subst (λ (us : List Used). length us < 2 ^ 32) (sym c.uses-2.ensures) (k.few c.bytes_of-bytes.ensures.short)

pub all_images-requires-clause-few : goal.all_images-requires-clause-few
all_images-requires-clause-few g c =
    let k : IsKnown c.args.view.now = known c.args.view.now c.bytes_of-bytes.ensures.each c.bytes_of-bytes.ensures.sound in
    subst (λ (us : List Used). length us < 2 ^ 32) (sym c.uses.ensures) (k.few c.bytes_of-bytes.ensures.short)

pub all_images-requires-clause-indices : goal.all_images-requires-clause-indices
all_images-requires-clause-indices g c =
    let k : IsKnown c.args.view.now = known c.args.view.now c.bytes_of-bytes.ensures.each c.bytes_of-bytes.ensures.sound in
    subst (λ (us : List Used). All (λ (u : Used). u.index ≤ length c.pool.result.now.entries) us) (sym c.uses.ensures)
    (subst (λ (q : Pool). All (λ (u : Used). u.index ≤ length q) (uses_in c.args.view.now)) (sym c.pool.ensures.entries) (within (pool_in c.args.view.now) (uses_in c.args.view.now) k.named))

pub renamed_uses-renamed-requires : goal.renamed_uses-renamed-requires
renamed_uses-renamed-requires g c =
    let k : IsKnown c.args.view.now = known c.args.view.now c.bytes_of-bytes.ensures.each c.bytes_of-bytes.ensures.sound in
    wants_few c.in_ok-wants.wants (uses_in c.args.view.now) (c.in_ok-wants.ensures.used ∙ c.uses-else-is_empty.ensures) (k.few c.bytes_of-bytes.ensures.short)

pub new_class-requires-clause-shaped : goal.new_class-requires-clause-shaped
new_class-requires-clause-shaped g c = let k : IsKnown c.args.view.now = known c.args.view.now c.bytes_of-bytes.ensures.each c.bytes_of-bytes.ensures.sound in k.shaped

pub new_class-requires-clause-few : goal.new_class-requires-clause-few
new_class-requires-clause-few g c = let k : IsKnown c.args.view.now = known c.args.view.now c.bytes_of-bytes.ensures.each c.bytes_of-bytes.ensures.sound in k.few c.bytes_of-bytes.ensures.short

pub new_class-requires-clause-wants : goal.new_class-requires-clause-wants
new_class-requires-clause-wants g c =
    let k : IsKnown c.args.view.now = known c.args.view.now c.bytes_of-bytes.ensures.each c.bytes_of-bytes.ensures.sound in
    let each : All (IsWantedUnder (images_of c.args.rules.now) (pool_in c.args.view.now)) c.in_ok-wants.wants
    = wants_in (images_of c.args.rules.now) c.in_ok-table.table c.in_ok-wants.wants c.pool.result.now.entries (pool_in c.args.view.now) c.uses.result.now c.uses-else-is_empty.result.now c.pool.ensures.entries (c.uses.ensures ∙ sym c.uses-else-is_empty.ensures) c.in_ok-table.ensures c.in_ok-wants.ensures.each in
    are_wanted (images_of c.args.rules.now) (pool_in c.args.view.now) c.in_ok-wants.wants k.shaped (subst (AllByRecursion (NamesText (pool_in c.args.view.now))) (sym (c.in_ok-wants.ensures.used ∙ c.uses-else-is_empty.ensures)) k.named) each

pub new_class-requires-clause-images : goal.new_class-requires-clause-images
new_class-requires-clause-images g c = (
  images_of c.args.rules.now,
  wants_in (images_of c.args.rules.now) c.in_ok-table.table c.in_ok-wants.wants c.pool.result.now.entries (pool_in c.args.view.now) c.uses.result.now c.uses-else-is_empty.result.now c.pool.ensures.entries (c.uses.ensures ∙ sym c.uses-else-is_empty.ensures) c.in_ok-table.ensures c.in_ok-wants.ensures.each,
)

pub returns-in_err-bytes-clause-refused : goal.returns-in_err-bytes-clause-refused
returns-in_err-bytes-clause-refused g c =
    let p = err_from_is_err_and c.from_residual-in_err-bytes.result c.from_residual-in_err-bytes.ensures.1 in
    rw (p.1, p.2)
    (λ d e.
    let w : IsWantedIn (images_of c.args.rules.now) d c.in_ok-wants.wants c.in_ok-table.table
    = wanted_in (images_of c.args.rules.now) c.args.view.now d c.in_ok-table.table c.in_ok-wants.wants c.pool.result.now.entries c.uses.result.now c.uses-else-is_empty.result.now e c.pool.ensures.entries c.uses.ensures c.uses-else-is_empty.ensures c.in_ok-table.ensures c.in_ok-wants.ensures.used c.in_ok-wants.ensures.each in
    c.in_err-bytes.ensures.refused (images_of c.args.rules.now) d e w.wants w.descriptors)

pub returns-clause-renamed : goal.returns-clause-renamed
returns-clause-renamed g c = λ d e.
    let f : IsFound c.args.view.now d = found c.args.view.now d c.bytes_of-bytes.ensures.each e in
    elim c.if-is_empty.branch [
      | then-is_empty+in_ok-from_bytes v ↦
          let o : IsOwnIn (images_of c.args.rules.now) d
          = own_in (images_of c.args.rules.now) c.args.view.now d c.in_ok-table.table c.pool.result.now.entries c.uses.result.now f e c.pool.ensures.entries c.uses.ensures c.in_ok-table.ensures (c.is_empty.ensures.0 v.if-is_empty.true) in
          ap (λ (x : (List ℕ × ℕ) × ℕ). x.1) v.bytes-is ∙ sym (none_renamed (images_of c.args.rules.now) d.pool (class_uses d) o.each)
      | else-is_empty+in_ok-wants+in_ok-bytes v ↦
          let w : IsWantedIn (images_of c.args.rules.now) d v.in_ok-wants.wants c.in_ok-table.table
          = wanted_in (images_of c.args.rules.now) c.args.view.now d c.in_ok-table.table v.in_ok-wants.wants c.pool.result.now.entries c.uses.result.now v.uses-else-is_empty.result.now e c.pool.ensures.entries c.uses.ensures v.uses-else-is_empty.ensures c.in_ok-table.ensures v.in_ok-wants.ensures.used v.in_ok-wants.ensures.each in
          ap (λ (x : (List ℕ × ℕ) × ℕ). x.1) v.bytes-is ∙ v.renamed_uses-renamed.ensures ∙ renamed_are (images_of c.args.rules.now) d.pool (class_uses d) v.in_ok-wants.wants w.wants.used w.wants.each
    ]

pub returns-clause-bytes : goal.returns-clause-bytes
returns-clause-bytes g c = λ d e.
    let f : IsFound c.args.view.now d = found c.args.view.now d c.bytes_of-bytes.ensures.each e in
    elim c.if-is_empty.branch [
      | then-is_empty+in_ok-from_bytes v ↦
          let o : IsOwnIn (images_of c.args.rules.now) d
          = own_in (images_of c.args.rules.now) c.args.view.now d c.in_ok-table.table c.pool.result.now.entries c.uses.result.now f e c.pool.ensures.entries c.uses.ensures c.in_ok-table.ensures (c.is_empty.ensures.0 v.if-is_empty.true) in
          ap (λ (x : (List ℕ × ℕ) × ℕ). x.0.0) v.bytes-is ∙ v.in_ok-from_bytes.ensures ∙ c.bytes_of-bytes.ensures.bytes ∙ sym (same_bytes (images_of c.args.rules.now) c.args.view.now d f o.wants)
      | else-is_empty+in_ok-wants+in_ok-bytes v ↦
          let w : IsWantedIn (images_of c.args.rules.now) d v.in_ok-wants.wants c.in_ok-table.table
          = wanted_in (images_of c.args.rules.now) c.args.view.now d c.in_ok-table.table v.in_ok-wants.wants c.pool.result.now.entries c.uses.result.now v.uses-else-is_empty.result.now e c.pool.ensures.entries c.uses.ensures v.uses-else-is_empty.ensures c.in_ok-table.ensures v.in_ok-wants.ensures.used v.in_ok-wants.ensures.each in
          ap (λ (x : (List ℕ × ℕ) × ℕ). x.0.0) v.bytes-is ∙ v.in_ok-bytes.ensures.bytes (images_of c.args.rules.now) d e w.wants
    ]

pub returns-clause-added : goal.returns-clause-added
returns-clause-added g c = λ d e.
    let f : IsFound c.args.view.now d = found c.args.view.now d c.bytes_of-bytes.ensures.each e in
    elim c.if-is_empty.branch [
      | then-is_empty+in_ok-from_bytes v ↦
          let o : IsOwnIn (images_of c.args.rules.now) d
          = own_in (images_of c.args.rules.now) c.args.view.now d c.in_ok-table.table c.pool.result.now.entries c.uses.result.now f e c.pool.ensures.entries c.uses.ensures c.in_ok-table.ensures (c.is_empty.ensures.0 v.if-is_empty.true) in
          ap (λ (x : (List ℕ × ℕ) × ℕ). x.0.1) v.bytes-is ∙ sym (ap length (no_added (images_of c.args.rules.now) c.args.view.now d f o.wants))
      | else-is_empty+in_ok-wants+in_ok-bytes v ↦
          let w : IsWantedIn (images_of c.args.rules.now) d v.in_ok-wants.wants c.in_ok-table.table
          = wanted_in (images_of c.args.rules.now) c.args.view.now d c.in_ok-table.table v.in_ok-wants.wants c.pool.result.now.entries c.uses.result.now v.uses-else-is_empty.result.now e c.pool.ensures.entries c.uses.ensures v.uses-else-is_empty.ensures c.in_ok-table.ensures v.in_ok-wants.ensures.used v.in_ok-wants.ensures.each in
          ap (λ (x : (List ℕ × ℕ) × ℕ). x.0.1) v.bytes-is ∙ v.in_ok-bytes.ensures.added (images_of c.args.rules.now) d e w.wants
    ]

pub returns-clause-accepted : goal.returns-clause-accepted
returns-clause-accepted g c = λ d e.
    let f : IsFound c.args.view.now d = found c.args.view.now d c.bytes_of-bytes.ensures.each e in
    elim c.if-is_empty.branch [
      | then-is_empty+in_ok-from_bytes v ↦
          let o : IsOwnIn (images_of c.args.rules.now) d
          = own_in (images_of c.args.rules.now) c.args.view.now d c.in_ok-table.table c.pool.result.now.entries c.uses.result.now f e c.pool.ensures.entries c.uses.ensures c.in_ok-table.ensures (c.is_empty.ensures.0 v.if-is_empty.true) in
          not_refused (images_of c.args.rules.now) c.args.view.now d f o.wants
      | else-is_empty+in_ok-wants+in_ok-bytes v ↦
          let w : IsWantedIn (images_of c.args.rules.now) d v.in_ok-wants.wants c.in_ok-table.table
          = wanted_in (images_of c.args.rules.now) c.args.view.now d c.in_ok-table.table v.in_ok-wants.wants c.pool.result.now.entries c.uses.result.now v.uses-else-is_empty.result.now e c.pool.ensures.entries c.uses.ensures v.uses-else-is_empty.ensures c.in_ok-table.ensures v.in_ok-wants.ensures.used v.in_ok-wants.ensures.each in
          v.in_ok-bytes.ensures.accepted (images_of c.args.rules.now) d e w.wants w.descriptors
    ]

pub returns-clause-isomorphic : goal.returns-clause-isomorphic
returns-clause-isomorphic g c = λ d e.
    renamed_classes (images_of c.args.rules.now) c.args.view.now d (forms_kept c.args.rules.now c.tell_settled.ensures) c.bytes_of-bytes.ensures.each e (returns-clause-accepted g c d e)

pub returns-clause-names : goal.returns-clause-names
returns-clause-names g c = λ d e.
    follow c.args.rules.now c.args.view.now d c.tell_settled.ensures c.bytes_of-bytes.ensures.each e (returns-clause-isomorphic g c d e)

pub returns-clause-again : goal.returns-clause-again
returns-clause-again g c = λ d e.
    subst (λ (b : List ℕ). IsUnchangedClass (images_of c.args.rules.now) b (new_class (images_of c.args.rules.now) d)) (sym (returns-clause-bytes g c d e))
    (unchanged_classes (images_of c.args.rules.now) c.args.view.now d (forms_kept c.args.rules.now c.tell_settled.ensures) (images_settled c.args.rules.now c.tell_settled.ensures)
    c.bytes_of-bytes.ensures.each e (returns-clause-accepted g c d e))
