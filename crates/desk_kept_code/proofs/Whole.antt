-- The code arrays of a class and of its new class.
use Rattle.std.proofs.Common.{◌≡◌, ℕ, ◌+◌, ◌<◌, List, [], ◌++◌, length, take, drop, Ok, refl, sym, ap, subst, ◌∙◌, append-nil, arith, length-append}
use Rattle.std.specs.List.{AllZip}
use Rattle.std.proofs.lemmas.List.{drop_at}
use Rattle.desk_format.specs.Trees.{IsPlaced, uses, print}
use Rattle.desk_format.specs.Resolved.{Images}
use Rattle.desk_format.specs.PoolBytes.{two, print_pool}
use Rattle.desk_format.specs.Laws.{IsBytes}
use Rattle.desk_format.specs.Exchange.{exchange, patch}
use Rattle.desk_format.specs.Classes.{Class, magic, read_class, list_in, class_uses}
use Rattle.desk_format.specs.NewClass.{ResolvedClass, pool_of, new_body_at, change_of, new_class, new_bytes}
use Rattle.desk_format.proofs.Patched.{patch_tree}
use Rattle.desk_laws.specs.Classes.{IsPrintedClass, IsRenamedClass}
use Rattle.desk_laws.proofs.Whole.{printed_classes, renamed_classes}
use Rattle.desk_code.specs.declared.places.CodeAt.{CodeAt}
use Rattle.desk_code.specs.Codes.{codes_of, codes_in, code_bytes}
use Rattle.desk_code.specs.Instructions.{instructions_of}
use Rattle.desk_code.proofs.Whole.{placed_members}
use Rattle.desk_kept_code.specs.Kept.{IsKeptCode, KeptCodes}
use Rattle.desk_kept_code.proofs.Instructions.{same_instructions, in_instructions}
use Rattle.desk_kept_code.proofs.Arrays.{zip_each, Stands}
use Rattle.desk_kept_code.proofs.Methods.{leads_of, IsMoved, moved_codes}

module _ (im : Images) (bytes : List ℕ) (c : Class) (b : IsBytes bytes) (reads : read_class bytes ≡ Ok c) (p : IsPrintedClass bytes c) (r : IsRenamedClass im bytes c) where
  abbrev Front : List ℕ
  Front = magic ++ two c.minor ++ two c.major

  front_long : length (Front ++ print_pool c.pool) ≡ c.body_at
  front_long = let eight : length Front ≡ 8 = refl in omega (arith, length-append Front (print_pool c.pool), eight, p.behind)

  body_behind : drop c.body_at bytes ≡ print c.body
  body_behind = ap (drop c.body_at) p.prints ∙ drop_at (Front ++ print_pool c.pool) (print c.body) c.body_at front_long

  stands_old : Stands bytes c.body_at (print c.body)
  stands_old = record { rest = []; is = body_behind ∙ sym (append-nil (print c.body)) }

  -- ---- the new bytes

  front_kept : length (take 8 bytes) ≡ 8
  front_kept = ap (λ (s : List ℕ). length (take 8 s)) p.prints ∙ refl

  patched : patch (change_of im c).index c.body_at (uses c.body) (drop c.body_at bytes) ≡ print (exchange (change_of im c) c.body) ++ []
  patched =
      let here : IsPlaced (c.body_at + 0) c.body = subst (λ (n : ℕ). IsPlaced n c.body) (omega arith) p.places in
      ap (patch (change_of im c).index c.body_at (uses c.body)) (body_behind ∙ sym (append-nil (print c.body)))
      ∙ patch_tree (change_of im c) c.body_at c.body [] [] here

  stands_new : Stands (new_bytes im bytes c) (new_body_at im c) (print (exchange (change_of im c) c.body))
  stands_new = record {
    rest = [];
    is = drop_at (take 8 bytes ++ print_pool (pool_of im c)) (patch (change_of im c).index c.body_at (uses c.body) (drop c.body_at bytes)) (new_body_at im c)
        (omega (arith, length-append (take 8 bytes) (print_pool (pool_of im c)), front_kept))
        ∙ patched;
  }

  -- ---- the arrays

  moved_class : AllZip (IsMoved im c.pool (pool_of im c) (change_of im c) bytes (new_bytes im bytes c)) (codes_of c) (codes_of (new_class im c))
  moved_class =
      let some : 0 < c.body_at = omega (arith, p.behind) in
      moved_codes im c.pool (pool_of im c) (change_of im c) bytes (new_bytes im bytes c) some c.body c.body_at (new_body_at im c) (omega arith) (omega arith)
      (placed_members bytes c b reads) (leads_of im c.pool (pool_of im c) (change_of im c) c.body (ap (λ (x : ResolvedClass). x.body) r.tree)) stands_old stands_new

  kept_code : (o n : CodeAt) → IsMoved im c.pool (pool_of im c) (change_of im c) bytes (new_bytes im bytes c) o n → IsKeptCode im bytes c o n
  kept_code o n h = record {
    member = h.member;
    name = h.name;
    descriptor = h.descriptor;
    at = h.at;
    size = h.size;
    bytes_stay = h.code;
    reads = ap (instructions_of (pool_of im c)) h.code ∙ same_instructions im c.pool (pool_of im c) (class_uses c) r.pool 0 0 (code_bytes bytes o);
    values = in_instructions im c.pool (pool_of im c) (class_uses c) r.pool 0 0 (code_bytes bytes o);
  }

  kept_class : AllZip (IsKeptCode im bytes c) (codes_of c) (codes_of (new_class im c))
  kept_class = zip_each (IsMoved im c.pool (pool_of im c) (change_of im c) bytes (new_bytes im bytes c)) (IsKeptCode im bytes c) kept_code (codes_of c) (codes_of (new_class im c)) moved_class

pub kept_codes : KeptCodes
kept_codes im bytes c keeps b reads accepted =
    let r : IsRenamedClass im bytes c = renamed_classes im bytes c keeps b reads accepted in
    let old : codes_in bytes ≡ codes_of c = ap (list_in codes_of) reads in
    let new : codes_in (new_bytes im bytes c) ≡ codes_of (new_class im c) = ap (list_in codes_of) r.reads in
    subst (λ (os : List CodeAt). AllZip (IsKeptCode im bytes c) os (codes_in (new_bytes im bytes c))) (sym old)
    (subst (λ (ns : List CodeAt). AllZip (IsKeptCode im bytes c) (codes_of c) ns) (sym new)
    (kept_class im bytes c b reads (printed_classes bytes c b reads) r))
