use Rattle.std.proofs.Common.{◌≡◌, ℕ, suc, List, Option, ◌∷◌, ◌++◌, ◌≤◌, length, take, drop, ap, ◌∙◌, arith, None}
use Rattle.std.proofs.lemmas.List.{append_assoc}
use denote.Ref.{Bor}
use Rattle.desk_base.specs.Names.{Text}
use Rattle.desk_base.specs.Entries.{Pool}
use Rattle.desk_format.specs.PoolBytes.{two, print_slots, pool_uses}
use Rattle.desk_format.specs.Split.{split}
use Rattle.desk_new_pool.specs.Printing.{all_named, renewed, print_texts}
use Rattle.desk_new_pool.proofs.PoolBytes.{all_named-is, pool_printed, split_long, same_texts, then_ok}
use Rattle.desk_new_pool.proofs.printing.append_pool.Goals as goal

pub split_at-requires : goal.split_at-requires
split_at-requires g c =
    let pool : Pool = g.P.PoolView.pool c.args.view.now in
    let long : length pool ≤ length (split c.requires.texts.0 pool) = split_long c.requires.texts.0 pool in
    let size : length c.as_slice-texts.result.now ≡ suc (length (split c.requires.texts.0 pool)) = ap length c.as_slice-texts.ensures.value ∙ c.requires.texts.1.count in
    omega (arith, c.requires.count)

pub append_entries-requires-clause-texts : goal.append_entries-requires-clause-texts
append_entries-requires-clause-texts g c =
    let pool : Pool = g.P.PoolView.pool c.args.view.now in
    same_texts c.requires.texts.0 pool c.args.new.now.texts.items c.split_at.result.0.now c.args.count c.requires.count c.requires.texts.1 (c.split_at.ensures.front ∙ ap (take c.args.count) c.as_slice-texts.ensures.value)

pub append_entries-requires-clause-indices : goal.append_entries-requires-clause-indices
append_entries-requires-clause-indices g c =
    let pool : Pool = g.P.PoolView.pool c.args.view.now in
    let named : all_named pool ≡ length (pool_uses 10 pool) = all_named-is 10 pool in
    let size : length c.as_slice.result.now ≡ length c.args.new.now.indices.items = ap length c.as_slice.ensures.value in
    omega (arith, c.requires.indices)

pub returns : goal.returns
returns g c = λ ws choice rest are indices.
    let pool : Pool = g.P.PoolView.pool c.args.view.now in
    let texts : List (Option (Bor Text)) = c.args.new.now.texts.items in
    let front : c.split_at.result.0.now ≡ take (suc (length pool)) texts = c.split_at.ensures.front ∙ ap (take c.args.count) c.as_slice-texts.ensures.value ∙ ap (λ (n : ℕ). take n texts) c.requires.count in
    let back : c.split_at.result.1.now ≡ drop (suc (length pool)) texts = c.split_at.ensures.back ∙ ap (drop c.args.count) c.as_slice-texts.ensures.value ∙ ap (λ (n : ℕ). drop n texts) c.requires.count in
    let count : c.append_two.new.out ≡ c.args.out.now ++ two (length texts) = c.in_ok-append_two.ensures ∙ ap (λ (l : List (Option (Bor Text))). c.args.out.now ++ two (length l)) c.as_slice-texts.ensures.value in
    let entries : c.append_entries.new.out ≡ c.append_two.new.out ++ print_slots (renewed (take (suc (length pool)) texts) c.args.new.now.indices.items (None ∷ pool)) = c.in_ok-append_entries.ensures
    ∙ ap (λ (l : List (Option (Bor Text))). c.append_two.new.out ++ print_slots (renewed l c.as_slice.result.now (None ∷ pool))) front
    ∙ ap (λ (l : List ℕ). c.append_two.new.out ++ print_slots (renewed (take (suc (length pool)) texts) l (None ∷ pool))) c.as_slice.ensures.value in
    let a : List ℕ = print_slots (renewed (take (suc (length pool)) texts) c.args.new.now.indices.items (None ∷ pool)) in
    let b : List ℕ = print_texts (drop (suc (length pool)) texts) in
    then_ok c.append_texts.result c.append_texts.new.out (c.append_entries.new.out ++ print_texts c.split_at.result.1.now) _ c.append_texts.ensures
    (ap (λ (l : List (Option (Bor Text))). c.append_entries.new.out ++ print_texts l) back ∙ ap (λ (l : List ℕ). l ++ b) (entries ∙ ap (λ (l : List ℕ). l ++ a) count)
    ∙ append_assoc (c.args.out.now ++ two (length texts)) a b ∙ append_assoc c.args.out.now (two (length texts)) (a ++ b)
    ∙ ap (λ (l : List ℕ). c.args.out.now ++ l) (pool_printed choice ws pool texts c.args.new.now.indices.items rest are indices))
