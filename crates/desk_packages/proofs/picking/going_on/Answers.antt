use Rattle.std.proofs.Common.{get_or, ◌+◌, ◌∙◌, ◌==◌, ap, sym, arith}
use Rattle.std.specs.List.{filter, starts_with}
use Rattle.desk_base.specs.Names.{Text}
use Rattle.desk_packages.specs.Renames.{Renaming, key_of}
use Rattle.desk_packages.specs.Keys.{byte_of}
use Rattle.desk_packages.proofs.Along.{start_of, start_length, start_more, all_left, start_whole}
use Rattle.desk_packages.proofs.picking.going_on.Goals as goal

pub returns : goal.returns
returns c =
    let s = byte_of c.args.separator in
    record {
      table = c.narrowed.ensures.table;
      begin =
          c.narrowed.ensures.narrowed (start_of s c.args.path.now c.args.end) (start_length s c.args.path.now c.args.end c.requires.within) c.requires.alike
          ∙ ap (λ (t : Text). filter (λ (r : Renaming). starts_with ◌==◌ (key_of r) t) c.args.renames.now)
          (sym (start_more s c.args.path.now c.args.end c.spelled.result (omega arith) (rw c.byte.ensures at c.spelled.ensures)));
    }

pub returns-then-end-path : goal.returns-then-end-path
returns-then-end-path c =
    let s = byte_of c.args.separator in
    record {
      table = c.requires.table;
      begin = all_left (λ (r : Renaming). starts_with ◌==◌ (key_of r) (start_of s c.args.path.now (c.args.end + 1))) c.args.renames.now
          (λ k d within. ap (starts_with ◌==◌ (key_of (get_or c.args.renames.now k d))) (start_whole s c.args.path.now c.args.end (omega arith)) ∙ c.requires.alike k d within);
    }
