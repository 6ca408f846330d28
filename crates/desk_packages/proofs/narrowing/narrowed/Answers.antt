use Rattle.std.proofs.Common.{◌-◌, length}
use Rattle.desk_packages.specs.Renames.{key_of}
use Rattle.desk_packages.proofs.Narrowed.{table_drop, table_take, narrowed_rest}
use Rattle.desk_packages.proofs.narrowing.narrowed.Goals as goal

pub returns : goal.returns
returns c =
    let xs = c.args.renames.now in
    let i = c.count_below.result in
    record {
      table = table_take _ c.count_below-2.result (table_take _ (length xs - i) (table_drop xs i c.requires));
      narrowed = λ start here all.
          let limit = c.from-limit.ensures in
          narrowed_rest key_of xs start c.args.byte i c.count_below-2.result all
          (rw limit at (c.count_below.ensures.cut start here all))
          (λ rest. rw limit at (c.count_below-2.ensures.cut start here rest));
    }
