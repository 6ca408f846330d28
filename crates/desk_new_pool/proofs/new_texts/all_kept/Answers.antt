use Rattle.std.proofs.Common.{refl}
use Rattle.desk_new_pool.proofs.Made.{all_kept, none_full}
use Rattle.desk_new_pool.proofs.new_texts.all_kept.Goals as goal

pub returns-clause-split : goal.returns-clause-split
returns-clause-split c = all_kept c.args.texts.items c.args.wants.now _ c.requires.kept refl c.in_ok-indices.ensures

pub returns-clause-room : goal.returns-clause-room
returns-clause-room c = none_full c.args.texts.items c.args.wants.now c.requires.count c.requires.kept
