use Rattle.desk_comparison.proofs.Makes.{within_more}
use Rattle.desk_comparison.proofs.made.Made.accept.Goals as goal

pub invariant_of-self : goal.invariant_of-self
invariant_of-self c = record {
  short = within_more c.insert.result c.args.self.now.images.entries c.insert.new.self.entries c.args.target c.args.bytes c.args.self.now.short c.requires c.insert.ensures.entries c.insert.ensures.err;
}
