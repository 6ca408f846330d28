use Rattle.std.proofs.Common.{◌≡◌, ◌++◌, take}
use Rattle.std.specs.List.{flat_map}
use Rattle.desk_sites.specs.Lines.{site_line}
use Rattle.desk_sites.proofs.lines.append_sites.Given as goal

abbrev pub invariant-loop-site : goal.invariant-loop-site
invariant-loop-site l = l.lines ≡ l.fn.lines ++ flat_map (site_line l.path l.pool.entries) (take l.site-index l.sites)
