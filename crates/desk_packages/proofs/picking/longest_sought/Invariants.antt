use Rattle.desk_packages.specs.Keys.{byte_of}
use Rattle.desk_packages.proofs.Along.{IsLeftAt}
use Rattle.desk_packages.proofs.LastBelow.{IsFoundBefore}
use Rattle.desk_packages.proofs.picking.longest_sought.Given as goal

abbrev pub invariant-loop-end : goal.invariant-loop-end
invariant-loop-end l = record {
  left : IsLeftAt l.renames (byte_of l.separator) l.path l.end l.rest;
  found_before : IsFoundBefore (λ r. r.now) l.renames (byte_of l.separator) l.path l.sought l.end l.found;
}
