use Rattle.std.proofs.Common.{All, ◌≡◌, ◌≤◌, length, map}
use Rattle.desk_comparison.specs.Files.{IsNoted, scans_of, source_of}
use Rattle.desk_comparison.proofs.noting.note_files.Given as goal

abbrev pub invariant-loop-file : goal.invariant-loop-file
invariant-loop-file l = record {
  files : map source_of l.kept.items ≡ l.yielded;
  noted : All (IsNoted l.rules) l.kept.items;
  classes : l.classes.items ≡ scans_of l.yielded;
  few : length l.classes.items ≤ length l.yielded;
}
