use Rattle.desk_rules.specs.LoadedTexts.{IsLoaded}
use Rattle.desk_rules.proofs.TextTurns.{IsCheckedTo}
use Rattle.desk_rules.proofs.texts.load.Given as goal

abbrev pub invariant-loop-i : goal.invariant-loop-i
invariant-loop-i l = record {
  turn : IsCheckedTo l.files l.names.entries l.i;
  loaded : IsLoaded l.files l.loaded.places.entries l.loaded.rules.items;
}
