use Rattle.desk_names.proofs.Pieces.{joins_text, prints_exchanged, kept_exchanged}
use Rattle.desk_names.proofs.PieceNames.{names_are}
use Rattle.desk_names.proofs.laws.parts_of_descriptors_exchange.Goals as goal

pub returns : goal.returns
returns c = record { joins = joins_text; names = names_are; prints = prints_exchanged; kept = kept_exchanged }
