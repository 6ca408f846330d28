use Rattle.desk_class.proofs.Numbering.{stays}
use Rattle.desk_class.proofs.numbers.TextNumbers.number.Goals as goal

pub returns-clause-stays : goal.returns-clause-stays
returns-clause-stays c = λ texts h is.
    stays texts c.args.self.now (record { by_text = c.number_of_text.new.by_text; by_index = c.keep.new.by_index }) c.args.text.now c.args.index c.in_ok-number.number
    h is c.in_ok-number.ensures.number c.in_ok-number.ensures.keeps c.in_ok-number.ensures.comes c.keep.ensures
