use Rattle.std.proofs.Common.{ap}
use Rattle.std.proofs.lemmas.Result.{err_from_is_err_and}
use Rattle.desk_report.specs.declared.lines.Detail.TheVariants as detail
use Rattle.desk_file.specs.Faults.{file_fault}
use Rattle.desk_file.specs.Linked.{with_links}
use Rattle.desk_file.proofs.ClassImages.{image_made, fault_made, links_fault, reads}
use Rattle.desk_file.proofs.classes.image_of_view.Goals as goal

pub returns-in_err-new-clause-err : goal.returns-in_err-new-clause-err
returns-in_err-new-clause-err c =
    let p = err_from_is_err_and c.from_residual.result c.from_residual.ensures.1 in
    rw (p.1, p.2)
    (links_fault c.args.rules.now c.args.links c.args.view.now (file_fault c.in_err-new.field-0.0)
    (fault_made c.args.rules.now c.args.view.now c.in_err-new.field-0.0 c.bytes-class.ensures.sound c.in_err-new.ensures.refused))

pub returns-clause-ok : goal.returns-clause-ok
returns-clause-ok c =
    ap (with_links c.args.links)
    (image_made c.args.rules.now c.args.view.now (record { bytes = c.in_ok-new.new.bytes; detail = detail.Class c.in_ok-new.new.renamed c.in_ok-new.new.added c.in_ok-new.new.odd 0 })
    c.bytes-class.ensures.sound
    (λ d e. λ i. record { bytes = c.in_ok-new.ensures.bytes d e i; detail = detail.Class (c.in_ok-new.ensures.renamed d e i) (c.in_ok-new.ensures.added d e i) (c.in_ok-new.ensures.odd d e i) 0 })
    c.in_ok-new.ensures.accepted)

pub returns-clause-class : goal.returns-clause-class
returns-clause-class c =
    let new = c.in_ok-new.ensures in
    let r = reads c.args.view.now c.bytes-class.ensures.sound in
    record {
      class = r.class;
      reads = r.is;
      is = new.bytes r.class r.is;
      renamed = new.isomorphic r.class r.is;
      names = new.names r.class r.is;
      again = new.again r.class r.is;
    }
