use Rattle.std.proofs.Common.{sym, ◌∙◌}
use Rattle.desk_new_pool.proofs.Images.{set_put, length_put, never_there, sought_put, sought_passed}
use Rattle.desk_new_pool.proofs.sought.SoughtImages.of.Goals as goal

pub loop-place-preserved-in-Some : goal.loop-place-preserved-in-Some
loop-place-preserved-in-Some c =
    let put = set_put c.loop-place.images c.insert.new.self c.in-Some.image c.in_ok-insert.ensures.keys in
    record {
      images = sought_put c.args.texts.now c.args.wants.now c.loop-place.place c.get.result c.loop-place-test.true c.get.ensures c.in-Some.image.now _ _ c.in-Some.ensures c.loop-place.invariant.images put;
      lengths = length_put c.loop-place.has_length _ _ c.in-Some.image.now put c.loop-place.invariant.lengths;
    }

pub loop-place-preserved : goal.loop-place-preserved
loop-place-preserved c = record {
  images = sought_passed c.args.texts.now c.args.wants.now c.loop-place.place c.get.result c.loop-place-test.true c.get.ensures _ (sym (never_there c.not_kept.result c.in_default.not-Some) ∙ c.not_kept.ensures) c.loop-place.invariant.images;
  lengths = c.loop-place.invariant.lengths;
}
