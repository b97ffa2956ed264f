use Rattle.std.proofs.Common.{◌∙◌, sym, ap, map}
use Rattle.irr_close.specs.Distinct.{line}
use Rattle.irr_close.proofs.Reduction.{reduced_start, reduced_more}
use Rattle.irr_close.proofs.distinct.distinct.Goals as goal

pub loop-generator-init : goal.loop-generator-init
loop-generator-init c = record {
  seen = c.new-seen.ensures.empty ∙ sym (ap (map line) c.new-kept.ensures.items);
  reduced = reduced_start c.args.generators.now c.new-kept.result.items c.new-kept.ensures.items;
}

pub loop-generator-preserved : goal.loop-generator-preserved
loop-generator-preserved c = record {
  seen = c.in_ok-keep_new.ensures.seen;
  reduced = reduced_more c.args.generators.now c.loop-generator.kept.items c.generator-item.result c.reduced.result c.keep_new.new.kept.items
      c.loop-generator.generator-index
      c.loop-generator-test.true c.generator-item.is c.reduced.ensures c.loop-generator.invariant.reduced c.in_ok-keep_new.ensures.kept;
}
