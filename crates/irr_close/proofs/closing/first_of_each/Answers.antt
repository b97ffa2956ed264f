use Rattle.std.proofs.Common.{rules}
use Rattle.irr_close.specs.Closing.{IsClosingRefusal}
use Rattle.irr_close.proofs.Seeds.{seeds_start, seeds_more, seeds_refused}
use Rattle.irr_close.proofs.closing.first_of_each.Goals as goal

pub loop-generator-init : goal.loop-generator-init
loop-generator-init c = seeds_start c.args.generators.now c.new-seeds.result.items c.new-seeds.ensures.items

pub loop-generator-preserved : goal.loop-generator-preserved
loop-generator-preserved c = seeds_more c.args.generators.now c.loop-generator.seeds.items c.generator-item.result c.keep.new.ops.items
    c.loop-generator.generator-index c.loop-generator-test.true c.generator-item.is c.loop-generator.invariant c.in_ok-keep.ensures.kept

pub returns-in_err-keep-clause-refused : goal.returns-in_err-keep-clause-refused
returns-in_err-keep-clause-refused c =
    let r : IsClosingRefusal c.args.generators.now c.in_err-keep.field-0.0 = seeds_refused c.args.generators.now c.loop-generator.seeds.items
    c.generator-item.result c.in_err-keep.field-0.0 c.loop-generator.generator-index
    c.loop-generator-test.true c.generator-item.is c.loop-generator.invariant c.in_err-keep.ensures.refused in
    search rules
