use Rattle.std.proofs.Common.{◌≡◌, sym, subst, length, arith, rules}
use Rattle.irr_seitz.specs.OperationMeaning.{operation}
use Rattle.irr_close.specs.Closing.{IsGenerator, IsKept, HasProducts, IsClosingRefusal}
use Rattle.irr_close.proofs.Keeping.{kept_at, small_denominator, small_multiple, IsProductOf, product_kept, product_generated, with_new-longer, with_new-partial, longer_trans, more_products, refused, first_products}
use Rattle.irr_close.proofs.closing.multiply.Goals as goal

pub product-requires-clause-small : goal.product-requires-clause-small
product-requires-clause-small c = small_denominator c.args.generators.now c.index.result.now c.requires.denominator
    (kept_at c.args.generators.now c.args.ops.now.items c.index.result.now c.args.i c.requires.partial c.requires.place c.index.ensures)

pub product-requires-clause-denominator : goal.product-requires-clause-denominator
product-requires-clause-denominator c = λ m h. small_multiple c.args.generators.now c.index.result.now c.generator-item.result
    c.loop-generator.generator-index m c.requires.denominator
    (kept_at c.args.generators.now c.args.ops.now.items c.index.result.now c.args.i c.requires.partial c.requires.place c.index.ensures)
    c.loop-generator-test.true c.generator-item.is h

pub product-requires-clause-generator : goal.product-requires-clause-generator
product-requires-clause-generator c = subst IsGenerator (sym c.generator-item.is)
    (c.requires.generators c.loop-generator.generator-index c.generator-item.result c.loop-generator-test.true)

pub loop-generator-preserved : goal.loop-generator-preserved
loop-generator-preserved c =
    let k : IsKept c.args.generators.now c.index.result.now = kept_at c.args.generators.now c.args.ops.now.items c.index.result.now c.args.i
    c.requires.partial c.requires.place c.index.ensures in
    let p : IsProductOf c.args.generators.now c.index.result.now c.generator-item.result c.product.result = record {
      place = c.loop-generator.generator-index;
      below = c.loop-generator-test.true;
      is = c.generator-item.is;
      rotation = c.product.ensures.rotation;
      in_cell = c.product.ensures.in_cell;
      divides = c.product.ensures.divides;
      whole = c.product.ensures.whole;
    } in
    record {
      longer = longer_trans c.args.ops.now.items c.loop-generator.ops.items c.keep.new.ops.items c.loop-generator.invariant.longer
          (with_new-longer c.loop-generator.ops.items c.product.result c.keep.new.ops.items c.in_ok-keep.ensures.kept);
      partial = with_new-partial c.args.generators.now c.loop-generator.ops.items c.product.result c.keep.new.ops.items
          c.loop-generator.invariant.partial (product_kept c.args.generators.now c.index.result.now c.generator-item.result c.product.result k p)
          c.in_ok-keep.ensures.kept;
      products = more_products c.args.generators.now c.loop-generator.ops.items c.keep.new.ops.items (operation c.index.result.now).rotation
          c.generator-item.result c.product.result c.loop-generator.generator-index
          c.generator-item.is c.loop-generator-test.true c.product.ensures.rotation c.in_ok-keep.ensures.kept c.loop-generator.invariant.products;
    }

pub returns-in_err-keep-clause-refused : goal.returns-in_err-keep-clause-refused
returns-in_err-keep-clause-refused c =
    let k : IsKept c.args.generators.now c.index.result.now = kept_at c.args.generators.now c.args.ops.now.items c.index.result.now c.args.i
    c.requires.partial c.requires.place c.index.ensures in
    let p : IsProductOf c.args.generators.now c.index.result.now c.generator-item.result c.product.result = record {
      place = c.loop-generator.generator-index;
      below = c.loop-generator-test.true;
      is = c.generator-item.is;
      rotation = c.product.ensures.rotation;
      in_cell = c.product.ensures.in_cell;
      divides = c.product.ensures.divides;
      whole = c.product.ensures.whole;
    } in
    let r : IsClosingRefusal c.args.generators.now c.in_err-keep.field-0.0 = refused c.args.generators.now c.loop-generator.ops.items c.product.result
    c.in_err-keep.field-0.0 c.loop-generator.invariant.partial
    (product_generated c.args.generators.now c.index.result.now c.generator-item.result c.product.result k p) c.in_err-keep.ensures.refused in
    search rules

pub returns-clause-products : goal.returns-clause-products
returns-clause-products c = λ d. first_products c.args.generators.now c.args.ops.now.items c.loop-generator.ops.items c.index.result.now c.args.i d
    c.requires.place c.index.ensures c.loop-generator.invariant.longer
    (let l : length c.args.generators.now ≡ c.loop-generator.generator-index = omega
    arith in subst (HasProducts c.loop-generator.ops.items (operation c.index.result.now).rotation c.args.generators.now) (sym l)
    c.loop-generator.invariant.products)
