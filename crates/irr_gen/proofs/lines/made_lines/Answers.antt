-- One more product.
use Rattle.std.proofs.Common.{◌≡◌, ◌<◌, ◌≤◌, ◌+◌, ◌++◌, ◌∷◌, [], sym, subst, length, map, arith}
use Rattle.std.specs.List.{All}
use Rattle.std.proofs.lemmas.List.{length_push}
use Rattle.irr_seitz.specs.OperationMeaning.{operation}
use Rattle.irr_gen.specs.MadeInput.{AreMadeLinesTo, IsDrawnProduct}
use Rattle.irr_gen.specs.Signed.{IsSigned}
use Rattle.irr_gen.proofs.MadeLines.{no_products, pushed_product, all_pushed}
use Rattle.irr_gen.proofs.lines.made_lines.Goals as goal

pub loop-init : goal.loop-init
loop-init c = record {
  some = c.requires.some;
  signed = c.requires.signed;
  made = no_products (map operation c.args.generators.items) c.args.number;
  within = omega arith;
}

pub drawn_product-op-requires-clause-some : goal.drawn_product-op-requires-clause-some
drawn_product-op-requires-clause-some c = subst (λ lines. 0 < length lines) (sym c.deref.ensures.value) c.loop.invariant.some

pub drawn_product-op-requires-clause-signed : goal.drawn_product-op-requires-clause-signed
drawn_product-op-requires-clause-signed c = subst (All IsSigned) (sym c.deref.ensures.value) c.loop.invariant.signed

pub loop-preserved : goal.loop-preserved
loop-preserved c =
    let pushed : c.push.new.self.items ≡ c.loop.lines.items ++ c.drawn_product-op.result ∷ [] = c.in_ok-push.ensures.items in
    let product : IsDrawnProduct c.loop.draws.number (map operation c.loop.lines.items) (operation c.drawn_product-op.result) =
    subst (λ lines. IsDrawnProduct c.loop.draws.number (map operation lines) (operation c.drawn_product-op.result)) c.deref.ensures.value
    c.drawn_product-op.ensures.product in
    record {
      some = subst (λ lines. 0 < length lines) (sym pushed)
          (let l : length (c.loop.lines.items ++ c.drawn_product-op.result ∷ []) ≡ length c.loop.lines.items + 1
          = length_push c.loop.lines.items c.drawn_product-op.result in omega arith);
      signed = all_pushed c.loop.lines.items c.drawn_product-op.result c.push.new.self.items pushed c.loop.invariant.signed
          c.drawn_product-op.ensures.signed;
      made = pushed_product (map operation c.args.generators.items) c.args.number c.loop.counter c.loop.lines.items c.loop.draws.number
          c.drawn_product-op.result c.push.new.self.items c.drawn_product-op.new.draws.number c.loop.invariant.made product pushed
          c.drawn_product-op.ensures.next;
      within = (let l : c.loop.counter < 2000 = c.loop-test.true in omega arith);
    }

pub returns : goal.returns
returns c =
    let w : c.loop.counter ≤ 2000 = c.loop.invariant.within in
    let o : 2000 ≤ c.loop.counter = c.loop-test.false in
    let e : c.loop.counter ≡ 2000 = omega arith in (
      c.loop.draws.number,
      subst (λ k. AreMadeLinesTo (map operation c.args.generators.items) c.args.number k (map operation c.loop.lines.items)
          c.loop.draws.number) e c.loop.invariant.made,
    )
