-- The text at reduced wave vectors.
use Rattle.std.proofs.Common.{◌≡◌, subst₂, List, map}
use Rattle.irr_seitz.specs.PhaseMeaning.{sign_of}
use Rattle.irr_kvec.specs.WaveMeaning.{wave_vector}
use Rattle.irr_close.specs.StandsFor.{stands_for}
use Rattle.irr_mult.specs.declared.part.PairParts.{PairParts}
use Rattle.irr_product.specs.Products.{pair_content}
use Rattle.irr_product.specs.ProductText.{product_text}
use Rattle.irr_top.proofs.ProductTexts.{product_text_at, refused_or_ordered}
use Rattle.irr_top.proofs.product.products_text.Goals as goal

pub unreachable-requires : goal.unreachable-requires
unreachable-requires c =
    let r = rw c.in-Err-OrderTooLarge.field-0-is at c.in-Err-OrderTooLarge.ensures.refused in
    absurd (refused_or_ordered (stands_for c.args.group.now) (wave_vector c.args.k1.now) (wave_vector c.args.k2.now)
    c.args.order c.requires.order c.requires.within r)

pub returns-in_ok-text-in-Ok : goal.returns-in_ok-text-in-Ok
returns-in_ok-text-in-Ok c = product_text_at c.args.group.now (wave_vector c.args.k1.now) (wave_vector c.args.k2.now) c.args.order
    c.requires.reduced c.requires.other_reduced c.requires.order c.in-Ok.pairs.items c.in-Ok.ensures.products
    c.in_ok-text-in-Ok.text.items
    (subst₂ (λ (ps : List PairParts) p. c.in_ok-text-in-Ok.text.items ≡ product_text 1 (sign_of p) record {
      left = wave_vector c.args.k1.now;
      right = wave_vector c.args.k2.now;
      order = c.args.order;
      pairs = map pair_content ps;
    }) c.deref.ensures.value c.phase.ensures c.in_ok-text-in-Ok.ensures)
