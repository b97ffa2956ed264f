-- One more translation.
use Rattle.std.proofs.Common.{◌∙◌, sym, ap, subst, append-nil, ◌++◌, List, map}
use Rattle.std.specs.List.{All}
use Rattle.std.proofs.lemmas.List.{take_all}
use Rattle.std.proofs.lemmas.List.Elements.{All-push}
use Rattle.irr_space.specs.Operation.{translation}
use Rattle.irr_space.specs.CanonicalOperation.{IsInCell}
use Rattle.irr_seitz.specs.OperationMeaning.{operation}
use Rattle.irr_rat.specs.VectorMeaning.{vector}
use Rattle.irr_rat.specs.declared.vec3.Vec3.{Vec3}
use Rattle.irr_star.specs.Sizes.{HasSmallVector}
use Rattle.irr_full_text.proofs.Translations.{mapped_step, small_moved}
use Rattle.irr_full_text.proofs.generating.push_translations.Goals as goal

pub loop-vector-init : goal.loop-vector-init
loop-vector-init c = (sym (append-nil (map operation c.args.ops.now.items)), λ all. all)

pub loop-vector-preserved : goal.loop-vector-preserved
loop-vector-preserved c =
    let x = c.vector-item.result in
    let g = c.translation.result in
    let items = c.loop-vector.ops.items in (
      ap (map operation) c.in_ok-push.ensures.items
          ∙ mapped_step operation (λ (v : Vec3). translation (vector v)) c.args.ops.now.items items g c.args.by.now
          c.loop-vector.vector-index x
          c.loop-vector-test.true c.vector-item.is c.loop-vector.invariant.0 c.translation.ensures.is,
      λ all. subst (All HasSmallVector) (sym c.in_ok-push.ensures.items)
          (All-push HasSmallVector items g (c.loop-vector.invariant.1 all)
          (small_moved g x c.translation.ensures.num c.translation.ensures.den
          (subst (λ (v : Vec3). IsInCell (vector v)) (sym c.vector-item.is)
          (c.requires c.loop-vector.vector-index x c.loop-vector-test.true)))),
    )

pub returns-clause-are : goal.returns-clause-are
returns-clause-are c = c.loop-vector.invariant.0
    ∙ ap (λ (vs : List Vec3). map operation c.args.ops.now.items ++ map (λ (v : Vec3). translation (vector v)) vs)
    (take_all c.loop-vector.vector-index c.args.by.now c.loop-vector-test.false)
