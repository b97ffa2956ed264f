-- The component of an operation.
use Rattle.std.proofs.Common.{◌∙◌, ap, ap₂, [], w16, w64, to_z, of_z, pos, rules, slice_index_or}
use mir.Val.{SFits}
use Rattle.std.proofs.lemmas.Int.{to_z-of_z}
use Rattle.irr_rational.specs.Rational.{ratio}
use Rattle.irr_triplet.specs.Terms.{terms_text}
use Rattle.irr_triplet.proofs.TermTexts.{terms-component}
use Rattle.irr_triplet.proofs.component.Component.of.Goals as goal

pub returns : goal.returns
returns c = λ p e.
    let fx : SFits w16 (slice_index_or (slice_index_or c.args.op.now.rot c.args.i []) 0 (pos 0)) = search rules in
    let fy : SFits w16 (slice_index_or (slice_index_or c.args.op.now.rot c.args.i []) 1 (pos 0)) = search rules in
    let fz : SFits w16 (slice_index_or (slice_index_or c.args.op.now.rot c.args.i []) 2 (pos 0)) = search rules in
    let fs : SFits w64 (slice_index_or c.args.op.now.num c.args.i (pos 0)) = search rules in
    ap₂ (λ x y. terms_text x y (to_z w16 (of_z w16 (slice_index_or (slice_index_or c.args.op.now.rot c.args.i []) 2 (pos 0)))) c.new-shift.result.num c.new-shift.result.den) (to_z-of_z w16 _ fx) (to_z-of_z w16 _ fy)
    ∙ ap (λ z. terms_text (slice_index_or (slice_index_or c.args.op.now.rot c.args.i []) 0 (pos 0)) (slice_index_or (slice_index_or c.args.op.now.rot c.args.i []) 1 (pos 0)) z c.new-shift.result.num c.new-shift.result.den) (to_z-of_z w16 _ fz)
    ∙ terms-component c.args.op.now.rot c.args.op.now.num c.args.op.now.den c.args.i c.new-shift.result.num c.new-shift.result.den c.new-shift.ensures.lowest
    (c.new-shift.ensures.same ∙ ap (λ a. ratio a c.args.op.now.den) (to_z-of_z w64 _ fs)) p e
