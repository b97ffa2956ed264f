-- The text of a triplet.
use Rattle.std.proofs.Common.{◌∙◌, ap, refl, ℕ, Vec, Global}
use Rattle.irr_algebra.specs.Fin.{to_nat}
use Rattle.irr_algebra.specs.Fin.Fin.{first, next}
use Rattle.irr_seitz.specs.OperationMeaning.{operation}
use Rattle.irr_triplet.specs.Terms.{terms_text}
use Rattle.irr_triplet.proofs.TermTexts.{triplet_text-components}
use Rattle.irr_triplet.proofs.print.print_triplet.Goals as goal

pub returns : goal.returns
unfolding to_nat
returns c =
    let x = c.of-x.result in
    let y = c.of-y.result in
    let z = c.of-z.result in
    ap (λ (v : Vec ℕ Global). v.items) c.into_bytes.ensures.value ∙ c.in_ok-text.ensures.ok
    ∙ triplet_text-components (operation c.args.op.now) (terms_text x.x x.y x.z x.shift.num x.shift.den) (terms_text y.x y.y y.z y.shift.num y.shift.den) (terms_text z.x z.y z.z z.shift.num z.shift.den)
    (c.of-x.ensures first refl) (c.of-y.ensures (next first) refl) (c.of-z.ensures (next (next first)) refl)
