use Rattle.std.proofs.Common.{◌≡◌, sym, ◌∙◌, ap, ℤ, pos, get_or, FitsSigned, to_z, of_z, rules}
use Rattle.std.specs.Int.{w64}
use Rattle.std.proofs.lemmas.Int.{to_z-of_z}
use Rattle.std.proofs.lemmas.Bool.{eqb-true}
use Rattle.irr_algebra.specs.Matrix.{null}
use Rattle.irr_rational.specs.Rational.{ratio}
use Rattle.irr_rational.proofs.Orders.{ratio-zero}
use Rattle.irr_lattice.proofs.Vectors.{vector-ext, component-null}
use Rattle.irr_rat.specs.VectorMeaning.{vector}
use Rattle.irr_rat.proofs.Vectors.{component-vector_of}
use Rattle.irr_kvec.proofs.Products.{at_places}
use Rattle.irr_kvec.proofs.tests.is_zero.Goals as goal

read : (x : ℤ) → FitsSigned w64 x → of_z w64 x ≡ 0 → x ≡ pos 0
read x f e = sym (to_z-of_z w64 x f) ∙ ap (to_z w64) e

pub returns : goal.returns
returns c = λ t. vector-ext (vector c.args.centring.now) null (λ i. component-vector_of c.args.centring.now.num c.args.centring.now.den i
    ∙ ap (λ x. ratio x c.args.centring.now.den) (at_places (λ x. x ≡ pos 0) c.args.centring.now.num
    (read (get_or c.args.centring.now.num 0 (pos 0)) (search rules) c.if-centring-ne0.false)
    (read (get_or c.args.centring.now.num 1 (pos 0)) (search rules) c.if-centring-ne0-2.false)
    (read (get_or c.args.centring.now.num 2 (pos 0)) (search rules) (eqb-true (of_z w64 (get_or c.args.centring.now.num 2 (pos 0))) 0 t)) i)
    ∙ ratio-zero c.args.centring.now.den c.args.centring.now.lowest.positive ∙ sym (component-null i))
