use Rattle.std.proofs.Common.{◌≡◌, subst₂, pos, ◌<ℤ◌, get_or, FitsSigned, rules}
use Rattle.std.specs.Int.{w64}
use Rattle.std.specs.Ordering.{MatchOrdering}
use Rattle.std.proofs.lemmas.Cmp.{int_ranked}
use Rattle.irr_rat.proofs.Vectors.{read_product}
use Rattle.irr_rat.proofs.vec3.Vec3.cmp_at.Goals as goal

pub returns : goal.returns
returns c =
    let f : FitsSigned w64 (get_or c.args.self.now.num c.args.i (pos 0)) = search rules in
    let g : FitsSigned w64 (get_or c.args.other.now.num c.args.i (pos 0)) = search rules in
    subst₂ (λ x y. MatchOrdering c.cmp.result (x <ℤ y) (x ≡ y) (y <ℤ x))
    (read_product c.product.result _ c.args.other.now.den (record { sfits = c.product.type_inv }) f c.product.ensures.value)
    (read_product c.product-2.result _ c.args.self.now.den (record { sfits = c.product-2.type_inv }) g c.product-2.ensures.value)
    (int_ranked _ _ c.cmp.result c.cmp.ensures)
