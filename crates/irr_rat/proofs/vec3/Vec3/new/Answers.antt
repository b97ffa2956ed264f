use Rattle.std.proofs.Common.{◌≡◌, sym, ◌∙◌, subst, ℤ, pos, get_or, FitsSigned, to_z, of_z, rules, arith}
use Rattle.std.specs.Int.{w64, w128}
use Rattle.std.proofs.lemmas.Int.{to_z-of_z}
use Rattle.irr_rat.proofs.Vectors.{fits_of_numbers}
use Rattle.irr_rat.proofs.vec3.Vec3.new.Goals as goal

fits_back : (x y : ℤ) → FitsSigned w64 y → FitsSigned w128 x → x ≡ to_z w64 (of_z w64 y) → FitsSigned w64 (to_z w128 (of_z w128 x))
fits_back x y f g e = subst (FitsSigned w64) (sym (to_z-of_z w128 x g ∙ e ∙ to_z-of_z w64 y f)) f

pub narrowed-requires-clause-fits : goal.narrowed-requires-clause-fits
narrowed-requires-clause-fits c =
    let small = c.ranges.den.fits in
    let fx : FitsSigned w64 (get_or c.args.num 0 (pos 0)) = search rules in
    let fy : FitsSigned w64 (get_or c.args.num 1 (pos 0)) = search rules in
    let fz : FitsSigned w64 (get_or c.args.num 2 (pos 0)) = search rules in
    fits_of_numbers _ c.from-4.result (omega (arith, c.requires, c.from-4.ensures)) (omega (arith, small, c.from-4.ensures))
    (fits_back c.from.result _ fx (record { sfits = c.from.type_inv }) c.from.ensures)
    (fits_back c.from-2.result _ fy (record { sfits = c.from-2.type_inv }) c.from-2.ensures)
    (fits_back c.from-3.result _ fz (record { sfits = c.from-3.type_inv }) c.from-3.ensures)
