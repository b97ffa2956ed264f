use Rattle.std.proofs.Common.{◌≡◌, sym, ◌∙◌, ap₂, subst, ℕ, ◌*◌, [], ◌∷◌, get_or, ℤ, pos, ◌+ℤ◌, ◌*ℤ◌, FitsSigned, to_z, of_z}
use Rattle.std.specs.Int.{w128}
use Rattle.std.proofs.lemmas.Int.{to_z-of_z}
use Rattle.irr_algebra.specs.Matrix.{◌⊕◌}
use Rattle.irr_rat.specs.declared.vec3.Vec3.{Vec3}
use Rattle.irr_rat.specs.VectorMeaning.{Fits, vector, vector_of}
use Rattle.irr_rat.proofs.Vectors.{vector_of-add}
use Rattle.irr_rat.proofs.vec3.Vec3.add.Goals as goal

-- the numbers that the code puts over the product of the denominators
over_product : (a b : Vec3) (x y z : ℤ) (d e : ℕ) → FitsSigned w128 x → FitsSigned w128 y → FitsSigned w128 z → d ≡ a.den → e ≡ b.den
    → x ≡ (get_or a.num 0 (pos 0) *ℤ pos b.den) +ℤ (get_or b.num 0 (pos 0) *ℤ pos a.den)
    → y ≡ (get_or a.num 1 (pos 0) *ℤ pos b.den) +ℤ (get_or b.num 1 (pos 0) *ℤ pos a.den)
    → z ≡ (get_or a.num 2 (pos 0) *ℤ pos b.den) +ℤ (get_or b.num 2 (pos 0) *ℤ pos a.den)
    → vector_of (to_z w128 (of_z w128 x) ∷ to_z w128 (of_z w128 y) ∷ to_z w128 (of_z w128 z) ∷ []) (d * e) ≡ vector a ⊕ vector b
over_product a b x y z d e fx fy fz hd he ex ey ez =
    ap₂ (λ m n. vector_of (to_z w128 (of_z w128 x) ∷ to_z w128 (of_z w128 y) ∷ to_z w128 (of_z w128 z) ∷ []) (m * n)) hd he
    ∙ vector_of-add a.num b.num (to_z w128 (of_z w128 x) ∷ to_z w128 (of_z w128 y) ∷ to_z w128 (of_z w128 z) ∷ []) a.den b.den a.lowest.positive b.lowest.positive
    (to_z-of_z w128 x fx ∙ ex) (to_z-of_z w128 y fy ∙ ey) (to_z-of_z w128 z fz ∙ ez)

pub narrowed-requires-clause-fits : goal.narrowed-requires-clause-fits
narrowed-requires-clause-fits c = subst Fits (sym (over_product c.args.self.now c.args.other.now c.sum_at.result c.sum_at-2.result c.sum_at-3.result c.from.result c.from-2.result
    (record { sfits = c.sum_at.type_inv }) (record { sfits = c.sum_at-2.type_inv }) (record { sfits = c.sum_at-3.type_inv }) c.from.ensures c.from-2.ensures
    c.sum_at.ensures c.sum_at-2.ensures c.sum_at-3.ensures)) c.requires

pub returns : goal.returns
returns c = c.narrowed.ensures ∙ over_product c.args.self.now c.args.other.now c.sum_at.result c.sum_at-2.result c.sum_at-3.result c.from.result c.from-2.result
    (record { sfits = c.sum_at.type_inv }) (record { sfits = c.sum_at-2.type_inv }) (record { sfits = c.sum_at-3.type_inv }) c.from.ensures c.from-2.ensures
    c.sum_at.ensures c.sum_at-2.ensures c.sum_at-3.ensures
