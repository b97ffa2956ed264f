use Rattle.std.proofs.Common.{◌≡◌, sym, ◌∙◌, ap₂, subst₂, ◌^◌, ◌+◌, ◌*◌, List, [], ◌∷◌, ℤ, FitsSigned, to_z, of_z, lit<}
use Rattle.std.specs.Int.{w64}
use Rattle.std.proofs.lemmas.Int.{to_z-of_z}
use Rattle.irr_algebra.specs.Matrix.{◌⊕◌}
use Rattle.irr_space.specs.Operation.{◌⊙◌}
use Rattle.irr_rat.specs.VectorMeaning.{Fits}
use Rattle.irr_seitz.specs.OperationMeaning.{operation}
use Rattle.irr_seitz.proofs.Vectors.{IsTurned, turned_at, turned_bound, turned_vector, fits_over_lcm, operation-ext}
use Rattle.irr_seitz.proofs.op.Op.compose.Goals as goal

-- the numbers that the code puts over the denominator of the second vector
turned : (rot : List (List ℤ)) (num : List ℤ) (x y z : ℤ) → FitsSigned w64 x → FitsSigned w64 y → FitsSigned w64 z → x ≡ turned_at rot num 0 → y ≡ turned_at rot num 1 → z ≡ turned_at rot num 2
    → IsTurned rot num (to_z w64 (of_z w64 x) ∷ to_z w64 (of_z w64 y) ∷ to_z w64 (of_z w64 z) ∷ [])
turned rot num x y z f g h ex ey ez = record { x = to_z-of_z w64 x f ∙ ex; y = to_z-of_z w64 y g ∙ ey; z = to_z-of_z w64 z h ∙ ez }

pub add-shift-requires : goal.add-shift-requires
add-shift-requires c =
    let t = turned c.args.self.now.rot c.args.other.now.num c.turned_by.result c.turned_by-2.result c.turned_by-3.result (record { sfits = c.turned_by.type_inv }) (record { sfits = c.turned_by-2.type_inv })
    (record { sfits = c.turned_by-3.type_inv }) c.turned_by.ensures.value c.turned_by-2.ensures.value c.turned_by-3.ensures.value in
    subst₂ (λ v w. Fits (v ⊕ w)) (sym c.shift.ensures) (sym c.new.ensures)
    (fits_over_lcm c.args.self.now.num (to_z w64 (of_z w64 c.turned_by.result) ∷ to_z w64 (of_z w64 c.turned_by-2.result) ∷ to_z w64 (of_z w64 c.turned_by-3.result) ∷ [])
    c.args.self.now.den c.args.other.now.den (10 ^ 12) ((9 * 10 ^ 12 + 9 * 10 ^ 12) + 9 * 10 ^ 12)
    c.args.self.now.lowest.positive c.args.other.now.lowest.positive c.requires.denominator c.requires.numerators
    (turned_bound c.args.self.now.rot c.args.other.now.num _ 9 (10 ^ 12) c.requires.entries c.requires.other_numerators t) (lit< tt))

pub returns : goal.returns
unfolding ◌⊙◌
returns c =
    let t = turned c.args.self.now.rot c.args.other.now.num c.turned_by.result c.turned_by-2.result c.turned_by-3.result (record { sfits = c.turned_by.type_inv }) (record { sfits = c.turned_by-2.type_inv })
    (record { sfits = c.turned_by-3.type_inv }) c.turned_by.ensures.value c.turned_by-2.ensures.value c.turned_by-3.ensures.value in
    operation-ext _ (operation c.args.self.now ⊙ operation c.args.other.now) c.product-rot.ensures
    (c.add-shift.ensures ∙ ap₂ ◌⊕◌ c.shift.ensures
    (c.new.ensures ∙ turned_vector c.args.self.now.rot c.args.other.now.num _ c.args.other.now.den c.args.other.now.lowest.positive t))
