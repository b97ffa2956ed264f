-- The rotation times the numerators, over the denominator.
use Rattle.std.proofs.Common.{◌≡◌, sym, ◌∙◌, subst, [], ◌∷◌, List, ℤ, ◌≤◌, ◌+◌, ◌*◌, FitsSigned, to_z, of_z, arith}
use Rattle.std.specs.Int.{w64}
use Rattle.std.proofs.lemmas.Int.{to_z-of_z}
use native.Mathlib.Nat as Nat
use Rattle.irr_seitz.proofs.Vectors.{IsTurned, turned_at, turned_bound, turned_vector}
use Rattle.irr_site.proofs.Bounds.{lowest_denominator, lowest_divisor, lowest_small}
use Rattle.irr_site.proofs.coordinates.turned.Goals as goal

turned : (rot : List (List ℤ)) (num : List ℤ) (x y z : ℤ) → FitsSigned w64 x → FitsSigned w64 y → FitsSigned w64 z
    → x ≡ turned_at rot num 0 → y ≡ turned_at rot num 1 → z ≡ turned_at rot num 2
    → IsTurned rot num (to_z w64 (of_z w64 x) ∷ to_z w64 (of_z w64 y) ∷ to_z w64 (of_z w64 z) ∷ [])
turned rot num x y z f g h ex ey ez = record { x = to_z-of_z w64 x f ∙ ex; y = to_z-of_z w64 y g ∙ ey; z = to_z-of_z w64 z h ∙ ez }

is_turned : (c : goal.After-new) → IsTurned c.args.op.now.rot c.args.x.now.num
    (to_z w64 (of_z w64 c.row_product.result) ∷ to_z w64 (of_z w64 c.row_product-2.result) ∷ to_z w64 (of_z w64 c.row_product-3.result) ∷ [])
is_turned c = turned c.args.op.now.rot c.args.x.now.num c.row_product.result c.row_product-2.result c.row_product-3.result
    (record { sfits = c.row_product.type_inv }) (record { sfits = c.row_product-2.type_inv }) (record { sfits = c.row_product-3.type_inv })
    c.row_product.ensures c.row_product-2.ensures c.row_product-3.ensures

pub returns-clause-vector : goal.returns-clause-vector
returns-clause-vector c = c.new.ensures ∙ turned_vector c.args.op.now.rot c.args.x.now.num _ c.args.x.now.den
    c.args.x.now.lowest.positive (is_turned c)

pub returns-clause-small : goal.returns-clause-small
returns-clause-small c = lowest_small c.new.result.num _ c.new.result.den c.args.x.now.den c.new.result.lowest
    c.args.x.now.lowest.positive c.new.ensures 27000000
    (λ i. let b = turned_bound c.args.op.now.rot c.args.x.now.num _ 9 1000000 c.requires.entries c.requires.point.numerators (is_turned c) i in
    Nat.le_trans b (omega arith))

pub returns-clause-denominator : goal.returns-clause-denominator
returns-clause-denominator c = Nat.le_trans (lowest_denominator c.new.result.num _ c.new.result.den c.args.x.now.den
    c.new.result.lowest c.args.x.now.lowest.positive c.new.ensures) c.requires.point.denominator

pub returns-clause-divides : goal.returns-clause-divides
returns-clause-divides c = lowest_divisor c.new.result.num _ c.new.result.den c.args.x.now.den
    c.new.result.lowest c.args.x.now.lowest.positive c.new.ensures
