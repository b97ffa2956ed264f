use Rattle.std.proofs.Common.{◌≡◌, sym, ◌∙◌, subst, ap, refl, slice_index_or, IsTrue, true, false, List, ◌≤◌, ℕ, length, ◌<◌}
use Rattle.std.specs.List.{All}
use Rattle.irr_algebra.specs.Matrix.{◌⊖◌}
use Rattle.irr_space.specs.Operation.{Vector}
use Rattle.irr_space.specs.CanonicalOperation.{IsInCell}
use Rattle.irr_rat.specs.Lcm.{IsLcm}
use Rattle.irr_rat.specs.VectorMeaning.{vector}
use Rattle.irr_rat.specs.declared.vec3.Vec3.{Vec3}
use Rattle.irr_seitz.specs.OperationMeaning.{operation}
use Rattle.irr_seitz.specs.declared.op.Op.{Op}
use Rattle.irr_close.specs.Closing.{HasRotation}
use Rattle.irr_close.specs.Centring.{HasTranslation}
use Rattle.irr_close.specs.Canonical.{AreCanonical}
use Rattle.irr_close.specs.StandsFor.{stands_for}
use Rattle.irr_close.specs.declared.group.Group.{Group}
use Rattle.irr_close.proofs.Untruncated.{untruncated}
use Rattle.irr_close.proofs.Members.{small_ops, small_centrings, small_common, cell_at, cells, member_at, rotation_has}
use Rattle.irr_close.proofs.group.Group.contains.Goals as goal

not_true : IsTrue false → ⊥
not_true h = let e : false ≡ true = h in cc

form_of : (group : Group) → AreCanonical group.ops.items group.centrings.items
form_of group = untruncated group.ops.items group.centrings.items group.form

form_in : (group : Group) (ops : List Op) (cs : List Vec3) → ops ≡ group.ops.items → cs ≡ group.centrings.items → AreCanonical ops cs
form_in group ops cs p q = subst (λ (xs : List Op). AreCanonical xs cs) (sym p)
    (subst (λ (ys : List Vec3). AreCanonical group.ops.items ys) (sym q) (form_of group))

pub is_apart-requires-clause-in_cell : goal.is_apart-requires-clause-in_cell
is_apart-requires-clause-in_cell c = subst IsInCell (sym (c.shift.ensures.vector ∙ ap (λ (g : Op). (operation g).vector) c.index-ops-k.is))
    (cell_at c.as_slice-ops.result.now c.as_slice.result.now
    (form_in c.args.self.now c.as_slice-ops.result.now c.as_slice.result.now c.as_slice-ops.ensures.value c.as_slice.ensures.value) c.in-Some.k
    c.index-ops-k.result c.in-Some.ensures.within)

pub is_apart-requires-clause-small : goal.is_apart-requires-clause-small
is_apart-requires-clause-small c = subst (λ n. n ≤ 100000) (sym (c.shift.ensures.denominator ∙ ap (λ (g : Op). g.den) c.index-ops-k.is))
    (small_ops c.as_slice-ops.result.now c.as_slice.result.now
    (form_in c.args.self.now c.as_slice-ops.result.now c.as_slice.result.now c.as_slice-ops.ensures.value c.as_slice.ensures.value) c.in-Some.k
    c.index-ops-k.result c.in-Some.ensures.within)

pub is_apart-requires-clause-centrings : goal.is_apart-requires-clause-centrings
is_apart-requires-clause-centrings c =
    cells c.as_slice-ops.result.now c.as_slice.result.now
    (form_in c.args.self.now c.as_slice-ops.result.now c.as_slice.result.now c.as_slice-ops.ensures.value c.as_slice.ensures.value)

pub is_apart-requires-clause-denominators : goal.is_apart-requires-clause-denominators
is_apart-requires-clause-denominators c = small_centrings c.as_slice-ops.result.now c.as_slice.result.now
    (form_in c.args.self.now c.as_slice-ops.result.now c.as_slice.result.now c.as_slice-ops.ensures.value c.as_slice.ensures.value)

pub is_apart-requires-clause-common : goal.is_apart-requires-clause-common
is_apart-requires-clause-common c = subst (λ n. All (λ (x : Vec3). (m : ℕ) → IsLcm n x.den m → m ≤ 100000) c.as_slice.result.now)
    (sym (c.shift.ensures.denominator ∙ ap (λ (g : Op). g.den) c.index-ops-k.is))
    (small_common c.as_slice-ops.result.now c.as_slice.result.now
    (form_in c.args.self.now c.as_slice-ops.result.now c.as_slice.result.now c.as_slice-ops.ensures.value c.as_slice.ensures.value) c.in-Some.k
    c.index-ops-k.result c.in-Some.ensures.within)

pub returns-in-Some : goal.returns-in-Some
unfolding stands_for
returns-in-Some c =
    let k : c.in-Some.k < length c.args.self.now.ops.items = subst (λ (xs : List Op). c.in-Some.k < length xs) c.as_slice-ops.ensures.value
    c.in-Some.ensures.within in
    let at : (operation c.index-ops-k.result).rotation ≡ (operation c.args.op.now).rotation = ap (λ (g : Op). (operation g).rotation) c.index-ops-k.is
    ∙ c.in-Some.ensures.found c.index-ops-k.result in
    let m = member_at c.args.self.now.ops.items c.args.self.now.centrings.items (form_of c.args.self.now) (operation c.args.op.now)
    (operation c.reduce.result).vector c.in-Some.k c.index-ops-k.result k
    (subst (λ (xs : List Op). c.index-ops-k.result ≡ slice_index_or xs c.in-Some.k c.index-ops-k.result) c.as_slice-ops.ensures.value
    c.index-ops-k.is) at c.reduce.ensures.whole in
    let same : HasTranslation c.as_slice.result.now (vector c.shift.result ⊖ vector c.shift-in-Some.result) ≡ HasTranslation
    c.args.self.now.centrings.items ((operation c.index-ops-k.result).vector ⊖ (operation c.reduce.result).vector)
    = ap (λ (ys : List Vec3). HasTranslation ys (vector c.shift.result ⊖ vector c.shift-in-Some.result)) c.as_slice.ensures.value
    ∙ ap (λ (v : Vector). HasTranslation c.args.self.now.centrings.items (v ⊖ vector c.shift-in-Some.result)) c.shift.ensures.vector
    ∙ ap (λ (v : Vector). HasTranslation c.args.self.now.centrings.items ((operation c.index-ops-k.result).vector ⊖ v))
    c.shift-in-Some.ensures.vector in
    (λ t. m.0 (subst (λ (A : Type 0). A) same (c.is_apart.ensures.0 t)), λ s. c.is_apart.ensures.1 (subst (λ (A : Type 0). A) (sym same) (m.1 s)))

pub returns-in-None : goal.returns-in-None
unfolding stands_for
returns-in-None c = (
  λ t. absurd (not_true t),
  λ s. absurd
      (c.in-None.ensures.none refl (subst (λ (xs : List Op). HasRotation xs (operation c.args.op.now).rotation) (sym c.as_slice-ops.ensures.value)
      (rotation_has c.args.self.now.ops.items c.args.self.now.centrings.items (operation c.args.op.now) s))),
)
