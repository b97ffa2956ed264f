-- The type by the sum.
use Rattle.std.proofs.Common.{◌≡◌, sym, ◌∙◌, ap, subst, subst₂, refl, ℕ, ◌<◌, to_z, of_z}
use Rattle.std.specs.Int.{w8}
use Rattle.irr_algebra.specs.Fin.{Fin}
use Rattle.irr_algebra.specs.Matrix.{Matrix}
use Rattle.irr_algebra.specs.Ring.{whole}
use Rattle.irr_number.specs.Number.{numbers}
use Rattle.irr_space.specs.CompleteList.{over}
use Rattle.irr_kvec.specs.WaveMeaning.{wave_vector}
use Rattle.irr_forms.specs.Form.{FormType, type_integer, type_number}
use Rattle.irr_forms.specs.Form.FormType.{symmetric, skew, none}
use Rattle.irr_real.specs.Families.{IsFamilyOf}
use Rattle.irr_real.specs.Squares.{IsReversalSum}
use Rattle.irr_real.proofs.FamilyTraces.{order_at}
use Rattle.irr_real.proofs.StarSums.{type_is, type_over_each}
use Rattle.irr_real.proofs.types.reality.Goals as goal

-- the number of a type fits in 8 bits
read : (x : FormType) → to_z w8 (of_z w8 (type_integer x)) ≡ type_integer x
read symmetric = refl
read skew = refl
read none = refl

pub returns-clause-type_of : goal.returns-clause-type_of
returns-clause-type_of g c U M v d D is simple =
    let value = g.S.Scalar.value in
    let n = c.in_ok-order.order.n in
    let f = c.args.f.now in
    let sum = c.in_ok-sum.sum in
    let answer = c.in_ok-answer.answer in
    let same : n ≡ M = c.in_ok-order.ensures ∙ c.order.ensures ∙ c.at.ensures.order
    ∙ order_at M D.at f is 0 c.index.result.now c.index.ensures U.table.start U.table.start_first in
    let count = c.len.ensures.count ∙ sym c.requires.family.1.family.shape.count ∙ is.shape.count in
    let positive = subst (λ m. 0 < m) same c.in_ok-order.order.positive in
    type_is c.args.group.now (wave_vector c.args.k.now) c.args.t.now c.requires.table U M v D (value M sum)
    (subst (λ m. (h d : ℕ) (D : Fin h → Matrix (numbers m) d d) → IsFamilyOf m D f
    → IsReversalSum c.args.group.now (wave_vector c.args.k.now) c.args.t.now m D (value m sum)) same
    c.in_ok-sum.ensures.sum U.places d D.at is)
    positive simple (to_z w8 (of_z w8 answer))
    (λ x e. ap (λ z. to_z w8 (of_z w8 z))
    (subst₂ (λ m j. (x : FormType) → value m sum ≡ (numbers m).mul (whole (numbers m) j) (type_number (numbers m) x)
    → answer ≡ type_integer x)
    same count c.in_ok-answer.ensures x e) ∙ read x)

pub returns-clause-every_order : goal.returns-clause-every_order
returns-clause-every_order g c U M v d D is simple =
    let value = g.S.Scalar.value in
    let n = c.in_ok-order.order.n in
    let f = c.args.f.now in
    let sum = c.in_ok-sum.sum in
    let answer = c.in_ok-answer.answer in
    let same : n ≡ M = c.in_ok-order.ensures ∙ c.order.ensures ∙ c.at.ensures.order
    ∙ order_at M (over U.table M v D).at f is 0 c.index.result.now c.index.ensures U.table.start U.table.start_first in
    let count = c.len.ensures.count ∙ sym c.requires.family.1.family.shape.count ∙ is.shape.count in
    let positive = subst (λ m. 0 < m) same c.in_ok-order.order.positive in
    type_over_each c.args.group.now (wave_vector c.args.k.now) c.args.t.now c.requires.table U M positive v D simple
    (value M sum)
    (subst (λ m. (h d : ℕ) (D : Fin h → Matrix (numbers m) d d) → IsFamilyOf m D f
    → IsReversalSum c.args.group.now (wave_vector c.args.k.now) c.args.t.now m D (value m sum)) same
    c.in_ok-sum.ensures.sum U.places d
    (over U.table M v D).at is)
    (to_z w8 (of_z w8 answer))
    (λ x e. ap (λ z. to_z w8 (of_z w8 z))
    (subst₂ (λ m j. (x : FormType) → value m sum ≡ (numbers m).mul (whole (numbers m) j) (type_number (numbers m) x)
    → answer ≡ type_integer x)
    same count c.in_ok-answer.ensures x e) ∙ read x)
