-- The matrix at the unit is compared with the unit matrix.
use Rattle.std.proofs.Common.{◌≡◌, sym, ◌∙◌, subst, ◌<◌, ◌≤◌, length}
use Rattle.irr_algebra.specs.Matrix.{unit}
use Rattle.irr_number.specs.Number.{numbers}
use Rattle.irr_mat.specs.Entries.{matrix_of}
use Rattle.irr_rep.specs.Defects.{IsMatrix}
use Rattle.irr_rep.specs.Family.{matrix_at}
use Rattle.irr_rep.specs.Twisted.{phase_table}
use Rattle.irr_rep.proofs.MatrixForms.{fit_of_unit, item-matrix, same-from, same-to, sums_fit}
use Rattle.irr_rep.proofs.defects.has_unit.Goals as goal

pub equal-requires-clause-sizes : goal.equal-requires-clause-sizes
equal-requires-clause-sizes g c =
    let value = g.S.Scalar.value in
    let f = c.args.f.now in
    let T = phase_table c.args.t.now in
    let p = c.requires in
    let first = c.index-first.result.now in
    let l : 0 < length f.mats.items = subst (λ k. 0 < k) (sym p.limits.shape.count) c.args.t.now.not_empty in
    let m = item-matrix p.n f.dim f.mats.items 0 first l c.index-first.ensures p.limits.shape T.start T.start_first in
    let order : c.in_ok-order.order.n ≡ p.n = c.in_ok-order.ensures ∙ c.order.ensures ∙ c.at.ensures.order ∙ m.order in
    sums_fit p.n f.dim (matrix_at p.n f.dim f.mats.items T.start) (unit (numbers p.n) f.dim) first c.in_ok-unit.unit m
    (record {
      rows = c.in_ok-unit.ensures.rows;
      cols = c.in_ok-unit.ensures.cols;
      order = c.in_ok-unit.ensures.order ∙ order;
      value = subst (λ u. matrix_of value u f.dim f.dim c.in_ok-unit.unit.entries.items ≡ unit (numbers u) f.dim) order c.in_ok-unit.ensures.value;
    })
    (fit_of_unit p.n f.dim p.denominator (subst (λ u. u ≤ 12000) order c.in_ok-order.order.limited) p.limits.few p.limits.limited
    (matrix_at p.n f.dim f.mats.items T.start) (p.limits.within T.start))

pub returns : goal.returns
returns g c p =
    let value = g.S.Scalar.value in
    let f = c.args.f.now in
    let T = phase_table c.args.t.now in
    let first = c.index-first.result.now in
    let l : 0 < length f.mats.items = subst (λ k. 0 < k) (sym p.limits.shape.count) c.args.t.now.not_empty in
    let m = item-matrix p.n f.dim f.mats.items 0 first l c.index-first.ensures p.limits.shape T.start T.start_first in
    let order : c.in_ok-order.order.n ≡ p.n = c.in_ok-order.ensures ∙ c.order.ensures ∙ c.at.ensures.order ∙ m.order in
    let u : IsMatrix p.n f.dim (unit (numbers p.n) f.dim) c.in_ok-unit.unit = record {
      rows = c.in_ok-unit.ensures.rows;
      cols = c.in_ok-unit.ensures.cols;
      order = c.in_ok-unit.ensures.order ∙ order;
      value = subst (λ u. matrix_of value u f.dim f.dim c.in_ok-unit.unit.entries.items ≡ unit (numbers u) f.dim) order c.in_ok-unit.ensures.value;
    } in (
      λ t. same-to p.n f.dim (matrix_at p.n f.dim f.mats.items T.start) (unit (numbers p.n) f.dim) first c.in_ok-unit.unit m u
          (c.equal.ensures.0 t).2,
      λ e. c.equal.ensures.1 (same-from p.n f.dim (matrix_at p.n f.dim f.mats.items T.start)
          (unit (numbers p.n) f.dim) first c.in_ok-unit.unit m u e),
    )
