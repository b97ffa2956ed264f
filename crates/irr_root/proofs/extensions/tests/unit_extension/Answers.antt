-- The level is a step, and the family of one unit matrix is simple and its own conjugate.
use Rattle.std.proofs.Common.{sym, ◌∙◌, ap, subst, length, ◌≤◌, refl}
use native.Mathlib.Nat as Nat
use Rattle.std.specs.Int.{◌∣◌}
use Rattle.irr_rep.specs.Subgroup.{IsSubgroup}
use Rattle.irr_rep.specs.Twisted.{phase_table}
use Rattle.irr_root.proofs.SingleFamilies.{singles_fit}
use Rattle.irr_root.proofs.UnitSteps.{only_level, small_traces, unit_matrices, unit_on, unit_simple_fixed, unit_singles, unit_step}
use Rattle.irr_root.proofs.Walks.{table-order-le}
use Rattle.irr_root.proofs.extensions.tests.unit_extension.Goals as goal

pub restrict-requires : goal.restrict-requires
restrict-requires g c =
    let T = phase_table c.args.t.now in
    let only = only_level T c.args.levels.now c.requires.one c.requires.series c.index-levels-0.result c.index-levels-0.is in
    subst (IsSubgroup T) (sym c.as_slice-members.ensures.value) only.is_level.normal.subgroup

pub choose-requires-clause-family : goal.choose-requires-clause-family
choose-requires-clause-family g c =
    let n = c.args.order.now.n in
    let T = phase_table c.args.t.now in
    let level = c.index-levels-0.result in
    let only = only_level T c.args.levels.now c.requires.one c.requires.series level c.index-levels-0.is in
    let K = phase_table c.in_ok-inner.inner in
    let low = c.in_ok-inner.ensures.table in
    let same = c.as_slice-members.ensures.value in
    let one = low.count ∙ ap length (same ∙ only.unit) in
    let positive = g.met.S.Scalar.admitted_positive n c.requires.admitted in
    let step = unit_step T level only K c.as_slice-members.result.now same low n
    (subst (λ u. T.order ∣ u) (sym c.requires.order) (Nat.dvd_refl T.order)) positive in
    let m = c.in_ok-unit in
    let none = c.new-mats.result.items in
    let mats = c.push.new.self.items in (
      n,
      step,
      1,
      unit_on n m.unit m.ensures.rows m.ensures.cols m.ensures.order m.ensures.value none mats c.new-mats.ensures.items c.in_ok-push.ensures.items step one,
      unit_simple_fixed n m.unit m.ensures.rows m.ensures.cols m.ensures.order m.ensures.value none mats c.new-mats.ensures.items
          c.in_ok-push.ensures.items step one,
      unit_matrices n m.unit m.ensures.rows m.ensures.cols m.ensures.order m.ensures.value none mats c.new-mats.ensures.items
          c.in_ok-push.ensures.items step one _ refl refl,
    )

pub choose-requires-clause-sizes : goal.choose-requires-clause-sizes
choose-requires-clause-sizes g c =
    let n = c.args.order.now.n in
    let m = c.in_ok-unit in
    singles_fit n 1 c.push.new.self.items
    (unit_singles n m.unit m.ensures.rows m.ensures.cols m.ensures.order m.ensures.value c.new-mats.result.items c.push.new.self.items
    c.new-mats.ensures.items c.in_ok-push.ensures.items)
    (subst (λ k. k ≤ 12000) (sym c.requires.order) (table-order-le c.args.t.now))

pub returns : goal.returns
returns g c =
    let n = c.args.order.now.n in
    let T = phase_table c.args.t.now in
    let level = c.index-levels-0.result in
    let only = only_level T c.args.levels.now c.requires.one c.requires.series level c.index-levels-0.is in
    let K = phase_table c.in_ok-inner.inner in
    let low = c.in_ok-inner.ensures.table in
    let same = c.as_slice-members.ensures.value in
    let one = low.count ∙ ap length (same ∙ only.unit) in
    let positive = g.met.S.Scalar.admitted_positive n c.requires.admitted in
    let step = unit_step T level only K c.as_slice-members.result.now same low n
    (subst (λ u. T.order ∣ u) (sym c.requires.order) (Nat.dvd_refl T.order)) positive in
    let m = c.in_ok-unit in
    let none = c.new-mats.result.items in
    let mats = c.push.new.self.items in
    let D = unit_on n m.unit m.ensures.rows m.ensures.cols m.ensures.order m.ensures.value none mats c.new-mats.ensures.items c.in_ok-push.ensures.items
    step one in
    let t = c.in_ok-traces.ensures n step 1 D
    (unit_simple_fixed n m.unit m.ensures.rows m.ensures.cols m.ensures.order m.ensures.value none mats c.new-mats.ensures.items
    c.in_ok-push.ensures.items step one)
    (unit_matrices n m.unit m.ensures.rows m.ensures.cols m.ensures.order m.ensures.value none mats c.new-mats.ensures.items
    c.in_ok-push.ensures.items step one _ refl refl) in
    small_traces g.S.Scalar.order_of g.S.Scalar.value step D t.0 c.in_ok-traces.traces.items t.1 t.2
