-- The matrices of the induced family, one after another.
use Rattle.std.proofs.Common.{◌≡◌, ◌<◌, ◌≤◌, sym, ◌∙◌, subst, ℕ, rules}
use Rattle.irr_algebra.specs.Pair.{times}
use Rattle.irr_theory.specs.FactorSystem.{Representation}
use Rattle.irr_clifford.specs.Formulas.{induced_matrix}
use Rattle.irr_rep.specs.Twisted.{phase_table, place_count}
use Rattle.irr_climb.specs.Families.{IsRead}
use Rattle.irr_climb.specs.Sizes.{IsSized}
use Rattle.irr_climb.specs.Steps.{IsStep, small}
use Rattle.irr_climb.proofs.ExtensionLists.{MatricesSoFar, matrices_more, matrices_none}
use Rattle.irr_climb.proofs.InducedReads.{family_item}
use Rattle.irr_climb.proofs.InducedMade.{induced_made, induced_sized, size_is}
use Rattle.irr_climb.proofs.step.Step.induced.Goals as goal

pub index-requires : goal.index-requires
index-requires g c =
    let r = c.requires in
    let l = subst (λ k. 0 < k) (sym r.4.shape.count) c.args.self.now.inner.not_empty in search rules

pub new-requires-clause-limited : goal.new-requires-clause-limited
new-requires-clause-limited g c =
    let x = c.at.result.now in
    subst (λ k. k ≤ 12000) (sym c.order.ensures) (g.met.S.Scalar.admitted_limited (g.S.Scalar.order_of x) (g.met.S.Scalar.order_admitted x))

pub matrix_at_place-requires-clause-family : goal.matrix_at_place-requires-clause-family
matrix_at_place-requires-clause-family g c =
    let step = c.args.self.now in
    let f = c.args.family.now in
    let r = c.requires in
    let T = phase_table step.inner in
    let first = family_item r.1 r.3 f r.4 0 c.index.result.now step.inner.not_empty c.index.ensures T.start T.start_first in
    let same : c.in_ok-order.order.n ≡ r.0 = c.in_ok-order.ensures ∙ c.order.ensures ∙ c.at.ensures.order ∙ first.order in
    subst (λ k. (is : IsStep k step) × (d : ℕ) × (D : Representation (small is) d) × IsRead k (small is) D f × IsSized k (place_count step.inner) f)
    (sym same) (r.1, r.2, r.3, r.4, r.6)

pub loop-x-init : goal.loop-x-init
loop-x-init g c is d D r = matrices_none c.in_ok-order.order.n (times is.quotient.index d) (induced_matrix is.quotient D) c.new-mats.result.items
    c.new-mats.ensures.items

pub loop-x-preserved : goal.loop-x-preserved
loop-x-preserved g c is d D r = matrices_more c.in_ok-order.order.n (times is.quotient.index d) (induced_matrix is.quotient D) c.loop-x.x
    c.loop-x.mats.items c.push.new.self.items c.in_ok-matrix.matrix (c.loop-x.invariant is d D r) c.in_ok-push.ensures.items
    (λ p e. c.in_ok-matrix.ensures is d D r p e)

pub returns-clause-induced : goal.returns-clause-induced
returns-clause-induced g c M is d D r =
    let step = c.args.self.now in
    let f = c.args.family.now in
    let T = phase_table step.inner in
    let first = family_item is D f r 0 c.index.result.now step.inner.not_empty c.index.ensures T.start T.start_first in
    let same : c.in_ok-order.order.n ≡ M = c.in_ok-order.ensures ∙ c.order.ensures ∙ c.at.ensures.order ∙ first.order in
    let all : c.loop-x.x ≡ place_count step.outer = search rules in
    let made = subst (λ k. (is : IsStep k step) (d : ℕ) (D : Representation (small is) d) → IsRead k (small is) D f
    → MatricesSoFar k (times is.quotient.index d) (induced_matrix is.quotient D) c.loop-x.x c.loop-x.mats.items) same c.loop-x.invariant is d D r in
    induced_made is D r.shape.positive _ (size_is is d f.dim r.size) c.loop-x.x all made

pub returns-clause-sizes : goal.returns-clause-sizes
returns-clause-sizes g c M is d D r sized =
    let step = c.args.self.now in
    let f = c.args.family.now in
    let T = phase_table step.inner in
    let first = family_item is D f r 0 c.index.result.now step.inner.not_empty c.index.ensures T.start T.start_first in
    let same : c.in_ok-order.order.n ≡ M = c.in_ok-order.ensures ∙ c.order.ensures ∙ c.at.ensures.order ∙ first.order in
    let all : c.loop-x.x ≡ place_count step.outer = search rules in
    let made = subst (λ k. (is : IsStep k step) (d : ℕ) (D : Representation (small is) d) → IsRead k (small is) D f
    → MatricesSoFar k (times is.quotient.index d) (induced_matrix is.quotient D) c.loop-x.x c.loop-x.mats.items) same c.loop-x.invariant is d D r in
    induced_sized is D r.shape.positive _ (size_is is d f.dim r.size) c.loop-x.x all made f r sized
