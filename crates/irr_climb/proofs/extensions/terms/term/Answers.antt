-- A number times the matrix at the inverse of a member.
use Rattle.std.proofs.Common.{◌<◌, sym, ◌∙◌, subst, Result, Ok, Err, IfOk, rules}
use Rattle.irr_algebra.proofs.Indices.{from_nat, to_nat-from_nat}
use Rattle.irr_mat.specs.Size.{MultiplesFit}
use Rattle.irr_rep.specs.Twisted.{phase_table, place_count}
use Rattle.irr_rep.proofs.MatrixForms.{multiple_fits, scaled}
use Rattle.irr_climb.specs.Extensions.{trace_factor}
use Rattle.irr_climb.proofs.ExtensionFits.{term_fits}
use Rattle.irr_climb.proofs.ExtensionReads.{family_item, term_of}
use Rattle.irr_climb.proofs.extensions.terms.term.Goals as goal

if_ok_all : {A E : Type 0} (r : Result A E) (P Q R V W : A → Type 0) → ((x : A) → P x → Q x → R x → V x → W x) → IfOk r P → IfOk r Q → IfOk r R
    → IfOk r V → IfOk r W
if_ok_all (Ok x) P Q R V W f p q s v = f x p q s v
if_ok_all (Err e) P Q R V W f p q s v = p

pub factor-requires-clause-traces : goal.factor-requires-clause-traces
factor-requires-clause-traces g c = let e = c.requires.extension in (e.is, e.d, e.E, e.has_traces)

pub index-requires : goal.index-requires
index-requires g c =
    let l = subst (λ k. c.inverse.result < k) (sym c.requires.extension.fixed.read.shape.count) c.inverse.ensures.within in search rules

pub times-requires-clause-orders : goal.times-requires-clause-orders
times-requires-clause-orders g c =
    let e = c.requires.extension in
    let i = from_nat (place_count c.args.step.now.inner) c.inverse.result c.inverse.ensures.within in
    let m = family_item e.is e.D c.args.family.now e.fixed.read c.inverse.result c.index.result.now c.inverse.ensures.within c.index.ensures i
    (to_nat-from_nat (place_count c.args.step.now.inner) c.inverse.result c.inverse.ensures.within) in
    c.in_ok-factor.ensures.order ∙ sym m.order

pub times-requires-clause-sizes : goal.times-requires-clause-sizes
times-requires-clause-sizes g c =
    let value = g.S.Scalar.value in
    let M = c.args.order.now.n in
    let step = c.args.step.now in
    let e = c.requires.extension in
    let q = from_nat (place_count step.inner) c.args.m c.requires.member in
    let p = from_nat (place_count step.outer) c.args.x c.requires.place in
    let eq = to_nat-from_nat (place_count step.inner) c.args.m c.requires.member in
    let ep = to_nat-from_nat (place_count step.outer) c.args.x c.requires.place in
    let i = from_nat (place_count step.inner) c.inverse.result c.inverse.ensures.within in
    let m = family_item e.is e.D c.args.family.now e.fixed.read c.inverse.result c.index.result.now c.inverse.ensures.within c.index.ensures i
    (to_nat-from_nat (place_count step.inner) c.inverse.result c.inverse.ensures.within) in
    multiple_fits M e.d (e.D.at i) c.index.result.now m c.in_ok-factor.factor
    (subst (λ k. MultiplesFit M k (e.D.at i)) (sym (c.in_ok-factor.ensures.value e.is e.d e.E e.has_traces p q ep eq))
    (term_fits e c.args.order.now.limited p q i))

pub returns : goal.returns
returns g c e p q a b =
    let value = g.S.Scalar.value in
    let M = c.args.order.now.n in
    let step = c.args.step.now in
    let i = (phase_table step.inner).opposite q in
    if_ok_all c.times.result _ _ _ _ _ (λ z r k o v.
    term_of e.is e.D e.E p q z
    (scaled M e.d (e.D.at i) c.index.result.now
    (family_item e.is e.D c.args.family.now e.fixed.read c.inverse.result c.index.result.now c.inverse.ensures.within c.index.ensures i
    (sym (c.inverse.ensures.inverse q b))) c.in_ok-factor.factor (trace_factor e.is e.E p q)
    (c.in_ok-factor.ensures.value e.is e.d e.E e.has_traces p q a b) z r k o v))
    c.times.ensures.rows c.times.ensures.cols c.times.ensures.order c.times.ensures.value
