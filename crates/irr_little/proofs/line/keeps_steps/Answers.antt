-- Step by step.
use Rattle.std.proofs.Common.{◌≡◌, sym, ◌∙◌, ap, subst, subst₂, refl, inl, inr, ℕ, suc, ◌<◌, List, length, get_or, true, false, arith}
use Rattle.std.proofs.lemmas.Bool.{cases_lt}
use Rattle.std.proofs.lemmas.List.{get_or_default}
use Rattle.irr_algebra.specs.Fin.{Fin, to_nat}
use Rattle.irr_algebra.specs.Matrix.{◌⊖◌}
use Rattle.irr_algebra.proofs.Indices.{from_nat, to_nat-from_nat, to_nat-lt}
use Rattle.irr_space.specs.Operation.{turned}
use Rattle.irr_seitz.specs.OperationMeaning.{operation}
use Rattle.irr_seitz.specs.declared.op.Op.{Op}
use Rattle.irr_kvec.specs.WaveMeaning.{wave_vector}
use Rattle.irr_kvec.specs.declared.wave.Wave.{Wave}
use Rattle.irr_little.proofs.line.keeps_steps.Goals as goal

abbrev Kept : Op → Wave → Wave → Type 0
Kept g from to = turned (wave_vector to ⊖ wave_vector from) (operation g) ≡ wave_vector to ⊖ wave_vector from

-- the points, read with another default
read : (points : List Wave) (j : ℕ) (x d : Wave) → j < length points → x ≡ get_or points j x → x ≡ get_or points j d
read points j x d l is = is ∙ get_or_default points j x d l

pub loop-i-preserved : goal.loop-i-preserved
loop-i-preserved c = λ j d l. elim (cases_lt j c.loop-i.i) [
  | inl b ↦ c.loop-i.invariant j d b
  | inr a ↦ (let e : c.loop-i.i ≡ j = omega (arith, l, a) in
      subst (λ n. Kept c.args.op.now (get_or c.args.points.now 0 d) (get_or c.args.points.now n d)) e
      (subst₂ (Kept c.args.op.now) (read c.args.points.now 0 c.index-points-0.result d c.requires.points c.index-points-0.is)
      (read c.args.points.now c.loop-i.i c.index-points-i.result d c.loop-i-test.true c.index-points-i.is)
      (c.keeps_step.ensures.0 c.if-not-keeps_step.false)))
]

pub returns-then-not-keeps_step : goal.returns-then-not-keeps_step
unfolding to_nat
returns-then-not-keeps_step c = λ n d size. (
  λ t. absurd (let f : false ≡ true = t in cc),
  λ all.
      let l : c.loop-i.i < suc n = subst (λ m. c.loop-i.i < m) size c.loop-i-test.true in
      let at = all (from_nat (suc n) c.loop-i.i l) in
      let here : Kept c.args.op.now (get_or c.args.points.now 0 d) (get_or c.args.points.now c.loop-i.i d) =
      subst (λ m. Kept c.args.op.now (get_or c.args.points.now 0 d) (get_or c.args.points.now m d)) (to_nat-from_nat (suc n) c.loop-i.i l) at in
      let t = c.keeps_step.ensures.1 (subst₂ (Kept c.args.op.now) (sym (read c.args.points.now 0 c.index-points-0.result d c.requires.points c.index-points-0.is))
      (sym (read c.args.points.now c.loop-i.i c.index-points-i.result d c.loop-i-test.true c.index-points-i.is)) here) in
      absurd (cc (t, c.if-not-keeps_step.true)),
)

pub returns : goal.returns
unfolding to_nat
returns c = λ n d size. (
  λ t i. c.loop-i.invariant (to_nat i) d (let b = to_nat-lt i in omega (arith, b, size, c.loop-i.auto.i-end, c.loop-i-test.false)),
  λ all. refl,
)
