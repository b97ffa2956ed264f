-- An operation of the group is in the line group where it keeps the first point, up to equivalence, and the steps.
use Rattle.std.proofs.Common.{◌≡◌, sym, ◌∙◌, ap, subst, subst₂, refl, ℕ, suc, ◌<◌, List, length, get_or, true, false}
use Rattle.std.proofs.lemmas.List.{get_or_default}
use Rattle.irr_algebra.specs.Fin.{Fin, to_nat}
use Rattle.irr_algebra.specs.Fin.Fin.{first}
use Rattle.irr_algebra.specs.Matrix.{◌⊖◌}
use Rattle.irr_space.specs.Operation.{turned}
use Rattle.irr_space.specs.Reciprocal.{AreEquivalent}
use Rattle.irr_seitz.specs.OperationMeaning.{operation}
use Rattle.irr_seitz.specs.declared.op.Op.{Op}
use Rattle.irr_kvec.specs.Centrings.{IsWithinLimits}
use Rattle.irr_kvec.specs.WaveMeaning.{wave_vector}
use Rattle.irr_kvec.specs.declared.wave.Wave.{Wave}
use Rattle.irr_close.specs.StandsFor.{stands_for}
use Rattle.irr_little.specs.Line.{line_points}
use Rattle.irr_little.proofs.Spaces.{canonical_at}
use Rattle.irr_little.proofs.Shifts.{entries_at}
use Rattle.irr_little.proofs.line.is_line_place.Goals as goal

pub keeps-requires-clause-limits : goal.keeps-requires-clause-limits
keeps-requires-clause-limits c = subst IsWithinLimits (sym c.index-points-0.is) (c.requires.limits 0 c.index-points-0.result c.requires.points)

pub keeps_steps-requires-clause-entries : goal.keeps_steps-requires-clause-entries
keeps_steps-requires-clause-entries c = entries_at c.ops-ops.result.now c.args.group.now.centrings.items c.ops-ops.ensures.canonical c.args.place
    c.index-ops-place.result (subst (λ (xs : List Op). c.args.place < length xs) (sym c.ops-ops.ensures.list) c.requires.place) c.index-ops-place.is

-- the first point, read with another default
first_point : (points : List Wave) (k d : Wave) → 0 < length points → k ≡ get_or points 0 k → wave_vector k ≡ wave_vector (get_or points 0 d)
first_point points k d some is = ap wave_vector (is ∙ get_or_default points 0 k d some)

-- the operation, read with another default
read_op : (ops items : List Op) (p : ℕ) (g d : Op) → p < length items → ops ≡ items → g ≡ get_or ops p g → g ≡ get_or items p d
read_op ops items p g d l same is = is ∙ ap (λ (xs : List Op). get_or xs p g) same ∙ get_or_default items p g d l

pub returns-then-not-keeps : goal.returns-then-not-keeps
unfolding to_nat
returns-then-not-keeps c = λ n d size. (
  λ t. absurd (let f : false ≡ true = t in cc),
  λ h. let t = c.keeps.ensures.1 (λ o. subst (λ w. AreEquivalent (stands_for c.args.group.now) (turned w (operation (get_or c.args.group.now.ops.items c.args.place o))) w)
      (sym (first_point c.args.points.now c.index-points-0.result d c.requires.points c.index-points-0.is)) (h o).in_little.keeps) in
      absurd (cc (t, c.if-not-keeps.true)),
)

pub returns : goal.returns
unfolding to_nat
returns c = λ n d size. (
  λ t o. record {
    in_little = record {
      member = (canonical_at c.args.group.now o c.args.place c.requires.place).member;
      keeps = subst (λ w. AreEquivalent (stands_for c.args.group.now) (turned w (operation (get_or c.args.group.now.ops.items c.args.place o))) w)
          (first_point c.args.points.now c.index-points-0.result d c.requires.points c.index-points-0.is) (c.keeps.ensures.0 c.if-not-keeps.false o);
    };
    keeps_step = λ i. subst (λ (g : Op). turned (line_points n c.args.points.now d i ⊖ line_points n c.args.points.now d first) (operation g)
        ≡ line_points n c.args.points.now d i ⊖ line_points n c.args.points.now d first)
        (read_op c.ops-ops.result.now c.args.group.now.ops.items c.args.place c.index-ops-place.result o c.requires.place c.ops-ops.ensures.list c.index-ops-place.is)
        ((c.keeps_steps.ensures n d size).0 t i);
  },
  λ h. (c.keeps_steps.ensures n d size).1 (λ i. subst (λ (g : Op). turned (line_points n c.args.points.now d i ⊖ line_points n c.args.points.now d first) (operation g)
      ≡ line_points n c.args.points.now d i ⊖ line_points n c.args.points.now d first)
      (sym (read_op c.ops-ops.result.now c.args.group.now.ops.items c.args.place c.index-ops-place.result c.index-ops-place.result c.requires.place c.ops-ops.ensures.list c.index-ops-place.is))
      ((h c.index-ops-place.result).keeps_step i)),
)
