-- The three numbers of the diagonal are small.
use Rattle.std.proofs.Common.{rules, ◌≡◌, sym, ◌∙◌, ap, ap₂, subst, ◌≤◌, ℤ, pos, [], get_or, unsigned_abs, FitsSigned, to_z, of_z, arith}
use Rattle.std.specs.Prelude.{◌+ℤ◌}
use Rattle.std.specs.Int.{w16}
use Rattle.std.proofs.lemmas.Int.{fits_signed_from_abs, to_z-of_z}
use Rattle.irr_site.proofs.RotationTraces.{diagonal_is, diagonal_small, sum_small, sum_value}
use Rattle.irr_site.proofs.traces.rotation_trace.Goals as goal

-- a small number, widened
widened : (x a : ℤ) → x ≡ to_z w16 (of_z w16 a) → unsigned_abs a ≤ 9 → x ≡ a
widened x a e l = e ∙ to_z-of_z w16 a (fits_signed_from_abs w16 a (omega (arith, l)))

small : (x a : ℤ) → x ≡ to_z w16 (of_z w16 a) → unsigned_abs a ≤ 9 → unsigned_abs x ≤ 9
small x a e l = subst (λ y. unsigned_abs y ≤ 9) (sym (widened x a e l)) l

pub returns-clause-value : goal.returns-clause-value
returns-clause-value c =
    let rot = c.args.op.now.rot in
    let s = diagonal_small rot c.requires in
    let p = get_or (get_or rot 0 []) 0 (pos 0) in
    let q = get_or (get_or rot 1 []) 1 (pos 0) in
    let r = get_or (get_or rot 2 []) 2 (pos 0) in
    sum_value c.from.result c.from-2.result c.from-3.result (small c.from.result p c.from.ensures s.0)
    (small c.from-2.result q c.from-2.ensures s.1) (small c.from-3.result r c.from-3.ensures s.2)
    ∙ ap₂ ◌+ℤ◌ (ap₂ ◌+ℤ◌ (widened c.from.result p c.from.ensures s.0) (widened c.from-2.result q c.from-2.ensures s.1))
    (widened c.from-3.result r c.from-3.ensures s.2)
    ∙ sym (diagonal_is rot)

pub returns-clause-small : goal.returns-clause-small
returns-clause-small c =
    let rot = c.args.op.now.rot in
    let s = diagonal_small rot c.requires in
    let p = get_or (get_or rot 0 []) 0 (pos 0) in
    let q = get_or (get_or rot 1 []) 1 (pos 0) in
    let r = get_or (get_or rot 2 []) 2 (pos 0) in
    let a = small c.from.result p c.from.ensures s.0 in
    let b = small c.from-2.result q c.from-2.ensures s.1 in
    let d = small c.from-3.result r c.from-3.ensures s.2 in
    subst (λ y. unsigned_abs y ≤ 27) (sym (sum_value c.from.result c.from-2.result c.from-3.result a b d))
    (sum_small c.from.result c.from-2.result c.from-3.result a b d)
