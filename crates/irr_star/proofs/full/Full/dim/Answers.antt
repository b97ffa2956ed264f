use Rattle.std.proofs.Common.{ℕ, ◌*◌, ◌<◌, ◌≤◌, sym, subst, ap, ap₂, Fits, rules}
use mir.Syntax.{w32}
use native.Mathlib.Nat as Nat
use Rattle.irr_star.proofs.MadeBlocks.{some_arms}
use Rattle.irr_star.proofs.full.Full.dim.Goals as goal

fits_small : (k : ℕ) → k ≤ 48 * 48 → Fits w32 k
fits_small k l = search rules

pub overflow_mul-result : goal.overflow_mul-result
overflow_mul-result g c =
    let e = c.requires in
    let is = e.induced in
    let arms = subst (λ n. n ≤ 48) (is.arms.count) is.arms.few in
    fits_small (c.arms.result * c.args.self.now.family.dim)
    (Nat.mul-le-mul (subst (λ n. n ≤ 48) (sym (c.arms.ensures.arms e.group e.wave e.star e.number e.divides e.size
    e.small is)) arms)
    (subst (λ n. n ≤ 48) (sym is.family.size) is.family.few))

pub returns-clause-positive : goal.returns-clause-positive
returns-clause-positive g c =
    let e = c.requires in
    let is = e.induced in
    Nat.mul-pos (subst (λ n. 0 < n) (sym (c.arms.ensures.arms e.group e.wave e.star e.number e.divides e.size e.small
    is))
    (some_arms c.args.self.now e.group e.star e.number e.divides e.small is))
    (subst (λ n. 0 < n) (sym is.family.size) is.family.shape.positive)

pub returns-clause-rows : goal.returns-clause-rows
returns-clause-rows g c = ap (λ n. n * c.args.self.now.family.dim) c.arms.ensures.count

pub returns-clause-dim : goal.returns-clause-dim
returns-clause-dim g c group k U M v d D is = ap₂ (λ a b. a * b)
    (c.arms.ensures.arms group k U M v d D is) is.family.size
