-- Each sum fits, and is the next entry.
use Rattle.std.proofs.Common.{sym, subst, rules, ℕ, ℤ, ◌+◌, ◌*◌, ◌<◌, ◌^◌, ◌+ℤ◌, ◌*ℤ◌, unsigned_abs, FitsSigned, to_z, of_z}
use Rattle.std.proofs.lemmas.Int.{to_z-of_z}
use mir.Syntax.{w128}
use Rattle.irr_cyc.specs.Form.{at}
use Rattle.irr_cyc.proofs.Written.{fits-sum, pushed, pushed-len, written-sum}
use Rattle.irr_cyc.proofs.polynomials.combination.Goals as goal

-- the condition, at values that are read back
read-bound : (a b l r : ℤ) → FitsSigned w128 l → FitsSigned w128 r → unsigned_abs a * unsigned_abs l + unsigned_abs b * unsigned_abs r < 2 ^ 110
    → unsigned_abs a * unsigned_abs (to_z w128 (of_z w128 l)) + unsigned_abs b * unsigned_abs (to_z w128 (of_z w128 r)) < 2 ^ 110
read-bound a b l r fl fr h = subst (λ m. m < 2 ^ 110) (λ i. unsigned_abs a * unsigned_abs (sym (to_z-of_z w128 l fl) i) + unsigned_abs b * unsigned_abs (sym (to_z-of_z w128 r fr) i)) h

pub overflow_add-xs : goal.overflow_add-xs
overflow_add-xs c =
    let fa : FitsSigned w128 (at c.args.xs.now c.loop-i.i) = search rules in
    let fb : FitsSigned w128 (at c.args.ys.now c.loop-i.i) = search rules in
    let fl : FitsSigned w128 c.args.left = search rules in
    let fr : FitsSigned w128 c.args.right = search rules in
    fits-sum (at c.args.xs.now c.loop-i.i) (to_z w128 (of_z w128 c.args.left)) (at c.args.ys.now c.loop-i.i) (to_z w128 (of_z w128 c.args.right)) fa fb
    (read-bound (at c.args.xs.now c.loop-i.i) (at c.args.ys.now c.loop-i.i) c.args.left c.args.right fl fr (c.requires.small c.loop-i.i c.loop-i-test.true))

pub loop-i-preserved : goal.loop-i-preserved
loop-i-preserved c =
    let fa : FitsSigned w128 (at c.args.xs.now c.loop-i.i) = search rules in
    let fb : FitsSigned w128 (at c.args.ys.now c.loop-i.i) = search rules in
    let fl : FitsSigned w128 c.args.left = search rules in
    let fr : FitsSigned w128 c.args.right = search rules in
    let is = written-sum (at c.args.xs.now c.loop-i.i) (to_z w128 (of_z w128 c.args.left)) (at c.args.ys.now c.loop-i.i) (to_z w128 (of_z w128 c.args.right)) fa fb
    (read-bound (at c.args.xs.now c.loop-i.i) (at c.args.ys.now c.loop-i.i) c.args.left c.args.right fl fr (c.requires.small c.loop-i.i c.loop-i-test.true)) in
    let h : ℕ → ℤ = λ j. (at c.args.xs.now j *ℤ to_z w128 (of_z w128 c.args.left)) +ℤ (at c.args.ys.now j *ℤ to_z w128 (of_z w128 c.args.right)) in
    record {
      len = pushed-len c.loop-i.sums.items c.push.new.self.items _ c.loop-i.i h c.in_ok-push.ensures.items c.loop-i.invariant.len;
      value = pushed c.loop-i.sums.items c.push.new.self.items _ c.loop-i.i h c.in_ok-push.ensures.items c.loop-i.invariant.len is c.loop-i.invariant.value;
    }
