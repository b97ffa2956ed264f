-- Each product fits, and is the next entry.
use Rattle.std.proofs.Common.{◌≡◌, ◌∙◌, ap, rules, ℕ, ℤ, ◌*◌, ◌<◌, ◌≤◌, ◌^◌, ◌*ℤ◌, unsigned_abs, FitsSigned, to_z, of_z, arith}
use Rattle.std.proofs.lemmas.Int.{to_z-of_z}
use mir.Syntax.{w128, w64}
use Rattle.irr_cyc.specs.Form.{at}
use Rattle.irr_cyc.proofs.Written.{pushed, pushed-len, written-product}
use Rattle.irr_cyc.proofs.polynomials.multiples.Goals as goal

read-bound : (a t times : ℤ) → FitsSigned w128 t → t ≡ times → unsigned_abs a * unsigned_abs times ≤ 2 ^ 100 → unsigned_abs a * unsigned_abs (to_z w128 (of_z w128 t)) < 2 ^ 127
read-bound a t times f e h = let s : unsigned_abs a * unsigned_abs (to_z w128 (of_z w128 t)) ≡ unsigned_abs a * unsigned_abs times = ap (λ x. unsigned_abs a * unsigned_abs x) (to_z-of_z w128 t f ∙ e) in omega arith

pub loop-x-preserved : goal.loop-x-preserved
loop-x-preserved c =
    let fa : FitsSigned w128 (at c.args.xs.now c.loop-x.x-index) = search rules in
    let ft : FitsSigned w128 c.from-times.result = search rules in
    let f64 : FitsSigned w64 c.args.times = search rules in
    let read_back : to_z w64 (of_z w64 c.args.times) ≡ c.args.times = to_z-of_z w64 c.args.times f64 in
    let is = written-product (at c.args.xs.now c.loop-x.x-index) (to_z w128 (of_z w128 c.from-times.result)) fa
    (read-bound (at c.args.xs.now c.loop-x.x-index) c.from-times.result c.args.times ft (c.from-times.ensures ∙ read_back) (c.requires c.loop-x.x-index c.loop-x-test.true)) in
    let h : ℕ → ℤ = λ j. at c.args.xs.now j *ℤ to_z w128 (of_z w128 c.from-times.result) in
    record {
      len = pushed-len c.loop-x.products.items c.push.new.self.items _ c.loop-x.x-index h c.in_ok-push.ensures.items c.loop-x.invariant.len;
      value = pushed c.loop-x.products.items c.push.new.self.items _ c.loop-x.x-index h c.in_ok-push.ensures.items c.loop-x.invariant.len is c.loop-x.invariant.value;
    }
