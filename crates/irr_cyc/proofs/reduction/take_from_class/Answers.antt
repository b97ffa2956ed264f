-- Each place that is written has its class, and the next one is a step on.
use Rattle.std.proofs.Common.{◌≡◌, sym, ◌∙◌, ap, subst, ℕ, ℤ, ◌<◌, ◌%◌, ◌-ℤ◌, arith, refl, FitsSigned, List, length, to_z, of_z, ◌^◌}
use Rattle.std.proofs.lemmas.Int.{fits_signed_from_abs, to_z-of_z}
use Rattle.std.specs.Int.RustNames.{unsigned_abs}
use mir.Syntax.{w128}
use native.Mathlib.Nat as Nat
use Rattle.irr_canonical.proofs.Sizes.{unsigned_abs-sub}
use Rattle.irr_cyc.specs.Form.{at}
use Rattle.irr_cyc.proofs.Classes.{class_step, left_step, others_step}
use Rattle.irr_cyc.proofs.reduction.take_from_class.Goals as goal

-- what is written is the difference
written : (a b : ℤ) → unsigned_abs a < 2 ^ 126 → unsigned_abs b < 2 ^ 126 → to_z w128 (of_z w128 (to_z w128 (of_z w128 a) -ℤ to_z w128 (of_z w128 b))) ≡ a -ℤ b
written a b ha hb =
    let fa : FitsSigned w128 a = fits_signed_from_abs w128 a (omega arith) in
    let fb : FitsSigned w128 b = fits_signed_from_abs w128 b (omega arith) in
    let fd : FitsSigned w128 (a -ℤ b) = fits_signed_from_abs w128 (a -ℤ b) (omega (arith, unsigned_abs-sub a b)) in
    ap (λ x. to_z w128 (of_z w128 x)) (λ i. to_z-of_z w128 a fa i -ℤ to_z-of_z w128 b fb i) ∙ to_z-of_z w128 (a -ℤ b) fd

read : (b : ℤ) → unsigned_abs b < 2 ^ 126 → to_z w128 (of_z w128 b) ≡ b
read b h = to_z-of_z w128 b (fits_signed_from_abs w128 b (omega arith))

pub loop-place-preserved : goal.loop-place-preserved
loop-place-preserved c =
    let now : List ℤ = c.loop-place.coefficients in
    let old : List ℤ = c.args.coefficients.now in
    let place : ℕ = c.loop-place.place in
    let top : ℕ = c.args.top in
    let step : ℕ = c.args.step in
    let inv = c.loop-place.invariant in
    let len : length c.loop-place.coefficients ≡ length c.args.coefficients.now = c.loop-place.auto.coefficients in
    let lt : c.loop-place.place < length c.loop-place.coefficients = c.loop-place-test.true in
    let small_top : unsigned_abs (at c.args.coefficients.now c.args.top) < 2 ^ 126 = c.requires.small c.args.top c.requires.inside refl in
    let same : at c.loop-place.coefficients c.loop-place.place ≡ at c.args.coefficients.now c.loop-place.place = inv.left place (omega arith) (omega arith) in
    let small_place : unsigned_abs (at c.loop-place.coefficients c.loop-place.place) < 2 ^ 126 = subst (λ x. unsigned_abs x < 2 ^ 126) (sym same) (c.requires.small place (omega arith) inv.place) in
    let reads : to_z w128 (of_z w128 (at c.args.coefficients.now c.args.top)) ≡ at c.args.coefficients.now c.args.top = read (at old top) small_top in
    let v = written (at now place) (at old top) small_place small_top ∙ ap (λ x. at now place -ℤ x) (sym reads) in
    record {
      place = Nat.add-mod_right place step ∙ inv.place;
      class = class_step old now place step (top % step) _ _ len lt c.requires.positive inv.place inv.left v inv.class;
      left = left_step old now place step (top % step) _ _ len lt c.requires.positive inv.place inv.left v;
      others = others_step old now place step (top % step) _ _ len lt c.requires.positive inv.place inv.left v inv.others;
    }
