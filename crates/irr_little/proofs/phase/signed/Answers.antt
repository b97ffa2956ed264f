use Rattle.std.proofs.Common.{◌≡◌, sym, ◌∙◌, ap, subst, ◌+◌, ◌≤◌, ◌^◌, ℤ, pos, ◌-ℤ◌, neg_ℤ, unsigned_abs, FitsSigned, to_z, of_z, arith}
use Rattle.std.proofs.lemmas.Int.{ints, to_z-of_z, fits_signed_from_abs}
use Rattle.std.specs.Int.{w128}
use Rattle.irr_seitz.proofs.Sizes.{abs-sub}
use Rattle.irr_little.proofs.Phases.{signed_minus, signed_plus}
use Rattle.irr_little.proofs.phase.signed.Goals as goal

minus_fits : (x : ℤ) → unsigned_abs x ≤ 2 ^ 120 → FitsSigned w128 (pos 0 -ℤ x)
minus_fits x h = let s : unsigned_abs (pos 0 -ℤ x) ≤ 0 + 2 ^ 120 = abs-sub (pos 0) x 0 (2 ^ 120) (omega arith) h in fits_signed_from_abs w128
    (pos 0 -ℤ x) (omega arith)

negative : (x y : ℤ) → x ≡ y → unsigned_abs y ≤ 2 ^ 120 → to_z w128 (of_z w128 (pos 0 -ℤ x)) ≡ neg_ℤ y
negative x y e h = to_z-of_z w128 (pos 0 -ℤ x) (minus_fits x (subst (λ z. unsigned_abs z ≤ 2 ^ 120) (sym e) h)) ∙ minus x ∙ ap neg_ℤ e
  where
    minus : (z : ℤ) → pos 0 -ℤ z ≡ neg_ℤ z
    minus z = omega (arith, ints)

pub returns-in-Minus-clause-value : goal.returns-in-Minus-clause-value
returns-in-Minus-clause-value c = negative (to_z w128 (of_z w128 c.args.number)) c.args.number
    (to_z-of_z w128 c.args.number c.ranges.number) c.requires
    ∙ signed_minus c.args.phase c.args.number c.in-Minus.is

pub returns-in-Plus-clause-value : goal.returns-in-Plus-clause-value
returns-in-Plus-clause-value c = to_z-of_z w128 c.args.number c.ranges.number ∙ signed_plus c.args.phase c.args.number c.in-Plus.is
