use Rattle.std.proofs.Common.{◌≡◌, sym, ◌∙◌, ap, ap₂, subst, ◌*◌, ◌≤◌, ◌^◌, ℤ, ◌*ℤ◌, unsigned_abs, FitsSigned, to_z, of_z, arith}
use Rattle.std.specs.Int.{w16, w64}
use Rattle.std.proofs.lemmas.Int.{to_z-of_z, fits_signed_from_abs}
use Rattle.irr_seitz.proofs.Sizes.{abs-mul}
use Rattle.irr_kvec.proofs.action.term.Goals as goal

module _ (x y r : ℤ) (f : FitsSigned w64 x) (g : FitsSigned w16 y) (h : FitsSigned w64 r) (e : r ≡ to_z w16 (of_z w16 y)) (a : unsigned_abs x ≤ 10 ^ 14) (b : unsigned_abs y ≤ 162) where
  bound : unsigned_abs (x *ℤ y) ≤ 10 ^ 14 * 162
  bound = abs-mul x y (10 ^ 14) 162 a b

  value : to_z w64 (of_z w64 (to_z w64 (of_z w64 x) *ℤ to_z w64 (of_z w64 r))) ≡ x *ℤ y
  value = ap (λ z. to_z w64 (of_z w64 z)) (ap₂ ◌*ℤ◌ (to_z-of_z w64 x f) (to_z-of_z w64 r h ∙ e ∙ to_z-of_z w16 y g))
      ∙ to_z-of_z w64 (x *ℤ y) (fits_signed_from_abs w64 (x *ℤ y) (let l = bound in omega arith))

  small : unsigned_abs (to_z w64 (of_z w64 (to_z w64 (of_z w64 x) *ℤ to_z w64 (of_z w64 r)))) ≤ 2 ^ 54
  small = subst (λ z. unsigned_abs z ≤ 2 ^ 54) (sym value) (let l = bound in omega arith)

pub returns-clause-value : goal.returns-clause-value
returns-clause-value c = value c.args.number c.args.factor c.from.result c.ranges.number c.ranges.factor (record { sfits = c.from.type_inv }) c.from.ensures c.requires.small c.requires.factor

pub returns-clause-small : goal.returns-clause-small
returns-clause-small c = small c.args.number c.args.factor c.from.result c.ranges.number c.ranges.factor (record { sfits = c.from.type_inv }) c.from.ensures c.requires.small c.requires.factor
