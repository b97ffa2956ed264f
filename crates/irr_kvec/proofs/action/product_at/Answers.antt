use Rattle.std.proofs.Common.{◌≡◌, sym, ◌∙◌, ap, ap₂, subst, ◌≤◌, ◌+◌, ◌^◌, ℤ, pos, ◌+ℤ◌, ◌*ℤ◌, unsigned_abs, [], get_or, FitsSigned, to_z, of_z, rules, arith}
use Rattle.std.specs.Int.{w16, w64}
use Rattle.std.proofs.lemmas.Int.{to_z-of_z, fits_signed_from_abs}
use Rattle.irr_seitz.proofs.Rotations.{within_at}
use Rattle.irr_seitz.proofs.Sizes.{abs-add}
use Rattle.irr_kvec.proofs.Products.{at_first, at_second, at_third}
use Rattle.irr_kvec.proofs.action.product_at.Goals as goal

small : (x : ℤ) → FitsSigned w64 x → unsigned_abs x ≤ 10 ^ 14 → unsigned_abs (to_z w64 (of_z w64 x)) ≤ 10 ^ 14
small x f h = subst (λ a. unsigned_abs a ≤ 10 ^ 14) (sym (to_z-of_z w64 x f)) h

factor_fits : (x : ℤ) → unsigned_abs x ≤ 162 → FitsSigned w16 x
factor_fits x h = fits_signed_from_abs w16 x (omega arith)

factor_small : (x : ℤ) → unsigned_abs x ≤ 162 → unsigned_abs (to_z w16 (of_z w16 x)) ≤ 162
factor_small x h = subst (λ a. unsigned_abs a ≤ 162) (sym (to_z-of_z w16 x (factor_fits x h))) h

pub term-requires-clause-small : goal.term-requires-clause-small
term-requires-clause-small c = small (get_or c.args.num.now 0 (pos 0)) (search rules) (at_first (λ x. unsigned_abs x ≤ 10 ^ 14) c.args.num.now c.requires.small)

pub term-requires-clause-factor : goal.term-requires-clause-factor
term-requires-clause-factor c = factor_small (get_or (get_or c.args.rot.now 0 []) c.args.place (pos 0)) (within_at 162 c.args.rot.now c.requires.within 0 c.args.place (omega arith) c.requires.place)

pub term-requires-2-clause-small : goal.term-requires-2-clause-small
term-requires-2-clause-small c = small (get_or c.args.num.now 1 (pos 0)) (search rules) (at_second (λ x. unsigned_abs x ≤ 10 ^ 14) c.args.num.now c.requires.small)

pub term-requires-2-clause-factor : goal.term-requires-2-clause-factor
term-requires-2-clause-factor c = factor_small (get_or (get_or c.args.rot.now 1 []) c.args.place (pos 0)) (within_at 162 c.args.rot.now c.requires.within 1 c.args.place (omega arith) c.requires.place)

pub term-requires-3-clause-small : goal.term-requires-3-clause-small
term-requires-3-clause-small c = small (get_or c.args.num.now 2 (pos 0)) (search rules) (at_third (λ x. unsigned_abs x ≤ 10 ^ 14) c.args.num.now c.requires.small)

pub term-requires-3-clause-factor : goal.term-requires-3-clause-factor
term-requires-3-clause-factor c = factor_small (get_or (get_or c.args.rot.now 2 []) c.args.place (pos 0)) (within_at 162 c.args.rot.now c.requires.within 2 c.args.place (omega arith) c.requires.place)

-- sums of two and of three terms fit
two_fit : (x y : ℤ) → unsigned_abs x ≤ 2 ^ 54 → unsigned_abs y ≤ 2 ^ 54 → FitsSigned w64 (x +ℤ y)
two_fit x y h k = let s : unsigned_abs (x +ℤ y) ≤ 2 ^ 54 + 2 ^ 54 = abs-add x y (2 ^ 54) (2 ^ 54) h k in fits_signed_from_abs w64 (x +ℤ y) (omega arith)

three_fit : (x y z : ℤ) → unsigned_abs x ≤ 2 ^ 54 → unsigned_abs y ≤ 2 ^ 54 → unsigned_abs z ≤ 2 ^ 54 → FitsSigned w64 ((x +ℤ y) +ℤ z)
three_fit x y z h k l =
    let s : unsigned_abs ((x +ℤ y) +ℤ z) ≤ 2 ^ 54 + 2 ^ 54 + 2 ^ 54 = abs-add (x +ℤ y) z (2 ^ 54 + 2 ^ 54) (2 ^ 54) (abs-add x y (2 ^ 54) (2 ^ 54) h k) l in
    fits_signed_from_abs w64 ((x +ℤ y) +ℤ z) (omega arith)

module _ (x y : ℤ) (f : FitsSigned w64 x) (g : FitsSigned w64 y) where
  read_two : to_z w64 (of_z w64 x) +ℤ to_z w64 (of_z w64 y) ≡ x +ℤ y
  read_two = ap₂ ◌+ℤ◌ (to_z-of_z w64 x f) (to_z-of_z w64 y g)

  read_sum : FitsSigned w64 (x +ℤ y) → to_z w64 (of_z w64 (to_z w64 (of_z w64 x) +ℤ to_z w64 (of_z w64 y))) ≡ x +ℤ y
  read_sum h = ap (λ z. to_z w64 (of_z w64 z)) read_two ∙ to_z-of_z w64 (x +ℤ y) h

pub overflow_add-result : goal.overflow_add-result
overflow_add-result c = subst (FitsSigned w64) (sym (read_two c.term.result c.term-2.result (record { sfits = c.term.type_inv }) (record { sfits = c.term-2.type_inv })))
    (two_fit c.term.result c.term-2.result c.term.ensures.small c.term-2.ensures.small)

module _ (x y z : ℤ) (f : FitsSigned w64 x) (g : FitsSigned w64 y) (h : FitsSigned w64 z) (hx : unsigned_abs x ≤ 2 ^ 54) (hy : unsigned_abs y ≤ 2 ^ 54) (hz : unsigned_abs z ≤ 2 ^ 54) where
  read_three : to_z w64 (of_z w64 (to_z w64 (of_z w64 x) +ℤ to_z w64 (of_z w64 y))) +ℤ to_z w64 (of_z w64 z) ≡ (x +ℤ y) +ℤ z
  read_three = ap₂ ◌+ℤ◌ (read_sum x y f g (two_fit x y hx hy)) (to_z-of_z w64 z h)

  sum_fits : FitsSigned w64 (to_z w64 (of_z w64 (to_z w64 (of_z w64 x) +ℤ to_z w64 (of_z w64 y))) +ℤ to_z w64 (of_z w64 z))
  sum_fits = subst (FitsSigned w64) (sym read_three) (three_fit x y z hx hy hz)

  sum_read : to_z w64 (of_z w64 (to_z w64 (of_z w64 (to_z w64 (of_z w64 x) +ℤ to_z w64 (of_z w64 y))) +ℤ to_z w64 (of_z w64 z))) ≡ (x +ℤ y) +ℤ z
  sum_read = to_z-of_z w64 _ sum_fits ∙ read_three

pub overflow_add-result-2 : goal.overflow_add-result-2
overflow_add-result-2 c = sum_fits c.term.result c.term-2.result c.term-3.result (record { sfits = c.term.type_inv }) (record { sfits = c.term-2.type_inv }) (record { sfits = c.term-3.type_inv })
    c.term.ensures.small c.term-2.ensures.small c.term-3.ensures.small

read : (r x y : ℤ) → FitsSigned w64 x → unsigned_abs y ≤ 162 → r ≡ to_z w64 (of_z w64 x) *ℤ to_z w16 (of_z w16 y) → r ≡ x *ℤ y
read r x y g h e = e ∙ ap₂ ◌*ℤ◌ (to_z-of_z w64 x g) (to_z-of_z w16 y (factor_fits y h))

pub returns : goal.returns
returns c = sum_read c.term.result c.term-2.result c.term-3.result (record { sfits = c.term.type_inv }) (record { sfits = c.term-2.type_inv }) (record { sfits = c.term-3.type_inv })
    c.term.ensures.small c.term-2.ensures.small c.term-3.ensures.small
    ∙ ap₂ ◌+ℤ◌ (ap₂ ◌+ℤ◌ (read c.term.result (get_or c.args.num.now 0 (pos 0)) (get_or (get_or c.args.rot.now 0 []) c.args.place (pos 0)) (search rules) (within_at 162 c.args.rot.now c.requires.within 0 c.args.place (omega arith) c.requires.place) c.term.ensures.value)
    (read c.term-2.result (get_or c.args.num.now 1 (pos 0)) (get_or (get_or c.args.rot.now 1 []) c.args.place (pos 0)) (search rules) (within_at 162 c.args.rot.now c.requires.within 1 c.args.place (omega arith) c.requires.place) c.term-2.ensures.value))
    (read c.term-3.result (get_or c.args.num.now 2 (pos 0)) (get_or (get_or c.args.rot.now 2 []) c.args.place (pos 0)) (search rules) (within_at 162 c.args.rot.now c.requires.within 2 c.args.place (omega arith) c.requires.place) c.term-3.ensures.value)
