use Rattle.std.proofs.Common.{◌≡◌, sym, ◌∙◌, ap, ap₂, subst, ◌≤◌, ◌+◌, ◌^◌, ℤ, pos, ◌+ℤ◌, ◌*ℤ◌, unsigned_abs, get_or, FitsSigned, to_z, of_z, rules, arith}
use Rattle.std.specs.Int.{w64, w128}
use Rattle.std.proofs.lemmas.Int.{to_z-of_z, fits_signed_from_abs}
use Rattle.irr_seitz.proofs.Sizes.{abs-add}
use Rattle.irr_kvec.proofs.Products.{at_first, at_second, at_third}
use Rattle.irr_kvec.proofs.reciprocal.product.Goals as goal

small : (x : ℤ) → FitsSigned w64 x → unsigned_abs x ≤ 2 ^ 60 → unsigned_abs (to_z w64 (of_z w64 x)) ≤ 2 ^ 60
small x f h = subst (λ a. unsigned_abs a ≤ 2 ^ 60) (sym (to_z-of_z w64 x f)) h

pub term-requires : goal.term-requires
term-requires c = small (get_or c.args.row.now 0 (pos 0)) (search rules) (at_first (λ x. unsigned_abs x ≤ 2 ^ 60) c.args.row.now c.requires)

pub term-requires-2 : goal.term-requires-2
term-requires-2 c = small (get_or c.args.row.now 1 (pos 0)) (search rules) (at_second (λ x. unsigned_abs x ≤ 2 ^ 60) c.args.row.now c.requires)

pub term-requires-3 : goal.term-requires-3
term-requires-3 c = small (get_or c.args.row.now 2 (pos 0)) (search rules) (at_third (λ x. unsigned_abs x ≤ 2 ^ 60) c.args.row.now c.requires)

-- sums of two and of three terms fit
two_fit : (x y : ℤ) → unsigned_abs x ≤ 2 ^ 123 → unsigned_abs y ≤ 2 ^ 123 → FitsSigned w128 (x +ℤ y)
two_fit x y h k = let s : unsigned_abs (x +ℤ y) ≤ 2 ^ 123 + 2 ^ 123 = abs-add x y (2 ^ 123) (2 ^ 123) h k in fits_signed_from_abs w128 (x +ℤ y) (omega arith)

three_fit : (x y z : ℤ) → unsigned_abs x ≤ 2 ^ 123 → unsigned_abs y ≤ 2 ^ 123 → unsigned_abs z ≤ 2 ^ 123 → FitsSigned w128 ((x +ℤ y) +ℤ z)
three_fit x y z h k l =
    let s : unsigned_abs ((x +ℤ y) +ℤ z) ≤ 2 ^ 123 + 2 ^ 123 + 2 ^ 123 = abs-add (x +ℤ y) z (2 ^ 123 + 2 ^ 123) (2 ^ 123) (abs-add x y (2 ^ 123) (2 ^ 123) h k) l in
    fits_signed_from_abs w128 ((x +ℤ y) +ℤ z) (omega arith)

module _ (x y : ℤ) (f : FitsSigned w128 x) (g : FitsSigned w128 y) where
  read_two : to_z w128 (of_z w128 x) +ℤ to_z w128 (of_z w128 y) ≡ x +ℤ y
  read_two = ap₂ ◌+ℤ◌ (to_z-of_z w128 x f) (to_z-of_z w128 y g)

  read_sum : FitsSigned w128 (x +ℤ y) → to_z w128 (of_z w128 (to_z w128 (of_z w128 x) +ℤ to_z w128 (of_z w128 y))) ≡ x +ℤ y
  read_sum h = ap (λ z. to_z w128 (of_z w128 z)) read_two ∙ to_z-of_z w128 (x +ℤ y) h

pub overflow_add-result : goal.overflow_add-result
overflow_add-result c = subst (FitsSigned w128) (sym (read_two c.term.result c.term-2.result (record { sfits = c.term.type_inv }) (record { sfits = c.term-2.type_inv })))
    (two_fit c.term.result c.term-2.result c.term.ensures.small c.term-2.ensures.small)

module _ (x y z : ℤ) (f : FitsSigned w128 x) (g : FitsSigned w128 y) (h : FitsSigned w128 z) (hx : unsigned_abs x ≤ 2 ^ 123) (hy : unsigned_abs y ≤ 2 ^ 123) (hz : unsigned_abs z ≤ 2 ^ 123) where
  read_three : to_z w128 (of_z w128 (to_z w128 (of_z w128 x) +ℤ to_z w128 (of_z w128 y))) +ℤ to_z w128 (of_z w128 z) ≡ (x +ℤ y) +ℤ z
  read_three = ap₂ ◌+ℤ◌ (read_sum x y f g (two_fit x y hx hy)) (to_z-of_z w128 z h)

  sum_fits : FitsSigned w128 (to_z w128 (of_z w128 (to_z w128 (of_z w128 x) +ℤ to_z w128 (of_z w128 y))) +ℤ to_z w128 (of_z w128 z))
  sum_fits = subst (FitsSigned w128) (sym read_three) (three_fit x y z hx hy hz)

  sum_read : to_z w128 (of_z w128 (to_z w128 (of_z w128 (to_z w128 (of_z w128 x) +ℤ to_z w128 (of_z w128 y))) +ℤ to_z w128 (of_z w128 z))) ≡ (x +ℤ y) +ℤ z
  sum_read = to_z-of_z w128 _ sum_fits ∙ read_three

pub overflow_add-result-2 : goal.overflow_add-result-2
overflow_add-result-2 c = sum_fits c.term.result c.term-2.result c.term-3.result (record { sfits = c.term.type_inv }) (record { sfits = c.term-2.type_inv }) (record { sfits = c.term-3.type_inv })
    c.term.ensures.small c.term-2.ensures.small c.term-3.ensures.small

read : (r x y : ℤ) → FitsSigned w64 x → FitsSigned w64 y → r ≡ to_z w64 (of_z w64 x) *ℤ to_z w64 (of_z w64 y) → r ≡ x *ℤ y
read r x y g h e = e ∙ ap₂ ◌*ℤ◌ (to_z-of_z w64 x g) (to_z-of_z w64 y h)

pub returns : goal.returns
returns c = sum_read c.term.result c.term-2.result c.term-3.result (record { sfits = c.term.type_inv }) (record { sfits = c.term-2.type_inv }) (record { sfits = c.term-3.type_inv })
    c.term.ensures.small c.term-2.ensures.small c.term-3.ensures.small
    ∙ ap₂ ◌+ℤ◌ (ap₂ ◌+ℤ◌ (read c.term.result (get_or c.args.row.now 0 (pos 0)) (get_or c.args.column.now 0 (pos 0)) (search rules) (search rules) c.term.ensures.value) (read c.term-2.result (get_or c.args.row.now 1 (pos 0)) (get_or c.args.column.now 1 (pos 0)) (search rules) (search rules) c.term-2.ensures.value))
    (read c.term-3.result (get_or c.args.row.now 2 (pos 0)) (get_or c.args.column.now 2 (pos 0)) (search rules) (search rules) c.term-3.ensures.value)
