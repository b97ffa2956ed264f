use Rattle.std.proofs.Common.{◌≡◌, sym, ◌∙◌, ap, subst, ◌≤◌, ◌^◌, ℕ, ℤ, pos, ◌*ℤ◌, unsigned_abs, get_or, FitsSigned, to_z, of_z, rules, [], ◌∷◌}
use Rattle.std.specs.Int.{w64}
use Rattle.std.proofs.lemmas.Int.{to_z-of_z}
use Rattle.irr_algebra.specs.Fin.{to_nat}
use Rattle.irr_algebra.specs.Fin.Fin.{first, next}
use Rattle.irr_rational.specs.Integer.{integer}
use Rattle.irr_rational.specs.Rational.{rationals, ratio, IsWhole}
use Rattle.irr_rational.specs.Ratio.{entry}
use Rattle.irr_rat.proofs.Vectors.{each_of_three}
use Rattle.irr_kvec.proofs.Products.{at_first, at_second, at_third, at_places}
use Rattle.irr_little.proofs.StepNumbers.{multiple_at}
use Rattle.irr_little.proofs.steps.whole_row.Goals as goal

-- a number of 64 bits is read back
small : (x : ℤ) → FitsSigned w64 x → unsigned_abs x ≤ 10 ^ 14 → unsigned_abs (to_z w64 (of_z w64 x)) ≤ 10 ^ 14
small x f h = subst (λ a. unsigned_abs a ≤ 10 ^ 14) (sym (to_z-of_z w64 x f)) h

read : (r x : ℤ) (n : ℕ) → FitsSigned w64 r → FitsSigned w64 x → r ≡ pos n *ℤ to_z w64 (of_z w64 x) → to_z w64 (of_z w64 r) ≡ pos n *ℤ x
read r x n f g e = to_z-of_z w64 r f ∙ e ∙ ap (λ y. pos n *ℤ y) (to_z-of_z w64 x g)

kept : (r : ℤ) (m : ℕ) → FitsSigned w64 r → unsigned_abs r ≤ m → unsigned_abs (to_z w64 (of_z w64 r)) ≤ m
kept r m f h = subst (λ a. unsigned_abs a ≤ m) (sym (to_z-of_z w64 r f)) h

whole_at : (r x : ℤ) (n d : ℕ) → r ≡ pos n *ℤ x → IsWhole (ratio (pos n *ℤ x) d) → IsWhole (ratio r d)
whole_at r x n d e w = subst (λ y. IsWhole (ratio y d)) (sym e) w

value : (q r x : ℤ) (n d : ℕ) → FitsSigned w64 q → r ≡ pos n *ℤ x → integer rationals q ≡ ratio r d
    → integer rationals (to_z w64 (of_z w64 q)) ≡ ratio (pos n *ℤ x) d
value q r x n d f e h = ap (integer rationals) (to_z-of_z w64 q f) ∙ h ∙ ap (λ y. ratio y d) e

pub scaled-requires-clause-small : goal.scaled-requires-clause-small
scaled-requires-clause-small c = small (get_or c.args.k.now.num 0 (pos 0)) (search rules) (at_first (λ x. unsigned_abs x ≤ 10 ^ 14) c.args.k.now.num c.requires.limits.numerators)

pub scaled-requires-2-clause-small : goal.scaled-requires-2-clause-small
scaled-requires-2-clause-small c = small (get_or c.args.k.now.num 1 (pos 0)) (search rules) (at_second (λ x. unsigned_abs x ≤ 10 ^ 14) c.args.k.now.num c.requires.limits.numerators)

pub scaled-requires-3-clause-small : goal.scaled-requires-3-clause-small
scaled-requires-3-clause-small c = small (get_or c.args.k.now.num 2 (pos 0)) (search rules) (at_third (λ x. unsigned_abs x ≤ 10 ^ 14) c.args.k.now.num c.requires.limits.numerators)

pub exact-requires-clause-whole : goal.exact-requires-clause-whole
unfolding to_nat
exact-requires-clause-whole c = whole_at (to_z w64 (of_z w64 c.scaled.result)) (get_or c.args.k.now.num 0 (pos 0)) c.args.n c.args.k.now.den
    (read c.scaled.result (get_or c.args.k.now.num 0 (pos 0)) c.args.n (record { sfits = c.scaled.type_inv }) (search rules) c.scaled.ensures.value)
    (subst IsWhole (multiple_at c.args.n c.args.k.now.num c.args.k.now.den c.args.k.now.lowest.positive first) (c.requires.multiple first))

pub exact-requires-2-clause-whole : goal.exact-requires-2-clause-whole
unfolding to_nat
exact-requires-2-clause-whole c = whole_at (to_z w64 (of_z w64 c.scaled-2.result)) (get_or c.args.k.now.num 1 (pos 0)) c.args.n c.args.k.now.den
    (read c.scaled-2.result (get_or c.args.k.now.num 1 (pos 0)) c.args.n (record { sfits = c.scaled-2.type_inv }) (search rules) c.scaled-2.ensures.value)
    (subst IsWhole (multiple_at c.args.n c.args.k.now.num c.args.k.now.den c.args.k.now.lowest.positive (next first)) (c.requires.multiple (next first)))

pub exact-requires-3-clause-whole : goal.exact-requires-3-clause-whole
unfolding to_nat
exact-requires-3-clause-whole c = whole_at (to_z w64 (of_z w64 c.scaled-3.result)) (get_or c.args.k.now.num 2 (pos 0)) c.args.n c.args.k.now.den
    (read c.scaled-3.result (get_or c.args.k.now.num 2 (pos 0)) c.args.n (record { sfits = c.scaled-3.type_inv }) (search rules) c.scaled-3.ensures.value)
    (subst IsWhole (multiple_at c.args.n c.args.k.now.num c.args.k.now.den c.args.k.now.lowest.positive (next (next first))) (c.requires.multiple (next (next first))))

pub exact-requires-clause-small : goal.exact-requires-clause-small
exact-requires-clause-small c = kept c.scaled.result (2 ^ 61) (record { sfits = c.scaled.type_inv }) c.scaled.ensures.small

pub exact-requires-2-clause-small : goal.exact-requires-2-clause-small
exact-requires-2-clause-small c = kept c.scaled-2.result (2 ^ 61) (record { sfits = c.scaled-2.type_inv }) c.scaled-2.ensures.small

pub exact-requires-3-clause-small : goal.exact-requires-3-clause-small
exact-requires-3-clause-small c = kept c.scaled-3.result (2 ^ 61) (record { sfits = c.scaled-3.type_inv }) c.scaled-3.ensures.small

pub returns-clause-value : goal.returns-clause-value
unfolding to_nat
returns-clause-value c = each_of_three (λ i. integer rationals (entry (to_z w64 (of_z w64 c.exact.result) ∷ to_z w64 (of_z w64 c.exact-2.result) ∷ to_z w64 (of_z w64 c.exact-3.result) ∷ []) i)
    ≡ ratio (pos c.args.n *ℤ entry c.args.k.now.num i) c.args.k.now.den)
    (value c.exact.result (to_z w64 (of_z w64 c.scaled.result)) (get_or c.args.k.now.num 0 (pos 0)) c.args.n c.args.k.now.den (record { sfits = c.exact.type_inv })
    (read c.scaled.result (get_or c.args.k.now.num 0 (pos 0)) c.args.n (record { sfits = c.scaled.type_inv }) (search rules) c.scaled.ensures.value) c.exact.ensures.value)
    (value c.exact-2.result (to_z w64 (of_z w64 c.scaled-2.result)) (get_or c.args.k.now.num 1 (pos 0)) c.args.n c.args.k.now.den (record { sfits = c.exact-2.type_inv })
    (read c.scaled-2.result (get_or c.args.k.now.num 1 (pos 0)) c.args.n (record { sfits = c.scaled-2.type_inv }) (search rules) c.scaled-2.ensures.value) c.exact-2.ensures.value)
    (value c.exact-3.result (to_z w64 (of_z w64 c.scaled-3.result)) (get_or c.args.k.now.num 2 (pos 0)) c.args.n c.args.k.now.den (record { sfits = c.exact-3.type_inv })
    (read c.scaled-3.result (get_or c.args.k.now.num 2 (pos 0)) c.args.n (record { sfits = c.scaled-3.type_inv }) (search rules) c.scaled-3.ensures.value) c.exact-3.ensures.value)

pub returns-clause-small : goal.returns-clause-small
returns-clause-small c = at_places (λ x. unsigned_abs x ≤ 2 ^ 61) (to_z w64 (of_z w64 c.exact.result) ∷ to_z w64 (of_z w64 c.exact-2.result) ∷ to_z w64 (of_z w64 c.exact-3.result) ∷ [])
    (kept c.exact.result (2 ^ 61) (record { sfits = c.exact.type_inv }) c.exact.ensures.small)
    (kept c.exact-2.result (2 ^ 61) (record { sfits = c.exact-2.type_inv }) c.exact-2.ensures.small)
    (kept c.exact-3.result (2 ^ 61) (record { sfits = c.exact-3.type_inv }) c.exact-3.ensures.small)
