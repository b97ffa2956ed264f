-- The numbers of 64 bits are read back, place by place.
use Rattle.std.proofs.Common.{◌≡◌, sym, ◌∙◌, ap₂, subst, ◌≤◌, ◌^◌, ℕ, ℤ, pos, ◌+ℤ◌, ◌*ℤ◌, unsigned_abs, get_or, FitsSigned, to_z, of_z, rules, [], ◌∷◌}
use Rattle.std.specs.Int.{w64}
use Rattle.std.proofs.lemmas.Int.{to_z-of_z}
use Rattle.irr_algebra.specs.Fin.{to_nat}
use Rattle.irr_rational.specs.Ratio.{entry}
use Rattle.irr_rat.proofs.Vectors.{each_of_three}
use Rattle.irr_kvec.proofs.Products.{at_first, at_second, at_third, at_places}
use Rattle.irr_product.proofs.sums.over_common.Goals as goal

small : (x : ℤ) → FitsSigned w64 x → unsigned_abs x ≤ 10 ^ 6 → unsigned_abs (to_z w64 (of_z w64 x)) ≤ 10 ^ 6
small x f h = subst (λ a. unsigned_abs a ≤ 10 ^ 6) (sym (to_z-of_z w64 x f)) h

pub numerator-requires-clause-first : goal.numerator-requires-clause-first
numerator-requires-clause-first c = small (get_or c.args.a.now 0 (pos 0)) (search rules)
    (at_first (λ x. unsigned_abs x ≤ 10 ^ 6) c.args.a.now c.requires.first)

pub numerator-requires-clause-second : goal.numerator-requires-clause-second
numerator-requires-clause-second c = small (get_or c.args.b.now 0 (pos 0)) (search rules)
    (at_first (λ x. unsigned_abs x ≤ 10 ^ 6) c.args.b.now c.requires.second)

pub numerator-requires-2-clause-first : goal.numerator-requires-2-clause-first
numerator-requires-2-clause-first c = small (get_or c.args.a.now 1 (pos 0)) (search rules)
    (at_second (λ x. unsigned_abs x ≤ 10 ^ 6) c.args.a.now c.requires.first)

pub numerator-requires-2-clause-second : goal.numerator-requires-2-clause-second
numerator-requires-2-clause-second c = small (get_or c.args.b.now 1 (pos 0)) (search rules)
    (at_second (λ x. unsigned_abs x ≤ 10 ^ 6) c.args.b.now c.requires.second)

pub numerator-requires-3-clause-first : goal.numerator-requires-3-clause-first
numerator-requires-3-clause-first c = small (get_or c.args.a.now 2 (pos 0)) (search rules)
    (at_third (λ x. unsigned_abs x ≤ 10 ^ 6) c.args.a.now c.requires.first)

pub numerator-requires-3-clause-second : goal.numerator-requires-3-clause-second
numerator-requires-3-clause-second c = small (get_or c.args.b.now 2 (pos 0)) (search rules)
    (at_third (λ x. unsigned_abs x ≤ 10 ^ 6) c.args.b.now c.requires.second)

read : (r x y : ℤ) (p q : ℕ) → FitsSigned w64 r → FitsSigned w64 x → FitsSigned w64 y
    → r ≡ (to_z w64 (of_z w64 x) *ℤ pos p) +ℤ (to_z w64 (of_z w64 y) *ℤ pos q)
    → to_z w64 (of_z w64 r) ≡ (x *ℤ pos p) +ℤ (y *ℤ pos q)
read r x y p q f g h e = to_z-of_z w64 r f ∙ e
    ∙ ap₂ (λ v w. (v *ℤ pos p) +ℤ (w *ℤ pos q)) (to_z-of_z w64 x g) (to_z-of_z w64 y h)

pub returns-clause-value : goal.returns-clause-value
unfolding to_nat
returns-clause-value c = each_of_three (λ i. entry (to_z w64 (of_z w64 c.numerator.result)
    ∷ to_z w64 (of_z w64 c.numerator-2.result) ∷ to_z w64 (of_z w64 c.numerator-3.result) ∷ []) i
    ≡ (entry c.args.a.now i *ℤ pos c.args.p) +ℤ (entry c.args.b.now i *ℤ pos c.args.q))
    (read c.numerator.result (get_or c.args.a.now 0 (pos 0)) (get_or c.args.b.now 0 (pos 0)) c.args.p c.args.q
    (record { sfits = c.numerator.type_inv }) (search rules) (search rules) c.numerator.ensures.value)
    (read c.numerator-2.result (get_or c.args.a.now 1 (pos 0)) (get_or c.args.b.now 1 (pos 0)) c.args.p c.args.q
    (record { sfits = c.numerator-2.type_inv }) (search rules) (search rules) c.numerator-2.ensures.value)
    (read c.numerator-3.result (get_or c.args.a.now 2 (pos 0)) (get_or c.args.b.now 2 (pos 0)) c.args.p c.args.q
    (record { sfits = c.numerator-3.type_inv }) (search rules) (search rules) c.numerator-3.ensures.value)

least : (r : ℤ) → FitsSigned w64 r → unsigned_abs r ≤ 10 ^ 12 → unsigned_abs (to_z w64 (of_z w64 r)) ≤ 10 ^ 12
least r f h = subst (λ a. unsigned_abs a ≤ 10 ^ 12) (sym (to_z-of_z w64 r f)) h

pub returns-clause-small : goal.returns-clause-small
returns-clause-small c = at_places (λ x. unsigned_abs x ≤ 10 ^ 12) (to_z w64 (of_z w64 c.numerator.result)
    ∷ to_z w64 (of_z w64 c.numerator-2.result) ∷ to_z w64 (of_z w64 c.numerator-3.result) ∷ [])
    (least c.numerator.result (record { sfits = c.numerator.type_inv }) c.numerator.ensures.small)
    (least c.numerator-2.result (record { sfits = c.numerator-2.type_inv }) c.numerator-2.ensures.small)
    (least c.numerator-3.result (record { sfits = c.numerator-3.type_inv }) c.numerator-3.ensures.small)
