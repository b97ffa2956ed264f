use Rattle.std.proofs.Common.{◌≡◌, sym, ◌∙◌, ap, subst, ◌≤◌, ◌^◌, ℕ, ℤ, pos, unsigned_abs, get_or, FitsSigned, to_z, of_z, rules, [], ◌∷◌}
use Rattle.std.specs.Int.{w64, int_div_euclid}
use Rattle.std.proofs.lemmas.Int.{to_z-of_z}
use Rattle.irr_algebra.specs.Fin.{to_nat}
use Rattle.irr_rational.specs.Ratio.{entry}
use Rattle.irr_rat.proofs.Vectors.{each_of_three}
use Rattle.irr_kvec.proofs.Products.{at_first, at_second, at_third}
use Rattle.irr_kvec.proofs.reduction.cells.Goals as goal

-- a number of 64 bits is read back
small : (x : ℤ) → FitsSigned w64 x → unsigned_abs x ≤ 10 ^ 14 → unsigned_abs (to_z w64 (of_z w64 x)) ≤ 10 ^ 14
small x f h = subst (λ a. unsigned_abs a ≤ 10 ^ 14) (sym (to_z-of_z w64 x f)) h

pub floor-requires-clause-small : goal.floor-requires-clause-small
floor-requires-clause-small c = small (get_or c.args.num.now 0 (pos 0)) (search rules) (at_first (λ x. unsigned_abs x ≤ 10 ^ 14) c.args.num.now c.requires.small)

pub floor-requires-2-clause-small : goal.floor-requires-2-clause-small
floor-requires-2-clause-small c = small (get_or c.args.num.now 1 (pos 0)) (search rules) (at_second (λ x. unsigned_abs x ≤ 10 ^ 14) c.args.num.now c.requires.small)

pub floor-requires-3-clause-small : goal.floor-requires-3-clause-small
floor-requires-3-clause-small c = small (get_or c.args.num.now 2 (pos 0)) (search rules) (at_third (λ x. unsigned_abs x ≤ 10 ^ 14) c.args.num.now c.requires.small)

read : (r x : ℤ) (d : ℕ) → FitsSigned w64 r → FitsSigned w64 x → r ≡ int_div_euclid (to_z w64 (of_z w64 x)) (pos d) → to_z w64 (of_z w64 r) ≡ int_div_euclid x (pos d)
read r x d f g e = to_z-of_z w64 r f ∙ e ∙ ap (λ y. int_div_euclid y (pos d)) (to_z-of_z w64 x g)

pub returns-clause-value : goal.returns-clause-value
unfolding to_nat
returns-clause-value c = each_of_three (λ i. entry (to_z w64 (of_z w64 c.floor.result) ∷ to_z w64 (of_z w64 c.floor-2.result) ∷ to_z w64 (of_z w64 c.floor-3.result) ∷ []) i
    ≡ int_div_euclid (entry c.args.num.now i) (pos c.args.den))
    (read c.floor.result (get_or c.args.num.now 0 (pos 0)) c.args.den (record { sfits = c.floor.type_inv }) (search rules) c.floor.ensures.value)
    (read c.floor-2.result (get_or c.args.num.now 1 (pos 0)) c.args.den (record { sfits = c.floor-2.type_inv }) (search rules) c.floor-2.ensures.value)
    (read c.floor-3.result (get_or c.args.num.now 2 (pos 0)) c.args.den (record { sfits = c.floor-3.type_inv }) (search rules) c.floor-3.ensures.value)
