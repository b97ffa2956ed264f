use Rattle.std.proofs.Common.{◌≡◌, sym, ◌∙◌, ap₂, subst, ◌≤◌, ◌^◌, ℕ, ℤ, pos, ◌+ℤ◌, ◌*ℤ◌, unsigned_abs, get_or, FitsSigned, to_z, of_z, rules, [], ◌∷◌}
use Rattle.std.specs.Int.{w64, int_rem_euclid}
use Rattle.std.proofs.lemmas.Int.{to_z-of_z}
use Rattle.irr_algebra.specs.Fin.{to_nat}
use Rattle.irr_rational.specs.Ratio.{entry}
use Rattle.irr_rat.proofs.Vectors.{each_of_three}
use Rattle.irr_kvec.proofs.Products.{at_first, at_second, at_third, at_places}
use Rattle.irr_kvec.proofs.reduction.shifted.Goals as goal

-- a number of 64 bits is read back
small : (x : ℤ) → FitsSigned w64 x → unsigned_abs x ≤ 10 ^ 5 → unsigned_abs (to_z w64 (of_z w64 x)) ≤ 10 ^ 5
small x f h = subst (λ a. unsigned_abs a ≤ 10 ^ 5) (sym (to_z-of_z w64 x f)) h

pub shifted_by-requires-clause-few : goal.shifted_by-requires-clause-few
shifted_by-requires-clause-few c = small (get_or c.args.steps.now 0 (pos 0)) (search rules) (at_first (λ x. unsigned_abs x ≤ 10 ^ 5) c.args.steps.now c.requires.few)

pub shifted_by-requires-2-clause-few : goal.shifted_by-requires-2-clause-few
shifted_by-requires-2-clause-few c = small (get_or c.args.steps.now 1 (pos 0)) (search rules) (at_second (λ x. unsigned_abs x ≤ 10 ^ 5) c.args.steps.now c.requires.few)

pub shifted_by-requires-3-clause-few : goal.shifted_by-requires-3-clause-few
shifted_by-requires-3-clause-few c = small (get_or c.args.steps.now 2 (pos 0)) (search rules) (at_third (λ x. unsigned_abs x ≤ 10 ^ 5) c.args.steps.now c.requires.few)

read : (r x s : ℤ) (d : ℕ) → FitsSigned w64 r → FitsSigned w64 x → FitsSigned w64 s → r ≡ int_rem_euclid (to_z w64 (of_z w64 x)) (pos d) +ℤ (to_z w64 (of_z w64 s) *ℤ pos d)
    → to_z w64 (of_z w64 r) ≡ int_rem_euclid x (pos d) +ℤ (s *ℤ pos d)
read r x s d f g h e = to_z-of_z w64 r f ∙ e ∙ ap₂ (λ y z. int_rem_euclid y (pos d) +ℤ (z *ℤ pos d)) (to_z-of_z w64 x g) (to_z-of_z w64 s h)

pub returns-clause-value : goal.returns-clause-value
unfolding to_nat
returns-clause-value c = each_of_three (λ i. entry (to_z w64 (of_z w64 c.shifted_by.result) ∷ to_z w64 (of_z w64 c.shifted_by-2.result) ∷ to_z w64 (of_z w64 c.shifted_by-3.result) ∷ []) i
    ≡ int_rem_euclid (entry c.args.num.now i) (pos c.args.den) +ℤ (entry c.args.steps.now i *ℤ pos c.args.den))
    (read c.shifted_by.result (get_or c.args.num.now 0 (pos 0)) (get_or c.args.steps.now 0 (pos 0)) c.args.den (record { sfits = c.shifted_by.type_inv }) (search rules) (search rules) c.shifted_by.ensures.value)
    (read c.shifted_by-2.result (get_or c.args.num.now 1 (pos 0)) (get_or c.args.steps.now 1 (pos 0)) c.args.den (record { sfits = c.shifted_by-2.type_inv }) (search rules) (search rules) c.shifted_by-2.ensures.value)
    (read c.shifted_by-3.result (get_or c.args.num.now 2 (pos 0)) (get_or c.args.steps.now 2 (pos 0)) c.args.den (record { sfits = c.shifted_by-3.type_inv }) (search rules) (search rules) c.shifted_by-3.ensures.value)

least : (r : ℤ) → FitsSigned w64 r → unsigned_abs r ≤ 10 ^ 14 → unsigned_abs (to_z w64 (of_z w64 r)) ≤ 10 ^ 14
least r f h = subst (λ a. unsigned_abs a ≤ 10 ^ 14) (sym (to_z-of_z w64 r f)) h

pub returns-clause-small : goal.returns-clause-small
returns-clause-small c = at_places (λ x. unsigned_abs x ≤ 10 ^ 14) (to_z w64 (of_z w64 c.shifted_by.result) ∷ to_z w64 (of_z w64 c.shifted_by-2.result) ∷ to_z w64 (of_z w64 c.shifted_by-3.result) ∷ [])
    (least c.shifted_by.result (record { sfits = c.shifted_by.type_inv }) c.shifted_by.ensures.small)
    (least c.shifted_by-2.result (record { sfits = c.shifted_by-2.type_inv }) c.shifted_by-2.ensures.small)
    (least c.shifted_by-3.result (record { sfits = c.shifted_by-3.type_inv }) c.shifted_by-3.ensures.small)
