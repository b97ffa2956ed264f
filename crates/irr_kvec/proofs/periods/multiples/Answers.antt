use Rattle.std.proofs.Common.{◌≡◌, sym, ◌∙◌, ap, subst, ◌≤◌, ◌^◌, ℕ, ℤ, pos, ◌*ℤ◌, unsigned_abs, get_or, FitsSigned, to_z, of_z, rules, [], ◌∷◌}
use Rattle.std.specs.Int.{w64}
use Rattle.std.proofs.lemmas.Int.{to_z-of_z}
use Rattle.irr_algebra.specs.Fin.{to_nat}
use Rattle.irr_rational.specs.Ratio.{entry}
use Rattle.irr_rat.proofs.Vectors.{each_of_three}
use Rattle.irr_kvec.proofs.Products.{at_first, at_second, at_third}
use Rattle.irr_kvec.proofs.periods.multiples.Goals as goal

-- a number of 64 bits is read back
small : (x : ℤ) → FitsSigned w64 x → unsigned_abs x ≤ 10 ^ 14 → unsigned_abs (to_z w64 (of_z w64 x)) ≤ 10 ^ 14
small x f h = subst (λ a. unsigned_abs a ≤ 10 ^ 14) (sym (to_z-of_z w64 x f)) h

pub multiple-requires-clause-small : goal.multiple-requires-clause-small
multiple-requires-clause-small c = small (get_or c.args.num.now 0 (pos 0)) (search rules) (at_first (λ x. unsigned_abs x ≤ 10 ^ 14) c.args.num.now c.requires.small)

pub multiple-requires-2-clause-small : goal.multiple-requires-2-clause-small
multiple-requires-2-clause-small c = small (get_or c.args.num.now 1 (pos 0)) (search rules) (at_second (λ x. unsigned_abs x ≤ 10 ^ 14) c.args.num.now c.requires.small)

pub multiple-requires-3-clause-small : goal.multiple-requires-3-clause-small
multiple-requires-3-clause-small c = small (get_or c.args.num.now 2 (pos 0)) (search rules) (at_third (λ x. unsigned_abs x ≤ 10 ^ 14) c.args.num.now c.requires.small)

read : (r x : ℤ) (d : ℕ) → FitsSigned w64 r → FitsSigned w64 x → r ≡ pos d *ℤ to_z w64 (of_z w64 x) → to_z w64 (of_z w64 r) ≡ pos d *ℤ x
read r x d f g e = to_z-of_z w64 r f ∙ e ∙ ap (λ y. pos d *ℤ y) (to_z-of_z w64 x g)

pub returns-clause-value : goal.returns-clause-value
unfolding to_nat
returns-clause-value c = each_of_three (λ i. entry (to_z w64 (of_z w64 c.multiple.result) ∷ to_z w64 (of_z w64 c.multiple-2.result) ∷ to_z w64 (of_z w64 c.multiple-3.result) ∷ []) i
    ≡ pos c.args.factor *ℤ entry c.args.num.now i)
    (read c.multiple.result (get_or c.args.num.now 0 (pos 0)) c.args.factor (record { sfits = c.multiple.type_inv }) (search rules) c.multiple.ensures.value)
    (read c.multiple-2.result (get_or c.args.num.now 1 (pos 0)) c.args.factor (record { sfits = c.multiple-2.type_inv }) (search rules) c.multiple-2.ensures.value)
    (read c.multiple-3.result (get_or c.args.num.now 2 (pos 0)) c.args.factor (record { sfits = c.multiple-3.type_inv }) (search rules) c.multiple-3.ensures.value)
