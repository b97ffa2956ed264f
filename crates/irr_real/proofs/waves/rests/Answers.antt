use Rattle.std.proofs.Common.{◌≡◌, sym, ◌∙◌, ap, subst, ◌<◌, ◌≤◌, ◌^◌, ℕ, ℤ, pos, unsigned_abs, get_or, FitsSigned}
use Rattle.std.proofs.Common.{to_z, of_z, rules, [], ◌∷◌}
use Rattle.std.specs.Int.{w64, int_rem_euclid}
use Rattle.std.proofs.lemmas.Int.{to_z-of_z}
use Rattle.irr_algebra.specs.Fin.{to_nat}
use Rattle.irr_rational.specs.Ratio.{entry}
use Rattle.irr_rat.proofs.Vectors.{each_of_three}
use Rattle.irr_kvec.proofs.Products.{at_places}
use Rattle.irr_little.proofs.Wrapping.{remainder_small}
use Rattle.irr_real.proofs.waves.rests.Goals as goal

read : (r x : ℤ) (d : ℕ) → FitsSigned w64 r → FitsSigned w64 x → r ≡ int_rem_euclid (to_z w64 (of_z w64 x)) (pos d)
    → to_z w64
    (of_z w64 r) ≡ int_rem_euclid x (pos d)
read r x d f g e = to_z-of_z w64 r f ∙ e ∙ ap (λ y. int_rem_euclid y (pos d)) (to_z-of_z w64 x g)

pub returns-clause-value : goal.returns-clause-value
unfolding to_nat
returns-clause-value c = each_of_three (λ i. entry (to_z w64 (of_z w64 c.rest.result) ∷ to_z w64
    (of_z w64 c.rest-2.result) ∷ to_z w64
    (of_z w64 c.rest-3.result) ∷ []) i
    ≡ int_rem_euclid (entry c.args.num.now i) (pos c.args.cell))
    (read c.rest.result (get_or c.args.num.now 0 (pos 0)) c.args.cell (record { sfits = c.rest.type_inv })
    (search rules) c.rest.ensures)
    (read c.rest-2.result (get_or c.args.num.now 1 (pos 0)) c.args.cell (record { sfits = c.rest-2.type_inv })
    (search rules) c.rest-2.ensures)
    (read c.rest-3.result (get_or c.args.num.now 2 (pos 0)) c.args.cell (record { sfits = c.rest-3.type_inv })
    (search rules) c.rest-3.ensures)

least : (r x : ℤ) (d : ℕ) → 0 < d → d ≤ 10 ^ 9 → to_z w64 (of_z w64 r) ≡ int_rem_euclid x (pos d)
    → unsigned_abs (to_z w64 (of_z w64 r)) ≤ 10 ^ 9
least r x d h l e = subst (λ a. unsigned_abs a ≤ 10 ^ 9) (sym e) (remainder_small x d (10 ^ 9) h l)

pub returns-clause-small : goal.returns-clause-small
returns-clause-small c = at_places (λ x. unsigned_abs x ≤ 10 ^ 9) (to_z w64 (of_z w64 c.rest.result) ∷ to_z w64
    (of_z w64 c.rest-2.result) ∷ to_z w64 (of_z w64 c.rest-3.result) ∷ [])
    (least c.rest.result (get_or c.args.num.now 0 (pos 0)) c.args.cell c.requires.positive c.requires.small
    (read c.rest.result (get_or c.args.num.now 0 (pos 0)) c.args.cell (record { sfits = c.rest.type_inv })
    (search rules) c.rest.ensures))
    (least c.rest-2.result (get_or c.args.num.now 1 (pos 0)) c.args.cell c.requires.positive c.requires.small
    (read c.rest-2.result (get_or c.args.num.now 1 (pos 0)) c.args.cell (record { sfits = c.rest-2.type_inv })
    (search rules) c.rest-2.ensures))
    (least c.rest-3.result (get_or c.args.num.now 2 (pos 0)) c.args.cell c.requires.positive c.requires.small
    (read c.rest-3.result (get_or c.args.num.now 2 (pos 0)) c.args.cell (record { sfits = c.rest-3.type_inv })
    (search rules) c.rest-3.ensures))
