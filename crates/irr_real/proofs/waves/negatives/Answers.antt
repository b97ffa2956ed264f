use Rattle.std.proofs.Common.{◌≡◌, sym, ◌∙◌, ap, subst, ◌≤◌, ◌^◌, ℤ, pos, neg_ℤ, unsigned_abs, get_or, FitsSigned}
use Rattle.std.proofs.Common.{to_z, of_z, rules, [], ◌∷◌}
use Rattle.std.specs.Int.{w64}
use Rattle.std.proofs.lemmas.Int.{to_z-of_z}
use Rattle.irr_algebra.specs.Fin.{to_nat}
use Rattle.irr_rational.specs.Ratio.{entry}
use Rattle.irr_rat.proofs.Vectors.{each_of_three}
use Rattle.irr_kvec.proofs.Products.{at_first, at_second, at_third}
use Rattle.irr_real.proofs.waves.negatives.Goals as goal

-- a number of 64 bits is read back
small : (x : ℤ) → FitsSigned w64 x → unsigned_abs x ≤ 10 ^ 14 → unsigned_abs (to_z w64 (of_z w64 x)) ≤ 10 ^ 14
small x f h = subst (λ a. unsigned_abs a ≤ 10 ^ 14) (sym (to_z-of_z w64 x f)) h

pub negative-requires : goal.negative-requires
negative-requires c = small (get_or c.args.num.now 0 (pos 0)) (search rules)
    (at_first (λ x. unsigned_abs x ≤ 10 ^ 14) c.args.num.now c.requires.small)

pub negative-requires-2 : goal.negative-requires-2
negative-requires-2 c = small (get_or c.args.num.now 1 (pos 0)) (search rules)
    (at_second (λ x. unsigned_abs x ≤ 10 ^ 14) c.args.num.now c.requires.small)

pub negative-requires-3 : goal.negative-requires-3
negative-requires-3 c = small (get_or c.args.num.now 2 (pos 0)) (search rules)
    (at_third (λ x. unsigned_abs x ≤ 10 ^ 14) c.args.num.now c.requires.small)

read : (r x : ℤ) → FitsSigned w64 r → FitsSigned w64 x → r ≡ neg_ℤ (to_z w64 (of_z w64 x)) → to_z w64 (of_z w64 r)
    ≡ neg_ℤ x
read r x f g e = to_z-of_z w64 r f ∙ e ∙ ap neg_ℤ (to_z-of_z w64 x g)

pub returns : goal.returns
unfolding to_nat
returns c = record {
  value = each_of_three (λ i. entry (to_z w64 (of_z w64 c.negative.result) ∷ to_z w64 (of_z w64 c.negative-2.result) ∷
      to_z w64
      (of_z w64 c.negative-3.result) ∷ []) i ≡ neg_ℤ (entry c.args.num.now i))
      (read c.negative.result (get_or c.args.num.now 0 (pos 0)) (record { sfits = c.negative.type_inv })
      (search rules) c.negative.ensures)
      (read c.negative-2.result (get_or c.args.num.now 1 (pos 0)) (record { sfits = c.negative-2.type_inv })
      (search rules) c.negative-2.ensures)
      (read c.negative-3.result (get_or c.args.num.now 2 (pos 0)) (record { sfits = c.negative-3.type_inv })
      (search rules) c.negative-3.ensures);
}
