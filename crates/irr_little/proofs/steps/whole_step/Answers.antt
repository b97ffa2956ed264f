use Rattle.std.proofs.Common.{◌≡◌, sym, ◌∙◌, ap₂, subst, ◌≤◌, ◌^◌, ℤ, pos, ◌-ℤ◌, unsigned_abs, get_or, FitsSigned, to_z, of_z, rules, [], ◌∷◌}
use Rattle.std.specs.Int.{w64}
use Rattle.std.proofs.lemmas.Int.{to_z-of_z}
use Rattle.irr_algebra.specs.Fin.{to_nat}
use Rattle.irr_rational.specs.Ratio.{entry}
use Rattle.irr_rat.proofs.Vectors.{each_of_three}
use Rattle.irr_kvec.proofs.Products.{at_first, at_second, at_third, at_places}
use Rattle.irr_little.proofs.StepNumbers.{step_of_rows}
use Rattle.irr_little.proofs.steps.whole_step.Goals as goal

-- a number of 64 bits is read back
small : (x : ℤ) → FitsSigned w64 x → unsigned_abs x ≤ 2 ^ 61 → unsigned_abs (to_z w64 (of_z w64 x)) ≤ 2 ^ 61
small x f h = subst (λ a. unsigned_abs a ≤ 2 ^ 61) (sym (to_z-of_z w64 x f)) h

pub difference-requires-clause-small : goal.difference-requires-clause-small
difference-requires-clause-small c = small (get_or c.whole_row-end.result 0 (pos 0)) (search rules) (at_first (λ x. unsigned_abs x ≤ 2 ^ 61) c.whole_row-end.result c.whole_row-end.ensures.small)

pub difference-requires-clause-other_small : goal.difference-requires-clause-other_small
difference-requires-clause-other_small c = small (get_or c.whole_row-start.result 0 (pos 0)) (search rules) (at_first (λ x. unsigned_abs x ≤ 2 ^ 61) c.whole_row-start.result c.whole_row-start.ensures.small)

pub difference-requires-2-clause-small : goal.difference-requires-2-clause-small
difference-requires-2-clause-small c = small (get_or c.whole_row-end.result 1 (pos 0)) (search rules) (at_second (λ x. unsigned_abs x ≤ 2 ^ 61) c.whole_row-end.result c.whole_row-end.ensures.small)

pub difference-requires-2-clause-other_small : goal.difference-requires-2-clause-other_small
difference-requires-2-clause-other_small c = small (get_or c.whole_row-start.result 1 (pos 0)) (search rules) (at_second (λ x. unsigned_abs x ≤ 2 ^ 61) c.whole_row-start.result c.whole_row-start.ensures.small)

pub difference-requires-3-clause-small : goal.difference-requires-3-clause-small
difference-requires-3-clause-small c = small (get_or c.whole_row-end.result 2 (pos 0)) (search rules) (at_third (λ x. unsigned_abs x ≤ 2 ^ 61) c.whole_row-end.result c.whole_row-end.ensures.small)

pub difference-requires-3-clause-other_small : goal.difference-requires-3-clause-other_small
difference-requires-3-clause-other_small c = small (get_or c.whole_row-start.result 2 (pos 0)) (search rules) (at_third (λ x. unsigned_abs x ≤ 2 ^ 61) c.whole_row-start.result c.whole_row-start.ensures.small)

read : (r x y : ℤ) → FitsSigned w64 r → FitsSigned w64 x → FitsSigned w64 y → r ≡ to_z w64 (of_z w64 x) -ℤ to_z w64 (of_z w64 y) → to_z w64 (of_z w64 r) ≡ x -ℤ y
read r x y f g h e = to_z-of_z w64 r f ∙ e ∙ ap₂ ◌-ℤ◌ (to_z-of_z w64 x g) (to_z-of_z w64 y h)

pub returns-clause-value : goal.returns-clause-value
unfolding to_nat
returns-clause-value c = step_of_rows c.args.n c.args.from.now.num c.args.to.now.num c.whole_row-start.result c.whole_row-end.result
    (to_z w64 (of_z w64 c.difference.result) ∷ to_z w64 (of_z w64 c.difference-2.result) ∷ to_z w64 (of_z w64 c.difference-3.result) ∷ [])
    c.args.from.now.den c.args.to.now.den c.args.from.now.lowest.positive c.args.to.now.lowest.positive
    c.whole_row-start.ensures.value c.whole_row-end.ensures.value (each_of_three (λ i. entry (to_z w64 (of_z w64 c.difference.result) ∷ to_z w64 (of_z w64 c.difference-2.result) ∷ to_z w64 (of_z w64 c.difference-3.result) ∷ []) i
    ≡ entry c.whole_row-end.result i -ℤ entry c.whole_row-start.result i)
    (read c.difference.result (get_or c.whole_row-end.result 0 (pos 0)) (get_or c.whole_row-start.result 0 (pos 0)) (record { sfits = c.difference.type_inv }) (search rules) (search rules) c.difference.ensures.value)
    (read c.difference-2.result (get_or c.whole_row-end.result 1 (pos 0)) (get_or c.whole_row-start.result 1 (pos 0)) (record { sfits = c.difference-2.type_inv }) (search rules) (search rules) c.difference-2.ensures.value)
    (read c.difference-3.result (get_or c.whole_row-end.result 2 (pos 0)) (get_or c.whole_row-start.result 2 (pos 0)) (record { sfits = c.difference-3.type_inv }) (search rules) (search rules) c.difference-3.ensures.value))

least : (r : ℤ) → FitsSigned w64 r → unsigned_abs r ≤ 2 ^ 62 → unsigned_abs (to_z w64 (of_z w64 r)) ≤ 2 ^ 62
least r f h = subst (λ a. unsigned_abs a ≤ 2 ^ 62) (sym (to_z-of_z w64 r f)) h

pub returns-clause-small : goal.returns-clause-small
returns-clause-small c = at_places (λ x. unsigned_abs x ≤ 2 ^ 62) (to_z w64 (of_z w64 c.difference.result) ∷ to_z w64 (of_z w64 c.difference-2.result) ∷ to_z w64 (of_z w64 c.difference-3.result) ∷ [])
    (least c.difference.result (record { sfits = c.difference.type_inv }) c.difference.ensures.small)
    (least c.difference-2.result (record { sfits = c.difference-2.type_inv }) c.difference-2.ensures.small)
    (least c.difference-3.result (record { sfits = c.difference-3.type_inv }) c.difference-3.ensures.small)
