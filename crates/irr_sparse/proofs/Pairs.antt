-- Lists of one term.
--   scaled-one                       a multiple of one term
--   pair-none, pair-one, pair-terms  the sum of two multiples of one power
--   pair-small, pair-combination     multiples of two terms of one power
use Rattle.std.proofs.Common.{◌≡◌, ◌≢◌, refl, sym, ◌∙◌, ap, ap₂, subst, ℕ, ℤ, suc, pos, ◌+◌, ◌*◌, ◌<◌, ◌^◌, ◌+ℤ◌, ◌*ℤ◌, List, [], ◌∷◌, map, length, unsigned_abs, arith}
use Rattle.std.proofs.lemmas.Int.{unsigned_abs-mul}
use native.Mathlib.Nat as Nat
use Rattle.irr_number.specs.Number.{numbers}
use Rattle.irr_rational.specs.Integer.{integer}
use Rattle.irr_cyc.specs.Terms.{terms_sum}
use Rattle.irr_sparse.specs.TermList.{AreTerms, IsTerm, coefficient_at, exponent_at, total}
use Rattle.irr_sparse.proofs.Lists.{coefficient-le, terms-cons, terms-none}
use Rattle.irr_sparse.proofs.Sums.{sum-none, sum-one, sum-scaled, term_value, value-add, value-none}

pub scaled-one : (ts us : List (ℕ × ℤ)) (k p : ℤ) → length ts ≡ 1 → p ≡ coefficient_at ts 0 *ℤ k → us ≡ (exponent_at ts 0, p) ∷ [] → us ≡ map (λ (t : ℕ × ℤ). (t.0, t.1 *ℤ k)) ts
scaled-one [] us k p e q is = absurd (omega arith)
scaled-one (t ∷ []) us k p e q is = is ∙ ap (λ x. (t.0, x) ∷ []) q
scaled-one (t ∷ u ∷ ts) us k p e q is = absurd (omega arith)

module _ (n j : ℕ) (a b : ℤ) (us : List (ℕ × ℤ)) where
  pub pair-none : us ≡ [] → a +ℤ b ≡ pos 0 → terms_sum n us ≡ (numbers n).add (term_value n j a) (term_value n j b)
  pair-none is z = ap (terms_sum n) is ∙ sum-none n ∙ sym (sym (value-add n j a b) ∙ ap (term_value n j) z ∙ value-none n j)

  pub pair-one : (s : ℤ) → us ≡ (j, s) ∷ [] → s ≡ a +ℤ b → terms_sum n us ≡ (numbers n).add (term_value n j a) (term_value n j b)
  pair-one s is e = ap (terms_sum n) is ∙ sum-one n (j, s) ∙ ap (term_value n j) e ∙ value-add n j a b

  pub pair-terms : (s : ℤ) → us ≡ (j, s) ∷ [] → s ≡ a +ℤ b → a +ℤ b ≢ pos 0 → IsTerm n 0 j a → AreTerms n 0 us
  pair-terms s is e ne t = subst (AreTerms n 0) (sym is)
      (terms-cons n 0 (j, s) [] (record { from = t.from; below = t.below; basis = t.basis; nonzero = λ z. ne (sym e ∙ z) }) (terms-none n (suc j)))

scaled-single : (n : ℕ) (ts : List (ℕ × ℤ)) (k p : ℤ) → length ts ≡ 1 → p ≡ coefficient_at ts 0 *ℤ k → term_value n (exponent_at ts 0) p ≡ (numbers n).mul (integer (numbers n) k) (terms_sum n ts)
scaled-single n ts k p e q = sym (sum-one n (exponent_at ts 0, p)) ∙ ap (terms_sum n) (scaled-one ts ((exponent_at ts 0, p) ∷ []) k p e q refl) ∙ sum-scaled n k ts

module _ (xs ys : List (ℕ × ℤ)) (l r p q : ℤ) (lx : length xs ≡ 1) (ly : length ys ≡ 1) (ep : p ≡ coefficient_at xs 0 *ℤ l) (eq : q ≡ coefficient_at ys 0 *ℤ r) where
  pub pair-small : total xs * unsigned_abs l + total ys * unsigned_abs r < 2 ^ 110 → unsigned_abs p + unsigned_abs q < 2 ^ 126
  pair-small h =
      let a : unsigned_abs p ≡ unsigned_abs (coefficient_at xs 0) * unsigned_abs l = ap unsigned_abs ep ∙ unsigned_abs-mul (coefficient_at xs 0) l in
      let b : unsigned_abs q ≡ unsigned_abs (coefficient_at ys 0) * unsigned_abs r = ap unsigned_abs eq ∙ unsigned_abs-mul (coefficient_at ys 0) r in
      omega (arith, h, a, b, Nat.mul-le-mul_right (unsigned_abs l) (coefficient-le xs 0 (omega (arith, lx))), Nat.mul-le-mul_right (unsigned_abs r) (coefficient-le ys 0 (omega (arith, ly))))

  pub pair-combination : (n : ℕ) → exponent_at xs 0 ≡ exponent_at ys 0
      → (numbers n).add (term_value n (exponent_at xs 0) p) (term_value n (exponent_at xs 0) q) ≡ (numbers n).add ((numbers n).mul (integer (numbers n) l) (terms_sum n xs)) ((numbers n).mul (integer (numbers n) r) (terms_sum n ys))
  pair-combination n e = ap₂ (numbers n).add (scaled-single n xs l p lx ep) (ap (λ j. term_value n j q) e ∙ scaled-single n ys r q ly eq)
