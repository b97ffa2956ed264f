-- The least of an orbit.
--
-- least_of_strict  the law of the least that the step up uses follows from being below the images
-- strict_of_least  and gives it, where the member is not fixed
-- strict_or_not    a member that is not fixed is the least of its orbit, or not
-- least_of_two     for the index 2 one comparison tells
-- least_of_three   and two for the index 3
use Rattle.std.proofs.Common.{◌≡◌, sym, subst, ℕ, zero, suc, ◌<◌, ◌≤◌, ◌⊎◌, inl, inr, arith}
use Rattle.std.specs.Prelude.{◌↔◌}
use Rattle.irr_algebra.specs.Fin.{Fin, to_nat}
use Rattle.irr_algebra.proofs.Indices.{from_nat, to_nat-from_nat, to_nat-lt, to_nat_inj}
use Rattle.irr_theory.specs.Extension.{iterate}
use Rattle.irr_clifford.proofs.Least.{IsLeast, least_or_not}
use Rattle.irr_clifford.proofs.Orbits.{fixed_of_iterate}
use Rattle.irr_ascent.specs.Over.{IsLeastOfOrbit}

module _ {n : ℕ} (f : Fin n → Fin n) (p : ℕ) where
  -- not above its images, from below them
  pub least_of_strict : (l : Fin n) → IsLeastOfOrbit f p l → IsLeast f p l
  unfolding iterate
  least_of_strict l h = record { below = λ a. one (to_nat a) (to_nat-lt a) }
    where
      one : (a : ℕ) → a < p → to_nat l ≤ to_nat (iterate f a l)
      one zero k = omega arith
      one (suc a) k = let i = h (suc a) (omega arith) k in omega arith

  module _ (small : (p ≡ 2) ⊎ (p ≡ 3)) (period : (a : Fin n) → iterate f p a ≡ a) where
    -- and back, where it is not fixed
    pub strict_of_least : (l : Fin n) → (f l ≡ l → ⊥) → IsLeast f p l → IsLeastOfOrbit f p l
    strict_of_least l free h a i j = strict (to_nat l) (to_nat (iterate f a l))
        (subst (λ b. to_nat l ≤ to_nat (iterate f b l)) (to_nat-from_nat p a j) (h.below (from_nat p a j)))
        (λ e. free (fixed_of_iterate f p small period a i j l (to_nat_inj (iterate f a l) l (sym e))))
      where
        strict : (x y : ℕ) → x ≤ y → (x ≡ y → ⊥) → x < y
        strict x y k n = omega arith

    pub strict_or_not : (l : Fin n) → (f l ≡ l → ⊥) → IsLeastOfOrbit f p l ⊎ (IsLeastOfOrbit f p l → ⊥)
    strict_or_not l free = go (least_or_not f p l)
      where
        go : IsLeast f p l ⊎ ((a : Fin p) × (to_nat (iterate f (to_nat a) l) < to_nat l)) → IsLeastOfOrbit f p l ⊎ (IsLeastOfOrbit f p l → ⊥)
        go (inl h) = inl (strict_of_least l free h)
        go (inr s) = inr (λ h. above s.0 s.1 ((least_of_strict l h).below s.0))
          where
            above : (a : Fin p) → to_nat (iterate f (to_nat a) l) < to_nat l → to_nat l ≤ to_nat (iterate f (to_nat a) l) → ⊥
            above a i k = omega arith

  pub least_of_two : p ≡ 2 → (l : Fin n) → (to_nat l < to_nat (f l)) ↔ IsLeastOfOrbit f p l
  unfolding iterate
  least_of_two e l = (below, λ h. h 1 (omega arith) (omega arith))
    where
      below : to_nat l < to_nat (f l) → (a : ℕ) → 0 < a → a < p → to_nat l < to_nat (iterate f a l)
      below k zero i j = absurd (omega arith)
      below k (suc zero) i j = k
      below k (suc (suc a)) i j = absurd (omega arith)

  pub least_of_three : p ≡ 3 → (l : Fin n) → ((to_nat l < to_nat (f l)) × (to_nat l < to_nat (f (f l)))) ↔ IsLeastOfOrbit f p l
  unfolding iterate
  least_of_three e l = (λ k. below k.0 k.1, λ h. (h 1 (omega arith) (omega arith), h 2 (omega arith) (omega arith)))
    where
      below : to_nat l < to_nat (f l) → to_nat l < to_nat (f (f l)) → (a : ℕ) → 0 < a → a < p → to_nat l < to_nat (iterate f a l)
      below k m zero i j = absurd (omega arith)
      below k m (suc zero) i j = k
      below k m (suc (suc zero)) i j = m
      below k m (suc (suc (suc a))) i j = absurd (omega arith)
