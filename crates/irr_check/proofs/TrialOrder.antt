-- The order of trials.
--   below-trans      it is transitive
--   before_below     a number below another
use Rattle.std.proofs.Common.{◌∙◌, subst, sym, inl, inr, ℕ, ◌<◌, List, [], ◌∷◌, arith, refl}
use native.Mathlib.Nat as Nat
use Rattle.irr_algebra.specs.Fin.{Fin}
use Rattle.irr_check.specs.Trials.{IsBelow, IsTriedBefore, Trial, turn}
use Rattle.irr_check.specs.Trials.Trial.{all, at_product, at_unit, inequivalent, irreducible}

pub below-trans : (xs ys zs : List ℕ) → IsBelow xs ys → IsBelow ys zs → IsBelow xs zs
unfolding IsBelow
below-trans [] ys zs p q = absurd p
below-trans (x ∷ xs) [] zs p q = absurd p
below-trans (x ∷ xs) (y ∷ ys) [] p q = absurd q
below-trans (x ∷ xs) (y ∷ ys) (z ∷ zs) (inl p) (inl q) = inl (Nat.lt_trans p q)
below-trans (x ∷ xs) (y ∷ ys) (z ∷ zs) (inl p) (inr q) = inl (subst (λ k. x < k) q.0 p)
below-trans (x ∷ xs) (y ∷ ys) (z ∷ zs) (inr p) (inl q) = inl (subst (λ k. k < z) (sym p.0) q)
below-trans (x ∷ xs) (y ∷ ys) (z ∷ zs) (inr p) (inr q) = inr (p.0 ∙ q.0, below-trans xs ys zs p.1 q.1)

pub before-trans : {c h : ℕ} (t u v : Trial c h) → IsTriedBefore t u → IsTriedBefore u v → IsTriedBefore t v
before-trans t u v p q = below-trans (turn t) (turn u) (turn v) p q

module _ {c : ℕ} (h : ℕ) where
  -- what is tried of a family before whether it is irreducible
  pub unit-first : (m : Fin c) → IsTriedBefore {c = c} {h = h} (at_unit m) (irreducible m)
  unfolding IsBelow turn
  unit-first m = inr (refl, inr (refl, inl (omega arith)))

  pub product-first : (m : Fin c) (i j : Fin h) → IsTriedBefore {c = c} {h = h} (at_product m i j) (irreducible m)
  unfolding IsBelow turn
  product-first m i j = inr (refl, inr (refl, inl (omega arith)))

  -- and before pairs
  pub unit-pair : (m a b : Fin c) → IsTriedBefore {c = c} {h = h} (at_unit m) (inequivalent a b)
  unfolding IsBelow turn
  unit-pair m a b = inl (omega arith)

  pub product-pair : (m a b : Fin c) (i j : Fin h) → IsTriedBefore {c = c} {h = h} (at_product m i j) (inequivalent a b)
  unfolding IsBelow turn
  product-pair m a b i j = inl (omega arith)

  pub irreducible-pair : (m a b : Fin c) → IsTriedBefore {c = c} {h = h} (irreducible m) (inequivalent a b)
  unfolding IsBelow turn
  irreducible-pair m a b = inl (omega arith)

  -- and before whether all are there
  pub unit-all : (m : Fin c) → IsTriedBefore {c = c} {h = h} (at_unit m) all
  unfolding IsBelow turn
  unit-all m = inl (omega arith)

  pub product-all : (m : Fin c) (i j : Fin h) → IsTriedBefore {c = c} {h = h} (at_product m i j) all
  unfolding IsBelow turn
  product-all m i j = inl (omega arith)

  pub irreducible-all : (m : Fin c) → IsTriedBefore {c = c} {h = h} (irreducible m) all
  unfolding IsBelow turn
  irreducible-all m = inl (omega arith)

  pub inequivalent-all : (a b : Fin c) → IsTriedBefore {c = c} {h = h} (inequivalent a b) all
  unfolding IsBelow turn
  inequivalent-all a b = inl (omega arith)
