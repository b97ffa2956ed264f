-- A number that occurs as an eigenvalue is one of the values of the eigenspaces.
--   null_of_scales: what two different numbers multiply alike is 0
--   value_of_occurs: its index
use Rattle.std.proofs.Common.{◌≡◌, sym, ◌∙◌, ap, ap₂, refl, ℕ, suc, ◌⊎◌, inl, inr}
use Rattle.irr_algebra.specs.Field.{Field}
use Rattle.irr_algebra.specs.Fin.{Fin}
use Rattle.irr_algebra.specs.Fin.Fin.{first}
use Rattle.irr_algebra.specs.Matrix.{Matrix, ◌·◌, null, scale}
use Rattle.irr_algebra.proofs.Rings.{add-mul, eq_of_sub-zero, mul-zero, neg-mul}
use Rattle.irr_algebra.proofs.Fields.{mul_cancel, one-ne-zero}
use Rattle.irr_algebra.proofs.Indices.{all_or_one}
use Rattle.irr_algebra.proofs.Matrices.{entry_of_null, mul-scale, mul_assoc, null-mul, null_of_entries, scale-at, scale-mul, unit-mul}
use Rattle.irr_algebra.proofs.Totals.{total-mul, total-null}
use Rattle.irr_eigen.specs.Eigenspace.{Eigenspaces, Occurs}

module _ (F : Field) where
  open F use {ring as R}

  -- what two different numbers multiply alike is 0
  pub null_of_scales : {m n : ℕ} (x y : R.Carrier) (a : Matrix R m n) → (x ≡ y → ⊥) → scale R x a ≡ scale R y a → a ≡ null
  null_of_scales {m} {n} x y a h e = null_of_entries (λ i j.
      mul_cancel F (R.add x (R.neg y)) (a.at i j) R.zero (λ z. h (eq_of_sub-zero R x y z))
      (add-mul R x (R.neg y) (a.at i j)
      ∙ ap₂ R.add (sym (scale-at R x a i j) ∙ ap (λ (b : Matrix R m n). b.at i j) e ∙ scale-at R y a i j) (neg-mul R y (a.at i j))
      ∙ R.add-neg (R.mul y (a.at i j)) ∙ sym (mul-zero R (R.add x (R.neg y)))))

  -- the matrix of ones
  ones : (n : ℕ) → Matrix R n 1
  ones n = record { at = λ i j. R.one }

  ones-ne-null : (n : ℕ) → ones (suc n) ≡ null → ⊥
  unfolding ones
  ones-ne-null n e = one-ne-zero F (entry_of_null first first e)

  pub value_of_occurs : {d k n : ℕ} {v : Matrix R d d} {values : Fin k → R.Carrier} (e : Eigenspaces v values) (x : R.Carrier) → Occurs v x (suc n)
      → (a : Fin k) × (values a ≡ x)
  value_of_occurs {d} {k} {n} {v} {values} e x o = cases (all_or_one k (λ a. values a ≡ x → ⊥) (λ a. values a ≡ x) (λ a. swap (F.decide (values a) x)))
    where
      swap : {A B : Type 0} → A ⊎ B → B ⊎ A
      swap (inl a) = inr a
      swap (inr b) = inl b

      apart : (a : Fin k) → (values a ≡ x → ⊥) → e.projection a · o.basis ≡ null
      apart a ne = null_of_scales (values a) x (e.projection a · o.basis) ne
          (sym (scale-mul R (values a) (e.projection a) o.basis) ∙ ap (λ (m : Matrix R d d). m · o.basis) (sym (e.eigen a) ∙ sym (e.commutes a v refl))
          ∙ mul_assoc (e.projection a) v o.basis ∙ ap (λ (m : Matrix R d (suc n)). e.projection a · m) o.eigen ∙ mul-scale R x (e.projection a) o.basis)

      none : ((a : Fin k) → values a ≡ x → ⊥) → o.basis ≡ null
      none h = sym (unit-mul o.basis) ∙ ap (λ (m : Matrix R d d). m · o.basis) (sym e.adds_up) ∙ total-mul k e.projection o.basis
          ∙ total-null k (λ a. apart a (h a))

      cases : ((a : Fin k) → values a ≡ x → ⊥) ⊎ ((a : Fin k) × (values a ≡ x)) → (a : Fin k) × (values a ≡ x)
      cases (inl h) = absurd (ones-ne-null n (o.independent.only_zero (ones (suc n)) (ap (λ (m : Matrix R d (suc n)). m · ones (suc n)) (none h)
          ∙ null-mul (ones (suc n)))))
      cases (inr r) = r
