-- How often an eigenvalue occurs is the trace of the projection on its eigenspace.
use Rattle.std.proofs.Common.{◌≡◌, sym, ◌∙◌, ap, ap₂, refl, ℕ, ◌⊎◌, inl, inr}
use Rattle.irr_algebra.specs.Ring.{Ring, whole}
use Rattle.irr_algebra.specs.Field.{Field}
use Rattle.irr_algebra.specs.Fin.{Fin}
use Rattle.irr_algebra.specs.Sum.{delta}
use Rattle.irr_algebra.specs.Matrix.{Matrix, ◌·◌, scale, null, trace, column}
use Rattle.irr_algebra.proofs.Rings.{add-mul, neg-mul, mul-zero, eq_of_sub-zero}
use Rattle.irr_algebra.proofs.Fields.{mul_cancel}
use Rattle.irr_algebra.proofs.Indices.{same_or_not}
use Rattle.irr_algebra.proofs.Sums.{delta-eq, delta-ne}
use Rattle.irr_algebra.proofs.Matrices.{mul_assoc, unit-mul, scale-mul, mul-scale, scale-one, zero-scale, column-mul, null_of_entries, scale-at}
use Rattle.irr_algebra.proofs.Totals.{total-mul, total-ext, combination-delta}
use Rattle.irr_algebra.proofs.Rank.{Factored, factored, trace-projection}
use Rattle.irr_algebra.proofs.Spans.{independent_of_left_inverse, span-length_unique}
use Rattle.irr_eigen.proofs.Parts.{factored-eigen}
use Rattle.irr_eigen.specs.Eigenspace.{Eigenspaces, Occurs}

column-eigen : {R : Ring} {d n : ℕ} (v : Matrix R d d) (x : R.Carrier) (b : Matrix R d n) → v · b ≡ scale R x b → (j : Fin n) → v · column b j ≡ scale R x (column b j)
unfolding column scale
column-eigen {R} {d} {n} v x b e j = sym (column-mul v b j) ∙ ap (λ (y : Matrix R d n). column y j) e

module _ (F : Field) where
  open F use {ring as R}

  -- what two different numbers multiply alike is 0
  null_of_scales : {m n : ℕ} (x y : R.Carrier) (a : Matrix R m n) → (x ≡ y → ⊥) → scale R x a ≡ scale R y a → a ≡ null
  null_of_scales {m} {n} x y a h e = null_of_entries (λ i j.
      mul_cancel F (R.add x (R.neg y)) (a.at i j) R.zero (λ z. h (eq_of_sub-zero R x y z))
      (add-mul R x (R.neg y) (a.at i j)
      ∙ ap₂ R.add (sym (scale-at R x a i j) ∙ ap (λ (b : Matrix R m n). b.at i j) e ∙ scale-at R y a i j) (neg-mul R y (a.at i j))
      ∙ R.add-neg (R.mul y (a.at i j)) ∙ sym (mul-zero R (R.add x (R.neg y)))))

  module _ {d k : ℕ} {v : Matrix R d d} {values : Fin k → R.Carrier} (e : Eigenspaces v values) (different : (a b : Fin k) → values a ≡ values b → a ≡ b) where
    -- the projection on one eigenspace leaves out the vectors of another
    other-projection : (a b : Fin k) → (a ≡ b → ⊥) → (y : Matrix R d 1) → v · y ≡ scale R (values a) y → e.projection b · y ≡ null
    other-projection a b ne y h =
        null_of_scales (values a) (values b) (e.projection b · y) (λ z. ne (different a b z))
        (sym (mul-scale R (values a) (e.projection b) y) ∙ ap (λ (x : Matrix R d 1). e.projection b · x) (sym h) ∙ sym (mul_assoc (e.projection b) v y)
        ∙ ap (λ (x : Matrix R d d). x · y) (e.commutes b v refl) ∙ ap (λ (x : Matrix R d d). x · y) (e.eigen b) ∙ scale-mul R (values b) (e.projection b) y)

    -- and keeps its own
    own-projection : (a : Fin k) (y : Matrix R d 1) → v · y ≡ scale R (values a) y → e.projection a · y ≡ y
    own-projection a y h =
        sym (sym (unit-mul y) ∙ ap (λ (x : Matrix R d d). x · y) (sym e.adds_up) ∙ total-mul k e.projection y ∙ total-ext k (λ b. part b (same_or_not a b))
        ∙ combination-delta k a (λ b. e.projection b · y))
      where
        part : (b : Fin k) → (a ≡ b) ⊎ (a ≡ b → ⊥) → e.projection b · y ≡ scale R (delta R a b) (e.projection b · y)
        part b (inl s) = sym (ap (λ x. scale R x (e.projection b · y)) (delta-eq R a b s) ∙ scale-one (e.projection b · y))
        part b (inr n) = other-projection a b n y h ∙ sym (zero-scale (e.projection b · y)) ∙ ap (λ x. scale R x (e.projection b · y)) (sym (delta-ne R a b n))

    -- the columns of the projection have the dimension of the eigenspace
    own : (a : Fin k) → Occurs v (values a) (factored F d (e.projection a)).rank
    own a =
        let f : Factored (e.projection a) = factored F d (e.projection a) in
        record {
          basis = f.basis;
          independent = independent_of_left_inverse f.basis f.left f.is_left;
          eigen = factored-eigen v (values a) f (e.eigen a);
          spanning = λ y h. record {
            coefficients = f.coordinates · y;
            is_combination = sym (mul_assoc f.basis f.coordinates y) ∙ ap (λ (x : Matrix R d d). x · y) (sym f.is_product) ∙ own-projection a y h;
          };
        }

    pub occurs : (a : Fin k) → (n : ℕ) × Occurs v (values a) n
    occurs a = ((factored F d (e.projection a)).rank, own a)

    -- it is the trace of the projection
    pub trace-occurs : (a : Fin k) (n : ℕ) → Occurs v (values a) n → trace (e.projection a) ≡ whole R n
    trace-occurs a n h =
        let f : Factored (e.projection a) = factored F d (e.projection a) in
        let o : Occurs v (values a) f.rank = own a in
        trace-projection (e.projection a) (e.projects a) f ∙ ap (whole R) (span-length_unique F o.basis h.basis o.independent h.independent
        (λ j. h.spanning (column o.basis j) (column-eigen v (values a) o.basis o.eigen j))
        (λ j. o.spanning (column h.basis j) (column-eigen v (values a) h.basis h.eigen j)))
