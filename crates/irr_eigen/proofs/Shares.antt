-- What a matrix does on the eigenspaces of a matrix that it commutes with, and the root law.
use Rattle.std.proofs.Common.{◌≡◌, sym, ◌∙◌, ap, ℕ, ◌⊎◌, inl, inr}
use Rattle.irr_algebra.specs.Ring.{Ring, whole}
use Rattle.irr_algebra.specs.Field.{Field}
use Rattle.irr_algebra.specs.Fin.{Fin}
use Rattle.irr_algebra.specs.Sum.{sum}
use Rattle.irr_algebra.specs.Matrix.{Matrix, ◌·◌, scale, unit, trace}
use Rattle.irr_algebra.proofs.Indices.{all_or_one}
use Rattle.irr_algebra.proofs.Sums.{sum-ext, sum-zero}
use Rattle.irr_algebra.proofs.Matrices.{mul_assoc, unit-mul, mul-unit, scale-mul, scale-scale, trace_comm}
use Rattle.irr_algebra.proofs.Totals.{mul-total, trace-total}
use Rattle.irr_algebra.proofs.Rank.{Factored, factored, projection_coordinates, trace-projection}
use Rattle.irr_theory.specs.Extension.{matrix_power}
use Rattle.irr_eigen.specs.Power.{power, Root}
use Rattle.irr_eigen.specs.Eigenspace.{Eigenspaces, IsMatrixRoot}
use Rattle.irr_eigen.proofs.Powers.{mul-power, one-power}
use Rattle.irr_eigen.proofs.Parts.{IsPart, part-power, factored-eigen}
use Rattle.irr_eigen.proofs.Splitting.{scalar-root}

-- u on the a-th eigenspace
pub record Share {R : Ring} {d k : ℕ} {v : Matrix R d d} {values : Fin k → R.Carrier} (e : Eigenspaces v values) (u : Matrix R d d) (a : Fin k) : Type 0 where
  pub size : ℕ
  pub on_space : Matrix R size size
  pub is_part : IsPart u on_space
  pub eigen : v · is_part.list ≡ scale R (values a) is_part.list
  pub trace-share : trace on_space ≡ trace (u · e.projection a)
  pub trace-projection : trace (e.projection a) ≡ whole R size

-- the trace is the sum of those on the eigenspaces
pub trace-shares : {R : Ring} {d k : ℕ} {v : Matrix R d d} {values : Fin k → R.Carrier} (e : Eigenspaces v values) (u : Matrix R d d)
    → trace u ≡ sum R k (λ a. trace (u · e.projection a))
trace-shares {R} {d} {k} e u =
    ap trace (sym (mul-unit u) ∙ ap (λ (x : Matrix R d d). u · x) (sym e.adds_up) ∙ mul-total k u e.projection) ∙ trace-total k (λ a. u · e.projection a)

-- where the p-th power of u is c times v, on an eigenspace it is a number
pub share-power : {R : Ring} {d k : ℕ} {v : Matrix R d d} {values : Fin k → R.Carrier} {e : Eigenspaces v values} {u : Matrix R d d} {a : Fin k} (h : Share e u a)
    (p : ℕ) (c : R.Carrier) → matrix_power u p ≡ scale R c v → matrix_power h.on_space p ≡ scale R (R.mul c (values a)) (unit R h.size)
share-power {R} {d} {k} {v} {values} {e} {u} {a} h p c power-u =
    part-power h.is_part p (R.mul c (values a)) (ap (λ (x : Matrix R d d). x · h.is_part.list) power-u ∙ scale-mul R c v h.is_part.list
    ∙ ap (scale R c) h.eigen ∙ scale-scale R c (values a) h.is_part.list)

module _ (F : Field) where
  open F use {ring as R}

  pub share : {d k : ℕ} {v : Matrix R d d} {values : Fin k → R.Carrier} (e : Eigenspaces v values) (u : Matrix R d d) → v · u ≡ u · v → (a : Fin k) → Share e u a
  share {d} {k} {v} {values} e u commute a = record {
    size = f.rank;
    on_space = s · (u · b);
    is_part = record { list = b; coordinates = s; coordinates-list = s-b; carries = sym carried };
    eigen = factored-eigen v (values a) f (e.eigen a);
    trace-share = trace_comm s (u · b) ∙ ap trace u-bs;
    trace-projection = trace-projection m (e.projects a) f;
  }
    where
      m : Matrix R d d
      m = e.projection a

      f : Factored m
      f = factored F d m

      b : Matrix R d f.rank
      b = f.basis

      s : Matrix R f.rank d
      s = f.coordinates

      s-b : s · b ≡ unit R f.rank
      s-b = projection_coordinates m (e.projects a) f

      u-bs : u · b · s ≡ u · m
      u-bs = mul_assoc u b s ∙ ap (λ (x : Matrix R d d). u · x) (sym f.is_product)

      carried : s · (u · b) · s ≡ s · u
      carried = mul_assoc s (u · b) s ∙ ap (λ (x : Matrix R d d). s · x) (u-bs ∙ sym (e.commutes a u commute) ∙ ap (λ (x : Matrix R d d). x · u) f.is_product ∙ mul_assoc b s u)
          ∙ sym (mul_assoc s b (s · u)) ∙ ap (λ (x : Matrix R f.rank f.rank). x · (s · u)) s-b ∙ unit-mul (s · u)

  -- a p-th power other than 0 divided away
  root_of_quotient : (p : ℕ) (c w : R.Carrier) → (w ≡ R.zero → ⊥) → Root R p (R.mul c (power R w p)) → Root R p c
  root_of_quotient p c w n h = record {
    root = R.mul h.root (F.inverse w);
    root-power = mul-power R h.root (F.inverse w) p ∙ ap (λ x. R.mul x (power R (F.inverse w) p)) h.root-power ∙ R.mul_assoc c (power R w p) (power R (F.inverse w) p)
        ∙ ap (R.mul c) (sym (mul-power R w (F.inverse w) p) ∙ ap (λ x. power R x p) (F.mul-inverse w n) ∙ one-power R p) ∙ R.mul-one c;
  }

  -- where the p-th power of u is c times v and the trace of u is not 0, c has a p-th root
  pub root-law : {d k : ℕ} {v u : Matrix R d d} (p : ℕ) (c : R.Carrier) (w : Fin k → R.Carrier) → (p ≡ 2) ⊎ (p ≡ 3) → IsMatrixRoot p c v u w
      → (trace u ≡ R.zero → ⊥) → Root R p c
  root-law {d} {k} {v} {u} p c w two_or_three h t =
      cases (all_or_one k (λ a. trace (u · e.projection a) ≡ R.zero) (λ a. trace (u · e.projection a) ≡ R.zero → ⊥) (λ a. F.decide (trace (u · e.projection a)) R.zero))
    where
      e : Eigenspaces v (λ a. power R (w a) p)
      e = h.eigenspaces

      cases : ((a : Fin k) → trace (u · e.projection a) ≡ R.zero) ⊎ ((a : Fin k) × (trace (u · e.projection a) ≡ R.zero → ⊥)) → Root R p c
      cases (inl z) = absurd (t (trace-shares e u ∙ sum-ext R k (λ a. trace (u · e.projection a)) (λ a. R.zero) z ∙ sum-zero R k))
      cases (inr (a, n)) =
          let x : Share e u a = share e u h.commute a in
          root_of_quotient p c (w a) (h.not-zero a)
          (scalar-root F p two_or_three (R.mul c (power R (w a) p)) x.size x.on_space (share-power x p c h.power-multiple) (λ z. n (sym x.trace-share ∙ z)))
