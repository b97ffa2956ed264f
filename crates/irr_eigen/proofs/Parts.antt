-- What a matrix does on a part of the space: a list that it maps into its span, and what is left beside it.
use Rattle.std.proofs.Common.{◌≡◌, sym, ◌∙◌, ap, ap₂, ℕ, suc, ◌+◌, ◌≤◌, arith}
use Rattle.irr_algebra.specs.Ring.{Ring, whole}
use Rattle.irr_algebra.specs.Field.{Field}
use Rattle.irr_algebra.specs.Matrix.{Matrix, ◌·◌, ◌⊖◌, scale, unit, null, trace}
use Rattle.irr_algebra.proofs.Rings.{ring_laws}
use Rattle.irr_algebra.proofs.Whole.{whole-add}
use Rattle.irr_algebra.proofs.Fields.{whole_inj}
use Rattle.irr_algebra.proofs.Matrices.{mul_assoc, unit-mul, mul-unit, mul-null, null-mul, mul-sub, sub-mul, sub-null, sub_self, scale-mul, mul-scale, trace_comm, trace-unit, trace-sub}
use Rattle.irr_algebra.proofs.Rank.{Factored, factored, projection_coordinates, trace-projection, difference_idempotent}
use Rattle.irr_theory.specs.Extension.{matrix_power}
use Rattle.irr_eigen.proofs.Powers.{matrix_power-carried}

-- w is u on a part of the space: s takes the coordinates in the list b, and carries u to w
pub record IsPart {R : Ring} {m n : ℕ} (u : Matrix R n n) (w : Matrix R m m) : Type 0 where
  pub list : Matrix R n m
  pub coordinates : Matrix R m n
  pub coordinates-list : coordinates · list ≡ unit R m
  pub carries : coordinates · u ≡ w · coordinates

-- a power that multiplies the list by c is c on the part
pub part-power : {R : Ring} {m n : ℕ} {u : Matrix R n n} {w : Matrix R m m} (h : IsPart u w) (p : ℕ) (c : R.Carrier)
    → matrix_power u p · h.list ≡ scale R c h.list → matrix_power w p ≡ scale R c (unit R m)
part-power {R} {m} {n} {u} {w} h p c e =
    sym (mul-unit (matrix_power w p)) ∙ ap (λ (x : Matrix R m m). matrix_power w p · x) (sym h.coordinates-list)
    ∙ sym (mul_assoc (matrix_power w p) h.coordinates h.list) ∙ ap (λ (x : Matrix R m n). x · h.list) (sym (matrix_power-carried h.coordinates u w h.carries p))
    ∙ mul_assoc h.coordinates (matrix_power u p) h.list ∙ ap (λ (x : Matrix R n m). h.coordinates · x) e
    ∙ mul-scale R c h.coordinates h.list ∙ ap (scale R c) h.coordinates-list

-- what multiplies a matrix by a number multiplies its columns by it
pub factored-eigen : {R : Ring} {d n : ℕ} (v : Matrix R d d) (x : R.Carrier) {m : Matrix R d n} (f : Factored m) → v · m ≡ scale R x m → v · f.basis ≡ scale R x f.basis
factored-eigen {R} {d} {n} v x {m} f e =
    ap (λ (y : Matrix R d f.rank). v · y) f.is_chosen ∙ sym (mul_assoc v m f.choice) ∙ ap (λ (y : Matrix R d n). y · f.choice) e
    ∙ scale-mul R x m f.choice ∙ ap (scale R x) (sym f.is_chosen)

-- a list with trace 0 that u maps into its span
pub record ZeroBlock {R : Ring} {n : ℕ} (u : Matrix R n n) : Type 0 where
  pub smaller : ℕ
  pub list : Matrix R n (suc smaller)
  pub left : Matrix R (suc smaller) n
  pub block : Matrix R (suc smaller) (suc smaller)
  pub left-list : left · list ≡ unit R (suc smaller)
  pub stays : u · list ≡ list · block
  pub trace-zero : trace block ≡ R.zero

-- what is left of u: of smaller size, with the same trace
pub record Rest {R : Ring} {n : ℕ} (u : Matrix R n n) : Type 0 where
  pub size : ℕ
  pub rest : Matrix R size size
  pub is_part : IsPart u rest
  pub smaller : suc size ≤ n
  pub same_trace : trace u ≡ trace rest

left_inverse_idempotent : {R : Ring} {m r : ℕ} (p : Matrix R m r) (q : Matrix R r m) → q · p ≡ unit R r → p · q · (p · q) ≡ p · q
left_inverse_idempotent {R} {m} {r} p q left =
    mul_assoc p q (p · q) ∙ ap (λ (x : Matrix R r m). p · x) (sym (mul_assoc q p q) ∙ ap (λ (x : Matrix R r r). x · q) left ∙ unit-mul q)

module _ (F : Field) where
  open F use {ring as R}

  -- a list with a left inverse and the rest add up to the size
  rest-size : {n r : ℕ} (p : Matrix R n r) (q : Matrix R r n) → q · p ≡ unit R r → (f : Factored (unit R n ⊖ p · q))
      → (unit R n ⊖ p · q) · (unit R n ⊖ p · q) ≡ unit R n ⊖ p · q → n ≡ r + f.rank
  rest-size {n} {r} p q left f idempotent =
      let t : whole R f.rank ≡ R.add (whole R n) (R.neg (whole R r)) =
      sym (trace-projection (unit R n ⊖ p · q) idempotent f) ∙ trace-sub (unit R n) (p · q)
      ∙ ap₂ (λ x y. R.add x (R.neg y)) (trace-unit R n) (trace_comm p q ∙ ap trace left ∙ trace-unit R r) in
      whole_inj F n (r + f.rank) (sym (simp (ring_laws, R)) ∙ ap (R.add (whole R r)) (sym t) ∙ sym (whole-add R r f.rank))

  -- beside a list with trace 0 that u maps into its span there is a smaller part with the same trace
  pub rest_of : {n : ℕ} (u : Matrix R n n) → ZeroBlock u → Rest u
  rest_of {n} u h = record {
    size = f.rank;
    rest = s · (u · b);
    is_part = record { list = b; coordinates = s; coordinates-list = s-b; carries = sym carried };
    smaller = let size : n ≡ suc h.smaller + f.rank = rest-size p q h.left-list f idempotent in omega arith;
    same_trace = sym trace-rest;
  }
    where
      p : Matrix R n (suc h.smaller)
      p = h.list

      q : Matrix R (suc h.smaller) n
      q = h.left

      e : Matrix R n n
      e = unit R n ⊖ p · q

      idempotent : e · e ≡ e
      idempotent = difference_idempotent (p · q) (left_inverse_idempotent p q h.left-list)

      f : Factored e
      f = factored F n e

      b : Matrix R n f.rank
      b = f.basis

      s : Matrix R f.rank n
      s = f.coordinates

      s-b : s · b ≡ unit R f.rank
      s-b = projection_coordinates e idempotent f

      e-p : e · p ≡ null
      e-p = sub-mul (unit R n) (p · q) p ∙ ap₂ (λ (x y : Matrix R n (suc h.smaller)). x ⊖ y) (unit-mul p) (mul_assoc p q p ∙ ap (λ (x : Matrix R (suc h.smaller) (suc h.smaller)). p · x) h.left-list ∙ mul-unit p) ∙ sub_self p

      s-p : s · p ≡ null
      s-p = sym (unit-mul (s · p)) ∙ ap (λ (x : Matrix R f.rank f.rank). x · (s · p)) (sym s-b) ∙ mul_assoc s b (s · p)
          ∙ ap (λ (x : Matrix R n (suc h.smaller)). s · x) (sym (mul_assoc b s p) ∙ ap (λ (x : Matrix R n n). x · p) (sym f.is_product) ∙ e-p) ∙ mul-null s

      u-pq : u · (p · q) ≡ p · (h.block · q)
      u-pq = sym (mul_assoc u p q) ∙ ap (λ (x : Matrix R n (suc h.smaller)). x · q) h.stays ∙ mul_assoc p h.block q

      u-bs : u · (b · s) ≡ u ⊖ p · (h.block · q)
      u-bs = ap (λ (x : Matrix R n n). u · x) (sym f.is_product) ∙ mul-sub u (unit R n) (p · q) ∙ ap₂ (λ (x y : Matrix R n n). x ⊖ y) (mul-unit u) u-pq

      carried : s · (u · b) · s ≡ s · u
      carried = mul_assoc s (u · b) s ∙ ap (λ (x : Matrix R n n). s · x) (mul_assoc u b s ∙ u-bs) ∙ mul-sub s u (p · (h.block · q))
          ∙ ap (λ (x : Matrix R f.rank n). s · u ⊖ x) (sym (mul_assoc s p (h.block · q)) ∙ ap (λ (x : Matrix R f.rank (suc h.smaller)). x · (h.block · q)) s-p ∙ null-mul (h.block · q)) ∙ sub-null (s · u)

      trace-block : trace (p · (h.block · q)) ≡ R.zero
      trace-block = trace_comm p (h.block · q) ∙ ap trace (mul_assoc h.block q p ∙ ap (λ (x : Matrix R (suc h.smaller) (suc h.smaller)). h.block · x) h.left-list ∙ mul-unit h.block) ∙ h.trace-zero

      trace-rest : trace (s · (u · b)) ≡ trace u
      trace-rest = trace_comm s (u · b) ∙ ap trace (mul_assoc u b s ∙ u-bs) ∙ trace-sub u (p · (h.block · q))
          ∙ ap (λ x. R.add (trace u) (R.neg x)) trace-block ∙ simp (ring_laws, R)
