-- The matrix that is made of all entries, and the family of all matrices.
--   size_is                  the number of rows
--   rows_small, rows_positive    it is small, and positive
--   made_count, made_order, made_orders, made_matrix      the list of all entries
--   induced_made, induced_sized, induced_sharp      the family, and its sizes
use Rattle.std.proofs.Common.{◌≡◌, sym, ◌∙◌, ap, ap₂, subst, ℕ, ◌*◌, ◌<◌, ◌≤◌, ◌⊎◌, inl, inr, List, length, arith}
use Rattle.std.specs.Int.{◌∣◌}
use native.Mathlib.Nat as Nat
use mathlib.Core.Path.{fun_ext}
use Rattle.irr_algebra.specs.Fin.{Fin}
use Rattle.irr_algebra.specs.Matrix.{Matrix}
use Rattle.irr_algebra.specs.Pair.{times}
use Rattle.irr_algebra.proofs.Pairs.{times-mul}
use Rattle.irr_number.specs.Number.{Number, numbers}
use Rattle.irr_theory.specs.FactorSystem.{Representation}
use Rattle.irr_clifford.specs.Formulas.{induced_matrix}
use Rattle.irr_clifford.proofs.Formulas.{induced-matrix}
use Rattle.irr_clifford.proofs.InducedFamily.{induced_family, induced_family-is}
use Rattle.irr_cyc.specs.declared.scalars.Scalar.{Ghosts}
use Rattle.irr_mat.specs.declared.matrices.Mat.{Mat}
use Rattle.irr_mat.specs.Entries.{first_order, HaveOneOrder, matrix_of}
use Rattle.irr_mat.specs.Size.{IsWithin}
use Rattle.irr_mat.proofs.Entries.{Filled, filled-done, filled-matrix, filled-orders}
use Rattle.irr_mat.proofs.Bounds.{within-more}
use Rattle.irr_rep.specs.declared.family.Family.{Family}
use Rattle.irr_rep.specs.Defects.{IsMatrix}
use Rattle.irr_rep.specs.Family.{matrix_at}
use Rattle.irr_rep.specs.Twisted.{phase_table, place_count}
use Rattle.irr_rep.proofs.TraceRoots.{trace-IsRootSum}
use Rattle.irr_climb.specs.declared.step.Step.{Step}
use Rattle.irr_climb.specs.Families.{IsRead}
use Rattle.irr_climb.specs.Sizes.{AreFew, IsSharplySized, IsSized, size_bound}
use Rattle.irr_climb.specs.Steps.{IsInducedFamily, IsStep, large, small}
use Rattle.irr_climb.proofs.ExtensionLists.{MatricesSoFar, matrices_read}
use Rattle.irr_climb.proofs.InducedReads.{family_within}
use Rattle.irr_climb.proofs.InducedSizes.{bound_grows, induced_within, outer_count, twice_inner, two_or_more}
use Rattle.irr_climb.proofs.SharpSizes.{few_induced, read_within, sharply_sized, small_induced}

pub size_is : {M : ℕ} {step : Step} (is : IsStep M step) (d dim : ℕ) → dim ≡ d → step.index * dim ≡ times is.quotient.index d
size_is is d dim e = ap₂ (λ u v. u * v) is.index e ∙ sym (times-mul is.quotient.index d)

pub rows_small : {M : ℕ} {step : Step} (is : IsStep M step) (dim : ℕ) → 0 < dim → dim * dim ≤ place_count step.inner → step.index * dim ≤ 144
rows_small {step = step} is dim positive few =
    let one : dim * 1 ≤ dim * dim = Nat.mul-le-mul_left dim positive in
    let limit = step.inner.places_within in
    let three : step.index ≤ 3 = subst (λ k. k ≤ 3) (sym is.index) (above is.quotient.index is.two_or_three) in
    let many : dim ≤ 48 = omega (arith, one, few, limit) in
    Nat.mul-le-mul three many
  where
    above : (p : ℕ) → (p ≡ 2) ⊎ (p ≡ 3) → p ≤ 3
    above p (inl e) = omega (arith, e)
    above p (inr e) = omega (arith, e)

index_positive : {M : ℕ} {step : Step} (is : IsStep M step) → 0 < is.quotient.index
index_positive is = above is.quotient.index is.two_or_three
  where
    above : (p : ℕ) → (p ≡ 2) ⊎ (p ≡ 3) → 0 < p
    above p (inl e) = omega (arith, e)
    above p (inr e) = omega (arith, e)

pub rows_positive : {M : ℕ} {step : Step} (is : IsStep M step) (dim : ℕ) → 0 < dim → 0 < step.index * dim
rows_positive is dim positive = Nat.mul-pos (subst (λ k. 0 < k) (sym is.index) (index_positive is)) positive

some_rows_of : {M : ℕ} {step : Step} (is : IsStep M step) (d : ℕ) → 0 < d → 0 < times is.quotient.index d
some_rows_of is d positive = subst (λ k. 0 < k) (sym (times-mul is.quotient.index d)) (Nat.mul-pos (index_positive is) positive)

module _ {S : Type 0} (order : S → ℕ) (value : (n : ℕ) → S → Number n) (n t size i : ℕ) (a : Matrix (numbers n) t t) (xs : List S)
    (h : Filled order value n a (i * t) xs) (same : size ≡ t) (up : size ≤ i) (down : i ≤ size) (some : 0 < size) where
  -- all entries
  full : Filled order value n a (t * t) xs
  full = filled-done order value n t t a i xs h (subst (λ k. k ≤ i) same up) (subst (λ k. i ≤ k) same down)

  some_rows : 0 < t
  some_rows = subst (λ k. 0 < k) same some

  pub made_count : length xs ≡ size * size
  made_count = full.count ∙ sym (ap₂ (λ u v. u * v) same same)

  pub made_order : first_order order xs ≡ n
  made_order = (filled-orders order value n t t a xs full some_rows some_rows).0

  pub made_orders : HaveOneOrder order xs
  made_orders = (filled-orders order value n t t a xs full some_rows some_rows).1

pub made_matrix : {S : Type 0} {G : Ghosts S} (n t size i : ℕ) (a : Matrix (numbers n) t t) (xs : List S) → Filled G.order_of G.value n a (i * t) xs
    → size ≡ t → size ≤ i → i ≤ size → 0 < size → (m : Mat S G) → m.rows ≡ size → m.cols ≡ size → m.entries.items ≡ xs → IsMatrix n t a m
made_matrix {G = G} n t size i a xs h same up down some m rows cols entries = record {
  rows = rows ∙ same;
  cols = cols ∙ same;
  order = ap (first_order G.order_of) entries ∙ made_order G.order_of G.value n t size i a xs h same up down some;
  value = ap (matrix_of G.value n t t) entries
      ∙ filled-matrix G.order_of G.value n t t a xs (full G.order_of G.value n t size i a xs h same up down some);
}

module _ {S : Type 0} {G : Ghosts S} {M : ℕ} {step : Step} (is : IsStep M step) {d : ℕ} (D : Representation (small is) d) (positive : 0 < d)
    (made : Family S G) (size : made.dim ≡ times is.quotient.index d) (k : ℕ) (all : k ≡ place_count step.outer)
    (s : MatricesSoFar {S = S} {G = G} M (times is.quotient.index d) (induced_matrix is.quotient D) k made.mats.items) where
  made_read : IsRead M (large is) (induced_family is.quotient D) made
  made_read = matrices_read M (large is) (induced_family is.quotient D) made size (some_rows_of is d positive) k all
      (subst (λ (f : Fin (place_count step.outer) → Matrix (numbers M) (times is.quotient.index d) (times is.quotient.index d)).
      MatricesSoFar {S = S} {G = G} M (times is.quotient.index d) f k made.mats.items)
      (sym (fun_ext (induced-matrix is.quotient D))) s)

  pub induced_made : IsInducedFamily is D made
  induced_made = record { family = induced_family is.quotient D; induced = induced_family-is is.quotient D; read = made_read }

  induced_divides : d ∣ place_count step.inner → times is.quotient.index d ∣ place_count step.outer
  induced_divides v = subst (λ k. k ∣ place_count step.outer) (sym (times-mul is.quotient.index d))
      (subst (λ k. is.quotient.index * d ∣ k) (sym (outer_count is)) (Nat.mul-dvd-mul_left d is.quotient.index v))

  twice_rows : 2 * d ≤ times is.quotient.index d
  twice_rows = subst (λ k. 2 * d ≤ k) (sym (times-mul is.quotient.index d)) (Nat.mul-le-mul_right d (two_or_more is))

  induced_sharp : (f : Family S G) → IsRead M (small is) D f → IsSharplySized M (place_count step.inner) f
      → IsSharplySized M (place_count step.outer) made
  induced_sharp f r sharp =
      let h = place_count step.inner in
      let o = place_count step.outer in
      let within = read_within M (small is) D f r sharp.powers sharp.over sharp.entries in
      sharply_sized M (large is) (induced_family is.quotient D) made made_read
      (induced_divides (subst (λ k. k ∣ h) r.size sharp.divides)) sharp.powers sharp.over
      (few_induced h o (twice_inner is) d sharp.powers (times is.quotient.index d) twice_rows
      (subst (λ k. AreFew h k sharp.powers) r.size sharp.few))
      (small_induced h o (twice_inner is) sharp.over sharp.small)
      (λ i. subst (IsWithin M sharp.powers sharp.over) (sym (induced-matrix is.quotient D i))
      (induced_within is D sharp.powers sharp.over (within (phase_table step.inner).start).positive within i positive))
      (λ i. trace-IsRootSum M is.positive (phase_table step.outer) is.outer_divides (induced_family is.quotient D) i)

  pub induced_sized : (f : Family S G) → IsRead M (small is) D f → IsSized M (place_count step.inner) f → IsSized M (place_count step.outer) made
  induced_sized f r sized =
      let b = size_bound (place_count step.inner) in
      let B = size_bound (place_count step.outer) in
      let t = times is.quotient.index d in
      record {
        denominator = sized.denominator;
        small = Nat.le_trans sized.small (bound_grows is);
        within = λ i. subst (λ q. IsWithin M (B * B) sized.denominator (matrix_at M q made.mats.items i)) (sym size)
            (subst (IsWithin M (B * B) sized.denominator) (sym (made_read.matrices i ∙ induced-matrix is.quotient D i))
            (within-more M t t (b * b) (B * B) sized.denominator (induced_matrix is.quotient D i)
            (Nat.mul-le-mul (bound_grows is) (bound_grows is))
            (induced_within is D (b * b) sized.denominator (family_within is D f r sized (phase_table step.inner).start).positive
            (family_within is D f r sized) i positive)));
        sharp = induced_sharp f r sized.sharp;
      }
