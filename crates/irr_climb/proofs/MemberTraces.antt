-- The characters of the members of a full list, as the program works them out.
--   shape_order, shape_limit     the order of the entries of a family: one, and limited
--   traces_fit               the traces of a family of bounded sizes can be worked out
--   character_row            the character of a family that is read as a representation
--   RowsSoFar                the first k rows are the characters of the first k members
--   rows_none, rows_more, rows_all
use Rattle.std.specs.Prelude.{ℕ, zero, suc, ◌≡◌, ◌<◌, ◌≤◌, ◌+◌, ◌*◌, ◌/◌, ◌^◌, ◌⊎◌, List, [], ◌∷◌, ◌++◌, length, slice_index_or}
use Rattle.std.proofs.Common.{sym, ◌∙◌, ap, subst, inl, inr, get_or, length-append, arith}
use native.Mathlib.Nat as Nat
use Rattle.std.proofs.Math.Seq.{get_or-append_seam}
use Rattle.std.proofs.lemmas.List.{get_or_append_left}
use Rattle.std.proofs.lemmas.List.Elements.{All-get_or}
use Rattle.irr_algebra.specs.Fin.{Fin, to_nat}
use Rattle.irr_algebra.specs.Matrix.{trace}
use Rattle.irr_algebra.proofs.Indices.{to_nat-lt}
use Rattle.irr_number.specs.Number.{Number, numbers}
use Rattle.irr_theory.specs.FactorSystem.{FactorSystem, Representation}
use Rattle.irr_theory.specs.Representations.{Representations}
use Rattle.irr_cyc.specs.declared.scalars.Scalar.{Ghosts}
use Rattle.irr_mat.specs.declared.matrices.Mat.{Mat}
use Rattle.irr_mat.specs.Entries.{first_order}
use Rattle.irr_mat.specs.Size.{TraceFits}
use Rattle.irr_rep.specs.declared.family.Family.{Family}
use Rattle.irr_rep.specs.Family.{HasShape, matrix_at}
use Rattle.irr_char.specs.Characters.{IsRowOf}
use Rattle.irr_char.proofs.RowForms.{before_or_at}
use Rattle.irr_climb.specs.Families.{AreRows, IsRead}
use Rattle.irr_climb.specs.Sizes.{IsSized, size_bound}

entries_limit : {S : Type 0} (order : S → ℕ) → ((x : S) → order x ≤ 12000) → (xs : List S) → 0 < length xs → first_order order xs ≤ 12000
unfolding first_order
entries_limit order bound [] p = absurd (omega (arith, p))
entries_limit order bound (x ∷ xs) p = bound x

positive_product : (d e : ℕ) → 0 < d → 0 < e → 0 < d * e
positive_product zero e p q = absurd (omega (arith, p))
positive_product (suc d) e p q = omega (arith, q)

one_more : {X : Type 0} (x : X) (xs : List X) → 0 < length (x ∷ xs)
one_more x xs = omega arith

none_left : (h : ℕ) → 0 ≡ h → 0 < h → ⊥
none_left h e p = omega (arith, e, p)

module _ {S : Type 0} {G : Ghosts S} where
  pub shape_order : (n h d m k e : ℕ) (mats : List (Mat S G)) → HasShape n h d mats → HasShape m k e mats → 0 < h → n ≡ m
  shape_order n h d m k e [] s r p = absurd (none_left h s.count p)
  shape_order n h d m k e (a ∷ mats) s r p =
      sym (All-get_or (λ (b : Mat S G). first_order G.order_of b.entries.items ≡ n) (a ∷ mats) 0 a (one_more a mats) s.orders)
      ∙ All-get_or (λ (b : Mat S G). first_order G.order_of b.entries.items ≡ m) (a ∷ mats) 0 a (one_more a mats) r.orders

  pub shape_limit : ((x : S) → G.order_of x ≤ 12000) → (n h d : ℕ) (mats : List (Mat S G)) → HasShape n h d mats → 0 < h → n ≤ 12000
  shape_limit bound n h d [] s p = absurd (none_left h s.count p)
  shape_limit bound n h d (a ∷ mats) s p =
      subst (λ k. k ≤ 12000) (All-get_or (λ (b : Mat S G). first_order G.order_of b.entries.items ≡ n) (a ∷ mats) 0 a (one_more a mats) s.orders)
      (entries_limit G.order_of bound a.entries.items (subst (λ k. 0 < k) (sym a.filled) (positive_product a.rows a.cols a.some_rows a.some_cols)))

bound_limit : (n : ℕ) → n ≤ 48 → size_bound n ≤ 18200
unfolding size_bound
bound_limit n l =
    let a : 1 + n / 2 ≤ 25 = omega (arith, l) in
    let b : 1 + n / 4 ≤ 13 = omega (arith, l) in
    let c : 1 + n / 8 ≤ 7 = omega (arith, l) in
    let d : 1 + n / 16 ≤ 4 = omega (arith, l) in
    let e : 1 + n / 32 ≤ 2 = omega (arith, l) in
    Nat.mul-le-mul (Nat.mul-le-mul (Nat.mul-le-mul (Nat.mul-le-mul a b) c) d) e

few_sums : (d b n e : ℕ) → d ≤ 48 → b ≤ 18200 → n ≤ 12000 → e ≤ 18200 → d * (b * b) * n * e < 2 ^ 110
few_sums d b n e p q r s =
    let a : d * (b * b) * n * e ≤ 48 * (18200 * 18200) * 12000 * 18200 =
    Nat.mul-le-mul (Nat.mul-le-mul (Nat.mul-le-mul p (Nat.mul-le-mul q q)) r) s in
    omega (arith, a)

small_square : (e : ℕ) → e ≤ 18200 → e * e ≤ 2 ^ 60
small_square e p = let a : e * e ≤ 18200 * 18200 = Nat.mul-le-mul p p in omega (arith, a)

module _ {S : Type 0} {G : Ghosts S} (bound : (x : S) → G.order_of x ≤ 12000) (M : ℕ) (P : FactorSystem (numbers M)) (few : P.places ≤ 48) {d : ℕ}
    (D : Representation P d) (small : d ≤ 48) (f : Family S G) (is : IsRead M P D f) (sized : IsSized M P.places f) where
  some_places : 0 < P.places
  some_places = let l = to_nat-lt P.start in omega (arith, l)

  own_fits : (i : Fin P.places) → TraceFits M (matrix_at M f.dim f.mats.items i)
  own_fits i =
      let b = bound_limit P.places few in
      let e : sized.denominator ≤ 18200 = Nat.le_trans sized.small b in
      record {
        s = size_bound P.places * size_bound P.places;
        d = sized.denominator;
        within = sized.within i;
        denominators = small_square sized.denominator e;
        sums = few_sums f.dim (size_bound P.places) M sized.denominator (subst (λ k. k ≤ 48) (sym is.size) small) b
            (shape_limit bound M P.places d f.mats.items is.shape some_places) e;
      }

  pub own_shape : HasShape M (length f.mats.items) f.dim f.mats.items
  own_shape = subst (λ h. HasShape M h f.dim f.mats.items) (sym is.shape.count)
      (subst (λ k. HasShape M P.places k f.mats.items) (sym is.size) is.shape)

  pub traces_fit : (n h : ℕ) → HasShape n h f.dim f.mats.items → (i : Fin h) → TraceFits n (matrix_at n f.dim f.mats.items i)
  traces_fit n h s =
      subst (λ m. (i : Fin h) → TraceFits m (matrix_at m f.dim f.mats.items i))
      (shape_order M P.places d n h f.dim f.mats.items is.shape s some_places)
      (subst (λ k. (i : Fin k) → TraceFits M (matrix_at M f.dim f.mats.items i)) (sym is.shape.count ∙ s.count) own_fits)

module _ {S : Type 0} {G : Ghosts S} (M : ℕ) (P : FactorSystem (numbers M)) where
  pub character_row : {d : ℕ} (D : Representation P d) (f : Family S G) → IsRead M P D f → (row : List S)
      → ((n h : ℕ) → HasShape n h f.dim f.mats.items → IsRowOf {h = h} G.order_of G.value n (λ i. trace (matrix_at n f.dim f.mats.items i)) row)
      → IsRowOf G.order_of G.value M (λ i. trace (D.at i)) row
  character_row {d} D f is row h =
      let r = subst (λ k. ((n h : ℕ) → HasShape n h k f.mats.items → IsRowOf {h = h} G.order_of G.value n
      (λ i. trace (matrix_at n k f.mats.items i)) row)) is.size h
      M P.places is.shape in
      record { count = r.count; orders = r.orders; numbers_at = λ i. r.numbers_at i ∙ ap trace (is.matrices i) }

module _ {S : Type 0} (order : S → ℕ) (value : (n : ℕ) → S → Number n) (M : ℕ) (P : FactorSystem (numbers M)) (L : Representations P) where
  pub record RowsSoFar (k : ℕ) (rows : List (List S)) : Type 0 where
    pub count : length rows ≡ k
    pub row : (m : Fin L.count) (e : List S) → to_nat m < k → IsRowOf order value M (λ i. trace ((L.member m).at i))
        (slice_index_or rows (to_nat m) e)

  pub rows_none : (rows : List (List S)) → rows ≡ [] → RowsSoFar 0 rows
  rows_none rows e = record { count = ap length e; row = λ m d l. absurd (omega (arith, l)) }

  pub rows_more : (k : ℕ) (rows after : List (List S)) (x : List S) → RowsSoFar k rows → after ≡ rows ++ x ∷ []
      → ((m : Fin L.count) → to_nat m ≡ k → IsRowOf order value M (λ i. trace ((L.member m).at i)) x) → RowsSoFar (k + 1) after
  rows_more k rows after x s e v = record {
    count = ap length e ∙ length-append rows (x ∷ []) ∙ ap (λ j. j + 1) s.count;
    row = λ m d l. subst (λ ys. IsRowOf order value M (λ i. trace ((L.member m).at i)) (get_or ys (to_nat m) d)) (sym e)
        (at m d (before_or_at (to_nat m) k l));
  }
    where
      at : (m : Fin L.count) (d : List S) → (to_nat m < k) ⊎ (to_nat m ≡ k) → IsRowOf order value M (λ i. trace ((L.member m).at i))
          (get_or (rows ++ x ∷ []) (to_nat m) d)
      at m d (inl l) = subst (IsRowOf order value M (λ i. trace ((L.member m).at i)))
          (sym (get_or_append_left rows (x ∷ []) d (to_nat m) (subst (λ j. to_nat m < j) (sym s.count) l))) (s.row m d l)
      at m d (inr q) = subst (IsRowOf order value M (λ i. trace ((L.member m).at i)))
          (sym (ap (λ j. get_or (rows ++ x ∷ []) j d) (q ∙ sym s.count) ∙ get_or-append_seam rows x [] d)) (v m q)

  pub rows_all : (k : ℕ) (rows : List (List S)) → RowsSoFar k rows → k ≡ L.count → AreRows order value M P L rows
  rows_all k rows s e = record { count = s.count ∙ e; row = λ m d. s.row m d (subst (λ j. to_nat m < j) (sym e) (to_nat-lt m)) }
