-- Characters made one trace after another, and running sums over the places.
--   TracesSoFar              the first k traces of a family
--   traces-none, traces-more, traces-all
--   extended                 a function of the places, 0 past them
--   extended-at, extended-is at a place
--   sum-extended             its sum is the sum over the places
use Rattle.std.proofs.Common.{◌≡◌, sym, ◌∙◌, ap, subst, ℕ, ◌+◌, ◌<◌, ◌⊎◌, inl, inr, List, [], ◌∷◌, ◌++◌, length, get_or, map, length-append, arith}
use native.Mathlib.Decide.{dec_lt}
use Rattle.std.specs.List.{All}
use Rattle.std.proofs.Math.Seq.{get_or-append_seam}
use Rattle.std.proofs.lemmas.List.{get_or_append_left, length-map, map-append}
use Rattle.std.proofs.lemmas.List.Elements.{All-nil, All-push}
use Rattle.irr_algebra.specs.Fin.{Fin, to_nat}
use Rattle.irr_algebra.specs.Listed.{sum_below}
use Rattle.irr_algebra.specs.Matrix.{trace}
use Rattle.irr_algebra.specs.Sum.{sum}
use Rattle.irr_algebra.proofs.Indices.{from_nat, to_nat-from_nat, to_nat-lt, to_nat_inj}
use Rattle.irr_algebra.proofs.Listed.{sum-to_nat}
use Rattle.irr_algebra.proofs.Sums.{sum-ext}
use Rattle.irr_number.specs.Number.{Number, numbers}
use Rattle.irr_cyc.specs.declared.scalars.Scalar.{Ghosts}
use Rattle.irr_mat.specs.declared.matrices.Mat.{Mat}
use Rattle.irr_rep.specs.Family.{HasShape, matrix_at}
use Rattle.irr_char.specs.Characters.{IsRowOf}
use Rattle.irr_char.proofs.RowForms.{before_or_at}

module _ {S : Type 0} {G : Ghosts S} (d : ℕ) (mats : List (Mat S G)) where
  pub record TracesSoFar (k : ℕ) (row : List S) : Type 0 where
    pub count : length row ≡ k
    pub orders : (n h : ℕ) → HasShape n h d mats → All (λ x. G.order_of x ≡ n) row
    pub traces : (n h : ℕ) → HasShape n h d mats → (i : Fin h) → to_nat i < k
        → get_or (map (G.value n) row) (to_nat i) (numbers n).zero ≡ trace (matrix_at n d mats i)

  pub traces-none : (row : List S) → row ≡ [] → TracesSoFar 0 row
  traces-none row e = record {
    count = ap length e;
    orders = λ n h s. subst (All (λ x. G.order_of x ≡ n)) (sym e) (All-nil (λ x. G.order_of x ≡ n));
    traces = λ n h s i l. absurd (omega arith);
  }

  pub traces-more : (k : ℕ) (row after : List S) (x : S) → TracesSoFar k row → after ≡ row ++ x ∷ []
      → ((n h : ℕ) → HasShape n h d mats → G.order_of x ≡ n)
      → ((n h : ℕ) → HasShape n h d mats → (i : Fin h) → to_nat i ≡ k → G.value n x ≡ trace (matrix_at n d mats i))
      → TracesSoFar (k + 1) after
  traces-more k row after x f e o v = record {
    count = ap length e ∙ length-append row (x ∷ []) ∙ ap (λ j. j + 1) f.count;
    orders = λ n h s. subst (All (λ y. G.order_of y ≡ n)) (sym e) (All-push (λ y. G.order_of y ≡ n) row x (f.orders n h s) (o n h s));
    traces = λ n h s i l.
        ap (λ ys. get_or ys (to_nat i) (numbers n).zero) (ap (map (G.value n)) e ∙ map-append (G.value n) row (x ∷ []))
        ∙ at n h s i (before_or_at (to_nat i) k l);
  }
    where
      at : (n h : ℕ) → HasShape n h d mats → (i : Fin h) → (to_nat i < k) ⊎ (to_nat i ≡ k)
          → get_or (map (G.value n) row ++ G.value n x ∷ []) (to_nat i) (numbers n).zero ≡ trace (matrix_at n d mats i)
      at n h s i (inl l) =
          get_or_append_left (map (G.value n) row) (G.value n x ∷ []) (numbers n).zero (to_nat i)
          (subst (λ m. to_nat i < m) (sym (length-map row (G.value n) ∙ f.count)) l)
          ∙ f.traces n h s i l
      at n h s i (inr q) =
          ap (λ m. get_or (map (G.value n) row ++ G.value n x ∷ []) m (numbers n).zero) (q ∙ sym f.count ∙ sym (length-map row (G.value n)))
          ∙ get_or-append_seam (map (G.value n) row) (G.value n x) [] (numbers n).zero ∙ v n h s i q

  pub traces-all : (k : ℕ) (row : List S) → TracesSoFar k row → k ≡ length mats → (n h : ℕ) → HasShape n h d mats
      → IsRowOf {h = h} G.order_of G.value n (λ i. trace (matrix_at n d mats i)) row
  traces-all k row f e n h s = record {
    count = f.count ∙ e ∙ s.count;
    orders = f.orders n h s;
    numbers_at = λ i. f.traces n h s i (subst (λ m. to_nat i < m) (sym (e ∙ s.count)) (to_nat-lt i));
  }

-- f at the places, 0 past them
unfoldable extended_if : (n : ℕ) {h : ℕ} (f : Fin h → Number n) (k : ℕ) → Dec (k < h) → Number n
extended_if n {h} f k (yes l) = f (from_nat h k l)
extended_if n f k (no g) = (numbers n).zero

pub extended : (n : ℕ) {h : ℕ} (f : Fin h → Number n) → ℕ → Number n
extended n {h} f k = extended_if n f k (dec_lt k h)

module _ (n : ℕ) {h : ℕ} (f : Fin h → Number n) where
  extended_if-at : (i : Fin h) (d : Dec (to_nat i < h)) → extended_if n f (to_nat i) d ≡ f i
  unfolding extended_if
  extended_if-at i (yes l) = ap f (to_nat_inj (from_nat h (to_nat i) l) i (to_nat-from_nat h (to_nat i) l))
  extended_if-at i (no g) = absurd (g (to_nat-lt i))

  pub extended-at : (i : Fin h) → extended n f (to_nat i) ≡ f i
  unfolding extended
  extended-at i = extended_if-at i (dec_lt (to_nat i) h)

  pub extended-is : (k : ℕ) (l : k < h) → extended n f k ≡ f (from_nat h k l)
  extended-is k l = ap (extended n f) (sym (to_nat-from_nat h k l)) ∙ extended-at (from_nat h k l)

  pub sum-extended : sum_below (numbers n) h (extended n f) ≡ sum (numbers n) h f
  sum-extended = sym (sum-to_nat (numbers n) h (extended n f)) ∙ sum-ext (numbers n) h (λ i. extended n f (to_nat i)) f extended-at
