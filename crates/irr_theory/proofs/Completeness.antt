-- A full list of simple families is complete.
use Rattle.std.proofs.Common.{◌≡◌, sym, ◌∙◌, ap, ap₂, subst, ℕ, zero, suc, ◌<◌, ◌⊎◌, inl, inr, ◌*◌ as ◌*ℕ◌}
use Rattle.irr_algebra.specs.Ring.{Ring, whole}
use Rattle.irr_algebra.specs.Field.{Field}
use Rattle.irr_algebra.specs.Fin.{Fin}
use Rattle.irr_algebra.specs.Fin.Fin.{first, next}
use Rattle.irr_algebra.specs.Sum.{sum, delta}
use Rattle.irr_algebra.specs.Matrix.{Matrix, ◌·◌, unit, null, trace, single}
use Rattle.irr_algebra.specs.Action.{IsIrreducible, Equivalent, HasDimension}
use Rattle.irr_algebra.proofs.Rings.{mul-zero, zero-mul, one-mul, mul_left_comm}
use Rattle.irr_algebra.proofs.Whole.{whole-zero, whole-add, whole-mul}
use Rattle.irr_algebra.proofs.Fields.{inverse-mul, mul-inverse_left, whole-ne-zero}
use Rattle.irr_algebra.proofs.Indices.{all_or_one, same_or_not}
use Rattle.irr_algebra.proofs.Sums.{sum-ext, sum-zero, mul-sum, sum_same, sum-delta, sum-sum-mul, sum-mul-sum-sum, delta-ne, delta-refl}
use Rattle.irr_algebra.proofs.Matrices.{matrix-ext, mul-null, null_of_entries, mul-at, unit-at, trace-unit}
use Rattle.irr_algebra.proofs.Totals.{trace-mul-single, combination-none}
use Rattle.irr_algebra.proofs.Entries.{null_or_entry, unit-ne-null}
use Rattle.irr_algebra.proofs.Spans.{projection-unit}
use Rattle.irr_theory.specs.FactorSystem.{FactorSystem, Representation}
use Rattle.irr_theory.specs.Representations.{count_total, Representations, IsFull, IsComplete}
use Rattle.irr_theory.specs.Traces.{back}
use Rattle.irr_theory.proofs.Inverses.{mul-back, back-mul, places-ne-zero}
use Rattle.irr_theory.proofs.Averages.{average, average-intertwines, average_of_intertwiner}
use Rattle.irr_theory.proofs.Schur.{simple-irreducible, simple-equivalent, irreducible-equivalent}
use Rattle.irr_theory.proofs.Orthogonality.{cross_sum, cross_sum-null, cross_sum-simple}

-- a total as a number of the ring
pub whole-count_total : (R : Ring) (n : ℕ) (f : Fin n → ℕ) → whole R (count_total n f) ≡ sum R n (λ i. whole R (f i))
unfolding count_total sum
whole-count_total R zero f = whole-zero R
whole-count_total R (suc n) f = whole-add R (f first) (count_total n (λ i. f (next i))) ∙ ap (R.add (whole R (f first))) (whole-count_total R n (λ i. f (next i)))

-- the numbers that remain of a squared weight
weights : (F : Field) (d h t : F.Carrier) → (d ≡ F.zero → ⊥) → (h ≡ F.zero → ⊥)
    → F.mul (F.mul (F.mul d (F.inverse h)) (F.mul d (F.inverse h))) (F.mul h (F.mul (F.inverse d) t)) ≡ F.mul (F.mul d (F.inverse h)) t
weights F d h t dn hn =
    sorted F.ring d (F.inverse d) h (F.inverse h) t
    ∙ ap (λ x. F.mul (F.mul d (F.inverse h)) x) (ap₂ (λ x y. F.mul x (F.mul y t)) (F.mul-inverse d dn) (inverse-mul F h hn) ∙ one-mul F.ring (F.mul F.one t) ∙ one-mul F.ring t)
  where
    sorted : (R : Ring) (d e h k t : R.Carrier) → R.mul (R.mul (R.mul d k) (R.mul d k)) (R.mul h (R.mul e t)) ≡ R.mul (R.mul d k) (R.mul (R.mul d e) (R.mul (R.mul k h) t))
    sorted R d e h k t = simp (R.mul_assoc, mul_left_comm R, R.mul_comm)

module _ (F : Field) {T : FactorSystem F.ring} (L : Representations T) (full : IsFull L) where
  open F use {ring as R}

  -- the size of a member over the number of places
  weight : Fin L.count → R.Carrier
  weight m = R.mul (whole R (L.size m)) (F.inverse (whole R T.places))

  -- the functions that the members' entries span, as a projection
  kernel : Matrix R T.places T.places
  kernel = record { at = λ g k. sum R L.count (λ m. R.mul (weight m) (trace (back (L.member m) g · (L.member m).at k))) }

  -- members that differ have no intertwiner but 0
  average-null : (m n : Fin L.count) → (m ≡ n → ⊥) → (y : Matrix R (L.size n) (L.size m)) → average F (L.member m) (L.member n) y ≡ null
  average-null m n d y = cases (null_or_entry F (average F (L.member m) (L.member n) y))
    where
      cases : (average F (L.member m) (L.member n) y ≡ null)
          ⊎ ((i : Fin (L.size n)) × (j : Fin (L.size m)) × ((average F (L.member m) (L.member n) y).at i j ≡ R.zero → ⊥))
          → average F (L.member m) (L.member n) y ≡ null
      cases (inl e) = e
      cases (inr (i, j, h)) = absurd (full.inequivalent m n d (simple-equivalent F (L.member m) (L.member n) (full.simple m) (full.positive n) (full.simple n)
          (average F (L.member m) (L.member n) y) (average-intertwines F (L.member m) (L.member n) y) i j h))

  -- what orthogonality leaves of a sum over one member
  remains : Fin L.count → Fin T.places → Fin T.places → R.Carrier
  remains m g k = R.mul (whole R T.places) (R.mul (F.inverse (whole R (L.size m))) (trace (back (L.member m) g · (L.member m).at k)))

  cross_sum-members : (m n : Fin L.count) (g k : Fin T.places)
      → cross_sum (L.member n) (L.member m) (back (L.member m) g) ((L.member n).at k) ≡ R.mul (delta R m n) (remains m g k)
  unfolding remains
  cross_sum-members m n g k = cases (same_or_not m n)
    where
      same : cross_sum (L.member m) (L.member m) (back (L.member m) g) ((L.member m).at k) ≡ R.mul (delta R m m) (remains m g k)
      same = cross_sum-simple F (L.member m) (full.positive m) (full.simple m) (back (L.member m) g) ((L.member m).at k)
          ∙ sym (one-mul R (remains m g k)) ∙ ap (λ x. R.mul x (remains m g k)) (sym (delta-refl R m))

      cases : (m ≡ n) ⊎ (m ≡ n → ⊥) → cross_sum (L.member n) (L.member m) (back (L.member m) g) ((L.member n).at k) ≡ R.mul (delta R m n) (remains m g k)
      cases (inl e) = subst (λ x. cross_sum (L.member x) (L.member m) (back (L.member m) g) ((L.member x).at k) ≡ R.mul (delta R m x) (remains m g k)) e same
      cases (inr d) = cross_sum-null F (L.member n) (L.member m) (back (L.member m) g) ((L.member n).at k) (λ i j. average-null n m (λ e. d (sym e)) (single i j))
          ∙ sym (zero-mul R (remains m g k)) ∙ ap (λ x. R.mul x (remains m g k)) (sym (delta-ne R m n d))

  kernel-idempotent : kernel · kernel ≡ kernel
  unfolding kernel cross_sum remains weight
  kernel-idempotent = matrix-ext (λ g k.
      mul-at kernel kernel g k
      ∙ sum-sum-mul R L.count T.places weight (λ m j. trace (back (L.member m) g · (L.member m).at j)) (λ j. kernel.at j k)
      ∙ sum-ext R L.count (λ m. R.mul (weight m) (sum R T.places (λ j. R.mul (trace (back (L.member m) g · (L.member m).at j)) (kernel.at j k))))
      (λ m. R.mul (weight m) (trace (back (L.member m) g · (L.member m).at k))) (λ m.
      ap (R.mul (weight m)) (
      sum-mul-sum-sum R L.count T.places weight (λ j. trace (back (L.member m) g · (L.member m).at j)) (λ n j. trace (back (L.member n) j · (L.member n).at k))
      ∙ sum-ext R L.count (λ n. R.mul (weight n) (cross_sum (L.member n) (L.member m) (back (L.member m) g) ((L.member n).at k)))
      (λ n. R.mul (delta R m n) (R.mul (weight n) (remains m g k))) (λ n.
      ap (R.mul (weight n)) (cross_sum-members m n g k) ∙ mul_left_comm R (weight n) (delta R m n) (remains m g k))
      ∙ sum-delta R L.count m (λ n. R.mul (weight n) (remains m g k)))
      ∙ sym (R.mul_assoc (weight m) (weight m) (remains m g k))
      ∙ weights F (whole R (L.size m)) (whole R T.places) (trace (back (L.member m) g · (L.member m).at k)) (whole-ne-zero F (L.size m) (full.positive m)) (places-ne-zero F T)))

  trace-kernel : trace kernel ≡ whole R T.places
  unfolding trace kernel weight
  trace-kernel =
      sum-ext R T.places (λ g. kernel.at g g) (λ g. sum R L.count (λ m. R.mul (weight m) (whole R (L.size m)))) (λ g.
      sum-ext R L.count (λ m. R.mul (weight m) (trace (back (L.member m) g · (L.member m).at g))) (λ m. R.mul (weight m) (whole R (L.size m))) (λ m.
      ap (R.mul (weight m)) (ap trace (back-mul (L.member m) g) ∙ trace-unit R (L.size m))))
      ∙ sum_same R T.places (sum R L.count (λ m. R.mul (weight m) (whole R (L.size m))))
      ∙ mul-sum R L.count (whole R T.places) (λ m. R.mul (weight m) (whole R (L.size m)))
      ∙ sum-ext R L.count (λ m. R.mul (whole R T.places) (R.mul (weight m) (whole R (L.size m)))) (λ m. whole R (L.size m *ℕ L.size m)) (λ m.
      cancelled (whole R (L.size m)) (whole R T.places) (places-ne-zero F T) ∙ sym (whole-mul R (L.size m) (L.size m)))
      ∙ sym (whole-count_total R L.count (λ m. L.size m *ℕ L.size m)) ∙ ap (whole R) full.squares
    where
      cancelled : (d h : R.Carrier) → (h ≡ R.zero → ⊥) → R.mul h (R.mul (R.mul d (F.inverse h)) d) ≡ R.mul d d
      cancelled d h n = ap (R.mul h) (ap (λ x. R.mul x d) (R.mul_comm d (F.inverse h)) ∙ R.mul_assoc (F.inverse h) d d) ∙ mul-inverse_left F h (R.mul d d) n

  -- so the members' entries span all functions on the places
  kernel-unit : kernel ≡ unit R T.places
  kernel-unit = projection-unit F kernel kernel-idempotent trace-kernel

  kernel-sum : {b : ℕ} (B : Representation T b) (g : Fin T.places) (v : Matrix R b b)
      → sum R T.places (λ x. R.mul (kernel.at g x) (trace (back B x · v))) ≡ sum R L.count (λ m. R.mul (weight m) (cross_sum B (L.member m) (back (L.member m) g) v))
  unfolding kernel cross_sum
  kernel-sum B g v = sum-sum-mul R L.count T.places weight (λ m x. trace (back (L.member m) g · (L.member m).at x)) (λ x. trace (back B x · v))

  -- a family with no intertwiner into any member has no entries
  no_family : {a : ℕ} (A : Representation T a) → 0 < a → ((m : Fin L.count) (i : Fin (L.size m)) (k : Fin a) → average F A (L.member m) (single i k) ≡ null) → ⊥
  no_family {a} A l h = unit-ne-null F a l (sym (mul-back A T.start) ∙ ap (λ (m : Matrix R a a). A.at T.start · m) (null_of_entries (entry A h T.start)) ∙ mul-null (A.at T.start))
    where
      entry : {b : ℕ} (B : Representation T b) → ((m : Fin L.count) (i : Fin (L.size m)) (k : Fin b) → average F B (L.member m) (single i k) ≡ null)
          → (g : Fin T.places) (k j : Fin b) → (back B g).at k j ≡ R.zero
      entry {b} B h g k j =
          sym (sum-delta R T.places g (λ x. (back B x).at k j))
          ∙ sum-ext R T.places (λ x. R.mul (delta R g x) ((back B x).at k j)) (λ x. R.mul (kernel.at g x) (trace (back B x · single j k))) (λ x.
          ap₂ R.mul (sym (unit-at R g x) ∙ ap (λ (m : Matrix R T.places T.places). m.at g x) (sym kernel-unit)) (sym (trace-mul-single (back B x) k j)))
          ∙ kernel-sum B g (single j k)
          ∙ sum-ext R L.count (λ m. R.mul (weight m) (cross_sum B (L.member m) (back (L.member m) g) (single j k))) (λ m. R.zero) (λ m.
          ap (R.mul (weight m)) (cross_sum-null F B (L.member m) (back (L.member m) g) (single j k) (h m)) ∙ mul-zero R (weight m))
          ∙ sum-zero R L.count

  -- members that differ have a space of dimension 0
  pub members-dimension : (m n : Fin L.count) → (m ≡ n → ⊥) → HasDimension (L.member m).at (L.member n).at 0
  members-dimension m n d = record {
    members = λ k. elim k [ ];
    are_intertwiners = λ k. elim k [ ];
    independent = λ c e k. elim k [ ];
    spanning = λ x h. (
      λ k. elim k [ ],
      sym (average_of_intertwiner F (L.member m) (L.member n) x h) ∙ average-null m n d x
          ∙ sym (combination-none R (λ k. elim k [ ]) (λ k. elim k [ ])),
    );
  }

  -- an irreducible family is equivalent to a member
  pub full-member : {a : ℕ} (A : Representation T a) → 0 < a → IsIrreducible A.at → (m : Fin L.count) × Equivalent A.at (L.member m).at
  full-member {a} A l irreducible = cases (all_or_one L.count (λ m. (i : Fin (L.size m)) (k : Fin a) → average F A (L.member m) (single i k) ≡ null) (λ m. Equivalent A.at (L.member m).at) decided)
    where
      one : (m : Fin L.count) (y : Matrix R (L.size m) a)
          → (average F A (L.member m) y ≡ null) ⊎ ((i : Fin (L.size m)) × (j : Fin a) × ((average F A (L.member m) y).at i j ≡ R.zero → ⊥))
          → (average F A (L.member m) y ≡ null) ⊎ Equivalent A.at (L.member m).at
      one m y (inl e) = inl e
      one m y (inr (i, j, n)) = inr (irreducible-equivalent F A (L.member m) irreducible (full.positive m) (full.simple m) (average F A (L.member m) y)
          (average-intertwines F A (L.member m) y) i j n)

      flat : (m : Fin L.count) → ((i : Fin (L.size m)) → (k : Fin a) → average F A (L.member m) (single i k) ≡ null) ⊎ ((i : Fin (L.size m)) × ((k : Fin a) × Equivalent A.at (L.member m).at))
          → ((i : Fin (L.size m)) (k : Fin a) → average F A (L.member m) (single i k) ≡ null) ⊎ Equivalent A.at (L.member m).at
      flat m (inl h) = inl h
      flat m (inr (i, (k, e))) = inr e

      decided : (m : Fin L.count) → ((i : Fin (L.size m)) (k : Fin a) → average F A (L.member m) (single i k) ≡ null) ⊎ Equivalent A.at (L.member m).at
      decided m = flat m (all_or_one (L.size m) (λ i. (k : Fin a) → average F A (L.member m) (single i k) ≡ null) (λ i. (k : Fin a) × Equivalent A.at (L.member m).at)
          (λ i. all_or_one a (λ k. average F A (L.member m) (single i k) ≡ null) (λ k. Equivalent A.at (L.member m).at)
          (λ k. one m (single i k) (null_or_entry F (average F A (L.member m) (single i k))))))

      cases : ((m : Fin L.count) (i : Fin (L.size m)) (k : Fin a) → average F A (L.member m) (single i k) ≡ null) ⊎ ((m : Fin L.count) × Equivalent A.at (L.member m).at)
          → (m : Fin L.count) × Equivalent A.at (L.member m).at
      cases (inl h) = absurd (no_family A l h)
      cases (inr r) = r

  -- simple, pairwise inequivalent members whose squared sizes add up to the number of places are a complete list
  pub full-complete : IsComplete L
  full-complete = record {
    positive = full.positive;
    irreducible = λ m. simple-irreducible F (L.member m) (full.simple m);
    inequivalent = full.inequivalent;
    all = λ A l i. full-member A l i;
  }
