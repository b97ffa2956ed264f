-- The squared sizes of a climbed list add up to the number of places.
use Rattle.std.proofs.Common.{◌≡◌, sym, ◌∙◌, ap, ap₂, refl, subst, ℕ, ◌*◌, ◌⊎◌, inl, inr}
use Rattle.irr_algebra.specs.Ring.{Ring, whole}
use Rattle.irr_algebra.specs.Field.{Field}
use Rattle.irr_algebra.specs.Fin.{Fin, to_nat}
use Rattle.irr_algebra.specs.Fin.Fin.{first, next}
use Rattle.irr_algebra.specs.Pair.{times, pair, on_pairs}
use Rattle.irr_algebra.specs.Sum.{sum, delta}
use Rattle.irr_algebra.proofs.Rings.{mul-zero, zero-mul, one-mul, mul_left_comm}
use Rattle.irr_algebra.proofs.Whole.{whole-zero, whole-one, whole-mul}
use Rattle.irr_algebra.proofs.Fields.{whole_inj}
use Rattle.irr_algebra.proofs.Indices.{same_or_not}
use Rattle.irr_algebra.proofs.Sums.{sum-ext, sum-zero, sum_swap, mul-sum, sum-mul, sum-delta, delta-sum, sum_same, sum-one, sum-matched, sum-sum-mul, delta-ne, delta-refl, delta_iff}
use Rattle.irr_algebra.proofs.Pairs.{times-mul, on_pairs-pair, ext_pairs}
use Rattle.irr_algebra.proofs.Irreducible.{equivalent-size}
use Rattle.irr_theory.specs.Extension.{iterate}
use Rattle.irr_theory.specs.FactorSystem.{FactorSystem}
use Rattle.irr_theory.specs.Representations.{Representations, IsFull, count_total}
use Rattle.irr_theory.proofs.Completeness.{whole-count_total}
use Rattle.irr_clifford.specs.Subgroup.{Subgroup, restrict}
use Rattle.irr_clifford.specs.Cyclic.{CyclicQuotient, place_power}
use Rattle.irr_clifford.specs.Climb.{IsClimb, one_at, occurrences}
use Rattle.irr_clifford.proofs.Conjugates.{conjugates}
use Rattle.irr_clifford.proofs.Split.{place_cancel}
use Rattle.irr_clifford.proofs.Translates.{induced-size}
use Rattle.irr_clifford.proofs.Orbits.{iterate-fixed, one_orbit, iterate_inj}
use Rattle.irr_clifford.proofs.Climbed.{conjugates_turn, period, fixed-apart, positive, simple, inequivalent}

pub whole-one_at : (R : Ring) {n : ℕ} (i j : Fin n) → whole R (one_at i j) ≡ delta R i j
unfolding one_at delta
whole-one_at R first first = whole-one R
whole-one_at R first (next j) = whole-zero R
whole-one_at R (next i) first = whole-zero R
whole-one_at R (next i) (next j) = whole-one_at R i j

pub whole-occurrences : (R : Ring) {m n : ℕ} (f : Fin m → Fin n) (l : Fin n) → whole R (occurrences f l) ≡ sum R m (λ i. delta R (f i) l)
unfolding occurrences
whole-occurrences R {m} f l = whole-count_total R m (λ i. one_at (f i) l) ∙ sum-ext R m (λ i. whole R (one_at (f i) l)) (λ i. delta R (f i) l) (λ i. whole-one_at R (f i) l)

-- there are index times as many places as members
pub places-index : (R : Ring) {T : FactorSystem R} {H : Subgroup T} (Q : CyclicQuotient H) → whole R T.places ≡ R.mul (whole R Q.index) (whole R H.table.places)
places-index R {T} {H} Q =
    sym (sum-one R T.places) ∙ sum-matched R T.places (times Q.index H.table.places) s t st ts (λ i. R.one) ∙ sum-one R (times Q.index H.table.places)
    ∙ ap (whole R) (times-mul Q.index H.table.places) ∙ whole-mul R Q.index H.table.places
  where
    s : Fin T.places → Fin (times Q.index H.table.places)
    s x = pair H.table.places (Q.exponent x) (Q.part x)

    place : Fin Q.index → Fin H.table.places → Fin T.places
    place a n = T.product (place_power T Q.generator (to_nat a)) (H.member n)

    t : Fin (times Q.index H.table.places) → Fin T.places
    t i = on_pairs Q.index H.table.places place i

    ts : (x : Fin T.places) → t (s x) ≡ x
    ts x = on_pairs-pair H.table.places place (Q.exponent x) (Q.part x) ∙ Q.splits x

    exponent-place : (a : Fin Q.index) (n : Fin H.table.places) → Q.exponent (place a n) ≡ a
    exponent-place a n = Q.one_exponent (Q.exponent (place a n)) a (Q.part (place a n)) n (Q.splits (place a n))

    part-place : (a : Fin Q.index) (n : Fin H.table.places) → Q.part (place a n) ≡ n
    part-place a n = H.injective (Q.part (place a n)) n (place_cancel T (place_power T Q.generator (to_nat a)) (H.member (Q.part (place a n))) (H.member n)
        (ap (λ b. T.product (place_power T Q.generator (to_nat b)) (H.member (Q.part (place a n)))) (sym (exponent-place a n)) ∙ Q.splits (place a n)))

    st : (i : Fin (times Q.index H.table.places)) → s (t i) ≡ i
    st = ext_pairs Q.index H.table.places (λ i. s (t i)) (λ i. i) (λ a n.
        ap s (on_pairs-pair H.table.places place a n) ∙ ap₂ (pair H.table.places) (exponent-place a n) (part-place a n))

module _ (F : Field) {T : FactorSystem F.ring} {H : Subgroup T} (Q : CyclicQuotient H) (small : (Q.index ≡ 2) ⊎ (Q.index ≡ 3)) (L : Representations H.table) (full : IsFull L)
    (M : Representations T) (h : IsClimb Q L M) where
  open F use {ring as R}

  -- the square of a size
  square : ℕ → R.Carrier
  square d = R.mul (whole R d) (whole R d)

  p : R.Carrier
  p = whole R Q.index

  -- how much of the square of m lies over l
  share : (m : Fin M.count) → (h.turn (h.below m) ≡ h.below m) ⊎ (h.turn (h.below m) ≡ h.below m → ⊥) → Fin L.count → R.Carrier
  share m (inl e) l = delta R (h.below m) l
  share m (inr n) l = sum R Q.index (λ a. R.mul p (delta R (iterate h.turn (to_nat a) (h.below m)) l))

  fixed_or_not : (l : Fin L.count) → (h.turn l ≡ l) ⊎ (h.turn l ≡ l → ⊥)
  fixed_or_not l = same_or_not (h.turn l) l

  share-square : (m : Fin M.count) (c : (h.turn (h.below m) ≡ h.below m) ⊎ (h.turn (h.below m) ≡ h.below m → ⊥))
      → square (M.size m) ≡ sum R L.count (λ l. R.mul (share m c l) (square (L.size l)))
  unfolding share square p
  share-square m (inl e) = ap square (equivalent-size F (restrict H (M.member m)) (L.member (h.below m)).at (h.extends m e)) ∙ sym (sum-delta R L.count (h.below m) (λ l. square (L.size l)))
  share-square m (inr n) =
      ap₂ R.mul (induced-size Q (M.member m) (L.member (h.below m)) (h.induced m n)) (induced-size Q (M.member m) (L.member (h.below m)) (h.induced m n))
      ∙ sorted p (whole R (L.size (h.below m)))
      ∙ sym (sum_same R Q.index (R.mul p (square (L.size (h.below m)))))
      ∙ sum-ext R Q.index (λ a. R.mul p (square (L.size (h.below m)))) (λ a. R.mul p (sum R L.count (λ l. R.mul (delta R (iterate h.turn (to_nat a) (h.below m)) l) (square (L.size l))))) (λ a.
      ap (R.mul p) (ap square (equivalent-size F (conjugates Q (L.member (h.below m)) (to_nat a)).at (L.member (iterate h.turn (to_nat a) (h.below m))).at (conjugates_turn F Q small L full M h (h.below m) (to_nat a)))
      ∙ sym (sum-delta R L.count (iterate h.turn (to_nat a) (h.below m)) (λ l. square (L.size l)))))
      ∙ sym (sum-sum-mul R Q.index L.count (λ a. p) (λ a l. delta R (iterate h.turn (to_nat a) (h.below m)) l) (λ l. square (L.size l)))
    where
      sorted : (x y : R.Carrier) → R.mul (R.mul x y) (R.mul x y) ≡ R.mul x (R.mul x (R.mul y y))
      sorted x y = simp (R.mul_assoc, mul_left_comm R)

  -- where no conjugate of m is l it has no share
  share-none : (m : Fin M.count) (n : h.turn (h.below m) ≡ h.below m → ⊥) (l : Fin L.count) → ((a : Fin Q.index) → iterate h.turn (to_nat a) (h.below m) ≡ l → ⊥) → share m (inr n) l ≡ R.zero
  unfolding share
  share-none m n l d =
      sum-ext R Q.index (λ a. R.mul p (delta R (iterate h.turn (to_nat a) (h.below m)) l)) (λ a. R.zero) (λ a.
      ap (R.mul p) (delta-ne R (iterate h.turn (to_nat a) (h.below m)) l (d a)) ∙ mul-zero R p) ∙ sum-zero R Q.index

  share-fixed : (m : Fin M.count) (c : (h.turn (h.below m) ≡ h.below m) ⊎ (h.turn (h.below m) ≡ h.below m → ⊥)) (l : Fin L.count) → h.turn l ≡ l → share m c l ≡ delta R (h.below m) l
  unfolding share
  share-fixed m (inl e) l f = refl
  share-fixed m (inr n) l f =
      share-none m n l (λ a q. fixed-apart F Q small L full M h l (h.below m) f (λ s. n (subst (λ k. h.turn k ≡ k) s f)) a a (iterate-fixed h.turn (to_nat a) l f ∙ sym q))
      ∙ sym (delta-ne R (h.below m) l (λ s. n (subst (λ k. h.turn k ≡ k) (sym s) f)))

  share-other : (m o : Fin M.count) (a : Fin Q.index) (l : Fin L.count) (c : (h.turn (h.below m) ≡ h.below m) ⊎ (h.turn (h.below m) ≡ h.below m → ⊥)) (d : (o ≡ m) ⊎ (o ≡ m → ⊥))
      → iterate h.turn (to_nat a) (h.below o) ≡ l → (h.turn l ≡ l → ⊥) → share m c l ≡ R.mul (delta R o m) p
  unfolding share
  share-other m o a l (inl e) (inl s) q n =
      absurd (n (subst (λ k. h.turn k ≡ k) (sym (iterate-fixed h.turn (to_nat a) (h.below m) e) ∙ ap (λ i. iterate h.turn (to_nat a) (h.below i)) (sym s) ∙ q) e))
  share-other m o a l (inl e) (inr d) q n =
      delta-ne R (h.below m) l (λ s. n (subst (λ k. h.turn k ≡ k) s e)) ∙ sym (zero-mul R p) ∙ ap (λ x. R.mul x p) (sym (delta-ne R o m d))
  share-other m o a l (inr f) (inl s) q n =
      sum-ext R Q.index (λ b. R.mul p (delta R (iterate h.turn (to_nat b) (h.below m)) l)) (λ b. R.mul p (delta R b a)) (λ b.
      ap (R.mul p) (delta_iff R (iterate h.turn (to_nat b) (h.below m)) l b a
      (λ t. iterate_inj h.turn Q.index small (period F Q small L full M h) (h.below m) f b a (t ∙ sym q ∙ ap (λ i. iterate h.turn (to_nat a) (h.below i)) s))
      (λ t. ap (λ i. iterate h.turn (to_nat i) (h.below m)) t ∙ ap (λ i. iterate h.turn (to_nat a) (h.below i)) (sym s) ∙ q)))
      ∙ delta-sum R Q.index a (λ b. p) ∙ sym (one-mul R p) ∙ ap (λ x. R.mul x p) (sym (delta-refl R m) ∙ ap (λ i. delta R i m) (sym s))
  share-other m o a l (inr f) (inr d) q n =
      share-none m f l (λ b t. let r = one_orbit h.turn Q.index small (period F Q small L full M h) b a (h.below m) (h.below o) (t ∙ sym q) in h.orbits_apart m o (λ s. d (sym s)) f r.0 r.1)
      ∙ sym (zero-mul R p) ∙ ap (λ x. R.mul x p) (sym (delta-ne R o m d))

  -- the shares over l add up to the index
  shares : (l : Fin L.count) → sum R M.count (λ m. share m (fixed_or_not (h.below m)) l) ≡ p
  unfolding p
  shares l = cases (fixed_or_not l)
    where
      cases : (h.turn l ≡ l) ⊎ (h.turn l ≡ l → ⊥) → sum R M.count (λ m. share m (fixed_or_not (h.below m)) l) ≡ p
      cases (inl f) =
          sum-ext R M.count (λ m. share m (fixed_or_not (h.below m)) l) (λ m. delta R (h.below m) l) (λ m. share-fixed m (fixed_or_not (h.below m)) l f)
          ∙ sym (whole-occurrences R h.below l) ∙ ap (whole R) (h.all_extensions l f)
      cases (inr n) = let o = h.orbits_covered l n in
          sum-ext R M.count (λ m. share m (fixed_or_not (h.below m)) l) (λ m. R.mul (delta R o.0 m) p) (λ m. share-other m o.0 o.1 l (fixed_or_not (h.below m)) (same_or_not o.0 m) o.2 n)
          ∙ sum-delta R M.count o.0 (λ m. p)

  whole-squares : (S : ℕ) (f : Fin S → ℕ) → whole R (count_total S (λ i. f i * f i)) ≡ sum R S (λ i. square (f i))
  unfolding square
  whole-squares S f = whole-count_total R S (λ i. f i * f i) ∙ sum-ext R S (λ i. whole R (f i * f i)) (λ i. square (f i)) (λ i. whole-mul R (f i) (f i))

  pub squares : count_total M.count (λ m. M.size m * M.size m) ≡ T.places
  unfolding p
  squares = whole_inj F (count_total M.count (λ m. M.size m * M.size m)) T.places (
      whole-squares M.count M.size
      ∙ sum-ext R M.count (λ m. square (M.size m)) (λ m. sum R L.count (λ l. R.mul (share m (fixed_or_not (h.below m)) l) (square (L.size l)))) (λ m. share-square m (fixed_or_not (h.below m)))
      ∙ sum_swap R M.count L.count (λ m l. R.mul (share m (fixed_or_not (h.below m)) l) (square (L.size l)))
      ∙ sum-ext R L.count (λ l. sum R M.count (λ m. R.mul (share m (fixed_or_not (h.below m)) l) (square (L.size l)))) (λ l. R.mul p (square (L.size l))) (λ l.
      sym (sum-mul R M.count (λ m. share m (fixed_or_not (h.below m)) l) (square (L.size l))) ∙ ap (λ x. R.mul x (square (L.size l))) (shares l))
      ∙ sym (mul-sum R L.count p (λ l. square (L.size l)))
      ∙ ap (R.mul p) (sym (whole-squares L.count L.size) ∙ ap (whole R) full.squares) ∙ sym (places-index R Q))

  -- a climbed list is full
  pub climb_full : IsFull M
  climb_full = record {
    positive = positive F Q small L full M h;
    simple = simple F Q small L full M h;
    inequivalent = inequivalent F Q small L full M h;
    squares = squares;
  }
