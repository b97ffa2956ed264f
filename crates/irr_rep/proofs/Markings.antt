-- Marks at the products of generators.
--   marked-more, marked-only         the marks after one more
--   grows-same, grows-join           growing marks
--   grows-product                    the mark of a product with a generator
--   Generating T generators marks i  the places below i are marked, and marks are at products of generators
--   generating-start, generating-skip, generating-step, generating-end
use Rattle.std.specs.Prelude.{ℕ, zero, suc, ◌≡◌, ◌<◌, ◌≤◌, ◌+◌, ◌⊎◌, List, [], ◌∷◌, ◌++◌, Bool, true, false, length, Contains, replicate}
use Rattle.std.proofs.Common.{sym, ◌∙◌, ap, subst, refl, inl, inr, arith, get_or, set, get_or-set_same, get_or-set_other, length-set, take, drop}
use Rattle.std.proofs.Math.Seq.{take-append_seam}
use Rattle.std.proofs.lemmas.Bool.{cases_lt}
use Rattle.std.proofs.lemmas.List.Elements.{Contains-append_left, Contains-push}
use Rattle.irr_number.specs.SumLaws.{same_or_not}
use Rattle.irr_algebra.specs.Fin.{Fin, to_nat}
use Rattle.irr_algebra.proofs.Indices.{from_nat, to_nat-from_nat, to_nat-lt, to_nat_inj}
use Rattle.irr_space.specs.PhaseTable.{PhaseTable}
use Rattle.irr_rep.specs.Generators.{Generate, Grows, IsMarked, IsReached}
use Rattle.irr_rep.specs.Generators.IsReached.{unit as reached_unit, product as reached_product}

-- the marks that were set stay
marked-more : (marks : List Bool) (k : ℕ) → k < length marks → (i : ℕ) → IsMarked marks i → IsMarked (set marks k true) i
marked-more marks k lt i m = elim (same_or_not i k) [
  | inl e ↦ subst (λ v. get_or (set marks k true) v false ≡ true) (sym e) (get_or-set_same marks k true false lt)
  | inr f ↦ get_or-set_other marks k i true false f ∙ m
]

-- and the others are not set but at k
marked-only : (marks : List Bool) (k i : ℕ) → IsMarked (set marks k true) i → IsMarked marks i ⊎ (i ≡ k)
marked-only marks k i m = elim (same_or_not i k) [
  | inl e ↦ inr e
  | inr f ↦ inl (sym (get_or-set_other marks k i true false f) ∙ m)
]

-- what a call wrote through a slice of a vector
pub written : (n : ℕ) (new old : List Bool) → n ≡ length new → take n (new ++ drop (length new) old) ≡ new
written n new old e = ap (λ k. take k (new ++ drop (length new) old)) e ∙ take-append_seam new (drop (length new) old)

none_marked : (n k : ℕ) → IsMarked (replicate n false) k → ⊥
none_marked zero k m = absurd (cc)
none_marked (suc n) zero m = absurd (cc)
none_marked (suc n) (suc k) m = none_marked n k m

module _ {h : ℕ} (T : PhaseTable h) where
  -- a product of generators is one of more generators
  reached-more : (generators : List ℕ) (g : ℕ) (i : Fin h) → IsReached T generators i → IsReached T (generators ++ g ∷ []) i
  reached-more generators g i reached_unit = reached_unit
  reached-more generators g i (reached_product {i = k} {g = f} r c) =
      reached_product (reached-more generators g k r) (Contains-append_left generators (g ∷ []) (to_nat f) c)

  module _ (generators : List ℕ) where
    pub grows-same : (marks : List Bool) → Grows T generators marks marks
    grows-same marks = record { count = refl; kept = λ k m. m; reached = λ all i m. all i m }

    pub grows-join : (old new newer : List Bool) → Grows T generators old new → Grows T generators new newer → Grows T generators old newer
    grows-join old new newer first second = record {
      count = second.count ∙ first.count;
      kept = λ k m. second.kept k (first.kept k m);
      reached = λ all. second.reached (first.reached all);
    }

    grows-place : (marks : List Bool) (p q : Fin h) → length marks ≡ h → IsMarked marks (to_nat p) → Contains generators (to_nat q)
        → Grows T generators marks (set marks (to_nat (T.product p q)) true)
    grows-place marks p q size m c = record {
      count = length-set marks (to_nat (T.product p q)) true;
      kept = marked-more marks (to_nat (T.product p q)) (subst (λ k. to_nat (T.product p q) < k) (sym size) (to_nat-lt (T.product p q)));
      reached = λ all i k. elim (marked-only marks (to_nat (T.product p q)) (to_nat i) k) [
        | inl d ↦ all i d
        | inr e ↦ subst (IsReached T generators) (sym (to_nat_inj i (T.product p q) e)) (reached_product (all p m) c)
      ];
    }

    pub grows-product : (marks : List Bool) (i j k : ℕ) → i < h → j < h → length marks ≡ h → IsMarked marks i → Contains generators j
        → ((p q : Fin h) → to_nat p ≡ i → to_nat q ≡ j → k ≡ to_nat (T.product p q)) → Grows T generators marks (set marks k true)
    grows-product marks i j k a b size m c product =
        let p : Fin h = from_nat h i a in
        let q : Fin h = from_nat h j b in
        subst (λ v. Grows T generators marks (set marks v true)) (sym (product p q (to_nat-from_nat h i a) (to_nat-from_nat h j b)))
        (grows-place marks p q size (subst (IsMarked marks) (sym (to_nat-from_nat h i a)) m)
        (subst (Contains generators) (sym (to_nat-from_nat h j b)) c))

  -- the places below i are marked but for the unit, and the marks are at products of generators
  pub record Generating (generators : List ℕ) (marks : List Bool) (i : ℕ) : Type 0 where
    pub count : length marks ≡ h
    pub passed : (k : ℕ) → 0 < k → k < i → IsMarked marks k
    pub reached : (k : Fin h) → IsMarked marks (to_nat k) → IsReached T generators k

  pub generating-start : (marks : List Bool) → marks ≡ replicate h false → length marks ≡ h → Generating [] marks 1
  generating-start marks e size = record {
    count = size;
    passed = λ k l m. absurd (omega arith);
    reached = λ k m. absurd (none_marked h (to_nat k) (subst (λ v. IsMarked v (to_nat k)) e m));
  }

  one_more : (P : ℕ → Type 0) (i : ℕ) → ((k : ℕ) → 0 < k → k < i → P k) → P i → (k : ℕ) → 0 < k → k < i + 1 → P k
  one_more P i f p k positive l = elim (same_or_not k i) [
    | inl e ↦ subst P (sym e) p
    | inr n ↦ f k positive (omega (arith, n))
  ]

  pub generating-skip : (generators : List ℕ) (marks : List Bool) (i : ℕ) → Generating generators marks i → IsMarked marks i
      → Generating generators marks (i + 1)
  generating-skip generators marks i so m = record {
    count = so.count;
    passed = one_more (IsMarked marks) i so.passed m;
    reached = so.reached;
  }

  pub generating-step : (generators : List ℕ) (marks new : List Bool) (i : ℕ) → Generating generators marks i → i < h
      → Grows T (generators ++ i ∷ []) (set marks i true) new → Generating (generators ++ i ∷ []) new (i + 1)
  generating-step generators marks new i so l grows = record {
    count = grows.count ∙ length-set marks i true ∙ so.count;
    passed = one_more (IsMarked new) i (λ k positive below. grows.kept k (marked-more marks i inside k (so.passed k positive below)))
        (grows.kept i (get_or-set_same marks i true false inside));
    reached = grows.reached (λ k m. elim (marked-only marks i (to_nat k) m) [
      | inl d ↦ reached-more generators i k (so.reached k d)
      | inr e ↦ subst (IsReached T (generators ++ i ∷ [])) (T.start-product k)
          (reached_product reached_unit (subst (Contains (generators ++ i ∷ [])) (sym e) (Contains-push generators i)))
    ]);
  }
    where
      inside : i < length marks
      inside = subst (λ k. i < k) (sym so.count) l

  pub generating-end : (generators : List ℕ) (marks : List Bool) (i : ℕ) → Generating generators marks i → h ≤ i → Generate T generators
  generating-end generators marks i so all k = elim (cases_lt 0 (to_nat k)) [
    | inl positive ↦ so.reached k (so.passed (to_nat k) positive (let l : to_nat k < h = to_nat-lt k in omega arith))
    | inr none ↦ subst (IsReached T generators) (to_nat_inj T.start k (T.start_first ∙ (let e : 0 ≡ to_nat k = omega arith in e))) reached_unit
  ]
