-- The first trial that is not passed, from what is wrong first.
--   in_family          where it is one of a family
--   in_pair            where it is one of a pair
--   in_list            where it is that all are there
--   in_none            where there is none
use Rattle.std.proofs.Common.{◌≡◌, sym, subst, inl, inr, ◌⊎◌, ℕ, ◌<◌, List, [], ◌∷◌, arith}
use Rattle.irr_algebra.specs.Fin.{Fin, to_nat}
use Rattle.irr_algebra.proofs.Indices.{to_nat_inj}
use Rattle.irr_space.specs.PhaseTable.{PhaseTable}
use Rattle.irr_check.specs.Families.{Families}
use Rattle.irr_check.specs.Trials.{IsBelow, IsFirstFailed, IsTriedBefore, Passes, Trial, turn}
use Rattle.irr_check.specs.Trials.Reading.{dimensions}
use Rattle.irr_check.specs.Trials.Trial.{all, at_product, at_trace, at_unit, inequivalent, irreducible}

pair_below : (p q i j : ℕ) → IsBelow (1 ∷ p ∷ q ∷ []) (1 ∷ i ∷ j ∷ []) → (p < i) ⊎ ((p ≡ i) × (q < j))
unfolding IsBelow
pair_below p q i j (inl l) = absurd (omega (arith, l))
pair_below p q i j (inr (e, inl l)) = inl l
pair_below p q i j (inr (e, inr (f, inl l))) = inr (f, l)
pair_below p q i j (inr (e, inr (f, inr b))) = absurd b.1

one_below : (p i : ℕ) → IsBelow (2 ∷ p ∷ []) (2 ∷ i ∷ []) → p < i
unfolding IsBelow
one_below p i (inl l) = absurd (omega (arith, l))
one_below p i (inr (e, inl l)) = l
one_below p i (inr (e, inr b)) = absurd b.1

module _ {h : ℕ} (T : PhaseTable h) (F : Families T) where
  abbrev pub IsPassed : Trial F.count h → Type 0
  IsPassed t = Passes T F dimensions t

  -- nothing is wrong with a family by itself
  pub record IsSoundAt (m : Fin F.count) : Type 0 where
    pub unit_passed : IsPassed (at_unit m)
    pub products_passed : (i j : Fin h) → IsPassed (at_product m i j)
    pub traces_passed : (i : Fin h) → IsPassed (at_trace m i)
    pub irreducible_passed : IsPassed (irreducible m)

  -- what is passed of a family before a trial of it
  pub record IsSoundUpTo (m : Fin F.count) (key : List ℕ) : Type 0 where
    pub unit_before : IsBelow (0 ∷ []) key → IsPassed (at_unit m)
    pub products_before : (i j : Fin h) → IsBelow (1 ∷ to_nat i ∷ to_nat j ∷ []) key → IsPassed (at_product m i j)
    pub traces_before : (i : Fin h) → IsBelow (2 ∷ to_nat i ∷ []) key → IsPassed (at_trace m i)
    pub irreducible_before : IsBelow (3 ∷ []) key → IsPassed (irreducible m)

  split_below : (k m : Fin F.count) (rest key : List ℕ) → IsBelow (0 ∷ to_nat k ∷ rest) (0 ∷ to_nat m ∷ key)
      → (to_nat k < to_nat m) ⊎ ((k ≡ m) × IsBelow rest key)
  unfolding IsBelow
  split_below k m rest key (inl l) = absurd (omega (arith, l))
  split_below k m rest key (inr (e, inl l)) = inl l
  split_below k m rest key (inr (e, inr b)) = inr (to_nat_inj k m b.0, b.1)

  not_below : (x : ℕ) (xs : List ℕ) (y : ℕ) (ys : List ℕ) → y < x → IsBelow (x ∷ xs) (y ∷ ys) → ⊥
  unfolding IsBelow
  not_below x xs y ys l (inl k) = omega (arith, l, k)
  not_below x xs y ys l (inr e) = let f = e.0 in omega (arith, l, f)

  not_self : (x : ℕ) → IsBelow (x ∷ []) (x ∷ []) → ⊥
  unfolding IsBelow
  not_self x (inl l) = omega (arith, l)
  not_self x (inr e) = e.1

  module _ (m : Fin F.count) (key : List ℕ) (sound : (k : Fin F.count) → to_nat k < to_nat m → IsSoundAt k) (own : IsSoundUpTo m key) where
    earlier : (u : Trial F.count h) → IsBelow (turn u) (0 ∷ to_nat m ∷ key) → IsPassed u
    unfolding turn
    earlier (at_unit k) b = elim (split_below k m (0 ∷ []) key b) [
      | inl l ↦ (sound k l).unit_passed
      | inr e ↦ subst (λ x. IsPassed (at_unit x)) (sym e.0) (own.unit_before e.1)
    ]
    earlier (at_product k i j) b = elim (split_below k m (1 ∷ to_nat i ∷ to_nat j ∷ []) key b) [
      | inl l ↦ (sound k l).products_passed i j
      | inr e ↦ subst (λ x. IsPassed (at_product x i j)) (sym e.0) (own.products_before i j e.1)
    ]
    earlier (at_trace k i) b = elim (split_below k m (2 ∷ to_nat i ∷ []) key b) [
      | inl l ↦ (sound k l).traces_passed i
      | inr e ↦ subst (λ x. IsPassed (at_trace x i)) (sym e.0) (own.traces_before i e.1)
    ]
    earlier (irreducible k) b = elim (split_below k m (3 ∷ []) key b) [
      | inl l ↦ (sound k l).irreducible_passed
      | inr e ↦ subst (λ x. IsPassed (irreducible x)) (sym e.0) (own.irreducible_before e.1)
    ]
    earlier (inequivalent a c) b = absurd (not_below 1 (to_nat a ∷ to_nat c ∷ []) 0 (to_nat m ∷ key) (omega arith) b)
    earlier all b = absurd (not_below 2 [] 0 (to_nat m ∷ key) (omega arith) b)

  module _ (m : Fin F.count) (sound : (k : Fin F.count) → to_nat k < to_nat m → IsSoundAt k) where
    pub first_unit : ¬ (IsPassed (at_unit m)) → IsFirstFailed IsTriedBefore IsPassed (at_unit m)
    unfolding turn
    first_unit wrong = record {
      fails = wrong;
      earlier = earlier m (0 ∷ []) sound (record {
        unit_before = λ b. absurd (not_self 0 b);
        products_before = λ i j b. absurd (not_below 1 (to_nat i ∷ to_nat j ∷ []) 0 [] (omega arith) b);
        traces_before = λ i b. absurd (not_below 2 (to_nat i ∷ []) 0 [] (omega arith) b);
        irreducible_before = λ b. absurd (not_below 3 [] 0 [] (omega arith) b);
      });
    }

    pub first_product : (i j : Fin h) → IsPassed (at_unit m) → ¬ (IsPassed (at_product m i j))
        → ((p q : Fin h) → (to_nat p < to_nat i) ⊎ ((to_nat p ≡ to_nat i) × (to_nat q < to_nat j)) → IsPassed (at_product m p q))
        → IsFirstFailed IsTriedBefore IsPassed (at_product m i j)
    unfolding turn
    first_product i j u wrong before = record {
      fails = wrong;
      earlier = earlier m (1 ∷ to_nat i ∷ to_nat j ∷ []) sound (record {
        unit_before = λ b. u;
        products_before = λ p q b. before p q (pair_below (to_nat p) (to_nat q) (to_nat i) (to_nat j) b);
        traces_before = λ p b. absurd (not_below 2 (to_nat p ∷ []) 1 (to_nat i ∷ to_nat j ∷ []) (omega arith) b);
        irreducible_before = λ b. absurd (not_below 3 [] 1 (to_nat i ∷ to_nat j ∷ []) (omega arith) b);
      });
    }

    pub first_trace : (i : Fin h) → IsPassed (at_unit m) → ((p q : Fin h) → IsPassed (at_product m p q)) → ¬ (IsPassed (at_trace m i))
        → ((p : Fin h) → to_nat p < to_nat i → IsPassed (at_trace m p)) → IsFirstFailed IsTriedBefore IsPassed (at_trace m i)
    unfolding turn
    first_trace i u products wrong before = record {
      fails = wrong;
      earlier = earlier m (2 ∷ to_nat i ∷ []) sound (record {
        unit_before = λ b. u;
        products_before = λ p q b. products p q;
        traces_before = λ p b. before p (one_below (to_nat p) (to_nat i) b);
        irreducible_before = λ b. absurd (not_below 3 [] 2 (to_nat i ∷ []) (omega arith) b);
      });
    }

    pub first_reducible : IsPassed (at_unit m) → ((p q : Fin h) → IsPassed (at_product m p q)) → ((p : Fin h) → IsPassed (at_trace m p))
        → ¬ (IsPassed (irreducible m)) → IsFirstFailed IsTriedBefore IsPassed (irreducible m)
    unfolding turn
    first_reducible u products traces wrong = record {
      fails = wrong;
      earlier = earlier m (3 ∷ []) sound (record {
        unit_before = λ b. u;
        products_before = λ p q b. products p q;
        traces_before = λ p b. traces p;
        irreducible_before = λ b. absurd (not_self 3 b);
      });
    }

  module _ (sound : (k : Fin F.count) → IsSoundAt k) where
    pub first_pair_failed : (a c : Fin F.count) → ¬ (IsPassed (inequivalent a c))
        → ((p q : Fin F.count) → (to_nat p < to_nat a) ⊎ ((to_nat p ≡ to_nat a) × (to_nat q < to_nat c)) → IsPassed (inequivalent p q))
        → IsFirstFailed IsTriedBefore IsPassed (inequivalent a c)
    unfolding turn
    first_pair_failed a c wrong before = record { fails = wrong; earlier = earlier_pair }
      where
        earlier_pair : (u : Trial F.count h) → IsBelow (turn u) (turn {c = F.count} {h = h} (inequivalent a c)) → IsPassed u
        earlier_pair (at_unit k) b = (sound k).unit_passed
        earlier_pair (at_product k i j) b = (sound k).products_passed i j
        earlier_pair (at_trace k i) b = (sound k).traces_passed i
        earlier_pair (irreducible k) b = (sound k).irreducible_passed
        earlier_pair (inequivalent p q) b = before p q (pair_below (to_nat p) (to_nat q) (to_nat a) (to_nat c) b)
        earlier_pair all b = absurd (not_below 2 [] 1 (to_nat a ∷ to_nat c ∷ []) (omega arith) b)

    module _ (apart : (p q : Fin F.count) → IsPassed (inequivalent p q)) where
      pub first_missing : ¬ (IsPassed all) → IsFirstFailed IsTriedBefore IsPassed all
      unfolding turn
      first_missing wrong = record { fails = wrong; earlier = earlier_all }
        where
          earlier_all : (u : Trial F.count h) → IsBelow (turn u) (turn {c = F.count} {h = h} all) → IsPassed u
          earlier_all (at_unit k) b = (sound k).unit_passed
          earlier_all (at_product k i j) b = (sound k).products_passed i j
          earlier_all (at_trace k i) b = (sound k).traces_passed i
          earlier_all (irreducible k) b = (sound k).irreducible_passed
          earlier_all (inequivalent p q) b = apart p q
          earlier_all all b = absurd (not_self 2 b)

      pub all_passed : IsPassed all → (t : Trial F.count h) → IsPassed t
      all_passed every (at_unit k) = (sound k).unit_passed
      all_passed every (at_product k i j) = (sound k).products_passed i j
      all_passed every (at_trace k i) = (sound k).traces_passed i
      all_passed every (irreducible k) = (sound k).irreducible_passed
      all_passed every (inequivalent p q) = apart p q
      all_passed every all = every
