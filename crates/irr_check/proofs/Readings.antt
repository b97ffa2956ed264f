-- The two readings of trials agree where each subgroup has a step, and Yes by dimensions means a complete list.
--   meant          what is passed by dimensions is passed as it is meant, where the trials before it are
--   measured       and the converse, where each subgroup has a step
--   verdict_meant  so the verdicts are the same
--   passed_complete, meant_complete    the list of families that pass all trials, by dimensions or as they are meant, is complete
use Rattle.std.proofs.Common.{◌≡◌, sym, ◌∙◌, subst, inl, inr, ℕ, zero, suc, ◌<◌, arith}
use Rattle.std.specs.Int.{◌∣◌}
use native.Mathlib.Nat as Nat
use Rattle.std.proofs.lemmas.Bool.{cases_lt}
use mathlib.Core.Path.{fun_ext}
use Rattle.irr_algebra.specs.Fin.{Fin, to_nat}
use Rattle.irr_algebra.specs.Fin.Fin.{first}
use Rattle.irr_algebra.specs.Field.{Field}
use Rattle.irr_algebra.specs.Sum.{delta}
use Rattle.irr_algebra.specs.Matrix.{Matrix, ◌·◌, scale, trace, unit}
use Rattle.irr_algebra.specs.Action.{Equivalent, HasDimension, IsIrreducible, IsSimple}
use Rattle.irr_algebra.proofs.Actions.{equivalent_sym}
use Rattle.irr_algebra.proofs.Entries.{null_or_entry}
use Rattle.irr_algebra.proofs.Fields.{one-ne-zero}
use Rattle.irr_algebra.proofs.Indices.{to_nat_inj}
use Rattle.irr_algebra.proofs.Irreducible.{dimension-zero_inequivalent}
use Rattle.irr_algebra.proofs.Sums.{delta-refl}
use Rattle.irr_algebra.proofs.Totals.{combination-delta}
use Rattle.irr_number.specs.Number.{numbers}
use Rattle.irr_number.specs.Lift.{lift}
use Rattle.irr_number.proofs.NumberField.{number_field}
use Rattle.irr_theory.specs.FactorSystem.{FactorSystem, Representation}
use Rattle.irr_theory.specs.Representations.{IsComplete, IsFull}
use Rattle.irr_theory.specs.Scalars.{map_family}
use Rattle.irr_theory.proofs.CompleteLists.{irreducible-simple}
use Rattle.irr_theory.proofs.Existence.{dimension_exists}
use Rattle.irr_theory.proofs.Scalars.{dimension-map_family}
use Rattle.irr_theory.proofs.Schur.{irreducible-equivalent, simple-irreducible}
use Rattle.irr_space.specs.PhaseTable.{PhaseTable, phases_at, phases_over}
use Rattle.irr_space.specs.CompleteList.{IsCompleteList, over}
use Rattle.irr_space.proofs.FullLists.{full_list-complete}
use Rattle.irr_rep.proofs.Families.{at_own_order-over}
use Rattle.irr_chain.specs.NormalSubgroup.{HasSteps}
use Rattle.irr_level.proofs.FullLists.{complete_full, own_list}
use Rattle.irr_check.specs.Families.{AreSmall, Families, small_list}
use Rattle.irr_check.specs.Trials.{IsTriedBefore, Passes, PassesAll, PassesInequivalent, PassesIrreducible, Trial}
use Rattle.irr_check.specs.Trials.Reading.{dimensions, meaning}
use Rattle.irr_check.specs.Trials.Trial.{all, at_product, at_trace, at_unit, inequivalent, irreducible}
use Rattle.irr_check.specs.Verdict.{IsFamiliesVerdict}
use Rattle.irr_check.specs.declared.verdict.Verdict.{Verdict}
use Rattle.irr_check.specs.Verdict.IsFamiliesVerdict.{fails, passes}
use Rattle.irr_check.proofs.TrialOrder.{before-trans, inequivalent-all, irreducible-all, irreducible-pair, product-all, product-first, product-pair, unit-all, unit-first, unit-pair}

-- simple families that are not equivalent have no intertwiner but 0
module _ (F : Field) {T : FactorSystem F.ring} {a b : ℕ} (A : Representation T a) (B : Representation T b) where
  no_dimension : IsIrreducible A.at → 0 < b → IsSimple B.at → ¬ (Equivalent A.at B.at) → (n : ℕ) → HasDimension A.at B.at n → HasDimension A.at B.at 0
  no_dimension i p s not zero d = d
  no_dimension i p s not (suc n) d = elim (null_or_entry F (d.members first)) [
    | inl e ↦ absurd (one-ne-zero F (sym (delta-refl F.ring first)
        ∙ d.independent (delta F.ring first) (combination-delta (suc n) first d.members ∙ e) first))
    | inr f ↦ absurd (not (irreducible-equivalent F A B i p s (d.members first) (d.are_intertwiners first) f.0 f.1 f.2))
  ]

  pub apart_of_inequivalent : IsSimple A.at → 0 < b → IsSimple B.at → ¬ (Equivalent A.at B.at) → HasDimension A.at B.at 0
  apart_of_inequivalent r p s not = let d = dimension_exists F A B in no_dimension (simple-irreducible F A r) p s not d.0 d.1

module _ {h : ℕ} (T : PhaseTable h) where
  abbrev field : Field
  field = number_field T.order T.order_positive

  own_order : T.order ∣ T.order
  own_order = Nat.dvd_refl T.order

  at_own : {d : ℕ} (A : Representation (phases_at T) d) → (over T T.order own_order A).at ≡ A.at
  at_own A = fun_ext (at_own_order-over T own_order A)

  module _ (F : Families T) (positive : (m : Fin F.count) → 0 < F.size m) where
    -- the family is a small representation
    abbrev IsSmallAt : Fin F.count → Type 0
    IsSmallAt m = (F.matrix m T.start ≡ unit (numbers T.order) (F.size m))
        × ((i j : Fin h) → F.matrix m i · F.matrix m j ≡ scale (numbers T.order) ((phases_at T).phase i j) (F.matrix m (T.product i j)))

    abbrev member : (m : Fin F.count) → IsSmallAt m → Representation (phases_at T) (F.size m)
    member m p = record { at = F.matrix m; at-start = p.0; at-product = p.1 }

    -- a simple family is irreducible over each order
    everywhere : (m : Fin F.count) → IsSmallAt m → IsSimple (F.matrix m) → PassesIrreducible T F meaning m
    unfolding PassesIrreducible map_family
    everywhere m p s M v q =
        let A : Representation (phases_at T) (F.size m) = member m p in
        let B : Representation (phases_over T M v) (F.size m) = over T M v A in
        simple-irreducible (number_field M q) B (dimension-map_family field (number_field M q) (lift T.order M T.order_positive v) A A s)

    -- one that is irreducible over each order is so over its own
    at_home : (m : Fin F.count) → IsSmallAt m → PassesIrreducible T F meaning m → IsIrreducible (F.matrix m)
    unfolding PassesIrreducible map_family
    at_home m p i = subst IsIrreducible (at_own (member m p)) (i T.order own_order T.order_positive)

    -- where each subgroup has a step, it is simple
    simple_at_home : HasSteps T → (m : Fin F.count) → IsSmallAt m → PassesIrreducible T F meaning m → IsSimple (F.matrix m)
    simple_at_home steps m p i = let K = own_list T steps in irreducible-simple field K.0 K.1 (member m p) (positive m) (at_home m p i)

    apart_meant : (a b : Fin F.count) → IsSmallAt a → IsSmallAt b → PassesInequivalent T F dimensions a b → PassesInequivalent T F meaning a b
    unfolding PassesInequivalent
    apart_meant a b p q d l = dimension-zero_inequivalent field (F.matrix a) (F.matrix b) (d l) (positive b)

    apart_measured : (a b : Fin F.count) → IsSmallAt a → IsSmallAt b → IsSimple (F.matrix a) → IsSimple (F.matrix b)
        → PassesInequivalent T F meaning a b → PassesInequivalent T F dimensions a b
    unfolding PassesInequivalent
    apart_measured a b p q r s not l = apart_of_inequivalent field (member a p) (member b q) r (positive b) s (not l)

    -- the list of the families
    module _ (small : (m : Fin F.count) → IsSmallAt m) (simple : (m : Fin F.count) → IsSimple (F.matrix m))
        (apart : (a b : Fin F.count) → PassesInequivalent T F dimensions a b) where
      abbrev are_small : AreSmall T F
      are_small = record { unit_at = λ m. (small m).0; product_at = λ m. (small m).1 }

      different : (a b : Fin F.count) → (a ≡ b → ⊥) → Equivalent (F.matrix a) (F.matrix b) → ⊥
      unfolding PassesInequivalent
      different a b d e = elim (cases_lt (to_nat a) (to_nat b)) [
        | inl l ↦ apart_meant a b (small a) (small b) (apart a b) l e
        | inr g ↦ elim (cases_lt (to_nat b) (to_nat a)) [
          | inl l ↦ apart_meant b a (small b) (small a) (apart b a) l (equivalent_sym (F.matrix a) (F.matrix b) e)
          | inr k ↦ d (to_nat_inj a b (omega (arith, g, k)))
        ]
      ]

      full_of_squares : PassesAll T F dimensions → IsFull (small_list T F are_small)
      unfolding PassesAll
      full_of_squares squares = record { positive = positive; simple = simple; inequivalent = different; squares = squares }

      complete_of_squares : PassesAll T F dimensions → IsCompleteList T (small_list T F are_small)
      complete_of_squares squares = full_list-complete T (small_list T F are_small) (full_of_squares squares)

      all_meant : PassesAll T F dimensions → PassesAll T F meaning
      unfolding PassesAll map_family
      all_meant squares M v p d A l i = (complete_of_squares squares).all M v p d A l i

      -- an irreducible one over the table's own order
      all_at_home : PassesAll T F meaning → {a : ℕ} (A : Representation (phases_at T) a) → 0 < a → IsIrreducible A.at
          → (m : Fin F.count) × Equivalent A.at (F.matrix m)
      unfolding PassesAll map_family
      all_at_home every {a} A l i =
          let found = every T.order own_order T.order_positive a (over T T.order own_order A) l (subst IsIrreducible (sym (at_own A)) i) in (
            found.0,
            subst (λ (s : Fin h → Matrix (numbers T.order) a a). Equivalent s (F.matrix found.0)) (at_own A)
                (subst (Equivalent (over T T.order own_order A).at) (at_own (member found.0 (small found.0))) found.1),
          )

      all_measured : HasSteps T → PassesAll T F meaning → PassesAll T F dimensions
      unfolding PassesAll
      all_measured steps every =
          let complete : IsComplete (small_list T F are_small) = record {
            positive = positive;
            irreducible = λ m. simple-irreducible field (member m (small m)) (simple m);
            inequivalent = different;
            all = λ A l i. all_at_home every A l i;
          } in (complete_full T steps (small_list T F are_small) complete).squares

    -- trials before another
    abbrev Before : Trial F.count h → Type 0
    Before t = (u : Trial F.count h) → IsTriedBefore u t → Passes T F dimensions u

    small_before : (t : Trial F.count h) (m : Fin F.count) → IsTriedBefore (at_unit m) t → ((i j : Fin h) → IsTriedBefore (at_product m i j) t)
        → Before t → IsSmallAt m
    unfolding Passes
    small_before t m u p e = (e (at_unit m) u, λ i j. e (at_product m i j) (p i j))

    small_first : (m : Fin F.count) → Before (irreducible m) → IsSmallAt m
    small_first m e = small_before (irreducible m) m (unit-first h m) (product-first h m) e

    small_pair : (m a b : Fin F.count) → Before (inequivalent a b) → IsSmallAt m
    small_pair m a b e = small_before (inequivalent a b) m (unit-pair h m a b) (product-pair h m a b) e

    simple_pair : (m a b : Fin F.count) → Before (inequivalent a b) → IsSimple (F.matrix m)
    unfolding Passes PassesIrreducible
    simple_pair m a b e = e (irreducible m) (irreducible-pair h m a b)

    small_all : Before all → (m : Fin F.count) → IsSmallAt m
    small_all e m = small_before all m (unit-all h m) (product-all h m) e

    simple_all : Before all → (m : Fin F.count) → IsSimple (F.matrix m)
    unfolding Passes PassesIrreducible
    simple_all e m = e (irreducible m) (irreducible-all h m)

    apart_all : Before all → (a b : Fin F.count) → PassesInequivalent T F dimensions a b
    unfolding Passes
    apart_all e a b = e (inequivalent a b) (inequivalent-all h a b)

    simple_of : (m : Fin F.count) → PassesIrreducible T F dimensions m → IsSimple (F.matrix m)
    unfolding PassesIrreducible
    simple_of m s = s

    pub meant : (t : Trial F.count h) → Before t → Passes T F dimensions t → Passes T F meaning t
    unfolding Passes
    meant (at_unit m) e p = p
    meant (at_product m i j) e p = p
    meant (at_trace m i) e p = p
    meant (irreducible m) e p = everywhere m (small_first m e) (simple_of m p)
    meant (inequivalent a b) e p = apart_meant a b (small_pair a a b e) (small_pair b a b e) p
    meant all e p = all_meant (small_all e) (simple_all e) (apart_all e) p

    simple_is : (m : Fin F.count) → IsSimple (F.matrix m) → PassesIrreducible T F dimensions m
    unfolding PassesIrreducible
    simple_is m s = s

    pub measured : HasSteps T → (t : Trial F.count h) → Before t → Passes T F meaning t → Passes T F dimensions t
    unfolding Passes
    measured steps (at_unit m) e p = p
    measured steps (at_product m i j) e p = p
    measured steps (at_trace m i) e p = p
    measured steps (irreducible m) e p = simple_is m (simple_at_home steps m (small_first m e) p)
    measured steps (inequivalent a b) e p = apart_measured a b (small_pair a a b e) (small_pair b a b e) (simple_pair a a b e) (simple_pair b a b e) p
    measured steps all e p = all_measured (small_all e) (simple_all e) (apart_all e) steps p

    pub verdict_meant : HasSteps T → {v : Verdict} → IsFamiliesVerdict dimensions T F v → IsFamiliesVerdict meaning T F v
    verdict_meant steps (passes every) = passes (λ t. meant t (λ u b. every u) (every t))
    verdict_meant steps (fails t is) = fails t (record {
      fails = λ p. is.fails (measured steps t is.earlier p);
      earlier = λ u b. meant u (λ w c. is.earlier w (before-trans w u t c b)) (is.earlier u b);
    })

    -- families that pass all trials by dimensions are a complete list
    module _ (every : (t : Trial F.count h) → Passes T F dimensions t) where
      pub small_of : (m : Fin F.count) → IsSmallAt m
      unfolding Passes
      small_of m = (every (at_unit m), λ i j. every (at_product m i j))

      simple_every : (m : Fin F.count) → IsSimple (F.matrix m)
      unfolding Passes PassesIrreducible
      simple_every m = every (irreducible m)

      abbrev pub passed_small : AreSmall T F
      passed_small = record { unit_at = λ m. (small_of m).0; product_at = λ m. (small_of m).1 }

      pub passed_complete : IsCompleteList T (small_list T F passed_small)
      unfolding Passes
      passed_complete = complete_of_squares small_of simple_every (λ a b. every (inequivalent a b)) (every all)

      pub passed_traces : (m : Fin F.count) (i : Fin h) → F.character m i ≡ trace (F.matrix m i)
      unfolding Passes
      passed_traces m i = every (at_trace m i)

    -- so are families that pass all trials as they are meant
    module _ (every : (t : Trial F.count h) → Passes T F meaning t) where
      pub small_as_meant : (m : Fin F.count) → IsSmallAt m
      unfolding Passes
      small_as_meant m = (every (at_unit m), λ i j. every (at_product m i j))

      abbrev pub meant_small : AreSmall T F
      meant_small = record { unit_at = λ m. (small_as_meant m).0; product_at = λ m. (small_as_meant m).1 }

      different_as_meant : (a b : Fin F.count) → ¬ (a ≡ b) → ¬ (Equivalent (F.matrix a) (F.matrix b))
      unfolding Passes PassesInequivalent
      different_as_meant a b d e = elim (cases_lt (to_nat a) (to_nat b)) [
        | inl l ↦ every (inequivalent a b) l e
        | inr g ↦ elim (cases_lt (to_nat b) (to_nat a)) [
          | inl l ↦ every (inequivalent b a) l (equivalent_sym (F.matrix a) (F.matrix b) e)
          | inr k ↦ d (to_nat_inj a b (omega (arith, g, k)))
        ]
      ]

      pub meant_complete : IsCompleteList T (small_list T F meant_small)
      unfolding Passes PassesIrreducible PassesAll map_family
      meant_complete = record {
        positive = positive;
        irreducible = λ M v p m. every (irreducible m) M v p;
        inequivalent = different_as_meant;
        all = λ M v p d A l i. every all M v p d A l i;
      }

      pub meant_traces : (m : Fin F.count) (i : Fin h) → F.character m i ≡ trace (F.matrix m i)
      unfolding Passes
      meant_traces m i = every (at_trace m i)
