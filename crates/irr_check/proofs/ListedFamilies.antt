-- The representations of a report as families on a table of phases.
--   item_at              what holds of a representation of the list, at its number
--   sound_at             one with which nothing is wrong
--   faulty_verdict_is    the verdict where one is the first with a fault
--   pair_verdict_is, missing_verdict_is, yes_verdict_is     and where none has
use Rattle.std.proofs.Common.{◌≡◌, sym, ◌∙◌, ap, ap₂, subst, refl, inl, inr, ◌⊎◌, ℕ, suc, ◌<◌, ◌≤◌, ◌+◌, ◌*◌, List, [], ◌∷◌, length, map, get_or, All, arith, rules}
use Rattle.std.specs.Prelude.{Some, None, sum_by}
use Rattle.std.proofs.lemmas.List.{get_or-map}
use Rattle.std.proofs.lemmas.List.Sums.{sum_by-cons}
use Rattle.irr_algebra.specs.Action.{HasDimension, IsSimple}
use Rattle.irr_algebra.specs.Fin.{Fin, to_nat}
use Rattle.irr_algebra.specs.Matrix.{◌·◌, scale, trace, unit}
use Rattle.irr_algebra.proofs.Indices.{from_nat, to_nat-from_nat, to_nat-lt}
use Rattle.irr_number.specs.Number.{numbers, root_power}
use Rattle.irr_number.proofs.Lifts.{lift_self}
use Rattle.irr_theory.specs.Representations.{count_total}
use Rattle.irr_space.specs.PhaseTable.{PhaseTable, phases_at, phases_over}
use Rattle.irr_cyc.specs.declared.scalars.Scalar.{Ghosts}
use Rattle.irr_mat.specs.declared.matrices.Mat.{Mat}
use Rattle.irr_rep.specs.Defects.{IsFirstDefect, IsFirstFailure}
use Rattle.irr_rep.specs.declared.family.Defect.TheVariants.{Product, Unit as no_unit}
use Rattle.irr_rep.specs.Family.{matrix_at}
use Rattle.irr_report.specs.Content.{number_at}
use Rattle.irr_report.specs.declared.report.RepText.{RepText}
use Rattle.irr_check.specs.declared.families.Faulty.{Faulty}
use Rattle.irr_check.specs.declared.fault.Fault.{Fault}
use Rattle.irr_check.specs.declared.fault.Fault.TheVariants.{Char as other_trace, Defect, Reducible as not_simple}
use Rattle.irr_check.specs.declared.pairs.Pair.{Pair}
use Rattle.irr_check.specs.declared.verdict.Verdict.TheVariants.{No, Yes}
use Rattle.irr_check.specs.declared.verdict.Clause.TheVariants.{Multiply, Char, Equivalent, Missing}
use Rattle.irr_check.specs.Families.{Families}
use Rattle.irr_check.specs.Faults.{IsFirstFault, IsSound, own}
use Rattle.irr_check.specs.Listed.{IsFirstFaulty, IsSmallFault, families_of, fault_verdict}
use Rattle.irr_check.specs.Pairs.{AreApart, IsFirstBehind, IsFirstPair}
use Rattle.irr_check.specs.Trials.{Passes, PassesAll, PassesInequivalent, PassesIrreducible}
use Rattle.irr_check.specs.Trials.Reading.{dimensions}
use Rattle.irr_check.specs.Trials.Trial.{all, at_product, at_trace, at_unit, inequivalent, irreducible}
use Rattle.irr_check.specs.Verdict.{IsFamiliesVerdict, verdict_at}
use Rattle.irr_check.specs.Verdict.IsFamiliesVerdict.{fails, passes}
use Rattle.irr_check.proofs.FirstTrials.{IsPassed, IsSoundAt, all_passed, first_missing, first_pair_failed, first_product, first_reducible, first_trace, first_unit}

-- an item of a list that has one
pick : {A : Type 0} (xs : List A) → Fin (length xs) → A
pick [] m = elim m [ ]
pick (x ∷ xs) m = x

-- a sum over a list as one over its places
count_total-sum : {A : Type 0} (f : A → ℕ) (xs : List A) (g : ℕ → ℕ) → ((k : ℕ) (x : A) → k < length xs → g k ≡ f (get_or xs k x))
    → count_total (length xs) (λ m. g (to_nat m)) ≡ sum_by f xs
unfolding count_total to_nat
count_total-sum f [] g e = refl
count_total-sum f (x ∷ xs) g e =
    ap₂ (λ a b. a + b) (e 0 x (omega arith)) (count_total-sum f xs (λ k. g (suc k)) (λ k y l. e (suc k) y (omega (arith, l))))
    ∙ sym (sum_by-cons f x xs)

-- the squared sizes of a list
square_sum : {S : Type 0} {G : Ghosts S} (reps : List (RepText S G)) → count_total (length reps) (λ m.
    get_or (map (λ (t : RepText S G). t.family.dim) reps) (to_nat m) 0 * get_or (map (λ (t : RepText S G). t.family.dim) reps) (to_nat m) 0)
    ≡ sum_by (λ (t : RepText S G). t.family.dim * t.family.dim) reps
square_sum {S} {G} reps = count_total-sum (λ (t : RepText S G). t.family.dim * t.family.dim) reps
    (λ k. get_or (map (λ (t : RepText S G). t.family.dim) reps) k 0 * get_or (map (λ (t : RepText S G). t.family.dim) reps) k 0)
    (λ k x l. ap (λ n. n * n) (get_or-map (λ (t : RepText S G). t.family.dim) reps k x 0 l))

module _ {S : Type 0} {G : Ghosts S} {h : ℕ} (T : PhaseTable h) (reps : List (RepText S G)) where
  abbrev families : Families T
  families = families_of T reps

  abbrev mats_at : Fin (length reps) → List (Mat S G)
  mats_at m = get_or (map (λ (t : RepText S G). t.family.mats.items) reps) (to_nat m) []

  abbrev chars_at : Fin (length reps) → List S
  chars_at m = get_or (map (λ (t : RepText S G). t.chars.items) reps) (to_nat m) []

  -- what holds of a representation holds of it in the list
  item_at : (P : (d : ℕ) → List (Mat S G) → List S → Type 0) (m : Fin (length reps)) (e : RepText S G)
      → P (get_or reps (to_nat m) e).family.dim (get_or reps (to_nat m) e).family.mats.items (get_or reps (to_nat m) e).chars.items
      → P (families.size m) (mats_at m) (chars_at m)
  item_at P m e p =
      let r = get_or reps (to_nat m) e in
      let l = to_nat-lt m in
      subst (λ d. P d (mats_at m) (chars_at m)) (sym (get_or-map (λ (t : RepText S G). t.family.dim) reps (to_nat m) e 0 l))
      (subst (λ x. P r.family.dim x (chars_at m)) (sym (get_or-map (λ (t : RepText S G). t.family.mats.items) reps (to_nat m) e [] l))
      (subst (λ x. P r.family.dim r.family.mats.items x) (sym (get_or-map (λ (t : RepText S G). t.chars.items) reps (to_nat m) e [] l)) p))

  -- and back
  item_from : (P : (d : ℕ) → List (Mat S G) → List S → Type 0) (m : Fin (length reps)) (e : RepText S G)
      → P (families.size m) (mats_at m) (chars_at m)
      → P (get_or reps (to_nat m) e).family.dim (get_or reps (to_nat m) e).family.mats.items (get_or reps (to_nat m) e).chars.items
  item_from P m e p =
      let r = get_or reps (to_nat m) e in
      let l = to_nat-lt m in
      subst (λ x. P r.family.dim r.family.mats.items x) (get_or-map (λ (t : RepText S G). t.chars.items) reps (to_nat m) e [] l)
      (subst (λ x. P r.family.dim x (chars_at m)) (get_or-map (λ (t : RepText S G). t.family.mats.items) reps (to_nat m) e [] l)
      (subst (λ d. P d (mats_at m) (chars_at m)) (get_or-map (λ (t : RepText S G). t.family.dim) reps (to_nat m) e 0 l) p))

  -- the phase over the table's own order
  phase_own : (i j : Fin h) → (phases_over T T.order (own T)).phase i j ≡ (phases_at T).phase i j
  phase_own i j = lift_self T.order T.order_positive (own T) (root_power T.order (T.exponent i j))

  -- D(start) = 1, D(i)D(j) = z^x(i,j) D(l(i,j)), and the traces
  abbrev UnitAt : (d : ℕ) → List (Mat S G) → List S → Type 0
  UnitAt d mats chars = matrix_at T.order d mats T.start ≡ unit (numbers T.order) d

  abbrev ProductAt : Fin h → Fin h → (d : ℕ) → List (Mat S G) → List S → Type 0
  ProductAt i j d mats chars = matrix_at T.order d mats i · matrix_at T.order d mats j
      ≡ scale (numbers T.order) ((phases_at T).phase i j) (matrix_at T.order d mats (T.product i j))

  abbrev TraceAt : Fin h → (d : ℕ) → List (Mat S G) → List S → Type 0
  TraceAt i d mats chars = number_at G.value T.order chars (to_nat i) ≡ trace (matrix_at T.order d mats i)

  abbrev SimpleAt : (d : ℕ) → List (Mat S G) → List S → Type 0
  SimpleAt d mats chars = IsSimple (λ (i : Fin h). matrix_at T.order d mats i)

  abbrev OwnProductAt : Fin h → Fin h → (d : ℕ) → List (Mat S G) → List S → Type 0
  OwnProductAt i j d mats chars = matrix_at T.order d mats i · matrix_at T.order d mats j
      ≡ scale (numbers T.order) ((phases_over T T.order (own T)).phase i j) (matrix_at T.order d mats (T.product i j))

  product_from : (i j : Fin h) (d : ℕ) (mats : List (Mat S G)) (chars : List S) → OwnProductAt i j d mats chars → ProductAt i j d mats chars
  product_from i j d mats chars p = p ∙ ap (λ c. scale (numbers T.order) c (matrix_at T.order d mats (T.product i j))) (phase_own i j)

  product_to : (i j : Fin h) (d : ℕ) (mats : List (Mat S G)) (chars : List S) → ProductAt i j d mats chars → OwnProductAt i j d mats chars
  product_to i j d mats chars p = p ∙ ap (λ c. scale (numbers T.order) c (matrix_at T.order d mats (T.product i j))) (sym (phase_own i j))

  module _ (m : Fin (length reps)) (e : RepText S G) where
    abbrev r : RepText S G
    r = get_or reps (to_nat m) e

    unit_passed : UnitAt r.family.dim r.family.mats.items r.chars.items → IsPassed T families (at_unit m)
    unfolding Passes
    unit_passed p = item_at UnitAt m e p

    unit_back : IsPassed T families (at_unit m) → UnitAt r.family.dim r.family.mats.items r.chars.items
    unfolding Passes
    unit_back p = item_from UnitAt m e p

    product_passed : (i j : Fin h) → OwnProductAt i j r.family.dim r.family.mats.items r.chars.items → IsPassed T families (at_product m i j)
    unfolding Passes
    product_passed i j p = item_at (ProductAt i j) m e (product_from i j r.family.dim r.family.mats.items r.chars.items p)

    product_back : (i j : Fin h) → IsPassed T families (at_product m i j) → OwnProductAt i j r.family.dim r.family.mats.items r.chars.items
    unfolding Passes
    product_back i j p = product_to i j r.family.dim r.family.mats.items r.chars.items (item_from (ProductAt i j) m e p)

    trace_passed : (i : Fin h) → TraceAt i r.family.dim r.family.mats.items r.chars.items → IsPassed T families (at_trace m i)
    unfolding Passes
    trace_passed i p = item_at (TraceAt i) m e p

    trace_back : (i : Fin h) → IsPassed T families (at_trace m i) → TraceAt i r.family.dim r.family.mats.items r.chars.items
    unfolding Passes
    trace_back i p = item_from (TraceAt i) m e p

    simple_passed : SimpleAt r.family.dim r.family.mats.items r.chars.items → IsPassed T families (irreducible m)
    unfolding Passes PassesIrreducible
    simple_passed p = item_at SimpleAt m e p

    simple_back : IsPassed T families (irreducible m) → SimpleAt r.family.dim r.family.mats.items r.chars.items
    unfolding Passes PassesIrreducible
    simple_back p = item_from SimpleAt m e p

    pub sound_at : IsSound T r → IsSoundAt T families m
    sound_at s = record {
      unit_passed = unit_passed s.small.at-start;
      products_passed = λ i j. product_passed i j (s.small.at-product i j);
      traces_passed = λ i. trace_passed i (s.traces i);
      irreducible_passed = simple_passed s.simple;
    }

    module _ (sound : (k : Fin (length reps)) → to_nat k < to_nat m → IsSoundAt T families k) where
      fault_at : (f : Fault) → IsFirstFault T r (Some f) → IsFamiliesVerdict dimensions T families (fault_verdict (to_nat m) f)
      unfolding IsFirstFault IsFirstDefect IsFirstFailure fault_verdict verdict_at
      fault_at (Defect no_unit) p = fails (at_unit m) (first_unit T families m sound (λ q. p (unit_back q)))
      fault_at (Defect (Product i j)) p =
          subst (λ a. IsFamiliesVerdict dimensions T families (No Multiply (to_nat m + 1) (a + 1) (j + 1))) p.left-number
          (subst (λ b. IsFamiliesVerdict dimensions T families (No Multiply (to_nat m + 1) (to_nat p.left + 1) (b + 1))) p.right-number
          (fails (at_product m p.left p.right) (first_product T families m sound p.left p.right (unit_passed p.at-start)
          (λ q. p.wrong (product_back p.left p.right q))
          (λ a b l. product_passed a b (p.before a b (subst (λ k. (to_nat a < k) ⊎ ((to_nat a ≡ k) × (to_nat b < j))) p.left-number
          (subst (λ k. (to_nat a < to_nat p.left) ⊎ ((to_nat a ≡ to_nat p.left) × (to_nat b < k))) p.right-number l)))))))
      fault_at (other_trace i) (small, (j, e, wrong, before)) =
          subst (λ a. IsFamiliesVerdict dimensions T families (No Char (to_nat m + 1) (a + 1) 0)) e
          (fails (at_trace m j) (first_trace T families m sound j (unit_passed small.at-start) (λ a b. product_passed a b (small.at-product a b))
          (λ q. wrong (trace_back j q)) (λ k l. trace_passed k (before k (subst (λ a. to_nat k < a) e l)))))
      fault_at not_simple (small, traces, wrong) = fails (irreducible m) (first_reducible T families m sound (unit_passed small.at-start)
          (λ a b. product_passed a b (small.at-product a b)) (λ i. trace_passed i (traces i)) (λ q. wrong (simple_back q)))

  -- the verdict where a representation is the first with a fault
  pub faulty_verdict_is : (f : Faulty) → IsFirstFaulty T reps (Some f) → IsFamiliesVerdict dimensions T families (fault_verdict f.rep f.fault)
  unfolding IsFirstFaulty
  faulty_verdict_is f (l, fault, below) =
      let m : Fin (length reps) = from_nat (length reps) f.rep l in
      let at : to_nat m ≡ f.rep = to_nat-from_nat (length reps) f.rep l in
      let e : RepText S G = pick reps m in
      subst (λ n. IsFamiliesVerdict dimensions T families (fault_verdict n f.fault)) at
      (fault_at m e (λ k b. sound_at k e (below (to_nat k) e (subst (λ n. to_nat k < n) at b))) f.fault
      (subst (λ n. IsFirstFault T (get_or reps n e) (Some f.fault)) (sym at) (fault e)))

  -- its places are below the number of places
  small_fault : (t : RepText S G) (f : Fault) → h ≤ 48 → IsFirstFault T t (Some f) → IsSmallFault f
  unfolding IsFirstFault IsFirstDefect IsFirstFailure IsSmallFault
  small_fault t (Defect no_unit) l p = search rules
  small_fault t (Defect (Product i j)) l p =
      let a : to_nat p.left < h = to_nat-lt p.left in
      let b : to_nat p.right < h = to_nat-lt p.right in (
        subst (λ n. n < 48) p.left-number (omega (arith, a, l)),
        subst (λ n. n < 48) p.right-number (omega (arith, b, l)),
      )
  small_fault t (other_trace i) l (small, (j, e, wrong, before)) = let a : to_nat j < h = to_nat-lt j in subst (λ n. n < 48) e (omega (arith, a, l))
  small_fault t not_simple l p = search rules

  pub faulty_small : (f : Faulty) → h ≤ 48 → IsFirstFaulty T reps (Some f) → IsSmallFault f.fault
  unfolding IsFirstFaulty
  faulty_small f l (inside, fault, below) =
      let e : RepText S G = pick reps (from_nat (length reps) f.rep inside) in
      small_fault (get_or reps f.rep e) f.fault l (fault e)

  pub faulty_inside : (f : Faulty) → IsFirstFaulty T reps (Some f) → f.rep < length reps
  unfolding IsFirstFaulty
  faulty_inside f (inside, fault, below) = inside

  pub all_sound : IsFirstFaulty T reps None → All (IsSound T) reps
  unfolding IsFirstFaulty
  all_sound s = s

  -- two families of the list
  module _ (m n : Fin (length reps)) (e : RepText S G) where
    abbrev a : RepText S G
    a = get_or reps (to_nat m) e

    abbrev b : RepText S G
    b = get_or reps (to_nat n) e

    apart_at : AreApart T a b → HasDimension (families.matrix m) (families.matrix n) 0
    apart_at p = item_at (λ d mats chars. HasDimension (λ (i : Fin h). matrix_at T.order d mats i) (families.matrix n) 0) m e
        (item_at (λ d mats chars. HasDimension (λ (i : Fin h). matrix_at T.order a.family.dim a.family.mats.items i)
        (λ (i : Fin h). matrix_at T.order d mats i) 0) n e p)

    apart_back : HasDimension (families.matrix m) (families.matrix n) 0 → AreApart T a b
    apart_back p = item_from (λ d mats chars. HasDimension (λ (i : Fin h). matrix_at T.order a.family.dim a.family.mats.items i)
        (λ (i : Fin h). matrix_at T.order d mats i) 0) n e
        (item_from (λ d mats chars. HasDimension (λ (i : Fin h). matrix_at T.order d mats i) (families.matrix n) 0) m e p)

  module _ (sound : All (IsSound T) reps) where
    every_sound : (k : Fin (length reps)) → IsSoundAt T families k
    every_sound k = let e = pick reps k in sound_at k e (sound (to_nat k) e (to_nat-lt k))

    apart_passed : (p q : Fin (length reps)) → (to_nat p < to_nat q → (e : RepText S G) → AreApart T (get_or reps (to_nat p) e) (get_or reps (to_nat q) e))
        → IsPassed T families (inequivalent p q)
    unfolding Passes PassesInequivalent
    apart_passed p q apart l = let e = pick reps p in apart_at p q e (apart l e)

    apart_failed : (p q : Fin (length reps)) (e : RepText S G) → to_nat p < to_nat q → IsPassed T families (inequivalent p q)
        → AreApart T (get_or reps (to_nat p) e) (get_or reps (to_nat q) e)
    unfolding Passes PassesInequivalent
    apart_failed p q e l passed = apart_back p q e (passed l)

    -- the verdict where a pair is the first that is not apart
    pub pair_verdict_is : (p : Pair) → IsFirstPair T reps (Some p) → IsFamiliesVerdict dimensions T families (No Equivalent (p.first + 1) (p.second + 1) 0)
    unfolding IsFirstPair IsFirstBehind verdict_at
    pair_verdict_is p ((l, inside, other, before), rows) =
        let f : p.first < length reps = omega (arith, l, inside) in
        let m : Fin (length reps) = from_nat (length reps) p.first f in
        let n : Fin (length reps) = from_nat (length reps) p.second inside in
        let at : to_nat m ≡ p.first = to_nat-from_nat (length reps) p.first f in
        let to : to_nat n ≡ p.second = to_nat-from_nat (length reps) p.second inside in
        let less : to_nat m < to_nat n = omega (arith, at, to, l) in
        let e : RepText S G = pick reps m in
        subst (λ x. IsFamiliesVerdict dimensions T families (No Equivalent (x + 1) (p.second + 1) 0)) at
        (subst (λ y. IsFamiliesVerdict dimensions T families (No Equivalent (to_nat m + 1) (y + 1) 0)) to
        (fails (inequivalent m n) (first_pair_failed T families every_sound m n
        (λ passed. other e e (subst (λ x. AreApart T (get_or reps x e) (get_or reps p.second e)) at
        (subst (λ y. AreApart T (get_or reps (to_nat m) e) (get_or reps y e)) to (apart_failed m n e less passed))))
        (λ x y b. apart_passed x y (λ k d. elim b [
          | inl above ↦ rows (to_nat x) (omega (arith, above, at)) (to_nat y) k (to_nat-lt y) d d
          | inr row ↦ subst (λ z. AreApart T (get_or reps z d) (get_or reps (to_nat y) d)) (sym (row.0 ∙ at))
              (before (to_nat y) (let r = row.0 in omega (arith, k, r, at)) (let s = row.1 in omega (arith, s, to)) d d)
        ])))))

    module _ (apart : IsFirstPair T reps None) where
      every_apart : (p q : Fin (length reps)) → IsPassed T families (inequivalent p q)
      unfolding IsFirstPair
      every_apart p q = apart_passed p q (λ l e. apart (to_nat p) (to_nat-lt p) (to_nat q) l (to_nat-lt q) e e)

      squares : IsPassed T families all → sum_by (λ (t : RepText S G). t.family.dim * t.family.dim) reps ≡ h
      unfolding Passes PassesAll
      squares passed = sym (square_sum reps) ∙ passed

      all_of_squares : sum_by (λ (t : RepText S G). t.family.dim * t.family.dim) reps ≡ h → IsPassed T families all
      unfolding Passes PassesAll
      all_of_squares e = square_sum reps ∙ e

      -- the verdict where one is missing, or none is
      pub missing_verdict_is : ¬ (sum_by (λ (t : RepText S G). t.family.dim * t.family.dim) reps ≡ h) → IsFamiliesVerdict dimensions T families (No Missing 0 0 0)
      unfolding verdict_at
      missing_verdict_is other = fails all (first_missing T families every_sound every_apart (λ passed. other (squares passed)))

      pub yes_verdict_is : sum_by (λ (t : RepText S G). t.family.dim * t.family.dim) reps ≡ h → IsFamiliesVerdict dimensions T families Yes
      yes_verdict_is e = passes (all_passed T families every_sound every_apart (all_of_squares e))
