-- The sum of roots where the phases are powers of z: by the exponents of the eigenvalues.
--   exponent_sum_of_roots: the trace is a sum of one root z^(e / p + j m) for each exponent e
use Rattle.std.proofs.Common.{◌≡◌, sym, ◌∙◌, ap, ap₂, refl, subst, ℕ, zero, suc, ◌<◌, ◌+◌, ◌*◌, ◌/◌, ◌%◌, List, [], ◌∷◌, All, arith}
use Rattle.std.proofs.Math.Nat as Nat
use Rattle.std.proofs.lemmas.List.Elements.{recursion_from_All}
use Rattle.irr_algebra.specs.Ring.{Ring}
use Rattle.irr_algebra.specs.Field.{Field}
use Rattle.irr_algebra.specs.Fin.{Fin, to_nat}
use Rattle.irr_algebra.specs.Matrix.{trace}
use Rattle.irr_algebra.proofs.Indices.{from_nat, to_nat-from_nat}
use Rattle.irr_theory.specs.FactorSystem.{FactorSystem, Representation}
use Rattle.irr_eigen.specs.Power.{power, IsPrimitiveRoot}
use Rattle.irr_eigen.specs.Eigenspace.{Eigenspaces, Occurs}
use Rattle.irr_eigen.specs.ListSum.{AddsUp, occurrences}
use Rattle.irr_eigen.specs.Step.{Cycle, HasExponents, IsOutside, IsStep, Subtable, at_place, cycle_numbers, exponent_sum, lifted_power, restricted, top_matrix}
use Rattle.irr_eigen.proofs.Cycles.{cycle-powers, cycle_of_exponents}
use Rattle.irr_eigen.proofs.Extended.{family-step}
use Rattle.irr_eigen.proofs.Orders.{order-multiple}
use Rattle.irr_eigen.proofs.Powers.{one-power, power-add, power-mul}
use Rattle.irr_eigen.proofs.Primitive.{primitive_inj}
use Rattle.irr_eigen.proofs.Steps.{step-different, step-matrix_root}
use Rattle.irr_extension.specs.Exponents.{AddsUpRoots, times_in}
use Rattle.irr_extension.proofs.ExponentLists.{exponents_of, indices_of, times-exponents}
use Rattle.irr_extension.proofs.Presence.{value_of_occurs}
use Rattle.irr_extension.proofs.RootSums.{root_sum}

-- whole numbers

-- b p by the rest of b
times_by_rest : (b m p : ℕ) → p * b ≡ b % m * p + b / m * (m * p)
times_by_rest b m p =
    let split : b % m + b / m * m ≡ b = Nat.mod-add-div' b m in
    let first : (b % m + b / m * m) * p ≡ b % m * p + b / m * m * p = Nat.add-mul (b % m) (b / m * m) p in
    let second : b / m * m * p ≡ b / m * (m * p) = Nat.mul_assoc (b / m) m p in
    Nat.mul_comm p b ∙ ap (λ c. c * p) (sym split) ∙ first ∙ ap (λ c. b % m * p + c) second

-- c m by the rest of c
multiple_by_rest : (c m p : ℕ) → c * m ≡ c % p * m + c / p * (m * p)
multiple_by_rest c m p =
    let split : c % p + c / p * p ≡ c = Nat.mod-add-div' c p in
    let first : (c % p + c / p * p) * m ≡ c % p * m + c / p * p * m = Nat.add-mul (c % p) (c / p * p) m in
    let second : c / p * p * m ≡ c / p * (p * m) = Nat.mul_assoc (c / p) p m in
    ap (λ c. c * m) (sym split) ∙ first ∙ ap (λ a. c % p * m + a) (second ∙ ap (λ a. c / p * a) (Nat.mul_comm p m))

-- b + j m by the rest of b, and the rest of what is left
shift_by_rest : (b j m p : ℕ) → b + j * m ≡ b % m + (b / m + j) % p * m + (b / m + j) / p * (m * p)
shift_by_rest b j m p =
    let split : b % m + b / m * m ≡ b = Nat.mod-add-div' b m in
    let both : (b / m + j) * m ≡ b / m * m + j * m = Nat.add-mul (b / m) j m in
    let rest = multiple_by_rest (b / m + j) m p in
    omega (arith, split, both, rest)

-- the order by the index of the cycle
pub order_split : (order n q m p : ℕ) → order ≡ n * q → n ≡ suc m * p → order ≡ suc m * q * p
order_split order n q m p e f = e ∙ ap (λ a. a * q) f ∙ Nat.mul_assoc (suc m) p q ∙ ap (λ a. suc m * a) (Nat.mul_comm p q) ∙ sym (Nat.mul_assoc (suc m) q p)

pub positive-product : (m q : ℕ) → 0 < q → 0 < suc m * q
positive-product m q h = let e = Nat.suc-mul m q in omega (arith, e, h)

-- powers of z

power_by_rest : (R : Ring) (z : R.Carrier) (order a b k : ℕ) → power R z order ≡ R.one → a ≡ b + k * order → power R z a ≡ power R z b
power_by_rest R z order a b k one e =
    ap (power R z) e ∙ power-add R z b (k * order) ∙ ap (R.mul (power R z b)) (power-mul R z k order ∙ ap (λ x. power R x k) one ∙ one-power R k)
    ∙ R.mul-one (power R z b)

primitive_inj_below : (F : Field) (order : ℕ) (z : F.Carrier) → IsPrimitiveRoot F.ring order z → (a b : ℕ) → a < order → b < order
    → power F.ring z a ≡ power F.ring z b → a ≡ b
primitive_inj_below F order z primitive a b la lb e =
    sym (to_nat-from_nat order a la)
    ∙ ap to_nat (primitive_inj F order z primitive (from_nat order a la) (from_nat order b lb)
    (ap (power F.ring z) (to_nat-from_nat order a la) ∙ e ∙ sym (ap (power F.ring z) (to_nat-from_nat order b lb))))
    ∙ to_nat-from_nat order b lb

-- a sum over indices as one over their exponents
pub sum_by_exponents : (R : Ring) {k p : ℕ} (z : R.Carrier) (m : ℕ) (exponent : Fin k → ℕ) (root : Fin k → Fin p → R.Carrier)
    → ((a : Fin k) → exponent a / p * p ≡ exponent a) → ((a : Fin k) (j : Fin p) → (i : Fin p) × (root a j ≡ power R z (exponent a / p + to_nat i * m)))
    → (l : List (Fin k)) (s : R.Carrier) → AddsUp R root l s → AddsUpRoots R z p m (exponents_of exponent l) s
unfolding AddsUp AddsUpRoots exponents_of
sum_by_exponents R z m exponent root divided choice [] s h = h
sum_by_exponents R z m exponent root divided choice (a ∷ l) s (j, rest, e, h) =
    (divided a, (choice a j).0, rest, e ∙ ap (λ x. R.add x rest) (choice a j).1, sum_by_exponents R z m exponent root divided choice l rest h)

module _ {R : Ring} {T : FactorSystem R} {x : Fin T.places} (cycle : Cycle T x) (z : R.Carrier) (q y m p : ℕ)
    (number : cycle.number ≡ power R z y) (root : cycle.root ≡ power R z q) (p-pos : 0 < p) (one : power R z (suc m * q * p) ≡ R.one) where
  -- the exponent of the eigenvalue with an index
  abbrev pub exponent_at : Fin (suc m) → ℕ
  exponent_at a = (y + to_nat a * q) % (suc m * q) * p

  pub exponent-value : (a : Fin (suc m)) → power R (cycle_numbers cycle (suc m) a) p ≡ power R z (exponent_at a)
  exponent-value a =
      ap (λ x. power R x p) (ap₂ R.mul number (ap (λ x. power R x (to_nat a)) root ∙ sym (power-mul R z (to_nat a) q)) ∙ sym (power-add R z y (to_nat a * q)))
      ∙ sym (power-mul R z p (y + to_nat a * q))
      ∙ power_by_rest R z (suc m * q * p) (p * (y + to_nat a * q)) (exponent_at a)
      ((y + to_nat a * q) / (suc m * q)) one (times_by_rest (y + to_nat a * q) (suc m * q) p)

  exponent-divided : (a : Fin (suc m)) → exponent_at a / p ≡ (y + to_nat a * q) % (suc m * q)
  exponent-divided a = Nat.mul-div_cancel ((y + to_nat a * q) % (suc m * q)) p-pos

  root-choice : (a : Fin (suc m)) (j : Fin p)
      → (i : Fin p) × (R.mul (cycle_numbers cycle (suc m) a) (power R (power R cycle.root (suc m)) (to_nat j))
      ≡ power R z (exponent_at a / p + to_nat i * (suc m * q)))
  root-choice a j =
      let b : ℕ = y + to_nat a * q in
      let c : ℕ = b / (suc m * q) + to_nat j in
      let small : c % p < p = Nat.mod-lt c p-pos in (
        from_nat p (c % p) small,
        cycle-powers cycle z q y number root (suc m) a (to_nat j)
            ∙ ap (λ k. power R z (b + k)) (Nat.mul_assoc (to_nat j) (suc m) q)
            ∙ power_by_rest R z (suc m * q * p) (b + to_nat j * (suc m * q)) (b % (suc m * q) + c % p * (suc m * q))
            (c / p) one (shift_by_rest b (to_nat j) (suc m * q) p)
            ∙ ap₂ (λ k i. power R z (k + i * (suc m * q))) (sym (exponent-divided a)) (sym (to_nat-from_nat p (c % p) small)),
      )

module _ (F : Field) where
  open F use {ring as R}

  pub exponent_sum_of_roots : {S T : FactorSystem R} (part : Subtable S T) {d : ℕ} (E : Representation T d) (x : Fin T.places) (p : ℕ)
      (top : Fin S.places) → 0 < p
      → part.place top ≡ (lifted_power (at_place T x) p).place → IsOutside part x p
      → (order : ℕ) (z : R.Carrier) (exponent : Fin T.places → Fin T.places → ℕ) (n q y : ℕ) → HasExponents T order z exponent → 0 < n → 0 < q → order ≡ n * q
      → (lifted_power (at_place T x) n).place ≡ T.start → exponent_sum T exponent x n ≡ n * y
      → (es : List ℕ) → All (λ e. e < order) es
      → ((a : ℕ) → a < order → Occurs (top_matrix T (restricted part E) x p top) (power R z a) (times_in a es))
      → (order / p * p ≡ order) × AddsUpRoots R z p (order / p) es (trace (E.at x))
  exponent_sum_of_roots {S} {T} part {d} E x p top pos in-s outside order z exponent n q y has n-pos q-pos n-order back sum es below occurs = (
    ap (λ a. a * p) divided ∙ sym whole_order,
    subst (λ k. AddsUpRoots R z p k es (trace (E.at x))) (sym divided)
        (subst (λ fs. AddsUpRoots R z p (suc m * q) fs (trace (E.at x))) l.1
        (sum_by_exponents R z (suc m * q) index_exponent
        (λ a (j : Fin p). R.mul (cycle_numbers cycle (suc m) a) (power R (power R cycle.root (suc m)) (to_nat j)))
        (λ a. ap (λ k. k * p) (exponent-divided cycle z q y m p made.2 made.3 pos one a))
        (root-choice cycle z q y m p made.2 made.3 pos one) l.0 (trace (E.at x))
        (root_sum F part E x p top pos in-s cycle m multiple.1 l.0 occurs_at))),
  )
    where
      made : (cycle : Cycle T x) × (cycle.order ≡ n) × (cycle.number ≡ power R z y) × (cycle.root ≡ power R z q)
      made = cycle_of_exponents T order z exponent x n q y has n-pos q-pos n-order back sum

      cycle : Cycle T x
      cycle = made.0

      multiple : (m : ℕ) × (cycle.order ≡ suc m * p)
      multiple = order-multiple part x p outside top in-s pos cycle.order cycle.positive cycle.returns

      m : ℕ
      m = multiple.0

      whole_order : order ≡ suc m * q * p
      whole_order = order_split order n q m p n-order (sym made.1 ∙ multiple.1)

      divided : order / p ≡ suc m * q
      divided = ap (λ a. a / p) whole_order ∙ Nat.mul-div_cancel (suc m * q) pos

      one : power R z (suc m * q * p) ≡ R.one
      one = ap (power R z) (sym whole_order) ∙ has.primitive.power-one

      index_exponent : Fin (suc m) → ℕ
      index_exponent = exponent_at cycle z q y m p made.2 made.3 pos one

      value : (a : Fin (suc m)) → power R (cycle_numbers cycle (suc m) a) p ≡ power R z (index_exponent a)
      value = exponent-value cycle z q y m p made.2 made.3 pos one

      exponent-below : (a : Fin (suc m)) → index_exponent a < order
      exponent-below a = subst (λ k. index_exponent a < k) (sym whole_order)
          (Nat.mul-lt-mul_of_pos_right (Nat.mod-lt (y + to_nat a * q) (positive-product m q q-pos)) pos)

      h : IsStep part (restricted part E) x p R.one (E.at x)
      h = family-step part E x p top in-s

      same : top ≡ h.top
      same = part.injective top h.top (in-s ∙ sym h.place-top)

      spaces : Eigenspaces (top_matrix T (restricted part E) x p h.top) (λ a. power R (cycle_numbers cycle (suc m) a) p)
      spaces = (step-matrix_root F part (restricted part E) x p R.one (E.at x) h cycle m multiple.1 pos).eigenspaces

      injective : (a b : Fin (suc m)) → index_exponent a ≡ index_exponent b → a ≡ b
      injective a b e = step-different F part (restricted part E) x p R.one (E.at x) h cycle m multiple.1 pos a b (value a ∙ ap (power R z) e ∙ sym (value b))

      found : (e : ℕ) → e < order → (times_in e es ≡ 0 → ⊥) → (a : Fin (suc m)) × (index_exponent a ≡ e)
      found e l ne = go (times_in e es) ne (subst (λ t. Occurs (top_matrix T (restricted part E) x p t) (power R z e) (times_in e es)) same (occurs e l))
        where
          go : (k : ℕ) → (k ≡ 0 → ⊥) → Occurs (top_matrix T (restricted part E) x p h.top) (power R z e) k → (a : Fin (suc m)) × (index_exponent a ≡ e)
          go zero ne o = absurd (ne refl)
          go (suc k) ne o =
              let a = value_of_occurs F spaces (power R z e) o in
              (a.0, primitive_inj_below F order z has.primitive (index_exponent a.0) e (exponent-below a.0) l (sym (value a.0) ∙ a.1))

      l : (l : List (Fin (suc m))) × (exponents_of index_exponent l ≡ es)
      l = indices_of index_exponent (λ e. e < order) es (recursion_from_All (λ e. e < order) es below) found

      occurs_at : (a : Fin (suc m)) → Occurs (top_matrix T (restricted part E) x p top) (power R (cycle_numbers cycle (suc m) a) p) (occurrences a l.0)
      occurs_at a =
          subst (λ v. Occurs (top_matrix T (restricted part E) x p top) v (occurrences a l.0)) (sym (value a))
          (subst (λ k. Occurs (top_matrix T (restricted part E) x p top) (power R z (index_exponent a)) k)
          (sym (times-exponents index_exponent injective a l.0 ∙ ap (times_in (index_exponent a)) l.1)) (occurs (index_exponent a) (exponent-below a)))
