-- The rotations of a group of at most 48: their powers are of the group, and the power to their number is the unit.
--   power_in          powers of a rotation
--   return_all        each rotation to the number of rotations is the unit
use Rattle.std.proofs.Common.{◌≡◌, sym, ◌∙◌, ap, subst, ℕ, zero, suc, ◌-◌, ◌<◌, ◌≤◌, ◌⊎◌, inl, inr, List, length, get_or, arith}
use native.Mathlib.Nat as Nat
use Rattle.std.specs.List.{AllPairs}
use Rattle.std.proofs.lemmas.Bool.{cases_lt}
use Rattle.irr_algebra.specs.Fin.{Fin, to_nat}
use Rattle.irr_algebra.specs.Matrix.{◌·◌, unit}
use Rattle.irr_algebra.proofs.Indices.{from_nat, to_nat-from_nat, to_nat-lt, to_nat_inj}
use Rattle.irr_algebra.proofs.Matrices.{mul_assoc, unit-mul, mul-unit}
use Rattle.irr_number.specs.Integers.{integers}
use Rattle.irr_theory.specs.Extension.{matrix_power}
use Rattle.irr_space.specs.Operation.{Rotation}
use Rattle.irr_seitz.specs.FiniteOrder.{IsFiniteOrder}
use Rattle.irr_seitz.specs.OperationMeaning.{operation}
use Rattle.irr_seitz.specs.declared.op.Op.{Op}
use Rattle.irr_seitz.proofs.Adjugate.{adjoint-mul}
use Rattle.irr_close.specs.Closing.{HasRotation}
use Rattle.irr_close.specs.Canonical.{IsRotationGroup}
use Rattle.irr_close.proofs.Pigeons.{AreTwoAt, pigeons}
use Rattle.irr_close.proofs.Standing.{same_index}
use Rattle.irr_close.proofs.Untruncated.{search_below, same_or_not}
use Rattle.irr_close.proofs.Orbits.{repeated, rounds_divide}
use Rattle.irr_close.proofs.Returns.{power_apart, returns_exactly}

-- the least power that is the unit, where there is one
least_from : (R : Rotation) (fuel m : ℕ) → m ≤ fuel → 0 < m → matrix_power R m ≡ unit integers 3 → (n : ℕ) × IsFiniteOrder R n
least_from R zero m l p e = absurd (omega arith)
least_from R (suc fuel) m l p e = elim (search_below (λ k. (0 < k) × (matrix_power R k ≡ unit integers 3)) positive_or_not m) [
  | inl s ↦ (let b : s.0 < m = s.1 in least_from R fuel s.0 (omega arith) s.2.0 s.2.1)
  | inr none ↦ (m, record { positive = p; power = e; least = λ k q b u. none k b (q, u) })
]
  where
    positive_or_not : (k : ℕ) → ((0 < k) × (matrix_power R k ≡ unit integers 3)) ⊎ ¬ ((0 < k) × (matrix_power R k ≡ unit integers 3))
    positive_or_not k = elim (cases_lt 0 k) [
      | inr none ↦ inr (λ h. let b : 0 < k = h.0 in absurd (omega arith))
      | inl q ↦ elim (same_or_not (matrix_power R k) (unit integers 3)) [ inl u ↦ inl (q, u) | inr denied ↦ inr (λ h. denied h.1) ]
    ]

module _ (ops : List Op) (distinct : AllPairs (λ g h. ¬ ((operation g).rotation ≡ (operation h).rotation)) ops) (group : IsRotationGroup ops) (d : Op)
  where
    rot : ℕ → Rotation
    rot i = (operation (get_or ops i d)).rotation

    pub power_in : (i : ℕ) → i < length ops → (k : ℕ) → HasRotation ops (matrix_power (operation (get_or ops i d)).rotation k)
    unfolding matrix_power
    power_in i l zero = group.has_unit
    power_in i l (suc k) = let t = power_in i l k in subst (λ (M : Rotation). HasRotation ops ((operation (get_or ops i d)).rotation · M)) (t.2 d)
        (group.products i d l t.0 d t.1)

    step : (i : ℕ) → i < length ops → Fin (length ops) → Fin (length ops)
    step i l x = let t = group.products i d l (to_nat x) d (to_nat-lt x) in from_nat (length ops) t.0 t.1

    step-rot : (i : ℕ) (l : i < length ops) (x : Fin (length ops)) → rot (to_nat (step i l x)) ≡ rot i · rot (to_nat x)
    unfolding rot step
    step-rot i l x = let t = group.products i d l (to_nat x) d (to_nat-lt x) in ap (λ n. (operation (get_or ops n d)).rotation)
        (to_nat-from_nat (length ops) t.0 t.1) ∙ t.2 d

    steps-rot : (i : ℕ) (l : i < length ops) (k : ℕ) (x : Fin (length ops))
        → rot (to_nat (repeated (step i l) k x)) ≡ matrix_power (rot i) k · rot (to_nat x)
    unfolding matrix_power repeated
    steps-rot i l zero x = sym (unit-mul (rot (to_nat x)))
    steps-rot i l (suc k) x = step-rot i l (repeated (step i l) k x) ∙ ap (λ (M : Rotation). rot i · M) (steps-rot i l k x)
        ∙ sym (mul_assoc (rot i) (matrix_power (rot i) k) (rot (to_nat x)))

    one_place : (x y : Fin (length ops)) → rot (to_nat x) ≡ rot (to_nat y) → x ≡ y
    unfolding rot
    one_place x y e = to_nat_inj x y (same_index ops d distinct (to_nat x) (to_nat y) (to_nat-lt x) (to_nat-lt y) e)

    inverse_of : (i : ℕ) → i < length ops → (S : Rotation) × (rot i · S ≡ unit integers 3)
    unfolding rot
    inverse_of i l = let t = group.inverses i d l in (rot t.0, t.2 d)

    -- a power that comes again
    again : (i : ℕ) → i < length ops → (a b : ℕ) → a ≤ b → matrix_power (rot i) a ≡ matrix_power (rot i) b
        → matrix_power (rot i) (b - a) ≡ unit integers 3
    again i l a b m e = let t = inverse_of i l in power_apart (rot i) t.0 (adjoint-mul (rot i) t.0 t.1) a b m e

    order : (i : ℕ) → i < length ops → (n : ℕ) × IsFiniteOrder (rot i) n
    unfolding rot
    order i l = elim (cases_lt (to_nat t.one) (to_nat t.other)) [
      | inl less ↦ least_from (rot i) (to_nat t.other - to_nat t.one) (to_nat t.other - to_nat t.one) (omega arith) (omega arith)
          (again i l (to_nat t.one) (to_nat t.other) (omega arith) same)
      | inr more ↦ elim (cases_lt (to_nat t.other) (to_nat t.one)) [
        | inl less ↦ least_from (rot i) (to_nat t.one - to_nat t.other) (to_nat t.one - to_nat t.other) (omega arith) (omega arith)
            (again i l (to_nat t.other) (to_nat t.one) (omega arith) (sym same))
        | inr least ↦ absurd (t.different (to_nat_inj t.one t.other (omega arith)))
      ]
    ]
      where
        place : Fin (suc (length ops)) → Fin (length ops)
        place k = let p = power_in i l (to_nat k) in from_nat (length ops) p.0 p.1

        place-rot : (k : Fin (suc (length ops))) → rot (to_nat (place k)) ≡ matrix_power (rot i) (to_nat k)
        place-rot k = let p = power_in i l (to_nat k) in
            ap (λ n. (operation (get_or ops n d)).rotation) (to_nat-from_nat (length ops) p.0 p.1) ∙ p.2 d

        t : AreTwoAt place
        t = pigeons (length ops) place

        same : matrix_power (rot i) (to_nat t.one) ≡ matrix_power (rot i) (to_nat t.other)
        same = sym (place-rot t.one) ∙ ap (λ k. rot (to_nat k)) t.meet ∙ place-rot t.other

    free : (i : ℕ) (l : i < length ops) (n : ℕ) → IsFiniteOrder (rot i) n → (x : Fin (length ops)) (a b : ℕ) → a < n → b < n
        → repeated (step i l) a x ≡ repeated (step i l) b x → a ≡ b
    free i l n o x a b p q e = elim (cases_lt a b) [
      | inl less ↦ absurd (o.least (b - a) (omega arith) (omega arith) (again i l a b (omega arith) same))
      | inr more ↦ elim (cases_lt b a) [
        | inl less ↦ absurd (o.least (a - b) (omega arith) (omega arith) (again i l b a (omega arith) (sym same)))
        | inr least ↦ omega arith
      ]
    ]
      where
        X : Rotation
        X = rot (to_nat x)

        t : (S : Rotation) × (X · S ≡ unit integers 3)
        t = inverse_of (to_nat x) (to_nat-lt x)

        cancelled : (A B : Rotation) → A · X ≡ B · X → A ≡ B
        cancelled A B h = sym (mul-unit A) ∙ ap (λ (M : Rotation). A · M) (sym t.1) ∙ sym (mul_assoc A X t.0) ∙ ap (λ (M : Rotation). M · t.0) h
            ∙ mul_assoc B X t.0 ∙ ap (λ (M : Rotation). B · M) t.1 ∙ mul-unit B

        same : matrix_power (rot i) a ≡ matrix_power (rot i) b
        same = cancelled (matrix_power (rot i) a) (matrix_power (rot i) b) (sym (steps-rot i l a x) ∙ ap (λ k. rot (to_nat k)) e ∙ steps-rot i l b x)

    pub return_all : (i : ℕ) → i < length ops → matrix_power (operation (get_or ops i d)).rotation (length ops) ≡ unit integers 3
    unfolding rot
    return_all i l =
        let o = order i l in
        (returns_exactly (rot i) o.0 (length ops) o.1).0 (Nat.mod-eq-zero_of_dvd o.0 (rounds_divide (length ops) o.0 o.1.positive (step i l)
        (λ x. one_place (repeated (step i l) o.0 x) x (steps-rot i l o.0 x ∙ ap (λ (M : Rotation). M · rot (to_nat x)) o.1.power
        ∙ unit-mul (rot (to_nat x)))) (free i l o.0 o.1)))
