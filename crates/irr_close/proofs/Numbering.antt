-- The orders of the canonical form are strict, and of two different rotations or vectors one stands before the other.
--   below_chain, rotation_cases                        rotations, entry by entry
--   numbered_irrefl, numbered_chain, numbered_cases    rotations, the unit first
--   vector_irrefl, vector_chain, vector_cases          vectors, component by component
use Rattle.std.proofs.Common.{◌≡◌, refl, sym, ◌∙◌, subst, ℤ, ◌<◌, ◌≤◌, ◌<ℤ◌, ◌⊎◌, inl, inr, List, [], ◌∷◌, arith}
use Rattle.std.proofs.lemmas.Bool.{cases_lt}
use Rattle.std.proofs.lemmas.Cmp.{by_ranked}
use Rattle.std.proofs.lemmas.Int.{ints}
use Rattle.irr_algebra.specs.Fin.{Fin, to_nat}
use Rattle.irr_algebra.specs.Fin.Fin.{first, next}
use Rattle.irr_algebra.specs.Matrix.{unit}
use Rattle.irr_algebra.proofs.Indices.{to_nat_inj}
use Rattle.irr_number.specs.Integers.{integers}
use Rattle.irr_rational.specs.Order.{IsBelow}
use Rattle.irr_rational.proofs.Lexicographic.{below_irrefl as fractions_irrefl, below_trans, below_or_above}
use Rattle.irr_space.specs.Operation.{Rotation, Vector, component}
use Rattle.irr_space.specs.CanonicalOperation.{IsRotationBelow, IsUnit, IsNumberedBefore}
use Rattle.irr_rat.proofs.Vectors.{vector-ext}
use Rattle.irr_seitz.specs.Rotation.{rotation_of}
use Rattle.irr_seitz.proofs.Rotations.{rotation_of-list}
use Rattle.irr_seitz.proofs.RotationOrder.{match_of_rotations, below_irrefl}

less_chain : (x y z : ℤ) → x <ℤ y → y <ℤ z → x <ℤ z
less_chain x y z a b = omega (arith, ints)

pub below_chain : (R S T : Rotation) → IsRotationBelow R S → IsRotationBelow S T → IsRotationBelow R T
below_chain R S T p q = at_rows (cases_lt (to_nat p.row) (to_nat q.row)) (cases_lt (to_nat q.row) (to_nat p.row))
  where
    at_places : q.row ≡ p.row → (to_nat p.place < to_nat q.place) ⊎ (to_nat q.place ≤ to_nat p.place) → (to_nat q.place < to_nat p.place)
        ⊎ (to_nat p.place ≤ to_nat q.place) → IsRotationBelow R T
    at_places e c f =
        let rows : (i j : Fin 3) → to_nat i < to_nat p.row → S.at i j ≡ T.at i j = subst (λ r. (i j : Fin 3) → to_nat i < to_nat r
        → S.at i j ≡ T.at i j) e q.rows_before in
        let before : (j : Fin 3) → to_nat j < to_nat q.place → S.at p.row j ≡ T.at p.row j = subst (λ r. (j : Fin 3) → to_nat j < to_nat q.place
        → S.at r j ≡ T.at r j) e q.before in
        let less : S.at p.row q.place <ℤ T.at p.row q.place = subst (λ r. S.at r q.place <ℤ T.at r q.place) e q.less in
        elim c [
          | inl l ↦ record {
            row = p.row;
            place = p.place;
            rows_before = λ i j a. p.rows_before i j a ∙ rows i j a;
            before = λ j a. p.before j a ∙ before j (omega arith);
            less = subst (λ x. R.at p.row p.place <ℤ x) (before p.place l) p.less;
          }
          | inr k ↦ elim f [
            | inl l ↦ record {
              row = p.row;
              place = q.place;
              rows_before = λ i j a. p.rows_before i j a ∙ rows i j a;
              before = λ j a. p.before j (omega arith) ∙ before j a;
              less = subst (λ x. x <ℤ T.at p.row q.place) (sym (p.before q.place l)) less;
            }
            | inr l ↦ record {
              row = p.row;
              place = p.place;
              rows_before = λ i j a. p.rows_before i j a ∙ rows i j a;
              before = λ j a. p.before j a ∙ before j (omega arith);
              less = less_chain (R.at p.row p.place) (S.at p.row p.place) (T.at p.row p.place) p.less
                  (subst (λ j. S.at p.row j <ℤ T.at p.row j) (to_nat_inj q.place p.place (omega arith)) less);
            }
          ]
        ]

    at_rows : (to_nat p.row < to_nat q.row) ⊎ (to_nat q.row ≤ to_nat p.row) → (to_nat q.row < to_nat p.row) ⊎ (to_nat p.row ≤ to_nat q.row)
        → IsRotationBelow R T
    at_rows (inl l) c = record {
      row = p.row;
      place = p.place;
      rows_before = λ i j a. p.rows_before i j a ∙ q.rows_before i j (omega arith);
      before = λ j a. p.before j a ∙ q.rows_before p.row j l;
      less = subst (λ x. R.at p.row p.place <ℤ x) (q.rows_before p.row p.place l) p.less;
    }
    at_rows (inr k) (inl l) = record {
      row = q.row;
      place = q.place;
      rows_before = λ i j a. p.rows_before i j (omega arith) ∙ q.rows_before i j a;
      before = λ j a. p.rows_before q.row j l ∙ q.before j a;
      less = subst (λ x. x <ℤ T.at q.row q.place) (sym (p.rows_before q.row q.place l)) q.less;
    }
    at_rows (inr k) (inr l) = at_places (to_nat_inj q.row p.row (omega arith)) (cases_lt (to_nat p.place) (to_nat q.place))
        (cases_lt (to_nat q.place) (to_nat p.place))

-- the rows of a rotation
rows_of : Rotation → List (List ℤ)
rows_of R = (R.at first first ∷ R.at first (next first) ∷ R.at first (next (next first)) ∷ [])
    ∷ (R.at (next first) first ∷ R.at (next first) (next first) ∷ R.at (next first) (next (next first)) ∷ [])
    ∷ (R.at (next (next first)) first ∷ R.at (next (next first)) (next first) ∷ R.at (next (next first)) (next (next first)) ∷ []) ∷ []

rotation_of-rows : (R : Rotation) → rotation_of (rows_of R) ≡ R
unfolding rows_of
rotation_of-rows R = rotation_of-list (rows_of R) R refl refl refl refl refl refl refl refl refl

cases_of_lists : (a b : List (List ℤ)) → IsRotationBelow (rotation_of a) (rotation_of b)
    ⊎ ((rotation_of a ≡ rotation_of b) ⊎ IsRotationBelow (rotation_of b) (rotation_of a))
cases_of_lists a b = by_ranked (IsRotationBelow (rotation_of a) (rotation_of b)) (rotation_of a ≡ rotation_of b)
    (IsRotationBelow (rotation_of b) (rotation_of a)) _ (match_of_rotations a b)
    (λ o l. inl l) (λ o l. inr (inl l)) (λ o l. inr (inr l))

pub rotation_cases : (R S : Rotation) → IsRotationBelow R S ⊎ ((R ≡ S) ⊎ IsRotationBelow S R)
rotation_cases R S = subst (λ A. IsRotationBelow A S ⊎ ((A ≡ S) ⊎ IsRotationBelow S A)) (rotation_of-rows R)
    (subst (λ B. IsRotationBelow (rotation_of (rows_of R)) B ⊎ ((rotation_of (rows_of R) ≡ B) ⊎ IsRotationBelow B (rotation_of (rows_of R))))
    (rotation_of-rows S) (cases_of_lists (rows_of R) (rows_of S)))

unit_or_not : (R : Rotation) → IsUnit R ⊎ ¬ (IsUnit R)
unit_or_not R = elim (rotation_cases R (unit integers 3)) [
  | inl b ↦ inr (λ u. below_irrefl R (unit integers 3) u b)
  | inr c ↦ elim c [ inl e ↦ inl e | inr b ↦ inr (λ u. below_irrefl (unit integers 3) R (sym u) b) ]
]

pub numbered_irrefl : (R : Rotation) → ¬ (IsNumberedBefore R R)
numbered_irrefl R h = elim h.1 [ inl u ↦ h.0 u | inr b ↦ below_irrefl R R refl b ]

pub numbered_chain : (R S T : Rotation) → IsNumberedBefore R S → IsNumberedBefore S T → IsNumberedBefore R T
numbered_chain R S T p q = (q.0, joined p.1 q.1)
  where
    joined : IsUnit R ⊎ IsRotationBelow R S → IsUnit S ⊎ IsRotationBelow S T → IsUnit R ⊎ IsRotationBelow R T
    joined (inl u) c = inl u
    joined (inr b) (inl u) = absurd (p.0 u)
    joined (inr b) (inr c) = inr (below_chain R S T b c)

pub numbered_cases : (R S : Rotation) → IsNumberedBefore R S ⊎ ((R ≡ S) ⊎ IsNumberedBefore S R)
numbered_cases R S = by_units (unit_or_not R) (unit_or_not S) (rotation_cases R S)
  where
    by_units : IsUnit R ⊎ ¬ (IsUnit R) → IsUnit S ⊎ ¬ (IsUnit S) → IsRotationBelow R S ⊎ ((R ≡ S) ⊎ IsRotationBelow S R) → IsNumberedBefore R S
        ⊎ ((R ≡ S) ⊎ IsNumberedBefore S R)
    by_units (inl u) (inl v) c = inr (inl (u ∙ sym v))
    by_units (inl u) (inr n) c = inl (n, inl u)
    by_units (inr m) (inl v) c = inr (inr (m, inl v))
    by_units (inr m) (inr n) (inl b) = inl (n, inr b)
    by_units (inr m) (inr n) (inr (inl e)) = inr (inl e)
    by_units (inr m) (inr n) (inr (inr b)) = inr (inr (m, inr b))

abbrev pub IsVectorBelow : Vector → Vector → Type 0
IsVectorBelow v w = IsBelow (component v) (component w)

pub vector_irrefl : (v : Vector) → ¬ (IsVectorBelow v v)
vector_irrefl v h = fractions_irrefl (component v) h

pub vector_chain : (u v w : Vector) → IsVectorBelow u v → IsVectorBelow v w → IsVectorBelow u w
vector_chain u v w p q = below_trans (component u) (component v) (component w) p q

pub vector_cases : (v w : Vector) → IsVectorBelow v w ⊎ ((v ≡ w) ⊎ IsVectorBelow w v)
vector_cases v w = elim (below_or_above 3 (component v) (component w)) [
  | inl b ↦ inl b
  | inr c ↦ elim c [ inl e ↦ inr (inl (vector-ext v w e)) | inr b ↦ inr (inr b) ]
]
