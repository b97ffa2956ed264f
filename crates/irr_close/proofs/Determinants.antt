-- Determinants of products of rotations.
--   sarrus                  the rule of Sarrus for three rows
--   rows_mul                its value at rows that are mixed of three rows
--   determinant-mul         the determinant of a product is the product of the determinants
--   unimodular_of_inverse   a rotation with an inverse has the determinant 1 or -1
use Rattle.std.proofs.Common.{◌≡◌, sym, refl, ◌∙◌, ap, ap₂, subst, pos, ◌*◌, ◌*ℤ◌, unsigned_abs}
use Rattle.std.specs.Int.{◌∣◌}
use Rattle.std.proofs.lemmas.Int.{unsigned_abs-mul}
use native.Mathlib.Nat as Nat
use Rattle.irr_algebra.specs.Fin.{Fin}
use Rattle.irr_algebra.specs.Fin.Fin.{first, next}
use Rattle.irr_algebra.specs.Sum.{sum, delta}
use Rattle.irr_algebra.specs.Matrix.{◌·◌, unit}
use Rattle.irr_algebra.specs.Ring.{Ring}
use Rattle.irr_algebra.proofs.Rings.{ring_laws}
use Rattle.irr_number.specs.Integers.{integers}
use Rattle.irr_space.specs.Operation.{Rotation}
use Rattle.irr_seitz.specs.Rotation.{determinant}

module _ (R : Ring) where
  abbrev sarrus : (x y z u v w p q r : R.Carrier) → R.Carrier
  sarrus x y z u v w p q r = R.add (R.add (R.add (R.mul (R.mul x v) r) (R.mul (R.mul y w) p)) (R.mul (R.mul z u) q))
      (R.neg (R.add (R.add (R.mul (R.mul z v) p) (R.mul (R.mul y u) r)) (R.mul (R.mul x w) q)))

  mixed_first : (a b c x y z x' y' z' x'' y'' z'' u v w p q r : R.Carrier)
      → sarrus (R.add (R.mul a x) (R.add (R.mul b x') (R.add (R.mul c x'') R.zero)))
      (R.add (R.mul a y) (R.add (R.mul b y') (R.add (R.mul c y'') R.zero)))
      (R.add (R.mul a z) (R.add (R.mul b z') (R.add (R.mul c z'') R.zero))) u v w p q r
      ≡ R.add (R.mul a (sarrus x y z u v w p q r)) (R.add (R.mul b (sarrus x' y' z' u v w p q r)) (R.mul c (sarrus x'' y'' z'' u v w p q r)))
  mixed_first a b c x y z x' y' z' x'' y'' z'' u v w p q r = simp (ring_laws, R)

  turned : (x y z u v w p q r : R.Carrier) → sarrus x y z u v w p q r ≡ sarrus u v w p q r x y z
  turned x y z u v w p q r = simp (ring_laws, R)

  swapped : (x y z u v w p q r : R.Carrier) → sarrus u v w x y z p q r ≡ R.neg (sarrus x y z u v w p q r)
  swapped x y z u v w p q r = simp (ring_laws, R)

  equal : (x y z p q r : R.Carrier) → sarrus x y z x y z p q r ≡ R.zero
  equal x y z p q r = simp (ring_laws, R)

  unfoldable rows : (x y z : Fin 3 → R.Carrier) → R.Carrier
  rows x y z = sarrus (x first) (x (next first)) (x (next (next first))) (y first) (y (next first)) (y (next (next first))) (z first) (z (next first))
      (z (next (next first)))

  rows-turned : (x y z : Fin 3 → R.Carrier) → rows x y z ≡ rows y z x
  unfolding rows
  rows-turned x y z = turned (x first) (x (next first)) (x (next (next first))) (y first) (y (next first)) (y (next (next first))) (z first)
      (z (next first)) (z (next (next first)))

  rows-swapped : (x y z : Fin 3 → R.Carrier) → rows y x z ≡ R.neg (rows x y z)
  unfolding rows
  rows-swapped x y z = swapped (x first) (x (next first)) (x (next (next first))) (y first) (y (next first)) (y (next (next first))) (z first)
      (z (next first)) (z (next (next first)))

  rows-left : (x z : Fin 3 → R.Carrier) → rows x x z ≡ R.zero
  unfolding rows
  rows-left x z = equal (x first) (x (next first)) (x (next (next first))) (z first) (z (next first)) (z (next (next first)))

  rows-ends : (x z : Fin 3 → R.Carrier) → rows x z x ≡ R.zero
  rows-ends x z = sym (rows-turned x x z) ∙ rows-left x z

  rows-right : (x z : Fin 3 → R.Carrier) → rows z x x ≡ R.zero
  rows-right x z = rows-turned z x x ∙ rows-left x z

  module _ (s t u : Fin 3 → R.Carrier) where
    abbrev mixed : (a b c : R.Carrier) → Fin 3 → R.Carrier
    mixed a b c j = R.add (R.mul a (s j)) (R.add (R.mul b (t j)) (R.add (R.mul c (u j)) R.zero))

    rows-mixed : (a b c : R.Carrier) (y z : Fin 3 → R.Carrier)
        → rows (mixed a b c) y z ≡ R.add (R.mul a (rows s y z)) (R.add (R.mul b (rows t y z)) (R.mul c (rows u y z)))
    unfolding rows
    rows-mixed a b c y z = mixed_first a b c (s first) (s (next first)) (s (next (next first))) (t first) (t (next first)) (t (next (next first)))
        (u first) (u (next first)) (u (next (next first))) (y first) (y (next first)) (y (next (next first))) (z first) (z (next first))
        (z (next (next first)))

    three : (a b c x y z x' y' z' : R.Carrier) → x ≡ x' → y ≡ y' → z ≡ z'
        → R.add (R.mul a x) (R.add (R.mul b y) (R.mul c z)) ≡ R.add (R.mul a x') (R.add (R.mul b y') (R.mul c z'))
    three a b c x y z x' y' z' e f g = ap₂ R.add (ap (R.mul a) e) (ap₂ R.add (ap (R.mul b) f) (ap (R.mul c) g))

    -- the rows in another order
    stu : rows s t u ≡ rows s t u
    stu = refl

    tus : rows t u s ≡ rows s t u
    tus = sym (rows-turned s t u)

    ust : rows u s t ≡ rows s t u
    ust = rows-turned u s t

    tsu : rows t s u ≡ R.neg (rows s t u)
    tsu = rows-swapped s t u

    sut : rows s u t ≡ R.neg (rows s t u)
    sut = rows-turned s u t ∙ rows-turned u t s ∙ tsu

    uts : rows u t s ≡ R.neg (rows s t u)
    uts = rows-turned u t s ∙ tsu

    module _ (g h i : R.Carrier) where
      third : (x y : Fin 3 → R.Carrier) → rows x (mixed g h i) y ≡ R.add (R.mul g (rows s y x)) (R.add (R.mul h (rows t y x)) (R.mul i (rows u y x)))
      third x y = rows-turned x (mixed g h i) y ∙ rows-mixed g h i y x

      module _ (d e f : R.Carrier) where
        second : (y : Fin 3 → R.Carrier) → rows y (mixed d e f) (mixed g h i)
            ≡ R.add (R.mul d (rows s (mixed g h i) y)) (R.add (R.mul e (rows t (mixed g h i) y)) (R.mul f (rows u (mixed g h i) y)))
        second y = rows-turned y (mixed d e f) (mixed g h i) ∙ rows-mixed d e f (mixed g h i) y

        at_s : rows s (mixed d e f) (mixed g h i) ≡ R.add (R.mul d (R.add (R.mul g R.zero) (R.add (R.mul h R.zero) (R.mul i R.zero))))
            (R.add (R.mul e (R.add (R.mul g R.zero) (R.add (R.mul h R.zero) (R.mul i (rows s t u)))))
            (R.mul f (R.add (R.mul g R.zero) (R.add (R.mul h (R.neg (rows s t u))) (R.mul i R.zero)))))
        at_s = second s ∙ three d e f _ _ _ _ _ _
            (third s s ∙ three g h i _ _ _ _ _ _ (rows-right s s) (rows-right s t) (rows-right s u))
            (third t s ∙ three g h i _ _ _ _ _ _ (rows-left s t) (rows-ends t s) ust)
            (third u s ∙ three g h i _ _ _ _ _ _ (rows-left s u) tsu (rows-ends u s))

        at_t : rows t (mixed d e f) (mixed g h i) ≡ R.add (R.mul d (R.add (R.mul g R.zero) (R.add (R.mul h R.zero) (R.mul i (R.neg (rows s t u))))))
            (R.add (R.mul e (R.add (R.mul g R.zero) (R.add (R.mul h R.zero) (R.mul i R.zero))))
            (R.mul f (R.add (R.mul g (rows s t u)) (R.add (R.mul h R.zero) (R.mul i R.zero)))))
        at_t = second t ∙ three d e f _ _ _ _ _ _
            (third s t ∙ three g h i _ _ _ _ _ _ (rows-ends s t) (rows-left t s) uts)
            (third t t ∙ three g h i _ _ _ _ _ _ (rows-right t s) (rows-right t t) (rows-right t u))
            (third u t ∙ three g h i _ _ _ _ _ _ stu (rows-left t u) (rows-ends u t))

        at_u : rows u (mixed d e f) (mixed g h i) ≡ R.add (R.mul d (R.add (R.mul g R.zero) (R.add (R.mul h (rows s t u)) (R.mul i R.zero))))
            (R.add (R.mul e (R.add (R.mul g (R.neg (rows s t u))) (R.add (R.mul h R.zero) (R.mul i R.zero))))
            (R.mul f (R.add (R.mul g R.zero) (R.add (R.mul h R.zero) (R.mul i R.zero)))))
        at_u = second u ∙ three d e f _ _ _ _ _ _
            (third s u ∙ three g h i _ _ _ _ _ _ (rows-ends s u) tus (rows-left u s))
            (third t u ∙ three g h i _ _ _ _ _ _ sut (rows-ends t u) (rows-left u t))
            (third u u ∙ three g h i _ _ _ _ _ _ (rows-right u s) (rows-right u t) (rows-right u u))

        collected : (a b c m : R.Carrier) → R.add (R.mul a (R.add (R.mul d (R.add (R.mul g R.zero) (R.add (R.mul h R.zero) (R.mul i R.zero))))
            (R.add (R.mul e (R.add (R.mul g R.zero) (R.add (R.mul h R.zero) (R.mul i m))))
            (R.mul f (R.add (R.mul g R.zero) (R.add (R.mul h (R.neg m)) (R.mul i R.zero)))))))
            (R.add (R.mul b (R.add (R.mul d (R.add (R.mul g R.zero) (R.add (R.mul h R.zero) (R.mul i (R.neg m)))))
            (R.add (R.mul e (R.add (R.mul g R.zero) (R.add (R.mul h R.zero) (R.mul i R.zero))))
            (R.mul f (R.add (R.mul g m) (R.add (R.mul h R.zero) (R.mul i R.zero)))))))
            (R.mul c (R.add (R.mul d (R.add (R.mul g R.zero) (R.add (R.mul h m) (R.mul i R.zero))))
            (R.add (R.mul e (R.add (R.mul g (R.neg m)) (R.add (R.mul h R.zero) (R.mul i R.zero))))
            (R.mul f (R.add (R.mul g R.zero) (R.add (R.mul h R.zero) (R.mul i R.zero))))))))
            ≡ R.mul (sarrus a b c d e f g h i) m
        collected a b c m = simp (ring_laws, R)

        rows_mul : (a b c : R.Carrier) → rows (mixed a b c) (mixed d e f) (mixed g h i) ≡ R.mul (sarrus a b c d e f g h i) (rows s t u)
        rows_mul a b c = rows-mixed a b c (mixed d e f) (mixed g h i) ∙ three a b c _ _ _ _ _ _ at_s at_t at_u ∙ collected a b c (rows s t u)

determinant-mul : (A B : Rotation) → determinant (A · B) ≡ determinant A *ℤ determinant B
unfolding determinant ◌·◌ sum rows
determinant-mul A B = rows_mul integers (B.at first) (B.at (next first)) (B.at (next (next first)))
    (A.at (next (next first)) first) (A.at (next (next first)) (next first)) (A.at (next (next first)) (next (next first)))
    (A.at (next first) first) (A.at (next first) (next first)) (A.at (next first) (next (next first)))
    (A.at first first) (A.at first (next first)) (A.at first (next (next first)))

determinant-unit : determinant (unit integers 3) ≡ pos 1
unfolding determinant unit delta
determinant-unit = refl

pub unimodular_of_inverse : (A B : Rotation) → A · B ≡ unit integers 3 → unsigned_abs (determinant A) ≡ 1
unimodular_of_inverse A B e =
    let one : unsigned_abs (determinant A) * unsigned_abs (determinant B) ≡ 1
    = sym (unsigned_abs-mul (determinant A) (determinant B)) ∙ ap unsigned_abs (sym (determinant-mul A B) ∙ ap determinant e ∙ determinant-unit) in
    Nat.eq-one_of_dvd-one (subst (λ n. unsigned_abs (determinant A) ∣ n) one
    (Nat.dvd-mul_right (unsigned_abs (determinant A)) (unsigned_abs (determinant B))))
