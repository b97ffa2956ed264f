-- The inverse of a rotation by its cofactors.
--   after i               the index after i, counted round
--   cofactor R i j        the cofactor of an entry
--   adjoint d R           d times the cofactors, rows and columns exchanged
--   mul-adjoint           R times it is the unit where d is the determinant, 1 or -1
--   adjoint-mul           and from the other side
use Rattle.std.proofs.Common.{◌≡◌, sym, refl, ◌∙◌, ap, ap₂, ℤ, pos, negsuc, ◌+ℤ◌, ◌-ℤ◌, ◌*ℤ◌, neg_ℤ, unsigned_abs, ◌⊎◌, inl, inr, arith}
use Rattle.std.proofs.lemmas.Int.{ints}
use Rattle.irr_algebra.specs.Fin.{Fin}
use Rattle.irr_algebra.specs.Fin.Fin.{first, next}
use Rattle.irr_algebra.specs.Sum.{sum, delta}
use Rattle.irr_algebra.specs.Matrix.{Matrix, ◌·◌, unit}
use Rattle.irr_algebra.proofs.Matrices.{matrix-ext}
use Rattle.irr_algebra.proofs.Rank.{square_inverse}
use Rattle.irr_algebra.proofs.Rings.{mul_left_comm, mul-neg, mul-zero}
use Rattle.irr_number.specs.Integers.{integers, *ℤ_assoc, *ℤ-+ℤ}
use lib.IntN.{*ℤ_comm}
use Rattle.irr_rational.specs.Integer.{whole_matrix}
use Rattle.irr_rational.specs.Rational.{rationals, rational_field}
use Rattle.irr_rational.proofs.Integers.{whole_matrix-mul, whole_matrix-unit, integer_inj}
use Rattle.irr_space.specs.Operation.{Rotation}
use Rattle.irr_rat.proofs.Vectors.{each_of_three}
use Rattle.irr_seitz.specs.Rotation.{determinant, signed_sum}
use Rattle.irr_seitz.proofs.Rotations.{three_sum}

abbrev pub after : Fin 3 → Fin 3
after first = next first
after (next first) = next (next first)
after (next (next first)) = first
after (next (next (next i))) = first

abbrev pub cofactor : Rotation → Fin 3 → Fin 3 → ℤ
cofactor R i j = (R.at (after i) (after j) *ℤ R.at (after (after i)) (after (after j))) -ℤ (R.at (after i) (after (after j)) *ℤ R.at (after (after i)) (after j))

unfoldable pub adjoint : ℤ → Rotation → Rotation
adjoint d R = record { at = λ i j. d *ℤ cofactor R j i }

-- the determinant of three rows
triple : (a b c p q r x y z : ℤ) → ℤ
triple a b c p q r x y z = ((a *ℤ ((q *ℤ z) -ℤ (r *ℤ y))) +ℤ (b *ℤ ((r *ℤ x) -ℤ (p *ℤ z)))) +ℤ (c *ℤ ((p *ℤ y) -ℤ (q *ℤ x)))

mul-sub_z : (a x y : ℤ) → a *ℤ (x -ℤ y) ≡ (a *ℤ x) -ℤ (a *ℤ y)
mul-sub_z a x y = *ℤ-+ℤ a x (neg_ℤ y) ∙ ap (λ w. (a *ℤ x) +ℤ w) (mul-neg integers a y)

expanded : (a b c p q r x y z : ℤ) → triple a b c p q r x y z
    ≡ (((a *ℤ (q *ℤ z)) -ℤ (a *ℤ (r *ℤ y))) +ℤ ((b *ℤ (r *ℤ x)) -ℤ (b *ℤ (p *ℤ z)))) +ℤ ((c *ℤ (p *ℤ y)) -ℤ (c *ℤ (q *ℤ x)))
unfolding triple
expanded a b c p q r x y z = ap₂ ◌+ℤ◌ (ap₂ ◌+ℤ◌ (mul-sub_z a (q *ℤ z) (r *ℤ y)) (mul-sub_z b (r *ℤ x) (p *ℤ z))) (mul-sub_z c (p *ℤ y) (q *ℤ x))

ends : (x y z : ℤ) → x *ℤ (y *ℤ z) ≡ z *ℤ (y *ℤ x)
ends x y z = ap (λ w. x *ℤ w) (*ℤ_comm y z) ∙ mul_left_comm integers x z y ∙ ap (λ w. z *ℤ w) (*ℤ_comm x y)

turn : (x y z : ℤ) → x *ℤ (y *ℤ z) ≡ z *ℤ (x *ℤ y)
turn x y z = sym (*ℤ_assoc x y z) ∙ *ℤ_comm (x *ℤ y) z

cancelled : (p q s : ℤ) → ((p -ℤ q) +ℤ (s -ℤ p)) +ℤ (q -ℤ s) ≡ pos 0
cancelled p q s = omega (arith, ints)

same_left : (p q r x y z : ℤ) → triple p q r p q r x y z ≡ pos 0
same_left p q r x y z = expanded p q r p q r x y z
    ∙ ap₂ ◌+ℤ◌ (ap₂ ◌+ℤ◌ refl (ap (λ w. (q *ℤ (r *ℤ x)) -ℤ w) (mul_left_comm integers q p z))) (ap₂ ◌-ℤ◌ (mul_left_comm integers r p y) (mul_left_comm integers r q x))
    ∙ cancelled (p *ℤ (q *ℤ z)) (p *ℤ (r *ℤ y)) (q *ℤ (r *ℤ x))

cancelled_right : (p q s : ℤ) → ((p -ℤ q) +ℤ (q -ℤ s)) +ℤ (s -ℤ p) ≡ pos 0
cancelled_right p q s = omega (arith, ints)

same_right : (p q r x y z : ℤ) → triple x y z p q r x y z ≡ pos 0
same_right p q r x y z = expanded x y z p q r x y z
    ∙ ap₂ ◌+ℤ◌ (ap₂ ◌+ℤ◌ refl (ap (λ w. w -ℤ (y *ℤ (p *ℤ z))) (ends y r x))) (ap₂ ◌-ℤ◌ (ends z p y) (ends z q x))
    ∙ cancelled_right (x *ℤ (q *ℤ z)) (x *ℤ (r *ℤ y)) (y *ℤ (p *ℤ z))

-- rows counted round
sorted : (f a b d c e : ℤ) → ((a -ℤ b) +ℤ (c -ℤ d)) +ℤ (e -ℤ f) ≡ ((c -ℤ f) +ℤ (e -ℤ b)) +ℤ (a -ℤ d)
sorted f a b d c e = omega (arith, ints)

cyclic : (a b c p q r x y z : ℤ) → triple p q r x y z a b c ≡ triple a b c p q r x y z
cyclic a b c p q r x y z = expanded p q r x y z a b c
    ∙ ap₂ ◌+ℤ◌ (ap₂ ◌+ℤ◌ (ap₂ ◌-ℤ◌ (turn p y c) (turn p z b)) (ap₂ ◌-ℤ◌ (turn q z a) (turn q x c))) (ap₂ ◌-ℤ◌ (turn r x b) (turn r y a))
    ∙ sorted (a *ℤ (r *ℤ y)) (c *ℤ (p *ℤ y)) (b *ℤ (p *ℤ z)) (c *ℤ (q *ℤ x)) (a *ℤ (q *ℤ z)) (b *ℤ (r *ℤ x))
    ∙ sym (expanded a b c p q r x y z)

by_sarrus : (a b c d e f : ℤ) → ((a +ℤ b) +ℤ c) -ℤ ((d +ℤ e) +ℤ f) ≡ ((a -ℤ f) +ℤ (b -ℤ e)) +ℤ (c -ℤ d)
by_sarrus a b c d e f = omega (arith, ints)

-- the rows of R
rows : Rotation → Fin 3 → Fin 3 → Fin 3 → ℤ
rows R i j k = triple (R.at i first) (R.at i (next first)) (R.at i (next (next first))) (R.at j first) (R.at j (next first)) (R.at j (next (next first))) (R.at k first) (R.at k (next first)) (R.at k (next (next first)))

sarrus : (x y z u v w p q r : ℤ) → signed_sum x y z u v w p q r ≡ triple x y z u v w p q r
sarrus x y z u v w p q r = by_sarrus ((x *ℤ v) *ℤ r) ((y *ℤ w) *ℤ p) ((z *ℤ u) *ℤ q) ((z *ℤ v) *ℤ p) ((y *ℤ u) *ℤ r) ((x *ℤ w) *ℤ q)
    ∙ ap₂ ◌+ℤ◌ (ap₂ ◌+ℤ◌ (ap₂ ◌-ℤ◌ (*ℤ_assoc x v r) (*ℤ_assoc x w q)) (ap₂ ◌-ℤ◌ (*ℤ_assoc y w p) (*ℤ_assoc y u r))) (ap₂ ◌-ℤ◌ (*ℤ_assoc z u q) (*ℤ_assoc z v p))
    ∙ sym (expanded x y z u v w p q r)

determinant-rows : (R : Rotation) → determinant R ≡ rows R first (next first) (next (next first))
unfolding determinant rows
determinant-rows R = sarrus (R.at first first) (R.at first (next first)) (R.at first (next (next first)))
    (R.at (next first) first) (R.at (next first) (next first)) (R.at (next first) (next (next first)))
    (R.at (next (next first)) first) (R.at (next (next first)) (next first)) (R.at (next (next first)) (next (next first)))

pulled : (d a b c x y z : ℤ) → (a *ℤ (d *ℤ x)) +ℤ ((b *ℤ (d *ℤ y)) +ℤ ((c *ℤ (d *ℤ z)) +ℤ pos 0)) ≡ d *ℤ (((a *ℤ x) +ℤ (b *ℤ y)) +ℤ (c *ℤ z))
pulled d a b c x y z = sym (three_sum (a *ℤ (d *ℤ x)) (b *ℤ (d *ℤ y)) (c *ℤ (d *ℤ z)))
    ∙ ap₂ ◌+ℤ◌ (ap₂ ◌+ℤ◌ (mul_left_comm integers a d x) (mul_left_comm integers b d y)) (mul_left_comm integers c d z)
    ∙ sym (*ℤ-+ℤ d ((a *ℤ x) +ℤ (b *ℤ y)) (c *ℤ z) ∙ ap (λ w. w +ℤ (d *ℤ (c *ℤ z))) (*ℤ-+ℤ d (a *ℤ x) (b *ℤ y)))

product-rows : (d : ℤ) (R : Rotation) (i j : Fin 3) → (R · adjoint d R).at i j ≡ d *ℤ rows R i (after j) (after (after j))
unfolding adjoint ◌·◌ sum rows triple
product-rows d R i j = pulled d (R.at i first) (R.at i (next first)) (R.at i (next (next first))) (cofactor R j first) (cofactor R j (next first)) (cofactor R j (next (next first)))

left_rows : (R : Rotation) (i k : Fin 3) → rows R i i k ≡ pos 0
unfolding rows
left_rows R i k = same_left (R.at i first) (R.at i (next first)) (R.at i (next (next first))) (R.at k first) (R.at k (next first)) (R.at k (next (next first)))

right_rows : (R : Rotation) (i j : Fin 3) → rows R i j i ≡ pos 0
unfolding rows
right_rows R i j = same_right (R.at j first) (R.at j (next first)) (R.at j (next (next first))) (R.at i first) (R.at i (next first)) (R.at i (next (next first)))

cyclic_rows : (R : Rotation) (i j k : Fin 3) → rows R j k i ≡ rows R i j k
unfolding rows
cyclic_rows R i j k = cyclic (R.at i first) (R.at i (next first)) (R.at i (next (next first))) (R.at j first) (R.at j (next first)) (R.at j (next (next first))) (R.at k first) (R.at k (next first)) (R.at k (next (next first)))

square_one : (d : ℤ) → unsigned_abs d ≡ 1 → d *ℤ d ≡ pos 1
square_one d h = squared d (unit_sign d h)
  where
    unit_sign : (d : ℤ) → unsigned_abs d ≡ 1 → (d ≡ pos 1) ⊎ (d ≡ negsuc 0)
    unit_sign (pos n) h = inl (ap pos h)
    unit_sign (negsuc n) h = inr (let e : n ≡ 0 = omega arith in ap negsuc e)

    squared : (d : ℤ) → (d ≡ pos 1) ⊎ (d ≡ negsuc 0) → d *ℤ d ≡ pos 1
    squared d (inl e) = ap (λ x. x *ℤ x) e
    squared d (inr e) = ap (λ x. x *ℤ x) e

pub mul-adjoint : (d : ℤ) (R : Rotation) → determinant R ≡ d → unsigned_abs d ≡ 1 → R · adjoint d R ≡ unit integers 3
unfolding unit delta
mul-adjoint d R e h = matrix-ext (each_of_three (λ i. (j : Fin 3) → (R · adjoint d R).at i j ≡ (unit integers 3).at i j)
    (each_of_three (λ j. (R · adjoint d R).at first j ≡ (unit integers 3).at first j) (one first first same) (none first (next first) (right first (next (next first)))) (none first (next (next first)) (left first (next first))))
    (each_of_three (λ j. (R · adjoint d R).at (next first) j ≡ (unit integers 3).at (next first) j) (none (next first) first (left (next first) (next (next first)))) (one (next first) (next first) (once first (next first) (next (next first)) ∙ same)) (none (next first) (next (next first)) (right (next first) first)))
    (each_of_three (λ j. (R · adjoint d R).at (next (next first)) j ≡ (unit integers 3).at (next (next first)) j) (none (next (next first)) first (right (next (next first)) (next first))) (none (next (next first)) (next first) (left (next (next first)) first))
    (one (next (next first)) (next (next first)) (once (next first) (next (next first)) first ∙ once first (next first) (next (next first)) ∙ same))))
  where
    same : rows R first (next first) (next (next first)) ≡ d
    same = sym (determinant-rows R) ∙ e

    one : (i j : Fin 3) → rows R i (after j) (after (after j)) ≡ d → (R · adjoint d R).at i j ≡ pos 1
    one i j f = product-rows d R i j ∙ ap (λ w. d *ℤ w) f ∙ square_one d h

    none : (i j : Fin 3) → rows R i (after j) (after (after j)) ≡ pos 0 → (R · adjoint d R).at i j ≡ pos 0
    none i j f = product-rows d R i j ∙ ap (λ w. d *ℤ w) f ∙ mul-zero integers d

    left : (i k : Fin 3) → rows R i i k ≡ pos 0
    left i k = left_rows R i k

    right : (i j : Fin 3) → rows R i j i ≡ pos 0
    right i j = right_rows R i j

    once : (i j k : Fin 3) → rows R j k i ≡ rows R i j k
    once i j k = cyclic_rows R i j k

-- from the other side, by way of the rational numbers
pub adjoint-mul : (R S : Rotation) → R · S ≡ unit integers 3 → S · R ≡ unit integers 3
unfolding whole_matrix
adjoint-mul R S e = matrix-ext (λ i j. integer_inj rational_field _ _ (ap (λ (m : Matrix rationals 3 3). m.at i j) over))
  where
    over : whole_matrix rationals (S · R) ≡ whole_matrix rationals (unit integers 3)
    over = whole_matrix-mul rationals S R
        ∙ square_inverse rational_field (whole_matrix rationals S) (whole_matrix rationals R) (sym (whole_matrix-mul rationals R S) ∙ ap (whole_matrix rationals) e ∙ whole_matrix-unit rationals 3)
        ∙ sym (whole_matrix-unit rationals 3)
