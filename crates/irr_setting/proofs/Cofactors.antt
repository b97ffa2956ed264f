-- The rule of Sarrus and the expansion by cofactors.
--   mul-adjugate           m times the adjugate is the determinant on the diagonal
--   determinant_row        the determinant, expanded by the first row
use Rattle.std.proofs.Common.{◌≡◌, sym, refl, ◌∙◌, ap, ap₂, ℤ, pos, ◌+ℤ◌, ◌-ℤ◌, ◌*ℤ◌, neg_ℤ, arith}
use Rattle.std.proofs.lemmas.Int.{ints}
use Rattle.irr_algebra.specs.Fin.{Fin}
use Rattle.irr_algebra.specs.Fin.Fin.{first, next}
use Rattle.irr_algebra.specs.Sum.{sum, delta}
use Rattle.irr_algebra.specs.Matrix.{Matrix, ◌·◌, unit, scale}
use Rattle.irr_algebra.proofs.Matrices.{matrix-ext}
use Rattle.irr_algebra.proofs.Rings.{mul_left_comm, mul-neg, mul-zero}
use Rattle.irr_number.specs.Integers.{integers, *ℤ_assoc, *ℤ-+ℤ, *ℤ-one}
use lib.IntN.{*ℤ_comm}
use Rattle.irr_space.specs.Operation.{Rotation}
use Rattle.irr_rat.proofs.Vectors.{each_of_three}
use Rattle.irr_seitz.proofs.Rotations.{three_sum}
use Rattle.irr_setting.specs.Determinant.{determinant_in, after, cofactor, adjugate}

-- the determinant of three rows
triple : (a b c p q r x y z : ℤ) → ℤ
triple a b c p q r x y z = ((a *ℤ ((q *ℤ z) -ℤ (r *ℤ y))) +ℤ (b *ℤ ((r *ℤ x) -ℤ (p *ℤ z)))) +ℤ (c *ℤ ((p *ℤ y) -ℤ (q *ℤ x)))

mul-sub_z : (a x y : ℤ) → a *ℤ (x -ℤ y) ≡ (a *ℤ x) -ℤ (a *ℤ y)
mul-sub_z a x y = *ℤ-+ℤ a x (neg_ℤ y) ∙ ap (λ w. (a *ℤ x) +ℤ w) (mul-neg integers a y)

expanded : (a b c p q r x y z : ℤ) → triple a b c p q r x y z
    ≡ (((a *ℤ (q *ℤ z)) -ℤ (a *ℤ (r *ℤ y))) +ℤ ((b *ℤ (r *ℤ x)) -ℤ (b *ℤ (p *ℤ z)))) +ℤ ((c *ℤ (p *ℤ y)) -ℤ (c *ℤ (q *ℤ x)))
unfolding triple
expanded a b c p q r x y z = ap₂ ◌+ℤ◌ (ap₂ ◌+ℤ◌ (mul-sub_z a (q *ℤ z) (r *ℤ y)) (mul-sub_z b (r *ℤ x) (p *ℤ z))) (mul-sub_z c (p *ℤ y) (q *ℤ x))

ends : (x y z : ℤ) → x *ℤ (y *ℤ z) ≡ z *ℤ (y *ℤ x)
ends x y z = ap (λ w. x *ℤ w) (*ℤ_comm y z) ∙ mul_left_comm integers x z y ∙ ap (λ w. z *ℤ w) (*ℤ_comm x y)

turn : (x y z : ℤ) → x *ℤ (y *ℤ z) ≡ z *ℤ (x *ℤ y)
turn x y z = sym (*ℤ_assoc x y z) ∙ *ℤ_comm (x *ℤ y) z

cancelled : (p q s : ℤ) → ((p -ℤ q) +ℤ (s -ℤ p)) +ℤ (q -ℤ s) ≡ pos 0
cancelled p q s = omega (arith, ints)

same_left : (p q r x y z : ℤ) → triple p q r p q r x y z ≡ pos 0
same_left p q r x y z = expanded p q r p q r x y z
    ∙ ap₂ ◌+ℤ◌ (ap₂ ◌+ℤ◌ refl (ap (λ w. (q *ℤ (r *ℤ x)) -ℤ w) (mul_left_comm integers q p z))) (ap₂ ◌-ℤ◌ (mul_left_comm integers r p y) (mul_left_comm integers r q x))
    ∙ cancelled (p *ℤ (q *ℤ z)) (p *ℤ (r *ℤ y)) (q *ℤ (r *ℤ x))

cancelled_right : (p q s : ℤ) → ((p -ℤ q) +ℤ (q -ℤ s)) +ℤ (s -ℤ p) ≡ pos 0
cancelled_right p q s = omega (arith, ints)

same_right : (p q r x y z : ℤ) → triple x y z p q r x y z ≡ pos 0
same_right p q r x y z = expanded x y z p q r x y z
    ∙ ap₂ ◌+ℤ◌ (ap₂ ◌+ℤ◌ refl (ap (λ w. w -ℤ (y *ℤ (p *ℤ z))) (ends y r x))) (ap₂ ◌-ℤ◌ (ends z p y) (ends z q x))
    ∙ cancelled_right (x *ℤ (q *ℤ z)) (x *ℤ (r *ℤ y)) (y *ℤ (p *ℤ z))

-- rows counted round
sorted : (f a b d c e : ℤ) → ((a -ℤ b) +ℤ (c -ℤ d)) +ℤ (e -ℤ f) ≡ ((c -ℤ f) +ℤ (e -ℤ b)) +ℤ (a -ℤ d)
sorted f a b d c e = omega (arith, ints)

cyclic : (a b c p q r x y z : ℤ) → triple p q r x y z a b c ≡ triple a b c p q r x y z
cyclic a b c p q r x y z = expanded p q r x y z a b c
    ∙ ap₂ ◌+ℤ◌ (ap₂ ◌+ℤ◌ (ap₂ ◌-ℤ◌ (turn p y c) (turn p z b)) (ap₂ ◌-ℤ◌ (turn q z a) (turn q x c))) (ap₂ ◌-ℤ◌ (turn r x b) (turn r y a))
    ∙ sorted (a *ℤ (r *ℤ y)) (c *ℤ (p *ℤ y)) (b *ℤ (p *ℤ z)) (c *ℤ (q *ℤ x)) (a *ℤ (q *ℤ z)) (b *ℤ (r *ℤ x))
    ∙ sym (expanded a b c p q r x y z)

by_sarrus : (a b c d e f : ℤ) → ((a +ℤ b) +ℤ c) -ℤ ((d +ℤ e) +ℤ f) ≡ ((a -ℤ f) +ℤ (b -ℤ e)) +ℤ (c -ℤ d)
by_sarrus a b c d e f = omega (arith, ints)

-- the rows of m
rows : Rotation → Fin 3 → Fin 3 → Fin 3 → ℤ
rows m i j k = triple (m.at i first) (m.at i (next first)) (m.at i (next (next first))) (m.at j first) (m.at j (next first)) (m.at j (next (next first))) (m.at k first) (m.at k (next first)) (m.at k (next (next first)))

sarrus : (x y z u v w p q r : ℤ) → (((((x *ℤ v) *ℤ r) +ℤ ((y *ℤ w) *ℤ p)) +ℤ ((z *ℤ u) *ℤ q)) -ℤ ((((z *ℤ v) *ℤ p) +ℤ ((y *ℤ u) *ℤ r)) +ℤ ((x *ℤ w) *ℤ q))) ≡ triple x y z u v w p q r
sarrus x y z u v w p q r = by_sarrus ((x *ℤ v) *ℤ r) ((y *ℤ w) *ℤ p) ((z *ℤ u) *ℤ q) ((z *ℤ v) *ℤ p) ((y *ℤ u) *ℤ r) ((x *ℤ w) *ℤ q)
    ∙ ap₂ ◌+ℤ◌ (ap₂ ◌+ℤ◌ (ap₂ ◌-ℤ◌ (*ℤ_assoc x v r) (*ℤ_assoc x w q)) (ap₂ ◌-ℤ◌ (*ℤ_assoc y w p) (*ℤ_assoc y u r))) (ap₂ ◌-ℤ◌ (*ℤ_assoc z u q) (*ℤ_assoc z v p))
    ∙ sym (expanded x y z u v w p q r)

determinant-rows : (m : Rotation) → determinant_in integers m ≡ rows m first (next first) (next (next first))
unfolding determinant_in rows
determinant-rows m = sarrus (m.at first first) (m.at first (next first)) (m.at first (next (next first)))
    (m.at (next first) first) (m.at (next first) (next first)) (m.at (next first) (next (next first)))
    (m.at (next (next first)) first) (m.at (next (next first)) (next first)) (m.at (next (next first)) (next (next first)))

pub determinant_row : (m : Rotation) → determinant_in integers m
    ≡ ((m.at first first *ℤ cofactor m first first) +ℤ (m.at first (next first) *ℤ cofactor m first (next first))) +ℤ (m.at first (next (next first)) *ℤ cofactor m first (next (next first)))
unfolding rows triple
determinant_row m = determinant-rows m

product-rows : (m : Rotation) (i j : Fin 3) → (m · adjugate m).at i j ≡ rows m i (after j) (after (after j))
unfolding adjugate ◌·◌ sum rows triple
product-rows m i j = sym (three_sum (m.at i first *ℤ cofactor m j first) (m.at i (next first) *ℤ cofactor m j (next first)) (m.at i (next (next first)) *ℤ cofactor m j (next (next first))))

left_rows : (m : Rotation) (i k : Fin 3) → rows m i i k ≡ pos 0
unfolding rows
left_rows m i k = same_left (m.at i first) (m.at i (next first)) (m.at i (next (next first))) (m.at k first) (m.at k (next first)) (m.at k (next (next first)))

right_rows : (m : Rotation) (i j : Fin 3) → rows m i j i ≡ pos 0
unfolding rows
right_rows m i j = same_right (m.at j first) (m.at j (next first)) (m.at j (next (next first))) (m.at i first) (m.at i (next first)) (m.at i (next (next first)))

cyclic_rows : (m : Rotation) (i j k : Fin 3) → rows m j k i ≡ rows m i j k
unfolding rows
cyclic_rows m i j k = cyclic (m.at i first) (m.at i (next first)) (m.at i (next (next first))) (m.at j first) (m.at j (next first)) (m.at j (next (next first))) (m.at k first) (m.at k (next first)) (m.at k (next (next first)))

pub mul-adjugate : (m : Rotation) → m · adjugate m ≡ scale integers (determinant_in integers m) (unit integers 3)
unfolding unit delta scale
mul-adjugate m = matrix-ext (each_of_three (λ i. (j : Fin 3) → (m · adjugate m).at i j ≡ (scale integers d (unit integers 3)).at i j)
    (each_of_three (λ j. (m · adjugate m).at first j ≡ (scale integers d (unit integers 3)).at first j) (one first first same) (none first (next first) (right_rows m first (next (next first)))) (none first (next (next first)) (left_rows m first (next first))))
    (each_of_three (λ j. (m · adjugate m).at (next first) j ≡ (scale integers d (unit integers 3)).at (next first) j) (none (next first) first (left_rows m (next first) (next (next first)))) (one (next first) (next first) (cyclic_rows m first (next first) (next (next first)) ∙ same)) (none (next first) (next (next first)) (right_rows m (next first) first)))
    (each_of_three (λ j. (m · adjugate m).at (next (next first)) j ≡ (scale integers d (unit integers 3)).at (next (next first)) j) (none (next (next first)) first (right_rows m (next (next first)) (next first))) (none (next (next first)) (next first) (left_rows m (next (next first)) first))
    (one (next (next first)) (next (next first)) (cyclic_rows m (next first) (next (next first)) first ∙ cyclic_rows m first (next first) (next (next first)) ∙ same))))
  where
    d : ℤ
    d = determinant_in integers m

    same : rows m first (next first) (next (next first)) ≡ d
    same = sym (determinant-rows m)

    one : (i j : Fin 3) → rows m i (after j) (after (after j)) ≡ d → (m · adjugate m).at i j ≡ d *ℤ pos 1
    one i j f = product-rows m i j ∙ f ∙ sym (*ℤ-one d)

    none : (i j : Fin 3) → rows m i (after j) (after (after j)) ≡ pos 0 → (m · adjugate m).at i j ≡ d *ℤ pos 0
    none i j f = product-rows m i j ∙ f ∙ sym (mul-zero integers d)
