-- Square roots and cube roots from matrices.
use Rattle.std.proofs.Common.{◌≡◌, sym, ◌∙◌, ap, subst, ℕ, zero, suc, ◌⊎◌, inl, inr, arith}
use Rattle.irr_algebra.specs.Ring.{Ring}
use Rattle.irr_algebra.specs.Field.{Field}
use Rattle.irr_algebra.specs.Fin.{Fin, to_nat}
use Rattle.irr_algebra.specs.Fin.Fin.{first, next}
use Rattle.irr_algebra.specs.Sum.{sum, delta}
use Rattle.irr_algebra.specs.Matrix.{Matrix, ◌·◌, scale, unit, trace}
use Rattle.irr_algebra.proofs.Rings.{ring_laws, zero-mul}
use Rattle.irr_algebra.proofs.Fields.{mul-ne-zero}
use Rattle.irr_algebra.proofs.Matrices.{matrix-ext}
use Rattle.irr_theory.specs.Extension.{matrix_power}
use Rattle.irr_eigen.specs.Power.{power, Root}
use Rattle.irr_eigen.proofs.Powers.{power-suc, mul-power, one-power}
use Rattle.irr_eigen.proofs.Descent.{root_of_single, Splits, root_of_trace}
use Rattle.irr_eigen.proofs.Cyclic.{SmallRoots, cyclic-splits, orbit, mul-orbit, orbit-not-null}

-- u on the list v, u v, where the square of u is c
unfoldable square_block : (R : Ring) → R.Carrier → Fin 2 → Fin 2 → R.Carrier
square_block R c first first = R.zero
square_block R c first (next j) = c
square_block R c (next i) first = R.one
square_block R c (next i) (next j) = R.zero

-- u on the list v, u v, u (u v), where the cube of u is c
unfoldable cube_block : (R : Ring) → R.Carrier → Fin 3 → Fin 3 → R.Carrier
cube_block R c first first = R.zero
cube_block R c first (next first) = R.zero
cube_block R c first (next (next j)) = c
cube_block R c (next first) first = R.one
cube_block R c (next first) (next j) = R.zero
cube_block R c (next (next i)) first = R.zero
cube_block R c (next (next i)) (next first) = R.one
cube_block R c (next (next i)) (next (next j)) = R.zero

square_trace : (R : Ring) (c : R.Carrier) → trace {R = R} {n = 2} (record { at = square_block R c }) ≡ R.zero
unfolding trace sum square_block
square_trace R c = simp (ring_laws, R)

cube_trace : (R : Ring) (c : R.Carrier) → trace {R = R} {n = 3} (record { at = cube_block R c }) ≡ R.zero
unfolding trace sum cube_block
cube_trace R c = simp (ring_laws, R)

module _ (R : Ring) where
  open R use {Carrier, zero as 𝟘, one as 𝟙, add as ◌+◌, mul as ◌*◌, neg}

  infixl 65 ◌+◌
  infixl 70 ◌*◌
  first_of_two : (c x y : Carrier) → x * c + (y * 𝟘 + 𝟘) ≡ c * x
  first_of_two c x y = simp (ring_laws, R)

  second_of_two : (x y : Carrier) → x * 𝟘 + (y * 𝟙 + 𝟘) ≡ y
  second_of_two x y = simp (ring_laws, R)

  first_of_three : (c x y z : Carrier) → x * c + (y * 𝟘 + (z * 𝟘 + 𝟘)) ≡ c * x
  first_of_three c x y z = simp (ring_laws, R)

  second_of_three : (x y z : Carrier) → x * 𝟘 + (y * 𝟙 + (z * 𝟘 + 𝟘)) ≡ y
  second_of_three x y z = simp (ring_laws, R)

  third_of_three : (x y z : Carrier) → x * 𝟘 + (y * 𝟘 + (z * 𝟙 + 𝟘)) ≡ z
  third_of_three x y z = simp (ring_laws, R)

  -- parts of a difference moved across
  across : (a b d e : Carrier) → a + e ≡ b + d → a + neg b ≡ d + neg e
  across a b d e h = sym (simp (ring_laws, R)) ∙ ap (λ x. x + (neg b + neg e)) h ∙ simp (ring_laws, R)

  determinant_of_product : (a b c d x y z w : Carrier)
      → (a * x + (b * z + 𝟘)) * (c * y + (d * w + 𝟘)) + neg ((a * y + (b * w + 𝟘)) * (c * x + (d * z + 𝟘)))
      ≡ (a * d + neg (b * c)) * (x * w + neg (y * z))
  determinant_of_product a b c d x y z w =
      across ((a * x + (b * z + 𝟘)) * (c * y + (d * w + 𝟘))) ((a * y + (b * w + 𝟘)) * (c * x + (d * z + 𝟘)))
      (a * d * (x * w) + b * c * (y * z)) (a * d * (y * z) + b * c * (x * w)) (simp (ring_laws, R))
      ∙ sym (simp (ring_laws, R))

  determinant_of_scalar : (c : Carrier) → c * 𝟙 * (c * 𝟙) + neg (c * 𝟘 * (c * 𝟘)) ≡ c * c
  determinant_of_scalar c = simp (ring_laws, R)

  determinant_of_unit : 𝟙 * 𝟙 + neg (𝟘 * 𝟘) ≡ 𝟙
  determinant_of_unit = simp (ring_laws, R)

-- the first column of the p-th power
last_column : {R : Ring} {n : ℕ} (p : ℕ) (c : R.Carrier) (u : Matrix R (suc n) (suc n)) → matrix_power u p ≡ scale R c (unit R (suc n))
    → (i : Fin (suc n)) → (matrix_power u p).at i first ≡ R.mul c ((matrix_power u 0).at i first)
unfolding scale matrix_power
last_column {R} {n} p c u e i = ap (λ (x : Matrix R (suc n) (suc n)). x.at i first) e

square_stays : {R : Ring} {n : ℕ} (c : R.Carrier) (u : Matrix R (suc n) (suc n)) → matrix_power u 2 ≡ scale R c (unit R (suc n))
    → u · orbit 2 u ≡ orbit 2 u · record { at = square_block R c }
unfolding orbit square_block ◌·◌ sum to_nat
square_stays {R} {n} c u e = matrix-ext entries
  where
    entries : (i : Fin (suc n)) (j : Fin 2) → (u · orbit 2 u).at i j ≡ (orbit 2 u · record { at = square_block R c }).at i j
    entries i first = mul-orbit 2 u i first ∙ sym (second_of_two R _ _)
    entries i (next first) = mul-orbit 2 u i (next first) ∙ last_column 2 c u e i ∙ sym (first_of_two R c _ _)
    entries i (next (next j)) = elim j [ ]

cube_stays : {R : Ring} {n : ℕ} (c : R.Carrier) (u : Matrix R (suc n) (suc n)) → matrix_power u 3 ≡ scale R c (unit R (suc n))
    → u · orbit 3 u ≡ orbit 3 u · record { at = cube_block R c }
unfolding orbit cube_block ◌·◌ sum to_nat
cube_stays {R} {n} c u e = matrix-ext entries
  where
    entries : (i : Fin (suc n)) (j : Fin 3) → (u · orbit 3 u).at i j ≡ (orbit 3 u · record { at = cube_block R c }).at i j
    entries i first = mul-orbit 3 u i first ∙ sym (second_of_three R _ _ _)
    entries i (next first) = mul-orbit 3 u i (next first) ∙ sym (third_of_three R _ _ _)
    entries i (next (next first)) = mul-orbit 3 u i (next (next first)) ∙ last_column 3 c u e i ∙ sym (first_of_three R c _ _ _)
    entries i (next (next (next j))) = elim j [ ]

-- 2 by 2 determinants

determinant : {R : Ring} → Matrix R 2 2 → R.Carrier
determinant {R} k = R.add (R.mul (k.at first first) (k.at (next first) (next first))) (R.neg (R.mul (k.at first (next first)) (k.at (next first) first)))

determinant-mul : {R : Ring} (k l : Matrix R 2 2) → determinant (k · l) ≡ R.mul (determinant k) (determinant l)
unfolding determinant ◌·◌ sum
determinant-mul {R} k l = determinant_of_product R _ _ _ _ _ _ _ _

determinant-scalar : (R : Ring) (c : R.Carrier) → determinant (scale R c (unit R 2)) ≡ R.mul c c
unfolding determinant scale unit delta
determinant-scalar R c = determinant_of_scalar R c

determinant-power : {R : Ring} (k : Matrix R 2 2) (j : ℕ) → determinant (matrix_power k j) ≡ power R (determinant k) j
unfolding determinant matrix_power power unit delta
determinant-power {R} k zero = determinant_of_unit R
determinant-power {R} k (suc j) = determinant-mul k (matrix_power k j) ∙ ap (R.mul (determinant k)) (determinant-power k j)

module _ (F : Field) where
  open F use {ring as R}

  square_small : (c : R.Carrier) → SmallRoots F 2 c
  square_small c zero l m k e = absurd (omega arith)
  square_small c (suc zero) l m k e = root_of_single 2 c k e
  square_small c (suc (suc r)) l m k e = absurd (omega arith)

  cube_lem : (c : R.Carrier) → power R c 3 ≡ R.mul c (R.mul c c)
  unfolding power
  cube_lem c = ap (λ x. R.mul c (R.mul c x)) (R.mul-one c)

  -- the cube of the determinant is the square of c
  root_of_two : (c : R.Carrier) (k : Matrix R 2 2) → matrix_power k 3 ≡ scale R c (unit R 2) → Root R 3 c
  root_of_two c k e = cases (F.decide c R.zero)
    where
      d : R.Carrier
      d = determinant k

      d-cube : power R d 3 ≡ R.mul c c
      d-cube = sym (determinant-power k 3) ∙ ap determinant e ∙ determinant-scalar R c

      cases : (c ≡ R.zero) ⊎ (c ≡ R.zero → ⊥) → Root R 3 c
      cases (inl z) = record { root = R.zero; root-power = power-suc R R.zero 2 ∙ zero-mul R (power R R.zero 2) ∙ sym z }
      cases (inr n) =
          let d-ne : d ≡ R.zero → ⊥ = λ z. mul-ne-zero F c c n n (sym d-cube ∙ power-suc R d 2 ∙ ap (λ x. R.mul x (power R d 2)) z ∙ zero-mul R (power R d 2)) in
          let i : R.Carrier = F.inverse d in
          let c-cube : power R c 3 ≡ R.mul c (power R d 3) = cube_lem c ∙ ap (R.mul c) (sym d-cube) in
          record {
            root = R.mul c i;
            root-power = mul-power R c i 3 ∙ ap (λ x. R.mul x (power R i 3)) c-cube ∙ R.mul_assoc c (power R d 3) (power R i 3)
                ∙ ap (R.mul c) (sym (mul-power R d i 3) ∙ ap (λ x. power R x 3) (F.mul-inverse d d-ne) ∙ one-power R 3) ∙ R.mul-one c;
          }

  cube_small : (c : R.Carrier) → SmallRoots F 3 c
  cube_small c zero l m k e = absurd (omega arith)
  cube_small c (suc zero) l m k e = root_of_single 3 c k e
  cube_small c (suc (suc zero)) l m k e = root_of_two c k e
  cube_small c (suc (suc (suc r))) l m k e = absurd (omega arith)

  square_splits : (c : R.Carrier) → Splits F 2 c
  square_splits c n u e = cyclic-splits F 2 c u (square_small c)
      (record { list = orbit 2 u; block = record { at = square_block R c }; stays = square_stays c u e; trace-zero = square_trace R c; not-null = orbit-not-null F 1 u }) e

  cube_splits : (c : R.Carrier) → Splits F 3 c
  cube_splits c n u e = cyclic-splits F 3 c u (cube_small c)
      (record { list = orbit 3 u; block = record { at = cube_block R c }; stays = cube_stays c u e; trace-zero = cube_trace R c; not-null = orbit-not-null F 2 u }) e

  splits : (p : ℕ) → (p ≡ 2) ⊎ (p ≡ 3) → (c : R.Carrier) → Splits F p c
  splits p (inl e) c = subst (λ p. Splits F p c) (sym e) (square_splits c)
  splits p (inr e) c = subst (λ p. Splits F p c) (sym e) (cube_splits c)

  -- a number that is the p-th power of a matrix with a trace other than 0 has a p-th root
  pub scalar-root : (p : ℕ) → (p ≡ 2) ⊎ (p ≡ 3) → (c : R.Carrier) (n : ℕ) (u : Matrix R n n)
      → matrix_power u p ≡ scale R c (unit R n) → (trace u ≡ R.zero → ⊥) → Root R p c
  scalar-root p h c n u = root_of_trace F p c (splits p h c) n u
