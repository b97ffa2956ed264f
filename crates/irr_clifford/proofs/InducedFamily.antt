-- The induced family, block by block.
use Rattle.std.proofs.Common.{◌≡◌, sym, ◌∙◌, ap, ap₂, refl, subst, ℕ, zero, suc, ◌⊎◌, inl, inr}
use Rattle.irr_algebra.specs.Ring.{Ring}
use Rattle.irr_algebra.specs.Fin.{Fin, to_nat}
use Rattle.irr_algebra.specs.Pair.{times}
use Rattle.irr_algebra.specs.Sum.{delta}
use Rattle.irr_algebra.specs.Matrix.{Matrix, ◌·◌, unit, null, scale, total}
use Rattle.irr_algebra.proofs.Rings.{one-mul}
use Rattle.irr_algebra.proofs.Indices.{same_or_not}
use Rattle.irr_algebra.proofs.Matrices.{mul_assoc, unit-mul, mul-unit, scale-mul, mul-scale, scale-scale, scale-one, zero-scale, null-mul}
use Rattle.irr_algebra.proofs.Sums.{delta-refl, delta-ne, delta_comm}
use Rattle.irr_algebra.proofs.Totals.{mul-total, total-mul, total-ext, scale-total, combination-delta}
use Rattle.irr_theory.specs.Extension.{iterate, matrix_power}
use Rattle.irr_theory.specs.Traces.{back}
use Rattle.irr_theory.specs.FactorSystem.{FactorSystem, Representation}
use Rattle.irr_theory.specs.Lifted.{Lifted, lifted, lifted_product}
use Rattle.irr_theory.proofs.Inverses.{mul-back}
use Rattle.irr_theory.proofs.Lifted.{lifted-multiplies}
use Rattle.irr_clifford.specs.Subgroup.{Subgroup}
use Rattle.irr_clifford.specs.Cyclic.{CyclicQuotient, IsInduced}
use Rattle.irr_clifford.proofs.Split.{no_steps, to_nat-no_steps, ◌⋆◌, bare, inside, inside-mul, inside-start, step, steps, moved, inside-steps, exponent_of, part_of, split, split-exponent, split-part, lifted_assoc, lifted_power, lifted_cancel, lifted_power-invertible, mul-bare-start, bare-start-mul}
use Rattle.irr_clifford.proofs.Translates.{power-inverse}
use Rattle.irr_clifford.proofs.Representations.{lifted-bare, family_of_lifted}
use Rattle.irr_clifford.proofs.Blocks.{block_in, block_of, block_of-in, blocks-unit}

module _ {R : Ring} {T : FactorSystem R} {H : Subgroup T} (Q : CyclicQuotient H) {d : ℕ} (D : Representation H.table d) where
  -- z times the power b of the generator
  unfoldable pub turned : Lifted T → Fin Q.index → Lifted T
  turned z b = ◌⋆◌ T z (steps Q (to_nat b))

  -- the block b goes to the block of the exponent of z g^b, by the matrix of its member
  pub strip : Lifted T → Fin Q.index → Matrix R (times Q.index d) d
  strip z b = block_in R Q.index d (exponent_of Q (turned z b)) · lifted D (part_of Q (turned z b))

  pub strip-unfolded : (z : Lifted T) (b : Fin Q.index) → strip z b ≡ block_in R Q.index d (exponent_of Q (turned z b)) · lifted D (part_of Q (turned z b))
  unfolding strip
  strip-unfolded z b = refl

  unfoldable pub wide : Lifted T → Matrix R (times Q.index d) (times Q.index d)
  wide z = total Q.index (λ b. strip z b · block_of R Q.index d b)

  wide-block : (z : Lifted T) (b : Fin Q.index) → wide z · block_in R Q.index d b ≡ strip z b
  unfolding wide
  wide-block z b =
      total-mul Q.index (λ c. strip z c · block_of R Q.index d c) (block_in R Q.index d b)
      ∙ total-ext Q.index (λ c. mul_assoc (strip z c) (block_of R Q.index d c) (block_in R Q.index d b) ∙ ap (λ (m : Matrix R d d). strip z c · m) (block_of-in R Q.index d c b)
      ∙ mul-scale R (delta R c b) (strip z c) (unit R d) ∙ ap₂ (scale R) (delta_comm R c b) (mul-unit (strip z c)))
      ∙ combination-delta Q.index b (strip z)

  strip-is : (z : Lifted T) (b a : Fin Q.index) (y : Lifted H.table) → turned z b ≡ ◌⋆◌ T (steps Q (to_nat a)) (inside Q y) → strip z b ≡ block_in R Q.index d a · lifted D y
  unfolding strip
  strip-is z b a y e = ap₂ (λ (i : Fin Q.index) (w : Lifted H.table). block_in R Q.index d i · lifted D w)
      (split-exponent Q a y (turned z b) (sym e)) (split-part Q a y (turned z b) (sym e))

  pub wide-mul : (x z : Lifted T) → wide x · wide z ≡ wide (◌⋆◌ T x z)
  unfolding wide strip turned
  wide-mul x z =
      mul-total Q.index (wide x) (λ b. strip z b · block_of R Q.index d b)
      ∙ total-ext Q.index (λ b. sym (mul_assoc (wide x) (strip z b) (block_of R Q.index d b)) ∙ ap (λ (m : Matrix R (times Q.index d) d). m · block_of R Q.index d b) (one b))
    where
      c : Fin Q.index → Fin Q.index
      c b = exponent_of Q (turned z b)

      one : (b : Fin Q.index) → wide x · strip z b ≡ strip (◌⋆◌ T x z) b
      one b =
          sym (mul_assoc (wide x) (block_in R Q.index d (c b)) (lifted D (part_of Q (turned z b))))
          ∙ ap (λ (m : Matrix R (times Q.index d) d). m · lifted D (part_of Q (turned z b))) (wide-block x (c b))
          ∙ mul_assoc (block_in R Q.index d (exponent_of Q (turned x (c b)))) (lifted D (part_of Q (turned x (c b)))) (lifted D (part_of Q (turned z b)))
          ∙ ap (λ (m : Matrix R d d). block_in R Q.index d (exponent_of Q (turned x (c b))) · m) (lifted-multiplies D (part_of Q (turned x (c b))) (part_of Q (turned z b)))
          ∙ sym (strip-is (◌⋆◌ T x z) b (exponent_of Q (turned x (c b))) (◌⋆◌ H.table (part_of Q (turned x (c b))) (part_of Q (turned z b)))
          (lifted_assoc T x z (steps Q (to_nat b)) ∙ ap (◌⋆◌ T x) (sym (split Q (turned z b))) ∙ sym (lifted_assoc T x (steps Q (to_nat (c b))) (inside Q (part_of Q (turned z b))))
          ∙ ap (λ w. ◌⋆◌ T w (inside Q (part_of Q (turned z b)))) (sym (split Q (turned x (c b))))
          ∙ lifted_assoc T (steps Q (to_nat (exponent_of Q (turned x (c b))))) (inside Q (part_of Q (turned x (c b)))) (inside Q (part_of Q (turned z b)))
          ∙ ap (◌⋆◌ T (steps Q (to_nat (exponent_of Q (turned x (c b)))))) (sym (inside-mul Q (part_of Q (turned x (c b))) (part_of Q (turned z b))))))

  lifted-start : lifted D (bare H.table H.table.start) ≡ unit R d
  lifted-start = lifted-bare D H.table.start ∙ D.at-start

  strip-start : (b : Fin Q.index) → strip (bare T T.start) b ≡ block_in R Q.index d b
  unfolding turned
  strip-start b =
      strip-is (bare T T.start) b b (bare H.table H.table.start) (bare-start-mul T (steps Q (to_nat b)) ∙ sym (ap (◌⋆◌ T (steps Q (to_nat b))) (inside-start Q) ∙ mul-bare-start T (steps Q (to_nat b))))
      ∙ ap (λ (m : Matrix R d d). block_in R Q.index d b · m) lifted-start ∙ mul-unit (block_in R Q.index d b)

  pub wide-start : wide (bare T T.start) ≡ unit R (times Q.index d)
  unfolding wide
  wide-start = total-ext Q.index (λ b. ap (λ (m : Matrix R (times Q.index d) d). m · block_of R Q.index d b) (strip-start b)) ∙ blocks-unit R Q.index d

  -- the number of a place with a number goes to its member
  part-number : (x : Lifted T) (k : ℕ) → lifted D (part_of Q (◌⋆◌ T x (steps Q k))) ≡ scale R x.number (lifted D (part_of Q (◌⋆◌ T (bare T x.place) (steps Q k))))
  unfolding lifted_product lifted
  part-number x k = ap (λ c. scale R c (D.at (Q.part (T.product x.place (steps Q k).place)))) (sorted x.number (steps Q k).number (T.phase x.place (steps Q k).place) _)
      ∙ sym (scale-scale R x.number _ (D.at (Q.part (T.product x.place (steps Q k).place))))
    where
      sorted : (x s p q : R.Carrier) → R.mul (R.mul (R.mul x s) p) q ≡ R.mul x (R.mul (R.mul (R.mul R.one s) p) q)
      sorted x s p q = simp (R.mul_assoc, one-mul R)

  exponent-number : (x : Lifted T) (k : ℕ) → exponent_of Q (◌⋆◌ T x (steps Q k)) ≡ exponent_of Q (◌⋆◌ T (bare T x.place) (steps Q k))
  unfolding lifted_product
  exponent-number x k = refl

  pub wide-number : (x : Lifted T) → wide x ≡ scale R x.number (wide (bare T x.place))
  unfolding wide strip turned
  wide-number x =
      total-ext Q.index (λ b.
      ap (λ (m : Matrix R (times Q.index d) d). m · block_of R Q.index d b) (
      ap₂ (λ (i : Fin Q.index) (m : Matrix R d d). block_in R Q.index d i · m) (exponent-number x (to_nat b)) (part-number x (to_nat b))
      ∙ mul-scale R x.number (block_in R Q.index d (exponent_of Q (turned (bare T x.place) b))) (lifted D (part_of Q (turned (bare T x.place) b))))
      ∙ scale-mul R x.number (strip (bare T x.place) b) (block_of R Q.index d b))
      ∙ sym (scale-total R Q.index x.number (λ b. strip (bare T x.place) b · block_of R Q.index d b))

  -- the induced family
  unfoldable pub induced_family : Representation T (times Q.index d)
  induced_family = family_of_lifted wide wide-start wide-mul wide-number

  steps-first : steps Q (to_nat (no_steps Q)) ≡ bare T T.start
  unfolding lifted_power
  steps-first = ap (λ k. steps Q k) (to_nat-no_steps Q)

  strip-first : (z : Lifted T) (a : Fin Q.index) (y : Lifted H.table) → z ≡ ◌⋆◌ T (steps Q (to_nat a)) (inside Q y) → strip z (no_steps Q) ≡ block_in R Q.index d a · lifted D y
  unfolding turned
  strip-first z a y e = strip-is z (no_steps Q) a y (ap (◌⋆◌ T z) steps-first ∙ mul-bare-start T z ∙ e)

  strip-inside : (y : Lifted H.table) (b : Fin Q.index) → strip (inside Q y) b ≡ block_in R Q.index d b · lifted D (iterate (moved Q) (to_nat b) y)
  unfolding turned
  strip-inside y b = strip-is (inside Q y) b b (iterate (moved Q) (to_nat b) y) (inside-steps Q (to_nat b) y)

  -- the block b is moved by a power of the generator
  strip-steps : (a : Fin Q.index) → strip (steps Q (to_nat a)) (no_steps Q) ≡ block_in R Q.index d a
  strip-steps a =
      strip-first (steps Q (to_nat a)) a (bare H.table H.table.start) (sym (ap (◌⋆◌ T (steps Q (to_nat a))) (inside-start Q) ∙ mul-bare-start T (steps Q (to_nat a))))
      ∙ ap (λ (m : Matrix R d d). block_in R Q.index d a · m) lifted-start ∙ mul-unit (block_in R Q.index d a)

  wide-steps : (a : ℕ) → matrix_power (wide (step Q)) a ≡ wide (steps Q a)
  unfolding matrix_power lifted_power
  wide-steps zero = sym wide-start
  wide-steps (suc a) = ap (λ (m : Matrix R (times Q.index d) (times Q.index d)). wide (step Q) · m) (wide-steps a) ∙ wide-mul (step Q) (steps Q a)

  -- only the first block goes to the block a by g^a
  only_first_block : (a b : Fin Q.index) → ((no_steps Q) ≡ b → ⊥) → a ≡ exponent_of Q (turned (steps Q (to_nat a)) b) → ⊥
  unfolding turned
  only_first_block a b n e =
      let y = part_of Q (◌⋆◌ T (steps Q (to_nat a)) (steps Q (to_nat b))) in
      let c : inside Q y ≡ steps Q (to_nat b) =
      lifted_cancel T (steps Q (to_nat a)) (inside Q y) (steps Q (to_nat b)) (lifted_power-invertible T Q.generator (to_nat a))
      (ap (λ i. ◌⋆◌ T (steps Q (to_nat i)) (inside Q y)) e ∙ split Q (◌⋆◌ T (steps Q (to_nat a)) (steps Q (to_nat b)))) in
      n (sym (split-exponent Q (no_steps Q) y (steps Q (to_nat b)) (ap (λ w. ◌⋆◌ T w (inside Q y)) steps-first ∙ bare-start-mul T (inside Q y) ∙ c))
      ∙ split-exponent Q b (bare H.table H.table.start) (steps Q (to_nat b)) (ap (◌⋆◌ T (steps Q (to_nat b))) (inside-start Q) ∙ mul-bare-start T (steps Q (to_nat b))))

  away_of : {a : Fin Q.index} (c : Fin Q.index) (x : Matrix R d d) (m : Matrix R (times Q.index d) d) → m ≡ block_in R Q.index d c · x → (a ≡ c → ⊥) → block_of R Q.index d a · m ≡ null
  away_of {a} c x m e n =
      ap (λ (z : Matrix R (times Q.index d) d). block_of R Q.index d a · z) e ∙ sym (mul_assoc (block_of R Q.index d a) (block_in R Q.index d c) x)
      ∙ ap (λ (z : Matrix R d d). z · x) (block_of-in R Q.index d a c ∙ ap (λ k. scale R k (unit R d)) (delta-ne R a c n) ∙ zero-scale (unit R d)) ∙ null-mul x

  out-wide : (a : Fin Q.index) → block_of R Q.index d a · wide (steps Q (to_nat a)) ≡ block_of R Q.index d (no_steps Q)
  unfolding wide
  out-wide a =
      mul-total Q.index (block_of R Q.index d a) (λ b. strip (steps Q (to_nat a)) b · block_of R Q.index d b)
      ∙ total-ext Q.index (λ b. sym (mul_assoc (block_of R Q.index d a) (strip (steps Q (to_nat a)) b) (block_of R Q.index d b)) ∙ one b (same_or_not (no_steps Q) b))
      ∙ combination-delta Q.index (no_steps Q) (λ b. block_of R Q.index d b)
    where
      same : block_of R Q.index d a · strip (steps Q (to_nat a)) (no_steps Q) · block_of R Q.index d (no_steps Q) ≡ scale R (delta R (no_steps Q) (no_steps Q)) (block_of R Q.index d (no_steps Q))
      same = ap (λ (m : Matrix R d d). m · block_of R Q.index d (no_steps Q)) (ap (λ (m : Matrix R (times Q.index d) d). block_of R Q.index d a · m) (strip-steps a) ∙ block_of-in R Q.index d a a)
          ∙ scale-mul R (delta R a a) (unit R d) (block_of R Q.index d (no_steps Q)) ∙ ap₂ (scale R) (delta-refl R a ∙ sym (delta-refl R (no_steps Q))) (unit-mul (block_of R Q.index d (no_steps Q)))

      one : (b : Fin Q.index) → ((no_steps Q) ≡ b) ⊎ ((no_steps Q) ≡ b → ⊥) → block_of R Q.index d a · strip (steps Q (to_nat a)) b · block_of R Q.index d b ≡ scale R (delta R (no_steps Q) b) (block_of R Q.index d b)
      one b (inl e) = subst (λ i. block_of R Q.index d a · strip (steps Q (to_nat a)) i · block_of R Q.index d i ≡ scale R (delta R (no_steps Q) i) (block_of R Q.index d i)) e same
      one b (inr n) =
          ap (λ (m : Matrix R d d). m · block_of R Q.index d b) (away b n) ∙ null-mul (block_of R Q.index d b) ∙ sym (zero-scale (block_of R Q.index d b))
          ∙ ap (λ c. scale R c (block_of R Q.index d b)) (sym (delta-ne R (no_steps Q) b n))
        where
          away : (b : Fin Q.index) → ((no_steps Q) ≡ b → ⊥) → block_of R Q.index d a · strip (steps Q (to_nat a)) b ≡ null
          away b n = away_of (exponent_of Q (turned (steps Q (to_nat a)) b)) (lifted D (part_of Q (turned (steps Q (to_nat a)) b))) (strip (steps Q (to_nat a)) b) (strip-unfolded (steps Q (to_nat a)) b) (only_first_block a b n)

  -- the members keep the first block
  out-inside : (y : Lifted H.table) → block_of R Q.index d (no_steps Q) · wide (inside Q y) ≡ lifted D y · block_of R Q.index d (no_steps Q)
  unfolding wide iterate
  out-inside y =
      mul-total Q.index (block_of R Q.index d (no_steps Q)) (λ b. strip (inside Q y) b · block_of R Q.index d b)
      ∙ total-ext Q.index (λ b.
      ap (λ (m : Matrix R (times Q.index d) d). block_of R Q.index d (no_steps Q) · (m · block_of R Q.index d b)) (strip-inside y b)
      ∙ first_of b (lifted D (iterate (moved Q) (to_nat b) y)) (block_of R Q.index d b))
      ∙ combination-delta Q.index (no_steps Q) (λ b. lifted D (iterate (moved Q) (to_nat b) y) · block_of R Q.index d b)
      ∙ ap (λ k. lifted D (iterate (moved Q) k y) · block_of R Q.index d (no_steps Q)) (to_nat-no_steps Q)
    where
      first_of : (b : Fin Q.index) (x : Matrix R d d) (z : Matrix R d (times Q.index d)) → block_of R Q.index d (no_steps Q) · (block_in R Q.index d b · x · z) ≡ scale R (delta R (no_steps Q) b) (x · z)
      first_of b x z =
          ap (λ (m : Matrix R (times Q.index d) (times Q.index d)). block_of R Q.index d (no_steps Q) · m) (mul_assoc (block_in R Q.index d b) x z) ∙ sym (mul_assoc (block_of R Q.index d (no_steps Q)) (block_in R Q.index d b) (x · z))
          ∙ ap (λ (m : Matrix R d d). m · (x · z)) (block_of-in R Q.index d (no_steps Q) b) ∙ scale-mul R (delta R (no_steps Q) b) (unit R d) (x · z) ∙ ap (scale R (delta R (no_steps Q) b)) (unit-mul (x · z))

  pub induced_family-is : IsInduced Q D induced_family
  unfolding induced_family family_of_lifted
  induced_family-is = record {
    into = block_in R Q.index d (no_steps Q);
    out = block_of R Q.index d (no_steps Q);
    out-into = block_of-in R Q.index d (no_steps Q) (no_steps Q) ∙ ap (λ c. scale R c (unit R d)) (delta-refl R (no_steps Q)) ∙ scale-one (unit R d);
    member-into = λ n. wide-block (inside Q (bare H.table n)) (no_steps Q)
        ∙ strip-first (inside Q (bare H.table n)) (no_steps Q) (bare H.table n) (sym (ap (λ w. ◌⋆◌ T w (inside Q (bare H.table n))) steps-first ∙ bare-start-mul T (inside Q (bare H.table n))))
        ∙ ap (λ (m : Matrix R d d). block_in R Q.index d (no_steps Q) · m) (lifted-bare D n);
    out-member = λ n. out-inside (bare H.table n) ∙ ap (λ (m : Matrix R d d). m · block_of R Q.index d (no_steps Q)) (lifted-bare D n);
    all_blocks = total-ext Q.index (λ a. one a) ∙ blocks-unit R Q.index d;
  }
    where
      one : (a : Fin Q.index) → matrix_power (wide (step Q)) (to_nat a) · (block_in R Q.index d (no_steps Q) · block_of R Q.index d (no_steps Q)) · matrix_power (back induced_family Q.generator) (to_nat a)
          ≡ block_in R Q.index d a · block_of R Q.index d a
      one a =
          ap (λ (m : Matrix R (times Q.index d) (times Q.index d)). m · (block_in R Q.index d (no_steps Q) · block_of R Q.index d (no_steps Q)) · matrix_power (back induced_family Q.generator) (to_nat a)) (wide-steps (to_nat a))
          ∙ ap (λ (m : Matrix R (times Q.index d) (times Q.index d)). m · matrix_power (back induced_family Q.generator) (to_nat a)) (
          sym (mul_assoc (wide (steps Q (to_nat a))) (block_in R Q.index d (no_steps Q)) (block_of R Q.index d (no_steps Q)))
          ∙ ap (λ (m : Matrix R (times Q.index d) d). m · block_of R Q.index d (no_steps Q)) (wide-block (steps Q (to_nat a)) (no_steps Q) ∙ strip-steps a))
          ∙ mul_assoc (block_in R Q.index d a) (block_of R Q.index d (no_steps Q)) (matrix_power (back induced_family Q.generator) (to_nat a))
          ∙ ap (λ (m : Matrix R d (times Q.index d)). block_in R Q.index d a · m) (
          ap (λ (m : Matrix R d (times Q.index d)). m · matrix_power (back induced_family Q.generator) (to_nat a)) (sym (out-wide a))
          ∙ mul_assoc (block_of R Q.index d a) (wide (steps Q (to_nat a))) (matrix_power (back induced_family Q.generator) (to_nat a))
          ∙ ap (λ (m : Matrix R (times Q.index d) (times Q.index d)). block_of R Q.index d a · m) (
          ap (λ (m : Matrix R (times Q.index d) (times Q.index d)). m · matrix_power (back induced_family Q.generator) (to_nat a)) (sym (wide-steps (to_nat a)))
          ∙ power-inverse (induced_family.at Q.generator) (back induced_family Q.generator) (mul-back induced_family Q.generator) (to_nat a))
          ∙ mul-unit (block_of R Q.index d a))
