-- An intertwiner of families spread over the blocks of induced families, and induced families moved by the generator.
use Rattle.std.proofs.Common.{◌≡◌, sym, ◌∙◌, ap, ap₂, refl, ℕ, zero, suc}
use Rattle.irr_algebra.specs.Ring.{Ring}
use Rattle.irr_algebra.specs.Fin.{Fin, to_nat}
use Rattle.irr_algebra.specs.Sum.{sum}
use Rattle.irr_algebra.specs.Matrix.{Matrix, ◌·◌, unit, scale, total}
use Rattle.irr_algebra.specs.Action.{IsIntertwiner}
use Rattle.irr_algebra.proofs.Rings.{add_cancel}
use Rattle.irr_algebra.proofs.Matrices.{matrix-ext, mul_assoc, unit-mul, mul-unit, scale-mul, mul-scale}
use Rattle.irr_algebra.proofs.Totals.{mul-total, total-mul, total-ext, total-at}
use Rattle.irr_theory.specs.Extension.{iterate, matrix_power}
use Rattle.irr_theory.specs.Traces.{back}
use Rattle.irr_theory.specs.FactorSystem.{FactorSystem, Representation}
use Rattle.irr_theory.proofs.Inverses.{mul-back, back-mul}
use Rattle.irr_clifford.specs.Subgroup.{Subgroup}
use Rattle.irr_clifford.specs.Cyclic.{CyclicQuotient, conjugate, power_phase, IsInduced}
use Rattle.irr_clifford.specs.Formulas.{extension_matrix, split_phase}
use Rattle.irr_clifford.proofs.Representations.{restrict_family, conjugate_family}
use Rattle.irr_clifford.proofs.Conjugates.{conjugates}
use Rattle.irr_clifford.proofs.Formulas.{extension-matrix}
use Rattle.irr_clifford.proofs.Generator.{extension-stands}
use Rattle.irr_clifford.proofs.Translates.{translate-into, translate-out, power-last, power-inverse, block_into, block_out, block-member, member-block}

-- a sum that begins and ends alike, moved by one
sum-moved : (R : Ring) (n : ℕ) (f : ℕ → R.Carrier) → R.add (f 0) (sum R n (λ a. f (suc (to_nat a)))) ≡ R.add (sum R n (λ a. f (to_nat a))) (f n)
unfolding sum to_nat
sum-moved R zero f = R.add_comm (f 0) R.zero
sum-moved R (suc n) f =
    ap (R.add (f 0)) (sum-moved R n (λ k. f (suc k))) ∙ sym (R.add_assoc (f 0) (sum R n (λ a. f (suc (to_nat a)))) (f (suc n)))

pub total-moved : {R : Ring} {p q : ℕ} (n : ℕ) (f : ℕ → Matrix R p q) → f n ≡ f 0 → total n (λ a. f (suc (to_nat a))) ≡ total n (λ a. f (to_nat a))
total-moved {R} n f e = matrix-ext (λ i j.
    total-at n (λ a. f (suc (to_nat a))) i j
    ∙ add_cancel R ((f 0).at i j) (sum R n (λ a. (f (suc (to_nat a))).at i j)) (sum R n (λ a. (f (to_nat a)).at i j))
    (sum-moved R n (λ a. (f a).at i j) ∙ ap (R.add (sum R n (λ a. (f (to_nat a)).at i j))) (ap (λ (m : Matrix R _ _). m.at i j) e) ∙ R.add_comm (sum R n (λ a. (f (to_nat a)).at i j)) ((f 0).at i j))
    ∙ sym (total-at n (λ a. f (to_nat a)) i j))

power_along : {R : Ring} {a b : ℕ} (v : Matrix R b b) (u : Matrix R a a) (x : Matrix R b a) → v · x ≡ x · u → (k : ℕ) → matrix_power v k · x ≡ x · matrix_power u k
unfolding matrix_power
power_along v u x e zero = unit-mul x ∙ sym (mul-unit x)
power_along {R} {a} {b} v u x e (suc k) =
    mul_assoc v (matrix_power v k) x ∙ ap (λ (m : Matrix R b a). v · m) (power_along v u x e k) ∙ sym (mul_assoc v x (matrix_power u k))
    ∙ ap (λ (m : Matrix R b a). m · matrix_power u k) e ∙ mul_assoc x u (matrix_power u k)

regroup : {R : Ring} {d e : ℕ} (p q : Matrix R e e) (x : Matrix R e d) (y : Matrix R d e) → p · (x · y) · q ≡ p · x · (y · q)
regroup p q x y = simp mul_assoc

middle : {R : Ring} {d e : ℕ} (p u v q : Matrix R e e) (x : Matrix R e d) (y : Matrix R d e) → p · (u · x · (y · v)) · q ≡ p · u · (x · y) · (v · q)
middle p u v q x y = simp mul_assoc

one_more : {R : Ring} {d e : ℕ} (u v : Matrix R e e) (x : Matrix R e d) (y : Matrix R d e) (a : ℕ)
    → matrix_power u a · (u · x · (y · v)) · matrix_power v a ≡ matrix_power u (suc a) · (x · y) · matrix_power v (suc a)
unfolding matrix_power
one_more {R} {d} {e} u v x y a = middle (matrix_power u a) u v (matrix_power v a) x y ∙ ap (λ (m : Matrix R e e). m · (x · y) · (v · matrix_power v a)) (sym (power-last u a))

module _ {R : Ring} {T : FactorSystem R} {H : Subgroup T} (Q : CyclicQuotient H) where
  -- the power of the matrix at the generator is that of the generator
  generator-power : {e : ℕ} (E : Representation T e) → matrix_power (E.at Q.generator) Q.index ≡ scale R (power_phase T Q.generator Q.index) (E.at (H.member Q.top))
  unfolding restrict_family
  generator-power E = (extension-stands Q (restrict_family H E) (E.at Q.generator) E (record { at-member = λ n. refl; at-generator = refl })).power

  -- what goes along the generator and the members goes along all places
  intertwines_all : {a b : ℕ} (A : Representation T a) (B : Representation T b) (x : Matrix R b a) → B.at Q.generator · x ≡ x · A.at Q.generator
      → ((n : Fin H.table.places) → B.at (H.member n) · x ≡ x · A.at (H.member n)) → IsIntertwiner A.at B.at x
  unfolding extension_matrix restrict_family
  intertwines_all {a} {b} A B x g m = record {
    intertwines = λ i.
        ap (λ (z : Matrix R b b). z · x) (extension-matrix Q (restrict_family H B) (B.at Q.generator) B (record { at-member = λ n. refl; at-generator = refl }) i)
        ∙ scale-mul R (split_phase Q i) (matrix_power (B.at Q.generator) (to_nat (Q.exponent i)) · B.at (H.member (Q.part i))) x
        ∙ ap (scale R (split_phase Q i)) (
        mul_assoc (matrix_power (B.at Q.generator) (to_nat (Q.exponent i))) (B.at (H.member (Q.part i))) x ∙ ap (λ (z : Matrix R b a). matrix_power (B.at Q.generator) (to_nat (Q.exponent i)) · z) (m (Q.part i))
        ∙ sym (mul_assoc (matrix_power (B.at Q.generator) (to_nat (Q.exponent i))) x (A.at (H.member (Q.part i)))) ∙ ap (λ (z : Matrix R b a). z · A.at (H.member (Q.part i))) (powers (to_nat (Q.exponent i)))
        ∙ mul_assoc x (matrix_power (A.at Q.generator) (to_nat (Q.exponent i))) (A.at (H.member (Q.part i))))
        ∙ sym (mul-scale R (split_phase Q i) x (matrix_power (A.at Q.generator) (to_nat (Q.exponent i)) · A.at (H.member (Q.part i))))
        ∙ ap (λ (z : Matrix R a a). x · z) (sym (extension-matrix Q (restrict_family H A) (A.at Q.generator) A (record { at-member = λ n. refl; at-generator = refl }) i));
  }
    where
      powers : (k : ℕ) → matrix_power (B.at Q.generator) k · x ≡ x · matrix_power (A.at Q.generator) k
      powers k = power_along (B.at Q.generator) (A.at Q.generator) x g k

  -- an intertwiner of two families intertwines their conjugates
  conjugates-intertwines : {a b : ℕ} (A : Representation H.table a) (B : Representation H.table b) (x : Matrix R b a) → IsIntertwiner A.at B.at x → (k : ℕ) → IsIntertwiner (conjugates Q A k).at (conjugates Q B k).at x
  unfolding conjugates iterate conjugate_family conjugate
  conjugates-intertwines A B x h zero = h
  conjugates-intertwines A B x h (suc k) = record {
    intertwines = λ n. scale-mul R _ ((conjugates Q B k).at (Q.conj n)) x ∙ ap (scale R _) ((conjugates-intertwines A B x h k).intertwines (Q.conj n)) ∙ sym (mul-scale R _ x ((conjugates Q A k).at (Q.conj n)));
  }

  module _ {d e : ℕ} (D : Representation H.table d) (E : Representation T e) (h : IsInduced Q D E) where
    -- the block comes back after `index` steps
    block_into-index : block_into Q E D h Q.index ≡ scale R (power_phase T Q.generator Q.index) (h.into · D.at Q.top)
    unfolding block_into
    block_into-index = ap (λ (m : Matrix R e e). m · h.into) (generator-power E) ∙ scale-mul R (power_phase T Q.generator Q.index) (E.at (H.member Q.top)) h.into ∙ ap (scale R (power_phase T Q.generator Q.index)) (h.member-into Q.top)

    block_out-index : scale R (power_phase T Q.generator Q.index) (D.at Q.top · block_out Q E D h Q.index) ≡ h.out
    unfolding block_out
    block_out-index =
        ap (scale R (power_phase T Q.generator Q.index)) (sym (mul_assoc (D.at Q.top) h.out (matrix_power (back E Q.generator) Q.index)) ∙ ap (λ (m : Matrix R d e). m · matrix_power (back E Q.generator) Q.index) (sym (h.out-member Q.top)) ∙ mul_assoc h.out (E.at (H.member Q.top)) (matrix_power (back E Q.generator) Q.index))
        ∙ sym (mul-scale R (power_phase T Q.generator Q.index) h.out (E.at (H.member Q.top) · matrix_power (back E Q.generator) Q.index))
        ∙ ap (λ (m : Matrix R e e). h.out · m) (sym (scale-mul R (power_phase T Q.generator Q.index) (E.at (H.member Q.top)) (matrix_power (back E Q.generator) Q.index)) ∙ ap (λ (m : Matrix R e e). m · matrix_power (back E Q.generator) Q.index) (sym (generator-power E))
        ∙ power-inverse (E.at Q.generator) (back E Q.generator) (mul-back E Q.generator) Q.index)
        ∙ mul-unit h.out

    block_out-step : (k : ℕ) → block_out Q E D h (suc k) · E.at Q.generator ≡ block_out Q E D h k
    unfolding block_out matrix_power
    block_out-step k =
        ap (λ (m : Matrix R e e). h.out · m · E.at Q.generator) (power-last (back E Q.generator) k) ∙ mul_assoc h.out (matrix_power (back E Q.generator) k · back E Q.generator) (E.at Q.generator)
        ∙ ap (λ (m : Matrix R e e). h.out · m) (mul_assoc (matrix_power (back E Q.generator) k) (back E Q.generator) (E.at Q.generator) ∙ ap (λ (m : Matrix R e e). matrix_power (back E Q.generator) k · m) (back-mul E Q.generator) ∙ mul-unit (matrix_power (back E Q.generator) k))

    around : matrix_power (E.at Q.generator) Q.index · (h.into · h.out) · matrix_power (back E Q.generator) Q.index ≡ matrix_power (E.at Q.generator) 0 · (h.into · h.out) · matrix_power (back E Q.generator) 0
    unfolding block_into block_out matrix_power
    around =
        regroup (matrix_power (E.at Q.generator) Q.index) (matrix_power (back E Q.generator) Q.index) h.into h.out
        ∙ ap (λ (m : Matrix R e d). m · block_out Q E D h Q.index) block_into-index
        ∙ scale-mul R (power_phase T Q.generator Q.index) (h.into · D.at Q.top) (block_out Q E D h Q.index)
        ∙ ap (scale R (power_phase T Q.generator Q.index)) (mul_assoc h.into (D.at Q.top) (block_out Q E D h Q.index)) ∙ sym (mul-scale R (power_phase T Q.generator Q.index) h.into (D.at Q.top · block_out Q E D h Q.index))
        ∙ ap (λ (m : Matrix R d e). h.into · m) block_out-index
        ∙ sym (mul-unit (unit R e · (h.into · h.out)) ∙ unit-mul (h.into · h.out))

  module _ {c d e k : ℕ} (C : Representation H.table c) (A : Representation T e) (p : IsInduced Q C A) (D : Representation H.table d) (B : Representation T k) (q : IsInduced Q D B) (w : Matrix R d c) (i : IsIntertwiner C.at D.at w) where
    -- the intertwiner from one block to the other, spread over all blocks
    unfoldable pub term : ℕ → Matrix R k e
    term a = block_into Q B D q a · w · block_out Q A C p a

    unfoldable pub spread : Matrix R k e
    spread = total Q.index (λ a. term (to_nat a))

    term-member : (a : ℕ) (n : Fin H.table.places) → B.at (H.member n) · term a ≡ term a · A.at (H.member n)
    unfolding term
    term-member a n =
        simp (← mul_assoc) (ap (λ (m : Matrix R k d). m · w · block_out Q A C p a) (block-member Q B D q a n)
        ∙ ap (λ (m : Matrix R k c). m · block_out Q A C p a) (mul_assoc (block_into Q B D q a) ((conjugates Q D a).at n) w ∙ ap (λ (m : Matrix R d c). block_into Q B D q a · m) ((conjugates-intertwines C D w i a).intertwines n)
        ∙ sym (mul_assoc (block_into Q B D q a) w ((conjugates Q C a).at n)))
        ∙ mul_assoc (block_into Q B D q a · w) ((conjugates Q C a).at n) (block_out Q A C p a) ∙ ap (λ (m : Matrix R c e). block_into Q B D q a · w · m) (sym (member-block Q A C p a n))
        ∙ sym (mul_assoc (block_into Q B D q a · w) (block_out Q A C p a) (A.at (H.member n))))

    term-generator : (a : ℕ) → B.at Q.generator · term a ≡ term (suc a) · A.at Q.generator
    unfolding term block_into matrix_power
    term-generator a =
        simp (← mul_assoc) refl
        ∙ sym (mul_assoc (B.at Q.generator · matrix_power (B.at Q.generator) a · q.into · w) (block_out Q A C p (suc a)) (A.at Q.generator)
        ∙ ap (λ (m : Matrix R c e). B.at Q.generator · matrix_power (B.at Q.generator) a · q.into · w · m) (block_out-step C A p a))

    term-index : term Q.index ≡ term 0
    unfolding term block_into block_out matrix_power
    term-index =
        ap (λ (m : Matrix R k d). m · w · block_out Q A C p Q.index) (block_into-index D B q)
        ∙ through (power_phase T Q.generator Q.index) (D.at Q.top) (C.at Q.top) (block_out Q A C p Q.index) (i.intertwines Q.top)
        ∙ ap (λ (m : Matrix R c e). q.into · w · m) (block_out-index C A p)
        ∙ ap₂ (λ (y : Matrix R k d) (z : Matrix R c e). y · w · z) (sym (unit-mul q.into)) (sym (mul-unit p.out))
      where
        through : (s : R.Carrier) (y : Matrix R d d) (z : Matrix R c c) (o : Matrix R c e) → y · w ≡ w · z → scale R s (q.into · y) · w · o ≡ q.into · w · scale R s (z · o)
        through s y z o f =
            ap (λ (m : Matrix R k c). m · o) (scale-mul R s (q.into · y) w ∙ ap (scale R s) (mul_assoc q.into y w ∙ ap (λ (m : Matrix R d c). q.into · m) f ∙ sym (mul_assoc q.into w z)))
            ∙ scale-mul R s (q.into · w · z) o ∙ ap (scale R s) (mul_assoc (q.into · w) z o) ∙ sym (mul-scale R s (q.into · w) (z · o))

    pub spread-intertwines : IsIntertwiner A.at B.at spread
    unfolding spread
    spread-intertwines = intertwines_all A B spread
        (mul-total Q.index (B.at Q.generator) (λ a. term (to_nat a)) ∙ total-ext Q.index (λ a. term-generator (to_nat a))
        ∙ sym (total-mul Q.index (λ a. term (suc (to_nat a))) (A.at Q.generator)) ∙ ap (λ (m : Matrix R k e). m · A.at Q.generator) (total-moved Q.index term term-index))
        (λ n. mul-total Q.index (B.at (H.member n)) (λ a. term (to_nat a)) ∙ total-ext Q.index (λ a. term-member (to_nat a) n) ∙ sym (total-mul Q.index (λ a. term (to_nat a)) (A.at (H.member n))))

  -- what is induced from a family is induced from its conjugate
  translated : {d e : ℕ} (D : Representation H.table d) (E : Representation T e) → IsInduced Q D E → IsInduced Q (conjugate_family Q D) E
  unfolding conjugate_family
  translated {d} {e} D E h = record {
    into = E.at Q.generator · h.into;
    out = h.out · back E Q.generator;
    out-into = mul_assoc h.out (back E Q.generator) (E.at Q.generator · h.into) ∙ ap (λ (m : Matrix R e d). h.out · m) (sym (mul_assoc (back E Q.generator) (E.at Q.generator) h.into)
        ∙ ap (λ (m : Matrix R e e). m · h.into) (back-mul E Q.generator) ∙ unit-mul h.into) ∙ h.out-into;
    member-into = translate-into Q E D h.into h.member-into;
    out-member = translate-out Q E D h.out h.out-member;
    all_blocks = total-ext Q.index (λ a. shifted (to_nat a)) ∙ total-moved Q.index f whole_turn ∙ h.all_blocks;
  }
    where
      f : ℕ → Matrix R e e
      f a = matrix_power (E.at Q.generator) a · (h.into · h.out) · matrix_power (back E Q.generator) a

      shifted : (a : ℕ) → matrix_power (E.at Q.generator) a · (E.at Q.generator · h.into · (h.out · back E Q.generator)) · matrix_power (back E Q.generator) a ≡ f (suc a)
      shifted a = one_more (E.at Q.generator) (back E Q.generator) h.into h.out a

      whole_turn : f Q.index ≡ f 0
      whole_turn = around D E h

  pub translated_by : {d e : ℕ} (D : Representation H.table d) (E : Representation T e) → IsInduced Q D E → (a : ℕ) → IsInduced Q (conjugates Q D a) E
  unfolding conjugates iterate
  translated_by D E h zero = h
  translated_by D E h (suc a) = translated (conjugates Q D a) E (translated_by D E h a)
