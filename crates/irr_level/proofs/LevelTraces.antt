-- The traces of the families above a level.
--   multiple_extension       the extension by z u, for a root z of 1: the traces at the powers of the generator are multiplied by those of z
--   only_exponent            which power of the generator a place has
--   induced_member           an induced family has at a member the sum of the traces of the conjugates
--   induced_outside          and 0 outside the members
--   orbit_traces             the conjugates of a member of a list have the traces of its orbit
use Rattle.std.proofs.Common.{◌≡◌, sym, ◌∙◌, ap, refl, ℕ, zero, suc}
use Rattle.irr_algebra.specs.Ring.{Ring}
use Rattle.irr_algebra.specs.Fin.{Fin, to_nat}
use Rattle.irr_algebra.specs.Sum.{delta, sum}
use Rattle.irr_algebra.specs.Matrix.{Matrix, ◌·◌, scale, total, trace, unit}
use Rattle.irr_algebra.specs.Action.{Equivalent}
use Rattle.irr_algebra.specs.Pair.{times}
use Rattle.irr_algebra.proofs.Actions.{equivalent-trace}
use Rattle.irr_algebra.proofs.Rings.{zero-mul}
use Rattle.irr_algebra.proofs.Sums.{delta-ne, sum-ext, sum-zero}
use Rattle.irr_algebra.proofs.Totals.{mul-total, trace-total}
use Rattle.irr_algebra.proofs.Matrices.{mul_assoc, mul-unit, scale-mul, scale-scale, trace_comm, trace-scale, unit-mul}
use Rattle.irr_theory.specs.Extension.{iterate, matrix_power}
use Rattle.irr_theory.specs.FactorSystem.{FactorSystem, Representation}
use Rattle.irr_theory.specs.Representations.{Representations}
use Rattle.irr_theory.specs.Traces.{back}
use Rattle.irr_theory.proofs.Inverses.{back-mul}
use Rattle.irr_clifford.specs.Subgroup.{Subgroup}
use Rattle.irr_clifford.specs.Cyclic.{CyclicQuotient, conjugate, IsExtension, IsInduced, place_power, StandsForGenerator}
use Rattle.irr_clifford.specs.Formulas.{block_phase, coset, extension_matrix, induced_trace, split_phase}
use Rattle.irr_clifford.specs.Roots.{number_power}
use Rattle.irr_clifford.proofs.Conjugates.{conjugates}
use Rattle.irr_clifford.proofs.Extended.{extended, extended-is}
use Rattle.irr_clifford.proofs.Formulas.{extension-matrix, induced-trace}
use Rattle.irr_clifford.proofs.Generator.{extension-stands}
use Rattle.irr_clifford.proofs.InducedFamily.{induced_family, induced_family-is}
use Rattle.irr_clifford.proofs.Representations.{conjugate_family}
use Rattle.irr_clifford.proofs.Roots.{matrix_power-scale, stands_times_root}
use Rattle.irr_clifford.proofs.Translates.{block_into, block-member, block_out, induced-restriction, power-inverse}

module _ {R : Ring} {T : FactorSystem R} {H : Subgroup T} (Q : CyclicQuotient H) where
  module _ {d : ℕ} (D : Representation H.table d) where
    -- the matrices of the extension by a multiple
    scaled-extension : (u : Matrix R d d) (z : R.Carrier) (x : Fin T.places)
        → extension_matrix Q D (scale R z u) x ≡ scale R (number_power R z (to_nat (Q.exponent x))) (extension_matrix Q D u x)
    unfolding extension_matrix
    scaled-extension u z x =
        let e : ℕ = to_nat (Q.exponent x) in
        let s : R.Carrier = split_phase Q x in
        let y : R.Carrier = number_power R z e in
        let m : Matrix R d d = matrix_power u e · D.at (Q.part x) in
        ap (scale R s) (ap (λ (k : Matrix R d d). k · D.at (Q.part x)) (matrix_power-scale R z u e) ∙ scale-mul R y (matrix_power u e) (D.at (Q.part x)))
        ∙ scale-scale R s y m ∙ ap (λ k. scale R k m) (R.mul_comm s y) ∙ sym (scale-scale R y s m)

    pub multiple_extension : (u : Matrix R d d) (E : Representation T d) (z : R.Carrier) → IsExtension Q D u E → number_power R z Q.index ≡ R.one
        → (K : Representation T d) × IsExtension Q D (scale R z u) K
        × ((x : Fin T.places) → trace (K.at x) ≡ R.mul (number_power R z (to_nat (Q.exponent x))) (trace (E.at x)))
    multiple_extension u E z h one =
        let s : StandsForGenerator Q D (scale R z u) = stands_times_root Q D u z (extension-stands Q D u E h) one in
        let k : IsExtension Q D (scale R z u) (extended Q D (scale R z u) s) = extended-is Q D (scale R z u) s in (
          extended Q D (scale R z u) s,
          k,
          λ x. ap trace (extension-matrix Q D (scale R z u) (extended Q D (scale R z u) s) k x ∙ scaled-extension u z x
              ∙ ap (scale R (number_power R z (to_nat (Q.exponent x)))) (sym (extension-matrix Q D u E h x)))
              ∙ trace-scale R (number_power R z (to_nat (Q.exponent x))) (E.at x),
        )

  module _ {d e : ℕ} (D : Representation H.table d) (E : Representation T e) (h : IsInduced Q D E) where
    out-into : (a : ℕ) → block_out Q E D h a · block_into Q E D h a ≡ unit R d
    unfolding block_into block_out
    out-into a =
        mul_assoc h.out (matrix_power (back E Q.generator) a) (matrix_power (E.at Q.generator) a · h.into)
        ∙ ap (λ (m : Matrix R e d). h.out · m) (sym (mul_assoc (matrix_power (back E Q.generator) a) (matrix_power (E.at Q.generator) a) h.into)
        ∙ ap (λ (m : Matrix R e e). m · h.into) (power-inverse (back E Q.generator) (E.at Q.generator) (back-mul E Q.generator) a) ∙ unit-mul h.into)
        ∙ h.out-into

    blocks : total Q.index (λ a. block_into Q E D h (to_nat a) · block_out Q E D h (to_nat a)) ≡ unit R e
    unfolding induced-restriction
    blocks = (induced-restriction Q E D h).all_pieces

    block_trace : (n : Fin H.table.places) (a : ℕ) → trace (E.at (H.member n) · (block_into Q E D h a · block_out Q E D h a)) ≡ trace ((conjugates Q D a).at n)
    block_trace n a =
        let i : Matrix R e d = block_into Q E D h a in
        let o : Matrix R d e = block_out Q E D h a in
        let c : Matrix R d d = (conjugates Q D a).at n in
        ap trace (sym (mul_assoc (E.at (H.member n)) i o) ∙ ap (λ (m : Matrix R e d). m · o) (block-member Q E D h a n))
        ∙ trace_comm (i · c) o ∙ ap trace (sym (mul_assoc o i c) ∙ ap (λ (m : Matrix R d d). m · c) (out-into a) ∙ unit-mul c)

    pub induced_member : (n : Fin H.table.places) → trace (E.at (H.member n)) ≡ sum R Q.index (λ a. trace ((conjugates Q D (to_nat a)).at n))
    induced_member n =
        let pieces : Fin Q.index → Matrix R e e = λ a. block_into Q E D h (to_nat a) · block_out Q E D h (to_nat a) in
        ap trace (sym (mul-unit (E.at (H.member n))) ∙ ap (λ (m : Matrix R e e). E.at (H.member n) · m) (sym blocks)
        ∙ mul-total Q.index (E.at (H.member n)) pieces)
        ∙ trace-total Q.index (λ a. E.at (H.member n) · pieces a)
        ∙ sum-ext R Q.index (λ a. trace (E.at (H.member n) · pieces a)) (λ a. trace ((conjugates Q D (to_nat a)).at n)) (λ a. block_trace n (to_nat a))

  -- the exponent of a place is that of any power of the generator times a member
  pub only_exponent : (x : Fin T.places) (a : Fin Q.index) (n : Fin H.table.places) → T.product (place_power T Q.generator (to_nat a)) (H.member n) ≡ x
      → Q.exponent x ≡ a
  only_exponent x a n e = Q.one_exponent (Q.exponent x) a (Q.part x) n (Q.splits x ∙ sym e)

  -- a power of the generator moves past a member
  past : (b : ℕ) (n : Fin H.table.places) → (k : Fin H.table.places)
      × (T.product (place_power T Q.generator b) (H.member n) ≡ T.product (H.member k) (place_power T Q.generator b))
  unfolding place_power
  past zero n = (n, T.start-product (H.member n) ∙ sym (T.product-start (H.member n)))
  past (suc b) n =
      let k = past b n in (
        Q.conj_back k.0,
        T.product_assoc Q.generator (place_power T Q.generator b) (H.member n) ∙ ap (T.product Q.generator) k.1
            ∙ sym (T.product_assoc Q.generator (H.member k.0) (place_power T Q.generator b))
            ∙ ap (λ y. T.product y (place_power T Q.generator b)) (Q.generator-member k.0)
            ∙ T.product_assoc (H.member (Q.conj_back k.0)) Q.generator (place_power T Q.generator b),
      )

  same_left : (x y z : Fin T.places) → T.product y x ≡ T.product z x → y ≡ z
  same_left x y z e = sym (undo y) ∙ ap (λ w. T.product w (T.opposite x)) e ∙ undo z
    where
      undo : (y : Fin T.places) → T.product (T.product y x) (T.opposite x) ≡ y
      undo y = T.product_assoc y x (T.opposite x) ∙ ap (T.product y) (T.product-opposite x) ∙ T.product-start y

  -- a place outside the members takes no power of the generator to its own coset
  other_coset : (x : Fin T.places) → ((n : Fin H.table.places) → H.member n ≡ x → ⊥) → (b : Fin Q.index) → b ≡ Q.exponent (T.product x (coset Q b)) → ⊥
  other_coset x outside b e =
      let y : Fin T.places = T.product x (coset Q b) in
      let k = past (to_nat b) (Q.part y) in
      outside k.0 (same_left (coset Q b) (H.member k.0) x
      (sym k.1 ∙ ap (λ (c : Fin Q.index). T.product (place_power T Q.generator (to_nat c)) (H.member (Q.part y))) e ∙ Q.splits y))

  pub induced_outside : {d : ℕ} (D : Representation H.table d) (x : Fin T.places) → ((n : Fin H.table.places) → H.member n ≡ x → ⊥)
      → trace ((induced_family Q D).at x) ≡ R.zero
  unfolding induced_trace
  induced_outside D x outside =
      induced-trace Q D x
      ∙ sum-ext R Q.index (λ b. R.mul (delta R b (Q.exponent (T.product x (coset Q b)))) (rest b)) (λ b. R.zero)
      (λ b. ap (λ k. R.mul k (rest b)) (delta-ne R b (Q.exponent (T.product x (coset Q b))) (other_coset x outside b)) ∙ zero-mul R (rest b))
      ∙ sum-zero R Q.index
    where
      rest : Fin Q.index → R.Carrier
      rest b = R.mul (block_phase Q x b) (trace (D.at (Q.part (T.product x (coset Q b)))))

  -- the traces of the conjugate go by the traces
  pub conjugate_trace : {a b : ℕ} (A : Representation H.table a) (B : Representation H.table b) → ((n : Fin H.table.places) → trace (A.at n) ≡ trace (B.at n))
      → (n : Fin H.table.places) → trace (conjugate Q A n) ≡ trace (conjugate Q B n)
  unfolding conjugate
  conjugate_trace A B e n = trace-scale R _ (A.at (Q.conj n)) ∙ ap (R.mul _) (e (Q.conj n)) ∙ sym (trace-scale R _ (B.at (Q.conj n)))

module _ {R : Ring} {T : FactorSystem R} {H : Subgroup T} (Q : CyclicQuotient H) (L : Representations H.table) (turn : Fin L.count → Fin L.count)
    (turns : (l : Fin L.count) → Equivalent (conjugate Q (L.member l)) (L.member (turn l)).at) where
  -- the a-th conjugate has the traces of the member a turns further
  pub orbit_traces : (l : Fin L.count) (a : ℕ) (n : Fin H.table.places)
      → trace ((conjugates Q (L.member l) a).at n) ≡ trace ((L.member (iterate turn a l)).at n)
  unfolding conjugates iterate conjugate_family
  orbit_traces l zero n = refl
  orbit_traces l (suc a) n =
      conjugate_trace Q (conjugates Q (L.member l) a) (L.member (iterate turn a l)) (orbit_traces l a) n
      ∙ equivalent-trace (conjugate Q (L.member (iterate turn a l))) (L.member (turn (iterate turn a l))).at (turns (iterate turn a l)) n

  pub induced_traces : (l : Fin L.count) → (E : Representation T (times Q.index (L.size l))) × IsInduced Q (L.member l) E
      × ((n : Fin H.table.places) → trace (E.at (H.member n)) ≡ sum R Q.index (λ a. trace ((L.member (iterate turn (to_nat a) l)).at n)))
      × ((x : Fin T.places) → ((n : Fin H.table.places) → H.member n ≡ x → ⊥) → trace (E.at x) ≡ R.zero)
  induced_traces l = (
    induced_family Q (L.member l),
    induced_family-is Q (L.member l),
    λ n. induced_member Q (L.member l) (induced_family Q (L.member l)) (induced_family-is Q (L.member l)) n
        ∙ sum-ext R Q.index (λ a. trace ((conjugates Q (L.member l) (to_nat a)).at n)) (λ a. trace ((L.member (iterate turn (to_nat a) l)).at n))
        (λ a. orbit_traces l (to_nat a) n),
    λ x outside. induced_outside Q (L.member l) x outside,
  )
