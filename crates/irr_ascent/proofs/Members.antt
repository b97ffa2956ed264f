-- The lists over one member.
--
-- induced_of_same      a family with the matrices of an induced one is induced
-- induced_by_matrix    the matrices that are written out are those of an induced family
-- extension_by_matrix  and those of an extension
-- multiple_powers      the extension by a multiple of a matrix is a multiple of the other at each place
-- multiple_traces      and so are its traces
-- multiples_extend     the multiples by the roots of 1 have extensions
-- induced_over         an induced family alone is a list over the least of an orbit of several
-- none_over            no family is one over the others
-- extensions_over      the extensions by the multiples by the roots of 1 are a list over a fixed member
use Rattle.std.proofs.Common.{◌≡◌, sym, ◌∙◌, ap, refl, ℕ}
use mathlib.Core.Path.{fun_ext}
use Rattle.irr_algebra.specs.Ring.{Ring}
use Rattle.irr_algebra.specs.Field.{Field}
use Rattle.irr_algebra.specs.Fin.{Fin, to_nat}
use Rattle.irr_algebra.specs.Pair.{times}
use Rattle.irr_algebra.specs.Matrix.{Matrix, ◌·◌, scale, total, trace}
use Rattle.irr_algebra.proofs.Matrices.{scale-mul, scale-scale, trace-scale}
use Rattle.irr_theory.specs.Extension.{matrix_power}
use Rattle.irr_theory.specs.FactorSystem.{FactorSystem, Representation}
use Rattle.irr_theory.specs.Representations.{Representations, IsFull}
use Rattle.irr_theory.specs.Traces.{back}
use Rattle.irr_clifford.specs.Subgroup.{Subgroup, restrict}
use Rattle.irr_clifford.specs.Cyclic.{CyclicQuotient, StandsForGenerator, IsExtension, IsInduced}
use Rattle.irr_clifford.specs.Formulas.{extension_matrix, induced_matrix, split_phase}
use Rattle.irr_clifford.specs.Roots.{number_power, RootsOfOne}
use Rattle.irr_clifford.proofs.ClimbList.{equivalent_of_same}
use Rattle.irr_clifford.proofs.Extended.{extended, extended-is}
use Rattle.irr_clifford.proofs.Formulas.{extension-matrix, induced-matrix}
use Rattle.irr_clifford.proofs.InducedFamily.{induced_family, induced_family-is}
use Rattle.irr_clifford.proofs.Roots.{matrix_power-scale, stands_times_root, stands-ne-null, multiples_differ}
use Rattle.irr_ascent.specs.Joined.{listed, none}
use Rattle.irr_ascent.specs.Over.{AreOver, IsLeastOfOrbit}

module _ {R : Ring} {T : FactorSystem R} {H : Subgroup T} (Q : CyclicQuotient H) {d : ℕ} (D : Representation H.table d) where
  -- the translates of a block by the powers of the generator, added up
  abbrev blocks : {e : ℕ} → (Fin T.places → Matrix R e e) → Matrix R e e → Matrix R e e
  blocks s p = total Q.index (λ a. matrix_power (s Q.generator) (to_nat a) · p
      · matrix_power (scale R (T.phase-invertible Q.generator (T.opposite Q.generator)).inverse (s (T.opposite Q.generator))) (to_nat a))

  pub induced_of_same : {e : ℕ} (A B : Representation T e) → ((x : Fin T.places) → A.at x ≡ B.at x) → IsInduced Q D A → IsInduced Q D B
  unfolding back
  induced_of_same {e} A B s h = record {
    into = h.into;
    out = h.out;
    out-into = h.out-into;
    member-into = λ n. ap (λ (m : Matrix R e e). m · h.into) (sym (s (H.member n))) ∙ h.member-into n;
    out-member = λ n. ap (λ (m : Matrix R e e). h.out · m) (sym (s (H.member n))) ∙ h.out-member n;
    all_blocks = ap (λ (t : Fin T.places → Matrix R e e). blocks t (h.into · h.out)) (fun_ext (λ x. sym (s x))) ∙ h.all_blocks;
  }

  pub induced_by_matrix : (E : Representation T (times Q.index d)) → ((x : Fin T.places) → E.at x ≡ induced_matrix Q D x) → IsInduced Q D E
  induced_by_matrix E s = induced_of_same (induced_family Q D) E (λ x. induced-matrix Q D x ∙ sym (s x)) (induced_family-is Q D)

  pub extension_by_matrix : (u : Matrix R d d) → StandsForGenerator Q D u → (E : Representation T d)
      → ((x : Fin T.places) → E.at x ≡ extension_matrix Q D u x) → IsExtension Q D u E
  extension_by_matrix u h E s = record {
    at-member = λ n. same (H.member n) ∙ (extended-is Q D u h).at-member n;
    at-generator = same Q.generator ∙ (extended-is Q D u h).at-generator;
  }
    where
      same : (x : Fin T.places) → E.at x ≡ (extended Q D u h).at x
      same x = s x ∙ sym (extension-matrix Q D u (extended Q D u h) (extended-is Q D u h) x)

  -- the extension by a multiple of u is that by u, times a power of the number at each place
  pub multiple_powers : (u : Matrix R d d) (z : R.Carrier) (A B : Representation T d) → IsExtension Q D u A → IsExtension Q D (scale R z u) B
      → (x : Fin T.places) → B.at x ≡ scale R (number_power R z (to_nat (Q.exponent x))) (A.at x)
  unfolding extension_matrix
  multiple_powers u z A B hA hB x =
      extension-matrix Q D (scale R z u) B hB x
      ∙ ap (scale R (split_phase Q x)) (
      ap (λ (m : Matrix R d d). m · D.at (Q.part x)) (matrix_power-scale R z u (to_nat (Q.exponent x)))
      ∙ scale-mul R (number_power R z (to_nat (Q.exponent x))) (matrix_power u (to_nat (Q.exponent x))) (D.at (Q.part x)))
      ∙ scale_swap (split_phase Q x) (number_power R z (to_nat (Q.exponent x))) (matrix_power u (to_nat (Q.exponent x)) · D.at (Q.part x))
      ∙ ap (scale R (number_power R z (to_nat (Q.exponent x)))) (sym (extension-matrix Q D u A hA x))
    where
      scale_swap : (a b : R.Carrier) (m : Matrix R d d) → scale R a (scale R b m) ≡ scale R b (scale R a m)
      scale_swap a b m = scale-scale R a b m ∙ ap (λ c. scale R c m) (R.mul_comm a b) ∙ sym (scale-scale R b a m)

  -- so its traces are those of the extension by u, times these powers
  pub multiple_traces : (u : Matrix R d d) (z : R.Carrier) (A B : Representation T d) → IsExtension Q D u A → IsExtension Q D (scale R z u) B
      → (x : Fin T.places) → trace (B.at x) ≡ R.mul (number_power R z (to_nat (Q.exponent x))) (trace (A.at x))
  multiple_traces u z A B hA hB x = ap trace (multiple_powers u z A B hA hB x) ∙ trace-scale R (number_power R z (to_nat (Q.exponent x))) (A.at x)

  -- the extensions by the multiples
  pub multiples_extend : (u : Matrix R d d) → StandsForGenerator Q D u → (roots : RootsOfOne R Q.index) → (a : Fin Q.index)
      → (E : Representation T d) × IsExtension Q D (scale R (roots.root a) u) E
      × ((x : Fin T.places) → E.at x ≡ extension_matrix Q D (scale R (roots.root a) u) x)
  multiples_extend u h roots a = let s = stands_times_root Q D u (roots.root a) h (roots.power a) in (
    extended Q D (scale R (roots.root a) u) s,
    extended-is Q D (scale R (roots.root a) u) s,
    extension-matrix Q D (scale R (roots.root a) u) (extended Q D (scale R (roots.root a) u) s) (extended-is Q D (scale R (roots.root a) u) s),
  )

module _ {R : Ring} {T : FactorSystem R} {H : Subgroup T} (Q : CyclicQuotient H) (L : Representations H.table)
    (turn : Fin L.count → Fin L.count) (l : Fin L.count) where
  pub induced_over : {e : ℕ} (E : Representation T e) → (turn l ≡ l → ⊥) → IsLeastOfOrbit turn Q.index l → IsInduced Q (L.member l) E
      → AreOver Q L turn l (listed {n = 1} e (λ k. E))
  induced_over E n h i = record {
    extensions = λ e. absurd (n e);
    extends = λ e. absurd (n e);
    differ = λ e. absurd (n e);
    one_induced = λ f k. refl;
    induced = λ f k m. i;
    no_other = λ f k. absurd (k h);
  }

  pub none_over : (turn l ≡ l → ⊥) → (IsLeastOfOrbit turn Q.index l → ⊥) → AreOver Q L turn l (none T)
  none_over n h = record {
    extensions = λ e. absurd (n e);
    extends = λ e. absurd (n e);
    differ = λ e. absurd (n e);
    one_induced = λ f k. absurd (h k);
    induced = λ f k. absurd (h k);
    no_other = λ f k. refl;
  }

module _ (F : Field) {T : FactorSystem F.ring} {H : Subgroup T} (Q : CyclicQuotient H) (L : Representations H.table) (full : IsFull L)
    (turn : Fin L.count → Fin L.count) (l : Fin L.count) (fixed : turn l ≡ l) where
  open F use {ring as R}

  pub extensions_over : (u : Matrix R (L.size l) (L.size l)) → StandsForGenerator Q (L.member l) u → (roots : RootsOfOne R Q.index)
      → (E : Fin Q.index → Representation T (L.size l)) → ((a : Fin Q.index) → IsExtension Q (L.member l) (scale R (roots.root a) u) (E a))
      → AreOver Q L turn l (listed (L.size l) E)
  extensions_over u h roots E extend = record {
    extensions = λ e. refl;
    extends = λ e a. equivalent_of_same (restrict H (E a)) (L.member l).at (extend a).at-member;
    differ = λ e a b d. multiples_differ F Q (L.member l) (full.positive l) (full.simple l) u (stands-ne-null F Q (L.member l) (full.positive l) u h)
        (roots.root a) (roots.root b) (λ q. d (roots.injective a b q)) (E a) (E b) (extend a) (extend b);
    one_induced = λ n. absurd (n fixed);
    induced = λ n. absurd (n fixed);
    no_other = λ n. absurd (n fixed);
  }
