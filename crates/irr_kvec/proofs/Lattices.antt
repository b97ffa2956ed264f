-- The reciprocal lattice of the lattice that centrings give.
--   dot-sub_left, dot-sub_right, dot-scale_left, dot-scale_right     products of rows and columns
--   reciprocal-sub           differences of reciprocal vectors are reciprocal
--   equivalent_refl          a wave vector is equivalent to itself
--   reciprocal_whole         a reciprocal vector is whole
--   reciprocal_centring      its product with each centring is whole
--   reciprocal_from          these two facts make a vector reciprocal
--   reciprocal_multiple      as many times a whole vector as there are centrings is reciprocal
use Rattle.std.proofs.Common.{◌≡◌, sym, ◌∙◌, ap, subst, refl, ℕ, pos, List, Contains}
use Rattle.irr_algebra.specs.Fin.{Fin}
use Rattle.irr_algebra.specs.Fin.Fin.{first}
use Rattle.irr_algebra.specs.Matrix.{Matrix, ◌⊖◌, unit, null, column, scale}
use Rattle.irr_algebra.specs.Ring.{whole}
use Rattle.irr_algebra.proofs.Rings.{ring_laws}
use Rattle.irr_algebra.proofs.Matrices.{mul-sub, sub-mul, scale-mul, mul-scale}
use Rattle.irr_rational.specs.Rational.{Rational, rationals, IsWhole}
use Rattle.irr_rational.proofs.WholeNumbers.{whole-integer, whole-add, whole-mul, whole-neg}
use Rattle.irr_rational.proofs.Integers.{integer-pos}
use Rattle.irr_space.specs.Operation.{Operation, Vector, WaveVector, translation, component, wave_component, dot}
use Rattle.irr_space.specs.SpaceGroup.{IsTranslation}
use Rattle.irr_space.specs.Reciprocal.{IsReciprocal, AreEquivalent}
use Rattle.irr_lattice.proofs.Vectors.{IsWholeVector, IsWholeWave, whole_zero, whole-delta, dot-unit, whole-dot, component-unit, component-null, wave_component-scale}
use Rattle.irr_rat.specs.declared.vec3.Vec3.{Vec3}
use Rattle.irr_rat.specs.VectorMeaning.{vector}
use Rattle.irr_rat.proofs.Vectors.{component-sub}
use Rattle.irr_kvec.specs.Centrings.{IsCentred, LatticeOf}

pub dot-sub_right : (k : WaveVector) (t u : Vector) → dot k (t ⊖ u) ≡ rationals.add (dot k t) (rationals.neg (dot k u))
unfolding dot ◌⊖◌
dot-sub_right k t u = ap (λ (m : Matrix rationals 1 1). m.at first first) (mul-sub k t u)

pub dot-sub_left : (k l : WaveVector) (t : Vector) → dot (k ⊖ l) t ≡ rationals.add (dot k t) (rationals.neg (dot l t))
unfolding dot ◌⊖◌
dot-sub_left k l t = ap (λ (m : Matrix rationals 1 1). m.at first first) (sub-mul k l t)

pub dot-scale_left : (c : Rational) (k : WaveVector) (t : Vector) → dot (scale rationals c k) t ≡ rationals.mul c (dot k t)
unfolding dot scale
dot-scale_left c k t = ap (λ (m : Matrix rationals 1 1). m.at first first) (scale-mul rationals c k t)

pub dot-scale_right : (c : Rational) (k : WaveVector) (t : Vector) → dot k (scale rationals c t) ≡ rationals.mul c (dot k t)
unfolding dot scale
dot-scale_right c k t = ap (λ (m : Matrix rationals 1 1). m.at first first) (mul-scale rationals c k t)

pub reciprocal-sub : (G : Operation → Type 0) (k l : WaveVector) → IsReciprocal G k → IsReciprocal G l → IsReciprocal G (k ⊖ l)
reciprocal-sub G k l p q = record {
  is_whole = λ t g. subst IsWhole (sym (dot-sub_left k l t)) (whole-add (dot k t) (rationals.neg (dot l t)) (p.is_whole t g) (whole-neg (dot l t) (q.is_whole t g)));
}

pub equivalent_refl : (G : Operation → Type 0) (k : WaveVector) → AreEquivalent G k k
equivalent_refl G k = record { is_whole = λ t g. subst IsWhole (sym (dot-sub_left k k t ∙ rationals.add-neg (dot k t))) whole_zero }

pub lattice_translation : (cs : List Vec3) (t : Vector) → IsCentred cs t → IsTranslation (LatticeOf cs) t
unfolding translation
lattice_translation cs t h = record { is_unit = refl; centred = h }

pub translation_centred : (cs : List Vec3) (t : Vector) → IsTranslation (LatticeOf cs) t → IsCentred cs t
unfolding translation
translation_centred cs t h = h.centred

-- x - y + y is x
back : (x y : Rational) → rationals.add (rationals.add x (rationals.neg y)) y ≡ x
back x y = simp (ring_laws, rationals)

whole-whole : (n : ℕ) → IsWhole (whole rationals n)
whole-whole n = subst IsWhole (integer-pos rationals n) (whole-integer (pos n))

module _ (cs : List Vec3) (zero : IsCentred cs null) where
  -- whole vectors are in the lattice
  centred_whole : (v : Vector) → IsWholeVector v → IsCentred cs v
  centred_whole v h = record {
    centring = zero.centring;
    member = zero.member;
    is_whole = λ i. subst IsWhole (sym (component-sub v (vector zero.centring) i ∙ ap (λ x. rationals.add (component v i) x) (opposite i)))
        (whole-add (component v i) (component (null ⊖ vector zero.centring) i) (h i) (zero.is_whole i));
  }
    where
      opposite : (i : Fin 3) → rationals.neg (component (vector zero.centring) i) ≡ component (null ⊖ vector zero.centring) i
      opposite i = sym (component-sub null (vector zero.centring) i ∙ ap (λ x. rationals.add x (rationals.neg (component (vector zero.centring) i))) (component-null i) ∙ from_zero (rationals.neg (component (vector zero.centring) i)))
        where
          from_zero : (x : Rational) → rationals.add rationals.zero x ≡ x
          from_zero x = simp (ring_laws, rationals)

  pub reciprocal_whole : (k : WaveVector) → IsReciprocal (LatticeOf cs) k → IsWholeWave k
  reciprocal_whole k h i = subst IsWhole (dot-unit k i) (h.is_whole (column (unit rationals 3) i) (lattice_translation cs (column (unit rationals 3) i)
      (centred_whole (column (unit rationals 3) i) (λ j. subst IsWhole (sym (component-unit i j)) (whole-delta j i)))))

  pub reciprocal_centring : (k : WaveVector) → IsReciprocal (LatticeOf cs) k → (c : Vec3) → Contains cs c → IsWhole (dot k (vector c))
  reciprocal_centring k h c m = h.is_whole (vector c) (lattice_translation cs (vector c) (record {
    centring = c;
    member = m;
    is_whole = λ i. subst IsWhole (sym (component-sub (vector c) (vector c) i ∙ rationals.add-neg (component (vector c) i))) whole_zero;
  }))

  pub reciprocal_from : (k : WaveVector) → IsWholeWave k → ((c : Vec3) → Contains cs c → IsWhole (dot k (vector c))) → IsReciprocal (LatticeOf cs) k
  reciprocal_from k h along = record { is_whole = λ t g. product t (translation_centred cs t g) }
    where
      product : (t : Vector) → IsCentred cs t → IsWhole (dot k t)
      product t g = subst IsWhole (ap (λ x. rationals.add x (dot k (vector g.centring))) (dot-sub_right k t (vector g.centring)) ∙ back (dot k t) (dot k (vector g.centring)))
          (whole-add (dot k (t ⊖ vector g.centring)) (dot k (vector g.centring)) (whole-dot k (t ⊖ vector g.centring) h g.is_whole) (along g.centring g.member))

  pub reciprocal_multiple : (n : ℕ) → ((c : Vec3) → Contains cs c → (i : Fin 3) → IsWhole (component (scale rationals (whole rationals n) (vector c)) i))
      → (k : WaveVector) → IsWholeWave k → IsReciprocal (LatticeOf cs) (scale rationals (whole rationals n) k)
  reciprocal_multiple n multiple k h = reciprocal_from (scale rationals (whole rationals n) k)
      (λ i. subst IsWhole (sym (wave_component-scale (whole rationals n) k i)) (whole-mul (whole rationals n) (wave_component k i) (whole-whole n) (h i)))
      (λ c m. subst IsWhole (dot-scale_right (whole rationals n) k (vector c) ∙ sym (dot-scale_left (whole rationals n) k (vector c)))
      (whole-dot k (scale rationals (whole rationals n) (vector c)) h (multiple c m)))
