-- The order of wave vectors.
--   Below                        one wave vector stands before another
--   waves_match                  the comparison of two wave vectors, by that of the vectors of their components
--   below-less, same-less, and so on      what the answers of a comparison tell
--   same_or_below, at_most_other     one that is not behind stands before, or is the same
--   same_or_different            two wave vectors are the same, or not
use Rattle.std.proofs.Common.{◌≡◌, ◌↔◌, refl, sym, ◌∙◌, ap, subst, subst₂, ℕ, ℤ, ◌⊎◌, inl, inr, List, IsTrue, true, false, true≢false}
use Rattle.std.specs.Ordering.{MatchOrdering}
use Rattle.std.specs.declared.cmp.Ordering.{Ordering}
use Rattle.std.specs.declared.cmp.Ordering.TheVariants.{Less, Equal, Greater}
use mathlib.Core.Path.{fun_ext}
use Rattle.irr_rational.specs.Order.{IsAtMost, IsBelow}
use Rattle.irr_rational.proofs.Lexicographic.{at_most_or_above, below_asymm, below_irrefl, below_or_above}
use Rattle.irr_space.specs.Operation.{Vector, WaveVector, component, wave_component}
use Rattle.irr_lattice.proofs.Vectors.{wave-ext}
use Rattle.irr_rat.specs.VectorMeaning.{vector_of}
use Rattle.irr_rat.proofs.Vectors.{component-vector_of}
use Rattle.irr_kvec.specs.WaveMeaning.{wave_of, wave_vector}
use Rattle.irr_kvec.specs.declared.wave.Wave.{Wave}
use Rattle.irr_kvec.proofs.Products.{wave_component-wave_of}

abbrev pub Below : WaveVector → WaveVector → Type 0
Below r s = IsBelow (wave_component r) (wave_component s)

-- the comparison by vectors

same_components : (num : List ℤ) (den : ℕ) → component (vector_of num den) ≡ wave_component (wave_of num den)
same_components num den = fun_ext (λ i. component-vector_of num den i ∙ sym (wave_component-wave_of num den i))

vectors_match : (o : Ordering) (a c : List ℤ) (b d : ℕ)
    → MatchOrdering o (IsBelow (component (vector_of a b)) (component (vector_of c d))) (vector_of a b ≡ vector_of c d)
    (IsBelow (component (vector_of c d)) (component (vector_of a b)))
    → MatchOrdering o (Below (wave_of a b) (wave_of c d)) (wave_of a b ≡ wave_of c d) (Below (wave_of c d) (wave_of a b))
vectors_match Less a c b d m = subst₂ IsBelow (same_components a b) (same_components c d) m
vectors_match Equal a c b d e = wave-ext (wave_of a b) (wave_of c d)
    (λ i. ap (λ f. f i) (sym (same_components a b) ∙ ap component e ∙ same_components c d))
vectors_match Greater a c b d m = subst₂ IsBelow (same_components c d) (same_components a b) m

pub waves_match : (o : Ordering) (v w : Wave) (x y : Vector) → x ≡ vector_of v.num v.den → y ≡ vector_of w.num w.den
    → MatchOrdering o (IsBelow (component x) (component y)) (x ≡ y) (IsBelow (component y) (component x))
    → MatchOrdering o (Below (wave_vector v) (wave_vector w)) (wave_vector v ≡ wave_vector w)
    (Below (wave_vector w) (wave_vector v))
waves_match o v w x y e f m = vectors_match o v.num w.num v.den w.den
    (subst₂ (λ s t. MatchOrdering o (IsBelow (component s) (component t)) (s ≡ t) (IsBelow (component t) (component s)))
    e f m)

-- what the answers tell
module _ (o : Ordering) (v w : WaveVector) (m : MatchOrdering o (Below v w) (v ≡ w) (Below w v)) where
  when_less : o ≡ Less → Below v w
  when_less e = subst (λ p. MatchOrdering p (Below v w) (v ≡ w) (Below w v)) e m

  when_equal : o ≡ Equal → v ≡ w
  when_equal e = subst (λ p. MatchOrdering p (Below v w) (v ≡ w) (Below w v)) e m

  when_greater : o ≡ Greater → Below w v
  when_greater e = subst (λ p. MatchOrdering p (Below v w) (v ≡ w) (Below w v)) e m

  pub below-less : o ≡ Less → IsTrue true ↔ Below v w
  below-less e = (λ t. when_less e, λ b. refl)

  pub below-equal : o ≡ Equal → IsTrue false ↔ Below v w
  below-equal e = (
    λ t. absurd (true≢false (sym t)),
    λ b. absurd (below_irrefl (wave_component w) (subst (λ x. Below x w) (when_equal e) b)),
  )

  pub below-greater : o ≡ Greater → IsTrue false ↔ Below v w
  below-greater e = (
    λ t. absurd (true≢false (sym t)),
    λ b. absurd (below_asymm (wave_component v) (wave_component w) b (when_greater e)),
  )

  pub same-less : o ≡ Less → IsTrue false ↔ (v ≡ w)
  same-less e = (
    λ t. absurd (true≢false (sym t)),
    λ s. absurd (below_irrefl (wave_component w) (subst (λ x. Below x w) s (when_less e))),
  )

  pub same-equal : o ≡ Equal → IsTrue true ↔ (v ≡ w)
  same-equal e = (λ t. when_equal e, λ s. refl)

  pub same-greater : o ≡ Greater → IsTrue false ↔ (v ≡ w)
  same-greater e = (
    λ t. absurd (true≢false (sym t)),
    λ s. absurd (below_irrefl (wave_component w) (subst (Below w) s (when_greater e))),
  )

pub same_or_below : (v w : WaveVector) → ¬ (v ≡ w) → ¬ (Below w v) → Below v w
same_or_below v w differ above = elim (below_or_above 3 (wave_component v) (wave_component w)) [
  | inl b ↦ b
  | inr c ↦ (elim c [ inl e ↦ absurd (differ (wave-ext v w e)) | inr b ↦ absurd (above b) ])
]

pub at_most_other : (v w : WaveVector) → ¬ (Below w v) → IsAtMost (wave_component v) (wave_component w)
at_most_other v w above = elim (at_most_or_above 3 (wave_component v) (wave_component w)) [
  | inl a ↦ a
  | inr b ↦ absurd (above b)
]

pub same_or_different : (v w : WaveVector) → (v ≡ w) ⊎ ¬ (v ≡ w)
same_or_different v w = elim (below_or_above 3 (wave_component v) (wave_component w)) [
  | inl b ↦ inr (λ e. below_irrefl (wave_component w) (subst (λ x. Below x w) e b))
  | inr c ↦ (elim c [
    | inl e ↦ inl (wave-ext v w e)
    | inr b ↦ inr (λ e. below_irrefl (wave_component w) (subst (Below w) e b))
  ])
]
