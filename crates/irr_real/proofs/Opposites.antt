-- The wave vector -k, and the operations that carry k to it.
--   opposite_lowest, opposite_wave        opposite numerators: in lowest terms, and those of -k
--   reverses_of_carried, carried_of_reverses    g carries k to a vector equivalent to -k exactly where kR is equivalent
--                                               to -k
use Rattle.std.proofs.Common.{◌≡◌, sym, ◌∙◌, ap, ap₂, subst, refl, ℕ, ◌<◌, ℤ, neg_ℤ, unsigned_abs, List}
use Rattle.std.specs.Int.{◌∣◌}
use Rattle.irr_algebra.specs.Fin.{Fin}
use Rattle.irr_algebra.specs.Matrix.{◌⊖◌, null}
use Rattle.irr_algebra.proofs.Rings.{zero-add}
use Rattle.irr_canonical.proofs.Sizes.{unsigned_abs-neg}
use Rattle.irr_rational.specs.Rational.{rationals, ratio}
use Rattle.irr_rational.specs.Ratio.{AreLowest, entry}
use Rattle.irr_rational.proofs.Ratios.{ratio-neg}
use Rattle.irr_space.specs.Operation.{Operation, WaveVector, turned, wave_component}
use Rattle.irr_space.specs.Reciprocal.{AreEquivalent}
use Rattle.irr_space.specs.Star.{Carries}
use Rattle.irr_lattice.proofs.Vectors.{wave-ext, wave_component-sub}
use Rattle.irr_kvec.specs.WaveMeaning.{wave_of}
use Rattle.irr_kvec.proofs.Products.{wave_component-wave_of}
use Rattle.irr_cocycle.specs.SpaceGroupLaws.{IsGroup}
use Rattle.irr_cocycle.proofs.Reciprocals.{equivalent_sym}
use Rattle.irr_little.proofs.Spaces.{carried_same, carried_to}
use Rattle.irr_reality.proofs.Opposites.{carries_of_reversing, reversing_of_carries}

module _ (a c : List ℤ) (b : ℕ) (same : (i : Fin 3) → entry c i ≡ neg_ℤ (entry a i)) where
  pub opposite_lowest : AreLowest {n = 3} (entry a) b → AreLowest {n = 3} (entry c) b
  opposite_lowest low = record {
    positive = low.positive;
    lowest = λ d v w. low.lowest d v (λ i. subst (λ m. d ∣ m)
        (ap unsigned_abs (same i) ∙ unsigned_abs-neg (entry a i)) (w i));
  }

  null_component : (i : Fin 3) → wave_component null i ≡ rationals.zero
  unfolding wave_component null
  null_component i = refl

  pub opposite_wave : 0 < b → wave_of c b ≡ null ⊖ wave_of a b
  opposite_wave h = wave-ext (wave_of c b) (null ⊖ wave_of a b) (λ i.
      wave_component-wave_of c b i ∙ ap (λ x. ratio x b) (same i) ∙ ratio-neg (entry a i) b h
      ∙ sym (wave_component-sub null (wave_of a b) i
      ∙ ap₂ (λ x y. rationals.add x (rationals.neg y)) (null_component i) (wave_component-wave_of a b i)
      ∙ zero-add rationals (rationals.neg (ratio (entry a i) b))))

module _ (G : Operation → Type 0) (group : IsGroup G) (g : Operation) (m : G g) (k w : WaveVector)
    (c : Carries G g k w) where
  pub reverses_of_carried : AreEquivalent G w (null ⊖ k) → AreEquivalent G (turned k g) (null ⊖ k)
  reverses_of_carried e =
      (reversing_of_carries G group k g m (carried_to G g k w (null ⊖ k) c (equivalent_sym G w (null ⊖ k) e))).reverses

  pub carried_of_reverses : AreEquivalent G (turned k g) (null ⊖ k) → AreEquivalent G w (null ⊖ k)
  carried_of_reverses e = carried_same G group g m k w (null ⊖ k) c
      (carries_of_reversing G group k g (record { member = m; reverses = e }))
