-- Numbers of 128 bits that are narrowed to 64 and 32 bits, in lowest terms.
--   narrow_fits            they fit where they did over another denominator
--   narrow_small           and are as small
--   wave_of-same           the wave vector stays the same
use Rattle.std.proofs.Common.{◌≡◌, sym, ◌∙◌, ap, subst, ℕ, ◌<◌, ◌≤◌, ◌^◌, ◌*◌, List, ℤ, pos, ◌*ℤ◌, unsigned_abs, get_or, FitsSigned, to_z, of_z, arith}
use Rattle.std.proofs.lemmas.Int.{to_z-of_z, fits_signed_from_abs, unsigned_abs-mul}
use Rattle.std.specs.Int.{w64, w128}
use native.Mathlib.Nat as Nat
use Rattle.irr_algebra.specs.Fin.{Fin, to_nat}
use Rattle.irr_algebra.specs.Fin.Fin.{first, next}
use Rattle.irr_rational.specs.Rational.{ratio}
use Rattle.irr_rational.specs.Ratio.{entry, ratios, AreLowest}
use Rattle.irr_rational.proofs.ListedRatios.{ratios-at}
use Rattle.irr_lattice.proofs.Vectors.{wave-ext}
use Rattle.irr_rat.specs.Lowest.{AreThreeLowest}
use Rattle.irr_rat.proofs.LowestForms.{fits_of_lowest, lowest_divides}
use Rattle.irr_rat.proofs.Vectors.{widen}
use Rattle.irr_seitz.specs.OperationMeaning.{AreWithin}
use Rattle.irr_kvec.specs.WaveMeaning.{wave_of}
use Rattle.irr_kvec.proofs.Products.{wave_component-wave_of}

module _ (num low : List ℤ) (den least : ℕ) (positive : 0 < den) (lowest : AreThreeLowest low least) (same : (i : Fin 3) → ratios low least i ≡ ratios num den i) where
  each : (i : Fin 3) → ratio (entry low i) least ≡ ratio (entry num i) den
  each i = sym (ratios-at low least i) ∙ same i ∙ ratios-at num den i

  pub narrow_fits : AreWithin (2 ^ 60) num → (m : ℕ) → den < m → (least < m) × FitsSigned w64 (get_or low 0 (pos 0)) × FitsSigned w64 (get_or low 1 (pos 0)) × FitsSigned w64 (get_or low 2 (pos 0))
  unfolding to_nat
  narrow_fits small m l = (all.0, all.1 first, all.1 (next first), all.1 (next (next first)))
    where
      all : (least < m) × ((i : Fin 3) → FitsSigned w64 (entry low i))
      all = fits_of_lowest w64 {n = 3} (entry low) (entry num) least den lowest positive each m l (λ i. fits_signed_from_abs w64 (entry num i) (let s = small i in omega arith))

  pub narrow_small : (b : ℕ) → AreWithin b num → (least ≤ den) × AreWithin b low
  narrow_small b small = let t = lowest_divides {n = 3} (entry low) (entry num) least den lowest positive each in
      let k : 0 < t.0 = t.1 in
      let e : den ≡ t.0 * least = t.2 in
      let g : 1 * least ≤ t.0 * least = Nat.mul-le-mul_right least k in (
        omega (arith, e, g),
        λ i.
            let f : unsigned_abs (entry num i) ≡ t.0 * unsigned_abs (entry low i) = ap unsigned_abs (t.3 i) ∙ unsigned_abs-mul (pos t.0) (entry low i) in
            let h : 1 * unsigned_abs (entry low i) ≤ t.0 * unsigned_abs (entry low i) = Nat.mul-le-mul_right (unsigned_abs (entry low i)) k in
            let s = small i in
            omega (arith, f, h, s),
      )

  pub wave_of-same : wave_of low least ≡ wave_of num den
  wave_of-same = wave-ext (wave_of low least) (wave_of num den) (λ i. wave_component-wave_of low least i ∙ each i ∙ sym (wave_component-wave_of num den i))

pub fits_cast : (a : ℤ) → FitsSigned w64 a → FitsSigned w64 (to_z w128 (of_z w128 a))
fits_cast a f = subst (FitsSigned w64) (sym (to_z-of_z w128 a (widen a f))) f
