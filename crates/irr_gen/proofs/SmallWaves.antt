-- Small components over a small denominator, brought to lowest terms.
--   lowest_limits     they are within the limits of wave vectors
--   three_small       three numbers of a byte are small
use Rattle.std.proofs.Common.{◌≡◌, sym, ◌∙◌, ap, subst, ℕ, ◌*◌, ◌<◌, ◌≤◌, ◌^◌, ℤ, pos, ◌*ℤ◌, unsigned_abs, List, [], ◌∷◌, arith}
use Rattle.std.proofs.lemmas.Int.{unsigned_abs-mul}
use native.Mathlib.Nat as Nat
use Rattle.irr_algebra.specs.Fin.{Fin, to_nat}
use Rattle.irr_algebra.specs.Fin.Fin.{first, next}
use Rattle.irr_rational.specs.Ratio.{entry}
use Rattle.irr_space.specs.Operation.{component}
use Rattle.irr_rat.specs.Lowest.{AreThreeLowest}
use Rattle.irr_rat.specs.VectorMeaning.{vector_of}
use Rattle.irr_rat.proofs.LowestForms.{lowest_divides}
use Rattle.irr_rat.proofs.Vectors.{component-vector_of}

module _ (xs ys : List ℤ) (d e : ℕ) (low : AreThreeLowest xs d) (positive : 0 < e) (same : vector_of xs d ≡ vector_of ys e) where
  abbrev IsFactor : Type 0
  IsFactor = (k : ℕ) × (0 < k) × (e ≡ k * d) × ((i : Fin 3) → entry ys i ≡ pos k *ℤ entry xs i)

  factor : IsFactor
  factor = lowest_divides (entry xs) (entry ys) d e low positive (λ i. sym (component-vector_of xs d i)
      ∙ ap (λ v. component v i) same ∙ component-vector_of ys e i)

  not_greater : (i : Fin 3) → unsigned_abs (entry xs i) ≤ unsigned_abs (entry ys i)
  not_greater i =
      let t : IsFactor = factor in
      let m : 1 * unsigned_abs (entry xs i) ≤ t.0 * unsigned_abs (entry xs i) = Nat.mul-le-mul_right (unsigned_abs (entry xs i)) t.1 in
      let p : unsigned_abs (entry ys i) ≡ t.0 * unsigned_abs (entry xs i) = ap unsigned_abs (t.3 i) ∙ unsigned_abs-mul (pos t.0) (entry xs i) in
      omega (arith, m, p)

  denominator_below : d ≤ e
  denominator_below =
      let t : IsFactor = factor in
      let g : 1 * d ≤ t.0 * d = Nat.mul-le-mul_right d t.1 in
      let p : e ≡ t.0 * d = t.2 in
      omega (arith, g, p)

  pub lowest_limits : ((i : Fin 3) → unsigned_abs (entry ys i) ≤ 255) → e ≤ 255
      → ((i : Fin 3) → unsigned_abs (entry xs i) ≤ 10 ^ 14) × (d ≤ 10 ^ 7)
  lowest_limits small below = (
    λ i. (let g : unsigned_abs (entry xs i) ≤ unsigned_abs (entry ys i) = not_greater i in let h = small i in omega (arith, g, h)),
    (let g : d ≤ e = denominator_below in omega (arith, g, below)),
  )

pub three_small : (x y z : ℕ) → x < 256 → y < 256 → z < 256 → (i : Fin 3) → unsigned_abs (entry (pos x ∷ pos y ∷ pos z ∷ []) i) ≤ 255
unfolding to_nat
three_small x y z a b c first = omega arith
three_small x y z a b c (next first) = omega arith
three_small x y z a b c (next (next first)) = omega arith
three_small x y z a b c (next (next (next i))) = elim i [ ]
