-- Fractions over their least common denominator.
--   denominator_divides        a denominator in lowest terms divides each other denominator
--   lowest_below               a denominator in lowest terms is not above another one
use Rattle.std.proofs.Common.{◌≡◌, sym, ◌∙◌, ap, ℕ, ◌<◌, ◌≤◌, ◌*◌, ℤ, pos, ◌*ℤ◌, arith, List}
use Rattle.std.specs.Int.{◌∣◌}
use native.Mathlib.Nat as Nat
use Rattle.irr_algebra.specs.Fin.{Fin}
use Rattle.irr_algebra.specs.Fin.Fin.{first}
use Rattle.irr_rational.specs.Rational.{ratio}
use Rattle.irr_rational.specs.Ratio.{IsLowest, entry}
use Rattle.irr_rational.proofs.Ratios.{over_of_ratio}
use Rattle.irr_rational.proofs.WholeNumbers.{dvd_of_multiples}
use Rattle.irr_space.specs.Operation.{component}
use Rattle.irr_rat.specs.Lowest.{AreThreeLowest}
use Rattle.irr_rat.specs.VectorMeaning.{vector_of}
use Rattle.irr_rat.proofs.LowestForms.{lowest_divides}
use Rattle.irr_rat.proofs.Vectors.{component-vector_of}

pub denominator_divides : (a c : ℤ) (b d : ℕ) → IsLowest a b → 0 < d → ratio c d ≡ ratio a b → b ∣ d
denominator_divides a c b d low h e = dvd_of_multiples {m = 1} (λ _. a) b d (record {
  positive = low.positive;
  lowest = λ g v each. low.lowest g v (each
      first);
})
    (λ _. record { number = c; is = over_of_ratio (ratio a b) c d h e })

pub lowest_below : (xs ys : List ℤ) (d e m : ℕ) → AreThreeLowest xs d → 0 < e → vector_of xs d ≡ vector_of ys e → e ≤ m → d ≤ m
lowest_below xs ys d e m low h same le = at_factor (lowest_divides (entry xs) (entry ys) d e low h (λ i. sym (component-vector_of xs d i)
    ∙ ap (λ v. component v i) same ∙ component-vector_of ys e i))
  where
    at_factor : (k : ℕ) × (0 < k) × (e ≡ k * d) × ((i : Fin 3) → entry ys i ≡ pos k *ℤ entry xs i) → d ≤ m
    at_factor t = let g : 1 * d ≤ t.0 * d = Nat.mul-le-mul_right d t.1 in let p : e ≡ t.0 * d = t.2 in omega arith
