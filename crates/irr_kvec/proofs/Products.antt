-- Products of rows and columns of fractions, and lists of three numbers.
--   at_first, at_second, at_third     what holds at each place of a list of three
--   ratio-add_same                    fractions over one denominator
--   dot-listed                        the product of a row and a column
--   divisible                         the program's test of divisibility
use Rattle.std.proofs.Common.{◌≡◌, sym, ◌∙◌, ap, ap₂, refl, ℕ, ◌<◌, ◌*◌, ◌%◌, ℤ, pos, ◌+ℤ◌, ◌*ℤ◌, unsigned_abs, List, get_or, IsTrue, nat_eq, ◌↔◌}
use Rattle.std.proofs.lemmas.Bool.{eqb-true, eq-eqb}
use Rattle.std.proofs.lemmas.Nat.Gcd.{dvd_of_mod-eq-zero, mod-eq-zero_of_dvd}
use Rattle.irr_algebra.specs.Fin.{Fin, to_nat}
use Rattle.irr_algebra.specs.Fin.Fin.{first, next}
use Rattle.irr_algebra.specs.Sum.{sum}
use Rattle.irr_algebra.specs.Matrix.{◌·◌}
use Rattle.irr_algebra.proofs.Rings.{add-mul}
use Rattle.irr_rational.specs.Integer.{integer}
use Rattle.irr_rational.specs.Rational.{rationals, rational_field, ratio, IsWhole}
use Rattle.irr_rational.specs.Ratio.{entry, ratios}
use Rattle.irr_rational.proofs.Integers.{integer-add}
use Rattle.irr_rational.proofs.Ratios.{ratio-mul}
use Rattle.irr_rational.proofs.WholeNumbers.{whole_ratio, dvd_of_whole}
use Rattle.irr_space.specs.Operation.{dot, wave_component}
use Rattle.irr_rat.specs.VectorMeaning.{vector_of}
use Rattle.irr_kvec.specs.WaveMeaning.{wave_of}

module _ (P : ℤ → Type 0) (xs : List ℤ) (h : (i : Fin 3) → P (entry xs i)) where
  pub at_first : P (get_or xs 0 (pos 0))
  unfolding to_nat
  at_first = h first

  pub at_second : P (get_or xs 1 (pos 0))
  unfolding to_nat
  at_second = h (next first)

  pub at_third : P (get_or xs 2 (pos 0))
  unfolding to_nat
  at_third = h (next (next first))

pub at_places : (P : ℤ → Type 0) (xs : List ℤ) → P (get_or xs 0 (pos 0)) → P (get_or xs 1 (pos 0)) → P (get_or xs 2 (pos 0)) → (i : Fin 3) → P (entry xs i)
unfolding to_nat
at_places P xs a b c first = a
at_places P xs a b c (next first) = b
at_places P xs a b c (next (next first)) = c
at_places P xs a b c (next (next (next i))) = elim i [ ]

pub wave_component-wave_of : (num : List ℤ) (den : ℕ) (i : Fin 3) → wave_component (wave_of num den) i ≡ ratio (entry num i) den
unfolding wave_component wave_of ratios
wave_component-wave_of num den i = refl

pub ratio-add_same : (a c : ℤ) (b : ℕ) → rationals.add (ratio a b) (ratio c b) ≡ ratio (a +ℤ c) b
unfolding ratio
ratio-add_same a c b = sym (add-mul rationals (integer rationals a) (integer rationals c) (rational_field.inverse (integer rationals (pos b))))
    ∙ ap (λ x. rationals.mul x (rational_field.inverse (integer rationals (pos b)))) (sym (integer-add rationals a c))

dot-terms : (a c : List ℤ) (b d : ℕ) → dot (wave_of a b) (vector_of c d)
    ≡ rationals.add (rationals.mul (ratio (get_or a 0 (pos 0)) b) (ratio (get_or c 0 (pos 0)) d))
    (rationals.add (rationals.mul (ratio (get_or a 1 (pos 0)) b) (ratio (get_or c 1 (pos 0)) d))
    (rationals.add (rationals.mul (ratio (get_or a 2 (pos 0)) b) (ratio (get_or c 2 (pos 0)) d)) rationals.zero))
unfolding dot ◌·◌ sum wave_of vector_of ratios to_nat
dot-terms a c b d = refl

abbrev over : (a c : List ℤ) → ℕ → ℤ
over a c k = get_or a k (pos 0) *ℤ get_or c k (pos 0)

pub dot-listed : (a c : List ℤ) (b d : ℕ) → 0 < b → 0 < d → dot (wave_of a b) (vector_of c d)
    ≡ ratio (((get_or a 0 (pos 0) *ℤ get_or c 0 (pos 0)) +ℤ (get_or a 1 (pos 0) *ℤ get_or c 1 (pos 0))) +ℤ (get_or a 2 (pos 0) *ℤ get_or c 2 (pos 0))) (b * d)
dot-listed a c b d hb hd = dot-terms a c b d
    ∙ ap₂ rationals.add (term 0) (ap₂ rationals.add (term 1) (rationals.add-zero (rationals.mul (ratio (get_or a 2 (pos 0)) b) (ratio (get_or c 2 (pos 0)) d)) ∙ term 2))
    ∙ sym (rationals.add_assoc (ratio (over a c 0) (b * d)) (ratio (over a c 1) (b * d)) (ratio (over a c 2) (b * d)))
    ∙ ap (λ x. rationals.add x (ratio (over a c 2) (b * d))) (ratio-add_same (over a c 0) (over a c 1) (b * d))
    ∙ ratio-add_same (over a c 0 +ℤ over a c 1) (over a c 2) (b * d)
  where
    term : (k : ℕ) → rationals.mul (ratio (get_or a k (pos 0)) b) (ratio (get_or c k (pos 0)) d) ≡ ratio (over a c k) (b * d)
    term k = sym (ratio-mul (get_or a k (pos 0)) (get_or c k (pos 0)) b d hb hd)

pub divisible : (n : ℤ) (d m e : ℕ) → 0 < d → m ≡ unsigned_abs n → e ≡ d → IsTrue (nat_eq (m % e) 0) ↔ IsWhole (ratio n d)
divisible n d m e h p q = (
  λ t. whole_ratio n d h (dvd_of_mod-eq-zero d (ap₂ ◌%◌ (sym p) (sym q) ∙ eqb-true (m % e) 0 t)),
  λ w. eq-eqb (m % e) 0 (ap₂ ◌%◌ p q ∙ mod-eq-zero_of_dvd d (dvd_of_whole n d h w)),
)
