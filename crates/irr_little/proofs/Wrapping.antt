-- Wave vectors of small numerators.
--   wrapped_equivalent     remainders by the denominator times the number of centrings are an equivalent wave vector
--   wrapped_lowest         in lowest terms
--   remainder_small        and small
use Rattle.std.proofs.Common.{◌≡◌, sym, ◌∙◌, ap, ap₂, subst, ℕ, ◌*◌, ◌<◌, ◌≤◌, ℤ, pos, negsuc, ◌+ℤ◌, ◌*ℤ◌, neg_ℤ, unsigned_abs, List, [], ◌∷◌, length, get_or, refl, arith}
use Rattle.std.proofs.lemmas.Int.{ints}
use Rattle.std.specs.Int.{int_div_euclid, int_rem_euclid}
use native.Mathlib.Nat as Nat
use Rattle.irr_algebra.specs.Fin.{Fin, to_nat}
use Rattle.irr_algebra.specs.Ring.{Ring, whole}
use Rattle.irr_algebra.specs.Matrix.{◌⊖◌}
use Rattle.irr_algebra.proofs.Rings.{ring_laws, neg-mul}
use Rattle.irr_number.specs.Integers.{integers, +ℤ-*ℤ}
use Rattle.irr_rational.specs.Rational.{rationals, ratio}
use Rattle.irr_rational.specs.Ratio.{AreLowest, entry}
use Rattle.irr_rational.proofs.Ratios.{ratio-neg, ratio_same}
use Rattle.irr_rational.proofs.WholeNumbers.{multiple_of_ratio}
use Rattle.irr_space.specs.Operation.{wave_component}
use Rattle.irr_space.specs.Reciprocal.{IsReciprocal, AreEquivalent, times}
use Rattle.irr_lattice.proofs.Vectors.{wave-ext, wave_component-sub, wave_component-scale}
use Rattle.irr_lattice.proofs.Remainders.{euclid}
use Rattle.irr_rat.specs.declared.vec3.Vec3.{Vec3}
use Rattle.irr_rat.proofs.Vectors.{each_of_three}
use Rattle.irr_kvec.specs.WaveMeaning.{wave_of}
use Rattle.irr_kvec.specs.Centrings.{LatticeOf, IsCentringList}
use Rattle.irr_kvec.proofs.Products.{wave_component-wave_of, ratio-add_same}
use Rattle.irr_kvec.proofs.LeastFactors.{count_reciprocal}
use Rattle.irr_kvec.proofs.ReducedForms.{lowest_shifted}

-- a number less its remainder
less_remainder : (a c q m : ℤ) → a ≡ (q *ℤ m) +ℤ c → c +ℤ neg_ℤ a ≡ neg_ℤ (q *ℤ m)
less_remainder a c q m e = omega (arith, ints)

regroup : (R : Ring) (n q b : R.Carrier) → R.mul (R.mul n (R.neg q)) b ≡ R.neg (R.mul q (R.mul b n))
regroup R n q b = simp (ring_laws, R)

-- the opposite quotients
opposites : List ℤ → ℕ → List ℤ
opposites a m = neg_ℤ (int_div_euclid (get_or a 0 (pos 0)) (pos m)) ∷ neg_ℤ (int_div_euclid (get_or a 1 (pos 0)) (pos m)) ∷ neg_ℤ (int_div_euclid
    (get_or a 2 (pos 0)) (pos m)) ∷ []

opposites-at : (a : List ℤ) (m : ℕ) (i : Fin 3) → entry (opposites a m) i ≡ neg_ℤ (int_div_euclid (entry a i) (pos m))
unfolding opposites to_nat
opposites-at a m = each_of_three (λ i. entry (opposites a m) i ≡ neg_ℤ (int_div_euclid (entry a i) (pos m))) refl refl refl

pub wrapped_equivalent : (cs : List Vec3) → IsCentringList cs → (a c : List ℤ) (b m : ℕ) → 0 < b → 0 < m → m ≡ b * length cs
    → ((i : Fin 3) → entry c i ≡ int_rem_euclid (entry a i) (pos m)) → AreEquivalent (LatticeOf cs) (wave_of c b) (wave_of a b)
wrapped_equivalent cs list a c b m hb hm size rest = subst (IsReciprocal (LatticeOf cs))
    (wave-ext (times (length cs) (wave_of (opposites a m) 1)) (wave_of c b ⊖ wave_of a b) same) (count_reciprocal cs list (opposites a m))
  where
    numbers : (i : Fin 3) → (pos (length cs) *ℤ neg_ℤ (int_div_euclid (entry a i) (pos m))) *ℤ pos b ≡ (entry c i +ℤ neg_ℤ (entry a i)) *ℤ pos 1
    numbers i = regroup integers (pos (length cs)) (int_div_euclid (entry a i) (pos m)) (pos b)
        ∙ ap (λ n. neg_ℤ (int_div_euclid (entry a i) (pos m) *ℤ pos n)) (sym size)
        ∙ sym (less_remainder (entry a i) (entry c i) (int_div_euclid (entry a i) (pos m)) (pos m)
        (euclid (entry a i) m hm ∙ ap (λ r. (int_div_euclid (entry a i) (pos m) *ℤ pos m) +ℤ r) (sym (rest i))))
        ∙ sym (integers.mul-one (entry c i +ℤ neg_ℤ (entry a i)))

    same : (i : Fin 3) → wave_component (times (length cs) (wave_of (opposites a m) 1)) i ≡ wave_component (wave_of c b ⊖ wave_of a b) i
    same i = wave_component-scale (whole rationals (length cs)) (wave_of (opposites a m) 1) i
        ∙ ap (rationals.mul (whole rationals (length cs))) (wave_component-wave_of (opposites a m) 1 i ∙ ap (λ x. ratio x 1) (opposites-at a m i))
        ∙ sym (multiple_of_ratio (length cs) (neg_ℤ (int_div_euclid (entry a i) (pos m))) 1 (omega arith))
        ∙ ratio_same (pos (length cs) *ℤ neg_ℤ (int_div_euclid (entry a i) (pos m))) (entry c i +ℤ neg_ℤ (entry a i)) 1 b (omega arith) hb (numbers i)
        ∙ sym (ratio-add_same (entry c i) (neg_ℤ (entry a i)) b) ∙ ap (rationals.add (ratio (entry c i) b)) (ratio-neg (entry a i) b hb)
        ∙ sym (wave_component-sub (wave_of c b) (wave_of a b) i
        ∙ ap₂ (λ x y. rationals.add x (rationals.neg y)) (wave_component-wave_of c b i) (wave_component-wave_of a b i))

pub wrapped_lowest : (a c : Fin 3 → ℤ) (b m n : ℕ) → AreLowest a b → 0 < m → m ≡ b * n → ((i : Fin 3) → c i ≡ int_rem_euclid (a i) (pos m))
    → AreLowest c b
wrapped_lowest a c b m n low hm size rest = lowest_shifted a (λ i. int_div_euclid (a i) (pos b) +ℤ neg_ℤ (int_div_euclid (a i)
    (pos m) *ℤ pos n)) c b low (λ i. step i)
  where
    numbers : (x y p q r s n b m : ℤ) → x ≡ (q *ℤ m) +ℤ y → x ≡ (p *ℤ b) +ℤ r → m ≡ b *ℤ n → y ≡ r +ℤ ((p +ℤ neg_ℤ (q *ℤ n)) *ℤ b)
    numbers x y p q r s n b m e f g =
        let u : (p +ℤ neg_ℤ (q *ℤ n)) *ℤ b ≡ (p *ℤ b) +ℤ (neg_ℤ (q *ℤ n) *ℤ b) = +ℤ-*ℤ p (neg_ℤ (q *ℤ n)) b in
        let v : neg_ℤ (q *ℤ n) *ℤ b ≡ neg_ℤ ((q *ℤ n) *ℤ b) = neg-mul integers (q *ℤ n) b in
        let w : (q *ℤ n) *ℤ b ≡ q *ℤ m = integers.mul_assoc q n b ∙ ap (λ z. q *ℤ z) (integers.mul_comm n b ∙ sym g) in
        omega (arith, ints)

    step : (i : Fin 3) → c i ≡ int_rem_euclid (a i) (pos b) +ℤ ((int_div_euclid (a i) (pos b) +ℤ neg_ℤ (int_div_euclid (a i)
        (pos m) *ℤ pos n)) *ℤ pos b)
    step i = numbers (a i) (c i) (int_div_euclid (a i) (pos b)) (int_div_euclid (a i) (pos m)) (int_rem_euclid (a i) (pos b)) (pos 0) (pos n)
        (pos b) (pos m)
        (euclid (a i) m hm ∙ ap (λ r. (int_div_euclid (a i) (pos m) *ℤ pos m) +ℤ r) (sym (rest i))) (euclid (a i) b low.positive) (ap pos size)

-- a remainder is below the divisor
pub remainder_below : (x : ℤ) (n : ℕ) → 0 < n → (r : ℕ) × (r < n) × (int_rem_euclid x (pos n) ≡ pos r)
remainder_below (pos a) n h = (_, Nat.mod-lt a h, refl)
remainder_below (negsuc a) n h = (_, omega arith, refl)

pub remainder_small : (x : ℤ) (n m : ℕ) → 0 < n → n ≤ m → unsigned_abs (int_rem_euclid x (pos n)) ≤ m
remainder_small x n m h l = let t = remainder_below x n h in subst (λ y. unsigned_abs y ≤ m) (sym t.2) (let b : t.0 < n = t.1 in omega arith)
