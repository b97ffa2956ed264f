-- Fractions over their least common denominator.
--   narrow-fits         numerators in lowest terms fit where others do
--   least-below         the denominator in lowest terms is not above another one
--   scaled-twice        a fraction over a multiple of its denominator
--   over-x, over-y, over-z     the product of three denominators
--   components-of       the components of a vector over a denominator
--   small-of            and the size of its numerators
use Rattle.std.proofs.Common.{◌≡◌, sym, ◌∙◌, ap, subst, ℕ, suc, ◌<◌, ◌≤◌, ◌*◌, List, [], ◌∷◌, get_or, ℤ, pos, ◌*ℤ◌, FitsSigned, to_z, of_z, arith, mul-pos, Option, None, Some, IfSome, unsigned_abs, ◌^◌}
use Rattle.std.specs.Int.{w64, w128}
use Rattle.std.proofs.lemmas.Int.{to_z-of_z, unsigned_abs-mul}
use native.Mathlib.Nat as Nat
use Rattle.std.proofs.Math.Nat.{mul-le-mul_left}
use Rattle.irr_algebra.specs.Fin.{Fin, to_nat}
use Rattle.irr_algebra.specs.Fin.Fin.{first, next}
use Rattle.irr_rational.specs.Rational.{Rational, ratio}
use Rattle.irr_rational.specs.Ratio.{AreLowest, entry, ratios}
use Rattle.irr_rational.proofs.Ratios.{ratio-scale, cross_of_ratio}
use Rattle.irr_rational.proofs.ListedRatios.{ratios-at}
use Rattle.irr_space.specs.Operation.{component}
use Rattle.irr_rat.specs.declared.vec3.Vec3.{Vec3}
use Rattle.irr_rat.specs.Lowest.{AreThreeLowest}
use Rattle.irr_rat.specs.VectorMeaning.{vector, vector_of}
use Rattle.irr_rat.proofs.LowestForms.{lowest_divides, fits_of_lowest}
use Rattle.irr_rat.proofs.Vectors.{component-vector_of, widen, each_of_three}

pub narrow-fits : (num low : List ℤ) (den least : ℕ) → AreThreeLowest low least → ((i : Fin 3) → ratios low least i ≡ ratios num den i) → 0 < den → ((i : Fin 3) → FitsSigned w64 (entry num i))
    → FitsSigned w64 (get_or low 0 (pos 0)) × FitsSigned w64 (get_or low 1 (pos 0)) × FitsSigned w64 (get_or low 2 (pos 0))
unfolding to_nat
narrow-fits num low den least h e p f = (all first, all (next first), all (next (next first)))
  where
    all : (i : Fin 3) → FitsSigned w64 (entry low i)
    all = (fits_of_lowest w64 {n = 3} (entry low) (entry num) least den h p (λ i. sym (ratios-at low least i) ∙ e i ∙ ratios-at num den i) (suc den) (omega arith) f).1

pub cast-fits : (a : ℤ) → FitsSigned w64 a → FitsSigned w64 (to_z w128 (of_z w128 a))
cast-fits a f = subst (FitsSigned w64) (sym (to_z-of_z w128 a (widen a f))) f

pub least-below : (low a : Fin 3 → ℤ) (b d m : ℕ) → AreLowest low b → AreLowest a d → ((i : Fin 3) → ratio (low i) b ≡ ratio (a i) d) → m < b → m < d
least-below low a b d m h g e l = at_factor (lowest_divides low a b d h g.positive e)
  where
    at_factor : (k : ℕ) × (0 < k) × (d ≡ k * b) × ((i : Fin 3) → a i ≡ pos k *ℤ low i) → m < d
    at_factor t = let r : 1 * b ≤ t.0 * b = Nat.mul-le-mul_right b t.1 in let p : d ≡ t.0 * b = t.2 in omega arith

pub scaled-twice : (n : ℤ) (x a b d : ℕ) → 0 < x → 0 < a → 0 < b → d ≡ b * (a * x) → ratio (pos b *ℤ (pos a *ℤ n)) d ≡ ratio n x
scaled-twice n x a b d hx ha hb e = ap (ratio (pos b *ℤ (pos a *ℤ n))) e ∙ ratio-scale (pos a *ℤ n) (a * x) b (mul-pos ha hx) hb ∙ ratio-scale n x a hx ha

pub over-x : (x y z : ℕ) → x * (y * z) ≡ z * (y * x)
over-x x y z = Nat.mul_comm x (y * z) ∙ ap (λ t. t * x) (Nat.mul_comm y z) ∙ Nat.mul_assoc z y x

pub over-y : (x y z : ℕ) → x * (y * z) ≡ z * (x * y)
over-y x y z = sym (Nat.mul_assoc x y z) ∙ Nat.mul_comm (x * y) z

pub over-z : (x y z : ℕ) → x * (y * z) ≡ y * (x * z)
over-z x y z = sym (Nat.mul_assoc x y z) ∙ ap (λ t. t * z) (Nat.mul_comm x y) ∙ Nat.mul_assoc y x z

pub components-of : (r : Option Vec3) (x y z : ℤ) (den : ℕ) (p q s : Rational) → IfSome r (λ v. vector v ≡ vector_of (x ∷ y ∷ z ∷ []) den) → ratio x den ≡ p → ratio y den ≡ q → ratio z den ≡ s
    → IfSome r (λ v. (component (vector v) first ≡ p) × (component (vector v) (next first) ≡ q) × (component (vector v) (next (next first)) ≡ s))
unfolding to_nat
components-of None x y z den p q s e fx fy fz = tt
components-of (Some v) x y z den p q s e fx fy fz = (at first ∙ fx, at (next first) ∙ fy, at (next (next first)) ∙ fz)
  where
    at : (i : Fin 3) → component (vector v) i ≡ ratio (entry {n = 3} (x ∷ y ∷ z ∷ []) i) den
    at i = ap (λ w. component w i) e ∙ component-vector_of (x ∷ y ∷ z ∷ []) den i

-- a numerator times two denominators, as the program keeps it
pub numerator_of : (w m n r : ℤ) (a b : ℕ) → FitsSigned w128 w → FitsSigned w64 m → FitsSigned w64 n → FitsSigned w64 r → w ≡ to_z w64 (of_z w64 m) → m ≡ pos b *ℤ to_z w64 (of_z w64 n)
    → n ≡ pos a *ℤ to_z w64 (of_z w64 r) → to_z w128 (of_z w128 w) ≡ pos b *ℤ (pos a *ℤ r)
numerator_of w m n r a b fw fm fn fr ew em en = to_z-of_z w128 w fw ∙ ew ∙ to_z-of_z w64 m fm ∙ em
    ∙ ap (λ k. pos b *ℤ k) (to_z-of_z w64 n fn ∙ en ∙ ap (λ k. pos a *ℤ k) (to_z-of_z w64 r fr))

pub wide-fits : (w m : ℤ) → FitsSigned w128 w → FitsSigned w64 m → w ≡ to_z w64 (of_z w64 m) → FitsSigned w64 (to_z w128 (of_z w128 w))
wide-fits w m fw fm e = subst (FitsSigned w64) (sym (to_z-of_z w128 w fw ∙ e ∙ to_z-of_z w64 m fm)) fm

pub three-fits : (x y z : ℤ) → FitsSigned w64 x → FitsSigned w64 y → FitsSigned w64 z → (i : Fin 3) → FitsSigned w64 (entry {n = 3} (x ∷ y ∷ z ∷ []) i)
unfolding to_nat
three-fits x y z fx fy fz = each_of_three (λ i. FitsSigned w64 (entry {n = 3} (x ∷ y ∷ z ∷ []) i)) fx fy fz

pub three-ratios : (num : Fin 3 → ℤ) (den : ℕ) (x y z : ℤ) (d : ℕ) → ratio (num first) den ≡ ratio x d → ratio (num (next first)) den ≡ ratio y d → ratio (num (next (next first))) den ≡ ratio z d
    → (i : Fin 3) → ratio (num i) den ≡ ratio (entry {n = 3} (x ∷ y ∷ z ∷ []) i) d
unfolding to_nat
three-ratios num den x y z d ex ey ez = each_of_three (λ i. ratio (num i) den ≡ ratio (entry {n = 3} (x ∷ y ∷ z ∷ []) i) d) ex ey ez

-- the three fractions over the product of their denominators
pub record AreOver (a b c x y z : ℤ) (p q r d : ℕ) : Type 0 where
  pub at_x : ratio a d ≡ ratio x p
  pub at_y : ratio b d ≡ ratio y q
  pub at_z : ratio c d ≡ ratio z r

pub are_over : (a b c x y z : ℤ) (p q r d e f : ℕ) → 0 < p → 0 < q → 0 < r → a ≡ pos r *ℤ (pos q *ℤ x) → b ≡ pos r *ℤ (pos p *ℤ y) → c ≡ pos q *ℤ (pos p *ℤ z)
    → d ≡ p * e → e ≡ q * f → f ≡ r → AreOver a b c x y z p q r d
are_over a b c x y z p q r d e f hp hq hr ea eb ec ed ee ef = record {
  at_x = ap (λ n. ratio n d) ea ∙ scaled-twice x p q r d hp hq hr (whole ∙ over-x p q r);
  at_y = ap (λ n. ratio n d) eb ∙ scaled-twice y q p r d hq hp hr (whole ∙ over-y p q r);
  at_z = ap (λ n. ratio n d) ec ∙ scaled-twice z r p q d hr hp hq (whole ∙ over-z p q r);
}
  where
    whole : d ≡ p * (q * r)
    whole = ed ∙ ap (λ n. p * n) (ee ∙ ap (λ n. q * n) ef)

-- a numerator over the least denominator is at most the numerator that is written times this denominator
over-small : (a n : ℤ) (d b : ℕ) → 0 < b → 0 < d → d ≤ 100000 → unsigned_abs n ≤ 1000000 → ratio a d ≡ ratio n b → unsigned_abs a ≤ 10 ^ 11
over-small a n d b hb hd le small e =
    let cross : unsigned_abs a * b ≡ unsigned_abs n * d = sym (unsigned_abs-mul a (pos b)) ∙ ap unsigned_abs (cross_of_ratio a n d b hd hb e) ∙ unsigned_abs-mul n (pos d) in
    let most : unsigned_abs n * d ≤ 1000000 * 100000 = Nat.mul-le-mul small le in
    let least : unsigned_abs a * 1 ≤ unsigned_abs a * b = mul-le-mul_left (unsigned_abs a) hb in
    omega arith

pub small-of : (r : Option Vec3) (x y z : ℤ) (p q s : ℕ) → IfSome r (λ v. v.den ≤ 100000) → unsigned_abs x ≤ 1000000 → unsigned_abs y ≤ 1000000 → unsigned_abs z ≤ 1000000 → 0 < p → 0 < q → 0 < s
    → IfSome r (λ v. (component (vector v) first ≡ ratio x p) × (component (vector v) (next first) ≡ ratio y q) × (component (vector v) (next (next first)) ≡ ratio z s))
    → IfSome r (λ v. (i : Fin 3) → unsigned_abs (entry v.num i) ≤ 10 ^ 11)
small-of None x y z p q s w hx hy hz hp hq hs e = tt
small-of (Some v) x y z p q s w hx hy hz hp hq hs e = each_of_three (λ i. unsigned_abs (entry v.num i) ≤ 10 ^ 11)
    (over-small (entry {n = 3} v.num first) x v.den p hp v.lowest.positive w hx (sym (component-vector_of v.num v.den first) ∙ e.0))
    (over-small (entry {n = 3} v.num (next first)) y v.den q hq v.lowest.positive w hy (sym (component-vector_of v.num v.den (next first)) ∙ e.1))
    (over-small (entry {n = 3} v.num (next (next first))) z v.den s hs v.lowest.positive w hz (sym (component-vector_of v.num v.den (next (next first))) ∙ e.2))
