-- The least vector of an operation up to the translations of a list.
--   IsLeastAmong            least among those that the first n translations give
--   small_at, common_small  vectors over a small common denominator
--   apart_by, not_apart_by, none_apart   when two vectors differ by one translation, or by none so far
--   first_least, next_least, all_least      none of them, one more, all
use Rattle.std.proofs.Common.{◌≡◌, sym, ◌∙◌, ap, subst, ℕ, ◌+◌, ◌<◌, ◌≤◌, ◌⊎◌, inl, inr, List, length, get_or, arith}
use Rattle.std.specs.List.{All, HoldsAt}
use Rattle.std.specs.Int.{◌∣◌}
use Rattle.std.proofs.lemmas.Bool.{cases_lt}
use Rattle.std.proofs.lemmas.List.{get_or_default}
use Rattle.irr_algebra.specs.Ring.{Ring}
use Rattle.irr_algebra.specs.Matrix.{◌⊖◌}
use Rattle.irr_algebra.proofs.Rings.{ring_laws}
use Rattle.irr_algebra.proofs.Matrices.{matrix-ext}
use Rattle.irr_rational.specs.Rational.{rationals}
use Rattle.irr_rational.specs.Order.{IsAtMost}
use Rattle.irr_rational.proofs.Lexicographic.{at_most_trans}
use Rattle.irr_space.specs.Operation.{Operation, Vector, component}
use Rattle.irr_space.specs.CanonicalOperation.{IsInCell}
use Rattle.irr_rat.specs.Lcm.{IsLcm}
use Rattle.irr_rat.specs.VectorMeaning.{vector}
use Rattle.irr_rat.specs.declared.vec3.Vec3.{Vec3}
use Rattle.irr_close.specs.Whole.{IsWholeVector}
use Rattle.irr_close.specs.Centring.{HasTranslation}
use Rattle.irr_close.specs.Canonical.{IsLeastVector}
use Rattle.irr_close.proofs.Closure.{whole_flipped}
use Rattle.irr_close.proofs.Lattice.{same_in_cell, divisor_small, lcm_small, near_one}

pub record IsLeastAmong (cs : List Vec3) (g : Operation) (v : Vec3) (n : ℕ) : Type 0 where
  pub in_cell : IsInCell (vector v)
  pub shared : HasTranslation cs (g.vector ⊖ vector v)
  pub least : (j : ℕ) → j < n
      → HoldsAt (λ c. (w : Vector) → IsInCell w → IsWholeVector ((g.vector ⊖ w) ⊖ vector c) → IsAtMost (component (vector v)) (component w)) cs j

swapped : (a b c : Vector) → (a ⊖ b) ⊖ c ≡ (a ⊖ c) ⊖ b
unfolding ◌⊖◌
swapped a b c = matrix-ext (λ i j. entry rationals (a.at i j) (b.at i j) (c.at i j))
  where
    entry : (R : Ring) (x y z : R.Carrier) → R.add (R.add x (R.neg y)) (R.neg z) ≡ R.add (R.add x (R.neg z)) (R.neg y)
    entry R x y z = simp (ring_laws, R)

pub small_at : (cs : List Vec3) (c : Vec3) (k D : ℕ) → 0 < D → D ≤ 100000 → All (λ c. c.den ∣ D) cs → k < length cs → c ≡ get_or cs k c
    → c.den ≤ 100000
small_at cs c k D p s all l e = divisor_small c.den D p s (subst (λ (x : Vec3). x.den ∣ D) (sym e) (all k c l))

pub common_small : (n : ℕ) (cs : List Vec3) (c : Vec3) (k D : ℕ) → 0 < D → D ≤ 100000 → n ∣ D → All (λ c. c.den ∣ D) cs → k < length cs
    → c ≡ get_or cs k c → (m : ℕ) → IsLcm n c.den m → m ≤ 100000
common_small n cs c k D p s d all l e m h = lcm_small n c.den D m p s d (subst (λ (x : Vec3). x.den ∣ D) (sym e) (all k c l)) h

-- a vector that a translation of the list gives
shared_by : (cs : List Vec3) (g : Operation) (c : Vec3) (k : ℕ) (w : Vector) → k < length cs → c ≡ get_or cs k c
    → IsWholeVector ((g.vector ⊖ vector c) ⊖ w) → HasTranslation cs (g.vector ⊖ w)
shared_by cs g c k w l e h = (
  k,
  l,
  λ f. subst (λ (x : Vec3). IsWholeVector ((g.vector ⊖ w) ⊖ vector x)) (e ∙ get_or_default cs k c f l)
      (subst IsWholeVector (swapped g.vector (vector c) w) h),
)

pub first_least : (cs : List Vec3) (g : Operation) (c w : Vec3) → 0 < length cs → c ≡ get_or cs 0 c → IsInCell (vector w)
    → IsWholeVector ((g.vector ⊖ vector c) ⊖ vector w) → IsLeastAmong cs g w 0
first_least cs g c w l e cell h = record { in_cell = cell; shared = shared_by cs g c 0 (vector w) l e h; least = λ j m. absurd (omega arith) }

-- the vectors of the cell that one translation gives are the same
one_vector : (u : Vector) (c : Vec3) (v w : Vector) → IsInCell v → IsInCell w → IsWholeVector ((u ⊖ vector c) ⊖ v)
    → IsWholeVector ((u ⊖ w) ⊖ vector c) → v ≡ w
one_vector u c v w a b p q =
    same_in_cell v w a b (near_one v w (u ⊖ vector c) (whole_flipped (u ⊖ vector c) v p)
    (whole_flipped (u ⊖ vector c) w (subst IsWholeVector (swapped u w (vector c)) q)))

pub apart_by : (u : Vector) (c : Vec3) (v w : Vector) → IsWholeVector ((u ⊖ vector c) ⊖ v) → v ≡ w → IsWholeVector ((u ⊖ w) ⊖ vector c)
apart_by u c v w p e = subst IsWholeVector (swapped u (vector c) w) (subst (λ (x : Vector). IsWholeVector ((u ⊖ vector c) ⊖ x)) e p)

pub not_apart_by : (u : Vector) (c : Vec3) (v w : Vector) → IsInCell v → IsInCell w → IsWholeVector ((u ⊖ vector c) ⊖ v) → ¬ (v ≡ w)
    → ¬ (IsWholeVector ((u ⊖ w) ⊖ vector c))
not_apart_by u c v w a b p n q = n (one_vector u c v w a b p q)

pub none_apart : (u w : Vector) (cs : List Vec3) (c : Vec3) (v : Vector) (n : ℕ)
    → ((j : ℕ) → j < n → HoldsAt (λ c. ¬ (IsWholeVector ((u ⊖ w) ⊖ vector c))) cs j) → n < length cs → c ≡ get_or cs n c
    → IsInCell v → IsInCell w → IsWholeVector ((u ⊖ vector c) ⊖ v) → ¬ (v ≡ w) → (j : ℕ) → j < n + 1
    → HoldsAt (λ c. ¬ (IsWholeVector ((u ⊖ w) ⊖ vector c))) cs j
none_apart u w cs c v n before l e a b p denied j m d = elim (cases_lt j n) [
  | inl less ↦ before j less d
  | inr more ↦ let here : j ≡ n = omega arith in
      subst (λ (x : Vec3). ¬ (IsWholeVector ((u ⊖ w) ⊖ vector x))) (e ∙ get_or_default cs n c d l ∙ ap (λ k. get_or cs k d) (sym here))
      (not_apart_by u c v w a b p denied)
]

pub next_least : (cs : List Vec3) (g : Operation) (v w r c : Vec3) (n : ℕ) → IsLeastAmong cs g v n → n < length cs → c ≡ get_or cs n c
    → IsInCell (vector w) → IsWholeVector ((g.vector ⊖ vector c) ⊖ vector w)
    → (r ≡ v) ⊎ (r ≡ w) → IsAtMost (component (vector r)) (component (vector v)) → IsAtMost (component (vector r)) (component (vector w))
    → IsLeastAmong cs g r (n + 1)
next_least cs g v w r c n h l e cell whole one at_v at_w = record {
  in_cell = elim one [
    | inl p ↦ subst (λ (x : Vec3). IsInCell (vector x)) (sym p) h.in_cell
    | inr p ↦ subst (λ (x : Vec3). IsInCell (vector x)) (sym p)
        cell
  ];
  shared = elim one [
    | inl p ↦ subst (λ (x : Vec3). HasTranslation cs (g.vector ⊖ vector x)) (sym p) h.shared
    | inr p ↦ subst (λ (x : Vec3). HasTranslation cs (g.vector ⊖ vector x)) (sym p) (shared_by cs g c n (vector w) l e whole)
  ];
  least = λ j m d u in_cell k. elim (cases_lt j n) [
    | inl less ↦ at_most_trans (component (vector r)) (component (vector v)) (component u) at_v (h.least j less d u in_cell k)
    | inr more ↦
        let here : j ≡ n = omega arith in
        let same : vector w ≡ u = one_vector g.vector c (vector w) u cell in_cell whole
        (subst (λ (x : Vec3). IsWholeVector ((g.vector ⊖ u) ⊖ vector x)) (ap (λ i. get_or cs i d) here ∙ get_or_default cs n d c l ∙ sym e) k) in
        subst (λ (x : Vector). IsAtMost (component (vector r)) (component x)) same at_w
  ];
}

pub all_least : (cs : List Vec3) (g : Operation) (v e : Vec3) (n : ℕ) → length cs ≤ n → IsLeastAmong cs g v n → IsLeastVector cs g (vector v)
all_least cs g v e n l h = record {
  in_cell = h.in_cell;
  shared = h.shared;
  least = λ w cell k. let m : k.0 < length cs = k.1 in
      h.least k.0 (omega arith) e w cell (k.2 e);
}
