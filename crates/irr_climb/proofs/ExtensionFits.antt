-- The calls that make the matrices of extensions can be worked out.
--   le_four                  a number with a square of at most 24
--   term_fits, terms_fit, ratio_fits     a term, a sum of terms, the multiple of the sum
--   product_fit, phase_fits, small_products      a product of two matrices of an extension, and the multiple of it
--   one_power_fits, root_fits    a power of z times a matrix, and times one of a family of limited size
use Rattle.std.proofs.Common.{◌≡◌, subst, ℕ, ◌+◌, ◌*◌, ◌^◌, ◌<◌, ◌≤◌, List, arith}
use native.Mathlib.Nat as Nat
use native.Mathlib.Decide.{dec_le}
use Rattle.irr_algebra.specs.Ring.{whole}
use Rattle.irr_algebra.specs.Fin.{Fin}
use Rattle.irr_algebra.specs.Matrix.{Matrix, ◌·◌, total}
use Rattle.irr_number.specs.Number.{Number, numbers}
use Rattle.irr_theory.specs.FactorSystem.{Representation}
use Rattle.irr_canonical.specs.RootSum.{IsRootSum}
use Rattle.irr_cyc.specs.declared.scalars.Scalar.{Ghosts}
use Rattle.irr_mat.specs.Size.{IsWithin, MultiplesFit, ProductFits, SumsFit}
use Rattle.irr_mat.proofs.Bounds.{within-mul}
use Rattle.irr_rep.specs.declared.family.Family.{Family}
use Rattle.irr_rep.specs.Family.{matrix_at}
use Rattle.irr_rep.specs.Twisted.{place_count}
use Rattle.irr_climb.specs.declared.step.Step.{Step}
use Rattle.irr_climb.specs.Extensions.{HasExtension, HasSmallProducts, trace_factor, trace_term}
use Rattle.irr_climb.specs.Families.{IsRead}
use Rattle.irr_climb.specs.Sizes.{IsSized, size_bound}
use Rattle.irr_climb.specs.Steps.{IsStep, large}
use Rattle.irr_climb.proofs.ExtensionSizes.{size_limited, size_small}
use Rattle.irr_climb.proofs.ExtensionSums.{first_terms}
use Rattle.irr_climb.proofs.ExtensionTerms.{bound, denominator, extension_within, factor_powers}
use Rattle.irr_climb.proofs.ExtensionTerms.{member_within, ratio_within, sum_within, term_within, total_within}

pub le_four : (d : ℕ) → d * d ≤ 24 → d ≤ 4
le_four d l = by (dec_le d 4)
  where
    by : Dec (d ≤ 4) → d ≤ 4
    by (yes p) = p
    by (no n) =
        let k : 5 ≤ d = omega (arith, n) in
        let m : 5 * 5 ≤ d * d = Nat.mul-le-mul k k in
        absurd (omega (arith, l, m))

-- a power of z times a matrix
pub one_power_fits : (M d t e : ℕ) (x : Number M) (a : Matrix (numbers M) d d) → M ≤ 12000 → e ≤ 2 ^ 58 → t ≤ 2 ^ 70 → IsRootSum M 1 1 x
    → IsWithin M t e a → MultiplesFit M x a
one_power_fits M d t e x a limited over few r w = record {
  s = 1;
  d = 1;
  t = t;
  e = e;
  factor = r;
  right = w;
  denominators = omega (arith, over);
  sizes =
      let k : 1 * M * (t * M) ≤ 1 * 12000 * (2 ^ 70 * 12000) = Nat.mul-le-mul (Nat.mul-le-mul_left 1 limited) (Nat.mul-le-mul few limited) in
      let l : 1 * 12000 * (2 ^ 70 * 12000) ≤ 2 ^ 100 = omega arith in Nat.le_trans k l;
}

module _ {S : Type 0} {G : Ghosts S} {M : ℕ} {step : Step} {f : Family S G} {traces : List S} (e : HasExtension M step f traces)
    (limited : M ≤ 12000) where
  abbrev h : ℕ
  h = place_count step.inner

  abbrev b : ℕ
  b = bound e.is e.D e.E e.fixed e.at-member

  abbrev den : ℕ
  den = denominator e.is e.D e.E e.fixed e.at-member

  -- the numbers of the bounds
  pub few_rows : e.d ≤ 4
  few_rows = le_four e.d (Nat.le_trans e.fixed.few e.few_members)

  small_bound : b ≤ 728
  small_bound = size_small h e.few_members

  small_den : den ≤ 728
  small_den = Nat.le_trans e.fixed.sized.small small_bound

  square : b * b ≤ 728 * 728
  square = Nat.mul-le-mul small_bound small_bound

  one_term : e.d * (b * b) ≤ 4 * (728 * 728)
  one_term = Nat.mul-le-mul few_rows square

  all_terms : h * (e.d * (b * b)) ≤ 24 * (4 * (728 * 728))
  all_terms = Nat.mul-le-mul e.few_members one_term

  entry : e.d * (h * (e.d * (b * b))) ≤ 4 * (24 * (4 * (728 * 728)))
  entry = Nat.mul-le-mul few_rows all_terms

  over : h * den ≤ 24 * 728
  over = Nat.mul-le-mul e.few_members small_den

  pub term_fits : (p : Fin (place_count step.outer)) (q i : Fin h) → MultiplesFit M (trace_factor e.is e.E p q) (e.D.at i)
  term_fits p q i = record {
    s = 1 * e.d;
    d = 1 * 1;
    t = b * b;
    e = den;
    factor = factor_powers e.is e.D e.E p q;
    right = member_within e.is e.D e.E e.fixed e.at-member i;
    denominators = let l = small_den in omega (arith, l);
    sizes =
        let k : 1 * e.d * M * (b * b * M) ≤ 1 * 4 * 12000 * (728 * 728 * 12000) =
        Nat.mul-le-mul (Nat.mul-le-mul (Nat.mul-le-mul_left 1 few_rows) limited) (Nat.mul-le-mul square limited) in
        let l : 1 * 4 * 12000 * (728 * 728 * 12000) ≤ 2 ^ 100 = omega arith in Nat.le_trans k l;
  }

  pub terms_fit : (p : Fin (place_count step.outer)) (k : ℕ) → k ≤ h → (q : Fin h) → SumsFit M (first_terms M (trace_term e.is e.D e.E p) k)
      (trace_term e.is e.D e.E p q)
  terms_fit p k below q = record {
    s = k * (e.d * (b * b));
    d = den;
    t = e.d * (b * b);
    e = den;
    left = sum_within e.is e.D e.E e.fixed e.at-member p k (λ i l. omega (arith, l, below));
    right = term_within e.is e.D e.E e.fixed e.at-member p q;
    denominators = let l : den * den ≤ 728 * 728 = Nat.mul-le-mul small_den small_den in omega (arith, l);
    sizes =
        let few : k ≤ 24 = Nat.le_trans below e.few_members in
        let u : k * (e.d * (b * b)) * M * den ≤ 24 * (4 * (728 * 728)) * 12000 * 728 = Nat.mul-le-mul (Nat.mul-le-mul
        (Nat.mul-le-mul few one_term) limited) small_den in
        let v : e.d * (b * b) * M * den ≤ 4 * (728 * 728) * 12000 * 728 = Nat.mul-le-mul (Nat.mul-le-mul one_term limited) small_den in
        let l : 24 * (4 * (728 * 728)) * 12000 * 728 + 4 * (728 * 728) * 12000 * 728 < 2 ^ 110 = omega arith in
        Nat.lt_of_le_of_lt (Nat.add-le-add u v) l;
  }

  pub ratio_fits : (p : Fin (place_count step.outer)) (y : Number M) → (numbers M).mul (whole (numbers M) h) y ≡ whole (numbers M) e.d
      → MultiplesFit M y (total h (trace_term e.is e.D e.E p))
  ratio_fits p y r = record {
    s = e.d;
    d = h;
    t = h * (e.d * (b * b));
    e = den;
    factor = ratio_within e.is e.D e.E e.fixed e.at-member y r;
    right = total_within e.is e.D e.E e.fixed e.at-member p;
    denominators = let l = over in omega (arith, l);
    sizes =
        let k : e.d * M * (h * (e.d * (b * b)) * M) ≤ 4 * 12000 * (24 * (4 * (728 * 728)) * 12000) =
        Nat.mul-le-mul (Nat.mul-le-mul few_rows limited) (Nat.mul-le-mul all_terms limited) in
        let l : 4 * 12000 * (24 * (4 * (728 * 728)) * 12000) ≤ 2 ^ 100 = omega arith in Nat.le_trans k l;
  }

  module _ (x y : Fin (place_count step.outer)) where
    within_at : (z : Fin (place_count step.outer)) → IsWithin M (e.d * (h * (e.d * (b * b)))) (h * den) (e.E.at z)
    within_at z = extension_within e.is e.D e.E e.fixed e.at-member z

    over_square : h * den * (h * den) ≤ 24 * 728 * (24 * 728)
    over_square = Nat.mul-le-mul over over

    entry_square : e.d * (h * (e.d * (b * b))) * (e.d * (h * (e.d * (b * b)))) ≤ 4 * (24 * (4 * (728 * 728))) * (4 * (24 * (4 * (728 * 728))))
    entry_square = Nat.mul-le-mul entry entry

    pub product_fit : ProductFits M (e.E.at x) (e.E.at y)
    product_fit = record {
      s = e.d * (h * (e.d * (b * b)));
      d = h * den;
      t = e.d * (h * (e.d * (b * b)));
      e = h * den;
      left = within_at x;
      right = within_at y;
      denominators =
          let k : h * den * (h * den) * (h * den * (h * den)) ≤ 24 * 728 * (24 * 728) * (24 * 728 * (24 * 728)) =
          Nat.mul-le-mul over_square over_square in
          let l : 24 * 728 * (24 * 728) * (24 * 728 * (24 * 728)) ≤ 2 ^ 60 = omega arith in Nat.le_trans k l;
      products =
          let one : e.d * (h * (e.d * (b * b))) * M ≤ 4 * (24 * (4 * (728 * 728))) * 12000 = Nat.mul-le-mul entry limited in
          let k : e.d * (h * (e.d * (b * b))) * M * (e.d * (h * (e.d * (b * b))) * M) ≤ 4 * (24 * (4 * (728 * 728))) * 12000 * (4 * (24 * (4 *
          (728 * 728))) * 12000) = Nat.mul-le-mul one one in
          let l : 4 * (24 * (4 * (728 * 728))) * 12000 * (4 * (24 * (4 * (728 * 728))) * 12000) ≤ 2 ^ 100 = omega arith in Nat.le_trans k l;
      sums =
          let k : e.d * (e.d * (h * (e.d * (b * b))) * (e.d * (h * (e.d * (b * b))))) * M * (h * den * (h * den))
          ≤ 4 * (4 * (24 * (4 * (728 * 728))) * (4 * (24 * (4 * (728 * 728))))) * 12000 * (24 * 728 * (24 * 728)) =
          Nat.mul-le-mul (Nat.mul-le-mul (Nat.mul-le-mul few_rows entry_square) limited) over_square in
          let l : 4 * (4 * (24 * (4 * (728 * 728))) * (4 * (24 * (4 * (728 * 728))))) * 12000 * (24 * 728 * (24 * 728)) < 2 ^ 110 = omega arith in
          Nat.lt_of_le_of_lt k l;
    }

    pub phase_fits : (u : Number M) → IsRootSum M 1 1 u → MultiplesFit M u (e.E.at x · e.E.at y)
    phase_fits u r = one_power_fits M e.d (e.d * (e.d * (h * (e.d * (b * b))) * (e.d * (h * (e.d * (b * b)))))) (h * den * (h * den)) u
        (e.E.at x · e.E.at y) limited
        (let k = over_square in let l : 24 * 728 * (24 * 728) ≤ 2 ^ 58 = omega arith in Nat.le_trans k l)
        (let k : e.d * (e.d * (h * (e.d * (b * b))) * (e.d * (h * (e.d * (b * b))))) ≤ 4 * (4 * (24 * (4 * (728 * 728))) * (4 * (24 * (4 *
        (728 * 728))))) =
        Nat.mul-le-mul few_rows entry_square in
        let l : 4 * (4 * (24 * (4 * (728 * 728))) * (4 * (24 * (4 * (728 * 728))))) ≤ 2 ^ 70 = omega arith in Nat.le_trans k l)
        r (within-mul M e.d e.d e.d (e.d * (h * (e.d * (b * b)))) (h * den) (e.d * (h * (e.d * (b * b)))) (h * den) (e.E.at x) (e.E.at y)
        (within_at x) (within_at y))

  -- both
  pub small_products : HasSmallProducts e.is e.E
  small_products = record {
    product = product_fit;
    multiple = phase_fits;
  }

-- a matrix of a family of limited size times a power of z
pub root_fits : {S : Type 0} {G : Ghosts S} {M : ℕ} {step : Step} (is : IsStep M step) {d : ℕ} (E : Representation (large is) d) (f : Family S G)
    → IsRead M (large is) E f → IsSized M (place_count step.outer) f → place_count step.outer ≤ 48 → M ≤ 12000
    → (x : Number M) → IsRootSum M 1 1 x → (p : Fin (place_count step.outer)) → MultiplesFit M x (E.at p)
root_fits {M = M} {step = step} is {d = d} E f r sized few limited x root p =
    let B = size_bound (place_count step.outer) in
    let b : B ≤ 18200 = size_limited (place_count step.outer) few in
    let square : B * B ≤ 18200 * 18200 = Nat.mul-le-mul b b in
    let small = sized.small in
    one_power_fits M d (B * B) sized.denominator x (E.at p) limited (omega (arith, b, small)) (omega (arith, square)) root
    (subst (IsWithin M (B * B) sized.denominator) (r.matrices p)
    (subst (λ k. IsWithin M (B * B) sized.denominator (matrix_at M k f.mats.items p)) r.size (sized.within p)))
