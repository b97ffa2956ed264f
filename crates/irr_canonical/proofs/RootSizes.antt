-- A sum of at most s powers of z over d has a denominator that divides d, and a size of at most s N.
--   denominator_of_IsRootSum, size_of_IsRootSum
use mathlib.Core.Path.{◌≡◌, refl, sym, ◌∙◌, ap, ap₂, subst}
use Prim.Native.Nat.{ℕ, zero, suc, ◌*◌, ◌<◌, ◌≤◌, ◌∣◌}
use native.Mathlib.Nat as Nat
use native.Mathlib.Omega.{arith}
use lib.IntN.{ℤ, pos, ◌+ℤ◌, ◌*ℤ◌, neg_ℤ}
use Rattle.std.proofs.Common.{Bool, true, false, List, [], ◌∷◌, length}
use Rattle.std.proofs.lemmas.Int.{unsigned_abs-mul}
use Rattle.std.specs.Int.RustNames.{unsigned_abs}
use Rattle.irr_algebra.specs.Ring.{whole}
use Rattle.irr_algebra.proofs.Rings.{one-mul}
use Rattle.irr_algebra.proofs.Whole.{whole-one}
use Rattle.irr_number.specs.Algebra.{at-element}
use Rattle.irr_number.specs.Element.{Element}
use Rattle.irr_number.specs.Fraction.{Fraction}
use Rattle.irr_number.specs.Number.{Number, number, numbers, root_power}
use Rattle.irr_number.proofs.Canonical.{cross_products, den-dvd}
use Rattle.irr_number.proofs.Primes.{cofactor}
use Rattle.irr_canonical.specs.Coefficient.{canonical, denominator, over, size}
use Rattle.irr_canonical.specs.Reduction.{IsInBasis}
use Rattle.irr_canonical.specs.RootSum.{IsRootSum, SignedPower, signed_power, signed_sum, with_sign}
use Rattle.irr_canonical.proofs.Forms.{IsCanonical-canonical, number-canonical}
use Rattle.irr_canonical.proofs.Operations.{over-add_same, over-neg, over-zero}
use Rattle.irr_canonical.proofs.Powers.{power_form}
use Rattle.irr_canonical.proofs.Sizes.{total_below_le, unsigned_abs-add, unsigned_abs-neg}
use Rattle.irr_canonical.proofs.Sums.{eq_of_mul, mul-number}

-- a factor that is taken from a product leaves no more
at_most : (e k c b : ℕ) → 0 < e → 0 < e * k → e * k * c ≡ e * b → c ≤ b
at_most e zero c b pe pk eq = absurd (omega arith)
at_most e (suc k) c b pe pk eq = let l : e * c ≤ e * suc k * c = omega arith in let m : e * c ≤ e * b = omega (arith, eq) in Nat.le_of_mul-le-mul_left m pe

module _ (N : ℕ) (hN : 0 < N) where
  -- coefficients in the basis, of absolute value at most s, that stand for x
  abbrev Form : ℕ → Number N → Type 0
  Form s x = (f : ℕ → ℤ) × (IsInBasis N f × ((i : ℕ) → i < N → unsigned_abs (f i) ≤ s) × ((p : 0 < 1) → number N (over N f 1 p) ≡ x))

  form_with_sign : (b : Bool) (s : ℕ) (x : Number N) → Form s x → Form s (with_sign N b x)
  unfolding with_sign
  form_with_sign false s x h = h
  form_with_sign true s x h = (
    λ i. neg_ℤ (h.0 i),
    (
      (λ j lt n. ap neg_ℤ (h.1.0 j lt n)),
      (λ i lt. let e : unsigned_abs (neg_ℤ (h.0 i)) ≡ unsigned_abs (h.0 i) = unsigned_abs-neg (h.0 i) in omega (arith, h.1.1 i lt)),
      λ p. over-neg N h.0 (λ i. neg_ℤ (h.0 i)) 1 p (λ j lt. refl) ∙ ap (numbers N).neg (h.1.2 p),
    ),
  )

  form_of_sum : (ps : List SignedPower) → Form (length ps) (signed_sum N ps)
  unfolding signed_sum
  form_of_sum [] = (λ _. pos 0, ((λ j lt n. refl), (λ i lt. omega arith), λ p. over-zero N (λ _. pos 0) 1 p (λ j lt. refl)))
  form_of_sum (p ∷ ps) = let h : Form 1 (signed_power N p) = form_with_sign p.negative 1 (root_power N p.exponent) (power_form N hN p.exponent) in
      let k : Form (length ps) (signed_sum N ps) = form_of_sum ps in (
        λ i. h.0 i +ℤ k.0 i,
        (
          (λ j lt n i. h.1.0 j lt n i +ℤ k.1.0 j lt n i),
          (λ i lt. omega (arith, unsigned_abs-add (h.0 i) (k.0 i), h.1.1 i lt, k.1.1 i lt)),
          λ q. over-add_same N h.0 k.0 (λ i. h.0 i +ℤ k.0 i) 1 q (λ j lt. refl) ∙ ap₂ (numbers N).add (h.1.2 q) (k.1.2 q),
        ),
      )

  module _ (s d : ℕ) (x : Number N) (h : IsRootSum N s d x) where
    form : Form (length h.powers) (signed_sum N h.powers)
    form = form_of_sum h.powers

    abbrev b : Fraction (Element N)
    b = over N form.0 d h.positive

    number-form : number N (canonical N x) ≡ number N b
    number-form = number-canonical N hN x ∙ eq_of_mul N hN d h.positive x (number N b) (h.multiple ∙ sym (form.1.2 one) ∙ sym (whole-one-mul (number N (over N form.0 1 one))) ∙ mul-number N (over N form.0 1 one) ∙ sym (mul-number N b))
      where
        one : 0 < 1
        one = omega arith

        whole-one-mul : (y : Number N) → (numbers N).mul (whole (numbers N) 1) y ≡ y
        whole-one-mul y = ap (λ c. (numbers N).mul c y) (whole-one (numbers N)) ∙ one-mul (numbers N) y

    cross : (j : ℕ) → j < N → pos d *ℤ (canonical N x).num.at j ≡ pos (canonical N x).den *ℤ b.num.at j
    cross = cross_products N hN (canonical N x) b (IsCanonical-canonical N hN x).in_basis (λ j lt n. at-element N form.0 j lt ∙ form.1.0 j lt n) number-form

    pub denominator_of_IsRootSum : denominator N x ∣ d
    unfolding denominator
    denominator_of_IsRootSum = den-dvd N hN (canonical N x) b (IsCanonical-canonical N hN x) cross

    pub size_of_IsRootSum : size N x ≤ s * N
    unfolding size canonical denominator
    size_of_IsRootSum = omega (arith, total_below_le N s (λ j. unsigned_abs ((canonical N x).num.at j)) small)
      where
        small : (j : ℕ) → j < N → unsigned_abs ((canonical N x).num.at j) ≤ s
        small j lt = with_cofactor (cofactor (canonical N x).den d denominator_of_IsRootSum)
          where
            with_cofactor : (c : ℕ) × (d ≡ (canonical N x).den * c) → unsigned_abs ((canonical N x).num.at j) ≤ s
            with_cofactor c =
                let le : unsigned_abs ((canonical N x).num.at j) ≤ unsigned_abs (b.num.at j) = at_most (canonical N x).den c.0 (unsigned_abs ((canonical N x).num.at j)) (unsigned_abs (b.num.at j)) (canonical N x).den_pos
                (subst (λ y. 0 < y) c.1 h.positive)
                (ap (λ y. y * unsigned_abs ((canonical N x).num.at j)) (sym c.1) ∙ sym (unsigned_abs-mul (pos d) ((canonical N x).num.at j)) ∙ ap unsigned_abs (cross j lt) ∙ unsigned_abs-mul (pos (canonical N x).den) (b.num.at j)) in
                let same : unsigned_abs (b.num.at j) ≡ unsigned_abs (form.0 j) = ap unsigned_abs (at-element N form.0 j lt) in
                omega (arith, le, same, form.1.1 j lt, h.few)
