-- Ratios and numbers compared.
--   by_whole, by_rest             ratios by whole parts, and by what is left over them
--   IsWritten                     what the terms of a canonical form say of the coefficients
--   coefficients_below            where the first k terms are the same, so are the coefficients up to the next
--   ordered_by_terms              the first term that differs decides
--   ordered_by_last_term, ordered_by_other_term      where the terms of one number have ended
--   same_by_terms                 the same terms
use Rattle.std.proofs.Common.{◌≡◌, refl, sym, ◌∙◌, ap, ap₂, subst, ℕ, ℤ, pos, negsuc, suc, ◌+◌ as ◌+ℕ◌, ◌*◌ as ◌*ℕ◌, ◌/◌, ◌%◌, ◌-◌, ◌<◌, ◌≤◌, ◌+ℤ◌}
use Rattle.std.proofs.Common.{◌*ℤ◌, ◌≤ℤ◌, ◌<ℤ◌, ◌⊎◌, inl, inr, List, length, arith, lit<, mod-lt, mul_comm, suc-mul, zero-mul, neg_ℤ, Ordering, Less}
use Rattle.std.proofs.Common.{Equal, Greater}
use Rattle.std.proofs.lemmas.Bool.{cases_lt}
use Rattle.std.proofs.lemmas.Int.{ints}
use Rattle.std.specs.Ordering.{MatchOrdering, int_cmp, nat_cmp, ordering_reverse}
use Rattle.std.proofs.lemmas.Cmp.{int_ranked, ranked}
use Rattle.std.specs.Int.{int_div_euclid, int_rem_euclid}
use Rattle.std.specs.Int.RustNames.{unsigned_abs}
use Rattle.irr_algebra.proofs.Rings.{ring_laws}
use Rattle.irr_number.specs.Integers.{integers, *ℤ-one}
use Rattle.irr_number.specs.Number.{Number}
use Rattle.irr_rational.specs.Integer.{integer}
use Rattle.irr_rational.specs.Rational.{rationals, ratio}
use Rattle.irr_rational.specs.Order.{◌<ℚ◌}
use Rattle.irr_rational.proofs.Integers.{integer-one, integer-add}
use Rattle.irr_rational.proofs.Ratios.{ratio_same}
use Rattle.irr_rational.proofs.Floors.{floor-quotient}
use Rattle.irr_rational.proofs.Orders.{ratio-lt, ratio-zero, integer-le, le_trans, lt_of_lt_of_le}
use Rattle.irr_canonical.specs.Coefficient.{canonical, coefficient, denominator}
use Rattle.irr_space.specs.CompleteList.{IsNumberBefore}
use Rattle.irr_rows.proofs.NumberOrder.{eq_of_coefficients}
use Rattle.irr_char.specs.Rows.{IsFormOf, IsTermBefore, IsSameTerm}
use Rattle.irr_char.proofs.TermLists.{AreTermsOf, term_at, terms_of}

integer-succ : (k : ℤ) → rationals.add (integer rationals k) rationals.one ≡ integer rationals (k +ℤ pos 1)
integer-succ k = ap (rationals.add (integer rationals k)) (sym (integer-one rationals)) ∙ sym (integer-add rationals k (pos 1))

succ_le : (k l : ℤ) → k <ℤ l → (k +ℤ pos 1) ≤ℤ l
succ_le k l h = omega (arith, ints)

-- the lesser whole part
pub whole_less : (a c : ℤ) (b d : ℕ) → 0 < b → 0 < d → int_div_euclid a (pos b) <ℤ int_div_euclid c (pos d) → ratio a b <ℚ ratio c d
whole_less a c b d p q l = lt_of_lt_of_le (ratio a b) (integer rationals (int_div_euclid a (pos b) +ℤ pos 1)) (ratio c d)
    (subst (λ x. ratio a b <ℚ x) (integer-succ (int_div_euclid a (pos b))) (floor-quotient a b p).below)
    (le_trans (integer rationals (int_div_euclid a (pos b) +ℤ pos 1)) (integer rationals (int_div_euclid c (pos d))) (ratio c d)
    (integer-le (int_div_euclid a (pos b) +ℤ pos 1) (int_div_euclid c (pos d)) (succ_le (int_div_euclid a (pos b)) (int_div_euclid c (pos d)) l))
    (floor-quotient c d q).at_most)

-- what is left over the whole part
pub rest : ℤ → ℕ → ℕ
rest a b = unsigned_abs (int_rem_euclid a (pos b))

pub rest-lt : (a : ℤ) (b : ℕ) → 0 < b → unsigned_abs (int_rem_euclid a (pos b)) < b
rest-lt (pos n) b p = mod-lt n p
rest-lt (negsuc n) b p = let m : n % b < b = mod-lt n p in omega arith

below_zero : (n m r : ℕ) → m ≡ n +ℕ 1 +ℕ r → negsuc n ≡ neg_ℤ (pos m) +ℤ pos r
below_zero n m r e = omega (arith, ints)

quotient-rest : (a : ℤ) (b : ℕ) → 0 < b → a ≡ (int_div_euclid a (pos b) *ℤ pos b) +ℤ pos (rest a b)
unfolding rest
quotient-rest (pos n) b p =
    let c : (n / b) *ℕ b ≡ b *ℕ (n / b) = mul_comm (n / b) b in
    let m : n % b < b = mod-lt n p in
    let e : n ≡ (n / b) *ℕ b +ℕ n % b = omega arith in
    ap pos e
quotient-rest (negsuc n) b p =
    let c : (n / b) *ℕ b ≡ b *ℕ (n / b) = mul_comm (n / b) b in
    let m : n % b < b = mod-lt n p in
    let s : suc (n / b) *ℕ b ≡ (n / b) *ℕ b +ℕ b = suc-mul (n / b) b in
    below_zero n (suc (n / b) *ℕ b) (b - 1 - n % b) (omega arith)

cross : (a : ℤ) (b d : ℕ) → 0 < b → a *ℤ pos d ≡ (int_div_euclid a (pos b) *ℤ pos (b *ℕ d)) +ℤ pos (rest a b *ℕ d)
cross a b d p = ap (λ z. z *ℤ pos d) (quotient-rest a b p) ∙ distribute (int_div_euclid a (pos b)) (pos b) (pos (rest a b)) (pos d)
  where
    distribute : (q u r v : ℤ) → ((q *ℤ u) +ℤ r) *ℤ v ≡ (q *ℤ (u *ℤ v)) +ℤ (r *ℤ v)
    distribute q u r v = simp (ring_laws, integers)

add_less : (k : ℤ) (m n : ℕ) → m < n → (k +ℤ pos m) <ℤ (k +ℤ pos n)
add_less k m n l = omega (arith, ints)

-- of one whole part, what is left over it decides
pub rest_less : (a c : ℤ) (b d : ℕ) → 0 < b → 0 < d → int_div_euclid a (pos b) ≡ int_div_euclid c (pos d) → rest a b *ℕ d < rest c d *ℕ b
    → ratio a b <ℚ ratio c d
rest_less a c b d p q e l = ratio-lt a c b d p q (subst (λ z. z <ℤ (c *ℤ pos b)) (sym (cross a b d p))
    (subst (λ z. ((int_div_euclid a (pos b) *ℤ pos (b *ℕ d)) +ℤ pos (rest a b *ℕ d)) <ℤ z)
    (ap₂ (λ k m. (k *ℤ pos m) +ℤ pos (rest c d *ℕ b)) e (mul_comm b d) ∙ sym (cross c d b q))
    (add_less (int_div_euclid a (pos b) *ℤ pos (b *ℕ d)) (rest a b *ℕ d) (rest c d *ℕ b) l)))

pub rest_same : (a c : ℤ) (b d : ℕ) → 0 < b → 0 < d → int_div_euclid a (pos b) ≡ int_div_euclid c (pos d) → rest a b *ℕ d ≡ rest c d *ℕ b
    → ratio a b ≡ ratio c d
rest_same a c b d p q e s = ratio_same a c b d p q (cross a b d p
    ∙ ap₂ (λ k m. k +ℤ pos m) (ap₂ (λ k m. k *ℤ pos m) e (mul_comm b d)) s ∙ sym (cross c d b q))

-- what holds by an answer, from what implies it
pub match_weaker : {P Q R S T U : Type 0} (o : Ordering) → (P → S) → (Q → T) → (R → U) → MatchOrdering o P Q R → MatchOrdering o S T U
match_weaker Less f g h m = f m
match_weaker Equal f g h m = g m
match_weaker Greater f g h m = h m

pub by_whole : (a c : ℤ) (b d : ℕ) → 0 < b → 0 < d → ¬ (int_div_euclid a (pos b) ≡ int_div_euclid c (pos d)) → (o : Ordering)
    → o ≡ int_cmp (int_div_euclid a (pos b)) (int_div_euclid c (pos d))
    → MatchOrdering o (ratio a b <ℚ ratio c d) (ratio a b ≡ ratio c d) (ratio c d <ℚ ratio a b)
by_whole a c b d p q n o e = match_weaker {S = ratio a b <ℚ ratio c d} {T = ratio a b ≡ ratio c d} {U = ratio c d <ℚ ratio a b} o
    (whole_less a c b d p q) (λ s. absurd (n s)) (whole_less c a d b q p)
    (int_ranked (int_div_euclid a (pos b)) (int_div_euclid c (pos d)) o e)

pub by_rest : (a c : ℤ) (b d : ℕ) → 0 < b → 0 < d → int_div_euclid a (pos b) ≡ int_div_euclid c (pos d)
    → (o : Ordering) → o ≡ nat_cmp (unsigned_abs (int_rem_euclid a (pos b)) *ℕ d) (unsigned_abs (int_rem_euclid c (pos d)) *ℕ b)
    → MatchOrdering o (ratio a b <ℚ ratio c d) (ratio a b ≡ ratio c d) (ratio c d <ℚ ratio a b)
unfolding rest
by_rest a c b d p q s o e = match_weaker {S = ratio a b <ℚ ratio c d} {T = ratio a b ≡ ratio c d} {U = ratio c d <ℚ ratio a b} o
    (rest_less a c b d p q s) (rest_same a c b d p q s) (rest_less c a d b q p (sym s))
    (ranked (unsigned_abs (int_rem_euclid a (pos b)) *ℕ d) (unsigned_abs (int_rem_euclid c (pos d)) *ℕ b) o e)

pub positive_ratio : (c : ℤ) (d : ℕ) → 0 < d → pos 0 ≤ℤ c → ¬ (c ≡ pos 0) → rationals.zero <ℚ ratio c d
positive_ratio c d p l n = subst (λ x. x <ℚ ratio c d) (ratio-zero 1 (lit< tt)) (ratio-lt (pos 0) c 1 d (lit< tt) p (zero_less c d l n))
  where
    above : (c : ℤ) → pos 0 ≤ℤ c → ¬ (c ≡ pos 0) → pos 0 <ℤ c
    above c l n = omega (arith, ints)

    zero_less : (c : ℤ) (d : ℕ) → pos 0 ≤ℤ c → ¬ (c ≡ pos 0) → (pos 0 *ℤ pos d) <ℤ (c *ℤ pos 1)
    zero_less c d l n = subst (λ z. (pos 0 *ℤ pos d) <ℤ z) (sym (*ℤ-one c)) (subst (λ k. pos k <ℤ c) (sym (zero-mul d)) (above c l n))

pub negative_ratio : (c : ℤ) (d : ℕ) → 0 < d → c ≤ℤ pos 0 → ¬ (c ≡ pos 0) → ratio c d <ℚ rationals.zero
negative_ratio c d p l n = subst (λ x. ratio c d <ℚ x) (ratio-zero 1 (lit< tt)) (ratio-lt c (pos 0) d 1 p (lit< tt) (zero_more c d l n))
  where
    under : (c : ℤ) → c ≤ℤ pos 0 → ¬ (c ≡ pos 0) → c <ℤ pos 0
    under c l n = omega (arith, ints)

    zero_more : (c : ℤ) (d : ℕ) → c ≤ℤ pos 0 → ¬ (c ≡ pos 0) → (c *ℤ pos 1) <ℤ (pos 0 *ℤ pos d)
    zero_more c d l n = subst (λ z. z <ℤ (pos 0 *ℤ pos d)) (sym (*ℤ-one c)) (subst (λ k. c <ℤ pos k) (sym (zero-mul d)) (under c l n))

-- what the terms of a canonical form say of the coefficients
pub record IsWritten (n : ℕ) (x : Number n) (d : ℕ) (ts : List (ℕ × ℤ)) : Type 0 where
  pub positive : 0 < d
  pub below : (i : ℕ) → i < length ts → (term_at ts i).0 < n
  pub nonzero : (i : ℕ) → i < length ts → ¬ ((term_at ts i).1 ≡ pos 0)
  pub rising : (i j : ℕ) → i < j → j < length ts → (term_at ts i).0 < (term_at ts j).0
  pub value : (i : ℕ) → i < length ts → coefficient n x (term_at ts i).0 ≡ ratio (term_at ts i).1 d
  pub complete : (j : ℕ) → j < n → ((i : ℕ) × (i < length ts) × ((term_at ts i).0 ≡ j)) ⊎ (coefficient n x j ≡ rationals.zero)

pub written : (n : ℕ) (x : Number n) (d : ℕ) (ts : List (ℕ × ℤ)) → 0 < d → IsFormOf n x d ts → IsWritten n x d ts
unfolding coefficient
written n x d ts p h = record {
  positive = p;
  below = terms.below;
  nonzero = terms.nonzero;
  rising = terms.rising;
  value = λ i l. ap₂ ratio (sym (terms.value i l)) (sym h.same_denominator);
  complete = λ j l. no_term j (terms.complete j l);
}
  where
    terms : AreTermsOf n (canonical n x).num.at ts
    terms = subst (AreTermsOf n (canonical n x).num.at) (sym h.same_terms) (terms_of n (canonical n x).num.at)

    no_term : (j : ℕ) → ((i : ℕ) × (i < length ts) × ((term_at ts i).0 ≡ j)) ⊎ ((canonical n x).num.at j ≡ pos 0)
        → ((i : ℕ) × (i < length ts) × ((term_at ts i).0 ≡ j)) ⊎ (ratio ((canonical n x).num.at j) (denominator n x) ≡ rationals.zero)
    no_term j (inl q) = inl q
    no_term j (inr z) = inr (ap₂ ratio z (sym h.same_denominator) ∙ ratio-zero d p)

module _ (n : ℕ) (x y : Number n) (d e : ℕ) (xs ys : List (ℕ × ℤ)) (wx : IsWritten n x d xs) (wy : IsWritten n y e ys) (k : ℕ) (kx : k ≤ length xs)
    (ky : k ≤ length ys)
    (same : (i : ℕ) → i < k → IsSameTerm d e (term_at xs i) (term_at ys i)) where
  shared : (i j : ℕ) → i < k → (term_at xs i).0 ≡ j → coefficient n x j ≡ coefficient n y j
  shared i j l s = sym (ap (coefficient n x) s) ∙ wx.value i (omega arith) ∙ (same i l).1 ∙ sym (wy.value i (omega arith))
      ∙ ap (coefficient n y) (sym (same i l).0 ∙ s)

  -- below t, where the terms from k on have no exponent below t
  pub coefficients_below : (t : ℕ) → ((i : ℕ) → k ≤ i → i < length xs → t ≤ (term_at xs i).0)
      → ((i : ℕ) → k ≤ i → i < length ys → t ≤ (term_at ys i).0)
      → (j : ℕ) → j < t → j < n → coefficient n x j ≡ coefficient n y j
  coefficients_below t fx fy j l m = by_places (wx.complete j m) (wy.complete j m)
    where
      by_places : ((i : ℕ) × (i < length xs) × ((term_at xs i).0 ≡ j)) ⊎ (coefficient n x j ≡ rationals.zero)
          → ((i : ℕ) × (i < length ys) × ((term_at ys i).0 ≡ j)) ⊎ (coefficient n y j ≡ rationals.zero)
          → coefficient n x j ≡ coefficient n y j
      by_places (inl p) q = elim (cases_lt p.0 k) [
        | inl b ↦ shared p.0 j b p.2
        | inr g ↦ absurd (let f : t ≤ (term_at xs p.0).0 = fx p.0 g p.1 in let s : (term_at xs p.0).0 ≡ j = p.2 in omega arith)
      ]
      by_places (inr z) (inl p) = elim (cases_lt p.0 k) [
        | inl b ↦ shared p.0 j b ((same p.0 b).0 ∙ p.2)
        | inr g ↦ absurd (let f : t ≤ (term_at ys p.0).0 = fy p.0 g p.1 in let s : (term_at ys p.0).0 ≡ j = p.2 in omega arith)
      ]
      by_places (inr z) (inr w) = z ∙ sym w

  -- the exponents of x from k on are at least that of its term at k
  from_term : k < length xs → (i : ℕ) → k ≤ i → i < length xs → (term_at xs k).0 ≤ (term_at xs i).0
  from_term l i g m = elim (cases_lt k i) [
    | inl b ↦ (let r : (term_at xs k).0 < (term_at xs i).0 = wx.rising k i b m in omega arith)
    | inr c ↦ (let s : i ≡ k = omega arith in subst (λ a. (term_at xs k).0 ≤ (term_at xs a).0) (sym s) (omega arith))
  ]

  module _ (l : k < length xs) (beyond : (i : ℕ) → k ≤ i → i < length ys → (term_at xs k).0 < (term_at ys i).0) where
    before_t : (j : ℕ) → j < (term_at xs k).0 → coefficient n x j ≡ coefficient n y j
    before_t j m = coefficients_below (term_at xs k).0 (from_term l)
        (λ i g h. (let b : (term_at xs k).0 < (term_at ys i).0 = beyond i g h in omega arith)) j m
        (let b : (term_at xs k).0 < n = wx.below k l in omega arith)

    -- y has no term with this exponent
    none : coefficient n y (term_at xs k).0 ≡ rationals.zero
    none = by_place (wy.complete (term_at xs k).0 (wx.below k l))
      where
        by_place : ((i : ℕ) × (i < length ys) × ((term_at ys i).0 ≡ (term_at xs k).0)) ⊎ (coefficient n y (term_at xs k).0 ≡ rationals.zero)
            → coefficient n y (term_at xs k).0 ≡ rationals.zero
        by_place (inr z) = z
        by_place (inl p) = elim (cases_lt p.0 k) [
          | inl b ↦ absurd (let r : (term_at xs p.0).0 < (term_at xs k).0 = wx.rising p.0 k b l in let s : (term_at xs p.0).0 ≡ (term_at ys p.0).0 =
              (same p.0 b).0 in
              let u : (term_at ys p.0).0 ≡ (term_at xs k).0 = p.2 in omega arith)
          | inr g ↦ absurd (let r : (term_at xs k).0 < (term_at ys p.0).0 = beyond p.0 g p.1 in let u : (term_at ys p.0).0 ≡ (term_at xs k).0 = p.2 in
              omega arith)
        ]

    pub lone_positive : pos 0 ≤ℤ (term_at xs k).1 → IsNumberBefore n x y
    lone_positive s = record {
      exponent = (term_at xs k).0;
      below = wx.below k l;
      before = before_t;
      greater = subst (λ z. z <ℚ coefficient n x (term_at xs k).0) (sym none)
          (subst (λ z. rationals.zero <ℚ z) (sym (wx.value k l)) (positive_ratio (term_at xs k).1 d wx.positive s (wx.nonzero k l)));
    }

    pub lone_negative : (term_at xs k).1 ≤ℤ pos 0 → IsNumberBefore n y x
    lone_negative s = record {
      exponent = (term_at xs k).0;
      below = wx.below k l;
      before = λ j m. sym (before_t j m);
      greater = subst (λ z. coefficient n x (term_at xs k).0 <ℚ z) (sym none)
          (subst (λ z. z <ℚ rationals.zero) (sym (wx.value k l)) (negative_ratio (term_at xs k).1 d wx.positive s (wx.nonzero k l)));
    }

  pub both_terms : (l : k < length xs) (m : k < length ys) → (term_at xs k).0 ≡ (term_at ys k).0
      → ((i : ℕ) → k ≤ i → i < length ys → (term_at ys k).0 ≤ (term_at ys i).0)
      → ratio (term_at ys k).1 e <ℚ ratio (term_at xs k).1 d → IsNumberBefore n x y
  both_terms l m s from r = record {
    exponent = (term_at xs k).0;
    below = wx.below k l;
    before = λ j q. coefficients_below (term_at xs k).0 (from_term l) (λ i g h. subst (λ a. a ≤ (term_at ys i).0) (sym s) (from i g h)) j q
        (let b : (term_at xs k).0 < n = wx.below k l in omega arith);
    greater = subst (λ z. z <ℚ coefficient n x (term_at xs k).0) (sym (wy.value k m) ∙ ap (coefficient n y) (sym s))
        (subst (λ z. ratio (term_at ys k).1 e <ℚ z) (sym (wx.value k l)) r);
  }

  pub no_terms : 0 < n → length xs ≤ k → length ys ≤ k → x ≡ y
  no_terms p l m = eq_of_coefficients n p x y (λ j h. coefficients_below n (λ i g b. absurd (omega arith)) (λ i g b. absurd (omega arith)) j h h)

pub slice_written : (n : ℕ) (x : Number n) (d : ℕ) (ts slice : List (ℕ × ℤ)) → 0 < d → slice ≡ ts → IsFormOf n x d ts → IsWritten n x d slice
slice_written n x d ts slice p e h = written n x d slice p (subst (IsFormOf n x d) (sym e) h)

module _ (n : ℕ) (x y : Number n) (d e : ℕ) (xs ys : List (ℕ × ℤ)) (wx : IsWritten n x d xs) (wy : IsWritten n y e ys) (k : ℕ)
    (same : (i : ℕ) → i < k → IsSameTerm d e (term_at xs i) (term_at ys i)) where
  other : (i : ℕ) → i < k → IsSameTerm e d (term_at ys i) (term_at xs i)
  other i l = (sym (same i l).0, sym (same i l).1)

  exponents_from : (l : k < length xs) (m : k < length ys) → (term_at xs k).0 < (term_at ys k).0 → (i : ℕ) → k ≤ i → i < length ys
      → (term_at xs k).0 < (term_at ys i).0
  exponents_from l m b i g h = (let f : (term_at ys k).0 ≤ (term_at ys i).0 =
      from_term n y x e d ys xs wy wx k (omega arith) (omega arith) other m i g h in omega arith)

  exponents_after : (l : k < length xs) (m : k < length ys) → (term_at ys k).0 < (term_at xs k).0 → (i : ℕ) → k ≤ i → i < length xs
      → (term_at ys k).0 < (term_at xs i).0
  exponents_after l m b i g h = (let f : (term_at xs k).0 ≤ (term_at xs i).0 =
      from_term n x y d e xs ys wx wy k (omega arith) (omega arith) same l i g h in omega arith)

  -- a term before the other
  pub before_by_term : k < length xs → k < length ys → IsTermBefore d e (term_at xs k) (term_at ys k) → IsNumberBefore n x y
  before_by_term l m (inl p) = lone_positive n x y d e xs ys wx wy k (omega arith) (omega arith) same l (exponents_from l m p.0) p.1
  before_by_term l m (inr (inl p)) = lone_negative n y x e d ys xs wy wx k (omega arith) (omega arith) other m (exponents_after l m p.0) p.1
  before_by_term l m (inr (inr p)) = both_terms n x y d e xs ys wx wy k (omega arith) (omega arith) same l m p.0
      (from_term n y x e d ys xs wy wx k (omega arith) (omega arith) other m) p.1

  -- the terms of the other number have ended
  pub before_by_last_term : k < length xs → length ys ≡ k → pos 0 ≤ℤ (term_at xs k).1 → IsNumberBefore n x y
  before_by_last_term l m s = lone_positive n x y d e xs ys wx wy k (omega arith) (omega arith) same l (λ i g h. absurd (omega arith)) s

  pub after_by_last_term : k < length xs → length ys ≡ k → (term_at xs k).1 <ℤ pos 0 → IsNumberBefore n y x
  after_by_last_term l m s = lone_negative n x y d e xs ys wx wy k (omega arith) (omega arith) same l (λ i g h. absurd (omega arith))
      (at_most (term_at xs k).1 s)
    where
      at_most : (z : ℤ) → z <ℤ pos 0 → z ≤ℤ pos 0
      at_most z s = omega (arith, ints)

  pub same_by_terms : 0 < n → length xs ≡ k → length ys ≡ k → x ≡ y
  same_by_terms p l m = no_terms n x y d e xs ys wx wy k (omega arith) (omega arith) same p (omega arith) (omega arith)

module _ (n : ℕ) (x y : Number n) (d e : ℕ) (xs ys : List (ℕ × ℤ)) (wx : IsWritten n x d xs) (wy : IsWritten n y e ys) (k : ℕ)
    (same : (i : ℕ) → i < k → IsSameTerm d e (term_at xs i) (term_at ys i)) where
  back : (i : ℕ) → i < k → IsSameTerm e d (term_at ys i) (term_at xs i)
  back i l = (sym (same i l).0, sym (same i l).1)

  pub ordered_by_terms : k < length xs → k < length ys → (o : Ordering) → ¬ (o ≡ Equal)
      → MatchOrdering o (IsTermBefore d e (term_at xs k) (term_at ys k)) (IsSameTerm d e (term_at xs k) (term_at ys k))
      (IsTermBefore e d (term_at ys k) (term_at xs k))
      → MatchOrdering o (IsNumberBefore n x y) (x ≡ y) (IsNumberBefore n y x)
  ordered_by_terms l m Less u h = before_by_term n x y d e xs ys wx wy k same l m h
  ordered_by_terms l m Equal u h = absurd (u refl)
  ordered_by_terms l m Greater u h = before_by_term n y x e d ys xs wy wx k back m l h

  pub ordered_by_last_term : k < length xs → length ys ≡ k → (o : Ordering)
      → MatchOrdering o (pos 0 ≤ℤ (term_at xs k).1) ⊥ ((term_at xs k).1 <ℤ pos 0)
      → MatchOrdering o (IsNumberBefore n x y) (x ≡ y) (IsNumberBefore n y x)
  ordered_by_last_term l m Less h = before_by_last_term n x y d e xs ys wx wy k same l m h
  ordered_by_last_term l m Equal h = absurd h
  ordered_by_last_term l m Greater h = after_by_last_term n x y d e xs ys wx wy k same l m h

  pub ordered_by_other_term : k < length ys → length xs ≡ k → (o : Ordering)
      → MatchOrdering o (pos 0 ≤ℤ (term_at ys k).1) ⊥ ((term_at ys k).1 <ℤ pos 0)
      → MatchOrdering (ordering_reverse o) (IsNumberBefore n x y) (x ≡ y) (IsNumberBefore n y x)
  ordered_by_other_term l m Less h = before_by_last_term n y x e d ys xs wy wx k back l m h
  ordered_by_other_term l m Equal h = absurd h
  ordered_by_other_term l m Greater h = after_by_last_term n y x e d ys xs wy wx k back l m h
