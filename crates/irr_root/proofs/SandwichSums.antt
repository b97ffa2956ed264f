-- Sums of a character over sandwiches, term by term.
--   root-small, item-is-small, sum-is-small     sizes of a root, of a number of a small row, and of a sum
--   inner_terms, outer_terms        the terms of both sums
--   item-number                     a number of the row itself, where the power of z is 1
--   zero-term                       a number 0 of the row adds nothing
--   more-small, more-number         one more number is added
--   turned-number                   the product of a power of z and a number of a row
--   member-number, member-of        the number of a listed place, and the place of a number
--   listed-turned                   a power of z times a number of the character
--   SumSoFar                        the first terms added up, for all places with powers of z that x and y stand for
--   sums-none, sums-next, sums-more no term, one more number, one more term
use Rattle.std.proofs.Common.{◌≡◌, sym, ◌∙◌, ap, ap₂, subst, ℕ, ◌+◌, ◌*◌, ◌/◌, ◌<◌, ◌≤◌, List, get_or, map, slice_index, add-one, arith}
use Rattle.std.specs.Prelude.{slice_index_or}
use Rattle.std.specs.Int.{◌∣◌}
use native.Mathlib.Decide.{dec_lt}
use native.Mathlib.Nat as Nat
use Rattle.irr_algebra.specs.Fin.{Fin, to_nat}
use Rattle.irr_algebra.specs.Listed.{sum_below}
use Rattle.irr_algebra.proofs.Indices.{from_nat, to_nat-from_nat, to_nat-lt, to_nat_inj}
use Rattle.irr_algebra.proofs.Listed.{sum_below-add_one, sum_below-zero}
use Rattle.irr_algebra.specs.Ring.{Ring}
use Rattle.irr_algebra.proofs.Rings.{one-mul, ring_laws}
use Rattle.irr_number.specs.Number.{Number, numbers, root_power}
use Rattle.irr_number.proofs.RootPowers.{root_power-zero}
use Rattle.irr_canonical.specs.RootSum.{IsRootSum}
use Rattle.irr_canonical.proofs.RootSums.{IsRootSum-add_same, IsRootSum-more, IsRootSum-root, IsRootSum-zero}
use Rattle.irr_theory.specs.Lifted.{Lifted}
use Rattle.irr_space.specs.PhaseTable.{PhaseTable, phases_over}
use Rattle.irr_extension.specs.Product.{sandwich}
use Rattle.irr_char.specs.Characters.{IsSmallRow}
use Rattle.irr_char.proofs.AverageTerms.{item-order, item-small, item-value}
use Rattle.irr_root.specs.RootSums.{IsSmall}
use Rattle.irr_root.specs.Sandwiches.{IsTurned, listed_member, listed_value, place_by, place_or, sandwich_sum, sandwich_value}

-- the values at x n y n^-1 and at x j (y i y i^-1) j^-1, by the number of the member
module _ {h : ℕ} (T : PhaseTable h) (n : ℕ) (members positions : List ℕ) (f : List (Number n)) (v : T.order ∣ n)
    (x y : Lifted (phases_over T n v)) where
  abbrev pub inner_terms : ℕ → Number n
  inner_terms = sandwich_value T n v members positions f x y

  abbrev pub outer_terms : ℕ → Number n
  outer_terms i = sandwich_sum T n v members positions f x (sandwich (phases_over T n v) y (listed_member T members i) y)

-- the place with a number
place_by-number : {h : ℕ} (s : Fin h) (k : ℕ) (d : Dec (k < h)) → k < h → to_nat (place_by s k d) ≡ k
unfolding place_by
place_by-number {h} s k (yes l) m = to_nat-from_nat h k l
place_by-number s k (no f) m = absurd (f m)

pub member-number : {h : ℕ} (s : Fin h) (k : ℕ) → k < h → to_nat (place_or s k) ≡ k
member-number {h} s k l = place_by-number s k (dec_lt k h) l

pub member-of : {h : ℕ} (s i : Fin h) → place_or s (to_nat i) ≡ i
member-of s i = to_nat_inj (place_or s (to_nat i)) i (member-number s (to_nat i) (to_nat-lt i))

pub listed-turned : {h : ℕ} (T : PhaseTable h) (M : ℕ) (v : T.order ∣ M) (positions : List ℕ) (f : List (Number M)) (p e : ℕ)
    (z : Lifted (phases_over T M v))
    → IsTurned T M v p e z → (numbers M).mul (root_power M (e * (M / T.order))) (slice_index_or f (slice_index positions p) (numbers M).zero)
    ≡ listed_value T M v positions f z
unfolding listed_value
listed-turned T M v positions f p e z is = ap₂ (numbers M).mul (sym is.power)
    (ap (λ i. slice_index_or f (slice_index positions i) (numbers M).zero) is.at_place)

module _ {S : Type 0} (order : S → ℕ) (value : (n : ℕ) → S → Number n) (n : ℕ) where
  pub root-small : (e : ℕ) (x : S) → order x ≡ n → value n x ≡ root_power n e → IsSmall order value n 1 x
  root-small e x o v = record { has_order = o; few = subst (IsRootSum n 1 1) (sym v) (IsRootSum-root n e) }

  pub item-is-small : (h : ℕ) (row : List S) → IsSmallRow order value n h row → (k : ℕ) → k < h → (x : S) → x ≡ get_or row k x
      → IsSmall order value n 48 x
  item-is-small h row small k l x is = record {
    has_order = item-order order value n h row small k l x is;
    few = item-small order value n h row small k l x is;
  }

  pub turned-number : (h : ℕ) (row : List S) → IsSmallRow order value n h row → (k : ℕ) → k < h → (e : ℕ) (turn x z : S) → x ≡ get_or row k x
      → order turn ≡ n → value n turn ≡ root_power n e → value (order turn) z ≡ (numbers (order turn)).mul (value (order turn) turn)
      (value (order turn) x)
      → value n z ≡ (numbers n).mul (root_power n e) (slice_index_or (map (value n) row) k (numbers n).zero)
  turned-number h row small k l e turn x z is o t v =
      subst (λ m. value m z ≡ (numbers m).mul (value m turn) (value m x)) o v
      ∙ ap₂ (numbers n).mul t (item-value order value n h row small k l x is (from_nat h k l) (to_nat-from_nat h k l)
      ∙ ap (λ j. get_or (map (value n) row) j (numbers n).zero) (to_nat-from_nat h k l))

  module _ (h : ℕ) (row : List S) (small : IsSmallRow order value n h row) (k : ℕ) (l : k < h) (x : S) (is : x ≡ get_or row k x) where
    listed : value n x ≡ slice_index_or (map (value n) row) k (numbers n).zero
    listed = item-value order value n h row small k l x is (from_nat h k l) (to_nat-from_nat h k l)
        ∙ ap (λ j. get_or (map (value n) row) j (numbers n).zero) (to_nat-from_nat h k l)

    -- where the power of z is 1 the number serves itself
    pub item-number : (e m : ℕ) → e ≡ 0
        → value n x ≡ (numbers n).mul (root_power n (e * m)) (slice_index_or (map (value n) row) k (numbers n).zero)
    item-number e m zero =
        let y = slice_index_or (map (value n) row) k (numbers n).zero in
        let none : e * m ≡ 0 = ap (λ j. j * m) zero ∙ Nat.zero-mul m in
        listed ∙ sym (ap (λ j. (numbers n).mul (root_power n j) y) none ∙ ap (λ u. (numbers n).mul u y) (root_power-zero n) ∙ one-mul (numbers n) y)

    -- and a number 0 adds nothing
    pub zero-term : (e : ℕ) (s : Number n) → value (order x) x ≡ (numbers (order x)).zero
        → s ≡ (numbers n).add s ((numbers n).mul (root_power n e) (slice_index_or (map (value n) row) k (numbers n).zero))
    zero-term e s zero =
        let o = item-order order value n h row small k l x is in
        let none : value n x ≡ (numbers n).zero = subst (λ m. value m x ≡ (numbers m).zero) o zero in
        sym (ap (λ y. (numbers n).add s ((numbers n).mul (root_power n e) y)) (sym listed ∙ none) ∙ nothing (numbers n) s (root_power n e))
      where
        nothing : (R : Ring) (s z : R.Carrier) → R.add s (R.mul z R.zero) ≡ s
        nothing R s z = simp (ring_laws, R)

  added : (x y z : S) → order x ≡ n → value (order x) z ≡ (numbers (order x)).add (value (order x) x) (value (order x) y)
      → value n z ≡ (numbers n).add (value n x) (value n y)
  added x y z o v = subst (λ m. value m z ≡ (numbers m).add (value m x) (value m y)) o v

  pub sum-is-small : (s t : ℕ) (x y z : S) → IsSmall order value n s x → IsSmall order value n t y → order z ≡ order x
      → value (order x) z ≡ (numbers (order x)).add (value (order x) x) (value (order x) y) → IsSmall order value n (s + t) z
  sum-is-small s t x y z h k o v = record {
    has_order = o ∙ h.has_order;
    few = subst (IsRootSum n (s + t) 1) (sym (added x y z h.has_order v)) (IsRootSum-add_same n h.few k.few);
  }

  pub more-small : (x y z : S) → IsSmall order value n 48 y → order z ≡ order x
      → value (order x) z ≡ (numbers (order x)).add (value (order x) x) (value (order x) y)
      → (s : ℕ) → IsSmall order value n s x → IsSmall order value n (s + 48) z
  more-small x y z k o v s h = sum-is-small s 48 x y z h k o v

  pub more-number : (x y z : S) (w : Number n) → order x ≡ n → value (order x) z ≡ (numbers (order x)).add (value (order x) x) (value (order x) y)
      → value n y ≡ w → value n z ≡ (numbers n).add (value n x) w
  more-number x y z w o v e = added x y z o v ∙ ap ((numbers n).add (value n x)) e

  module _ {h : ℕ} (T : PhaseTable h) (i e j g s : ℕ) (f : (v : T.order ∣ n) → Lifted (phases_over T n v) → Lifted (phases_over T n v) → ℕ
      → Number n) where
    pub record SumSoFar (k : ℕ) (x : S) : Type 0 where
      pub small : IsSmall order value n (k * s) x
      pub sum : (v : T.order ∣ n) (a b : Lifted (phases_over T n v)) → IsTurned T n v i e a → IsTurned T n v j g b
          → value n x ≡ sum_below (numbers n) k (f v a b)

    pub sums-none : (x : S) → order x ≡ n → value n x ≡ (numbers n).zero → SumSoFar 0 x
    sums-none x o z = record {
      small = record {
        has_order = o;
        few = subst (IsRootSum n (0 * s) 1) (sym z) (IsRootSum-more n (0 * s) (omega arith) (IsRootSum-zero n 1 (omega arith)));
      };
      sum = λ v a b p q. z ∙ sym (sum_below-zero (numbers n) (f v a b));
    }

    pub sums-next : (k : ℕ) (x y z : S) → SumSoFar k x → IsSmall order value n s y
        → ((v : T.order ∣ n) (a b : Lifted (phases_over T n v)) → IsTurned T n v i e a → IsTurned T n v j g b → value n y ≡ f v a b k)
        → order z ≡ order x → value (order x) z ≡ (numbers (order x)).add (value (order x) x) (value (order x) y) → SumSoFar (k + 1) z
    sums-next k x y z now small is o v =
        record {
          small = subst (λ m. IsSmall order value n m z) (sym (Nat.suc-mul k s) ∙ ap (λ m. m * s) (sym (add-one k)))
              (sum-is-small (k * s) s x y z now.small small o v);
          sum = λ w a b p q. added x y z now.small.has_order v ∙ ap₂ (numbers n).add (now.sum w a b p q) (is w a b p q)
              ∙ sym (sum_below-add_one (numbers n) k (f w a b));
        }

    pub sums-more : (k : ℕ) (x z : S) → SumSoFar k x → IsSmall order value n (k * s + s) z
        → ((v : T.order ∣ n) (a b : Lifted (phases_over T n v)) → IsTurned T n v i e a → IsTurned T n v j g b
        → value n z ≡ (numbers n).add (value n x) (f v a b k)) → SumSoFar (k + 1) z
    sums-more k x z now small is = record {
      small = subst (λ m. IsSmall order value n m z) (sym (Nat.suc-mul k s) ∙ ap (λ m. m * s) (sym (add-one k))) small;
      sum = λ w a b p q. is w a b p q ∙ ap (λ y. (numbers n).add y (f w a b k)) (now.sum w a b p q)
          ∙ sym (sum_below-add_one (numbers n) k (f w a b));
    }

    -- at most 48 terms
    pub sums-small : (k t : ℕ) (x : S) → SumSoFar k x → k ≤ 48 → 48 * s ≤ t → IsSmall order value n t x
    sums-small k t x now l b = record {
      has_order = now.small.has_order;
      few = IsRootSum-more n t (Nat.le_trans (Nat.mul-le-mul_right s l) b) now.small.few;
    }
