-- The order of rows as a comparison, and that it is total.
--   before_trans, row_trans      the orders of numbers and of rows are transitive
--   row_cmp                      the comparison
--   row_cmp_total                it is a total order
--   row_cmp-ranks                what its answers say
use Rattle.std.proofs.Common.{◌≡◌, sym, ◌∙◌, subst, ℕ, ◌<◌, ◌⊎◌, inl, inr, arith, Ordering, Less, Equal, Greater}
use Rattle.std.specs.Cmp.{IsTotalOrder, strict}
use Rattle.std.specs.Ordering.{MatchOrdering}
use Rattle.irr_algebra.specs.Fin.{Fin, to_nat}
use Rattle.irr_algebra.proofs.Indices.{to_nat_inj}
use Rattle.irr_number.specs.Number.{Number}
use Rattle.irr_rational.specs.Order.{◌<ℚ◌}
use Rattle.irr_rational.proofs.Orders.{lt_trans}
use Rattle.irr_canonical.specs.Coefficient.{coefficient}
use Rattle.irr_space.specs.CompleteList.{IsNumberBefore, IsRowAhead, IsRowBefore}
use Rattle.irr_rows.proofs.NumberOrder.{three_ways}
use Rattle.irr_rows.proofs.RowOrder.{row_asymm, row_before_or_after}

module _ (n : ℕ) where
  pub before_trans : (x y z : Number n) → IsNumberBefore n x y → IsNumberBefore n y z → IsNumberBefore n x z
  before_trans x y z h k = by_exponents (three_ways h.exponent k.exponent)
    where
      by_exponents : (h.exponent < k.exponent) ⊎ ((h.exponent ≡ k.exponent) ⊎ (k.exponent < h.exponent)) → IsNumberBefore n x z
      by_exponents (inl l) = record {
        exponent = h.exponent;
        below = h.below;
        before = λ j m. h.before j m ∙ k.before j (omega arith);
        greater = subst (λ c. c <ℚ coefficient n x h.exponent) (k.before h.exponent l) h.greater;
      }
      by_exponents (inr (inl e)) = record {
        exponent = h.exponent;
        below = h.below;
        before = λ j m. h.before j m ∙ k.before j (omega arith);
        greater = lt_trans (coefficient n z h.exponent) (coefficient n y h.exponent) (coefficient n x h.exponent)
            (subst (λ j. coefficient n z j <ℚ coefficient n y j) (sym e) k.greater) h.greater;
      }
      by_exponents (inr (inr l)) = record {
        exponent = k.exponent;
        below = k.below;
        before = λ j m. h.before j (omega arith) ∙ k.before j m;
        greater = subst (λ c. coefficient n z k.exponent <ℚ c) (sym (h.before k.exponent l)) k.greater;
      }

  ahead_trans : {s : ℕ} (f g h : Fin s → Number n) → IsRowAhead n f g → IsRowAhead n g h → IsRowAhead n f h
  ahead_trans f g h p q = by_places (three_ways (to_nat p.place) (to_nat q.place))
    where
      by_places : (to_nat p.place < to_nat q.place) ⊎ ((to_nat p.place ≡ to_nat q.place) ⊎ (to_nat q.place < to_nat p.place)) → IsRowAhead n f h
      by_places (inl l) = record {
        place = p.place;
        before = λ i m. p.before i m ∙ q.before i (omega arith);
        ahead = subst (IsNumberBefore n (f p.place)) (q.before p.place l) p.ahead;
      }
      by_places (inr (inl e)) = record {
        place = p.place;
        before = λ i m. p.before i m ∙ q.before i (omega arith);
        ahead = before_trans (f p.place) (g p.place) (h p.place) p.ahead
            (subst (λ i. IsNumberBefore n (g i) (h i)) (sym (to_nat_inj p.place q.place e)) q.ahead);
      }
      by_places (inr (inr l)) = record {
        place = q.place;
        before = λ i m. p.before i (omega arith) ∙ q.before i m;
        ahead = subst (λ x. IsNumberBefore n x (h q.place)) (sym (p.before q.place l)) q.ahead;
      }

  pub row_trans : {s : ℕ} (start : Fin s) (f g h : Fin s → Number n) → IsRowBefore n start f g → IsRowBefore n start g h → IsRowBefore n start f h
  row_trans start f g h (inl p) (inl q) = inl (before_trans (h start) (g start) (f start) q p)
  row_trans start f g h (inl p) (inr q) = inl (subst (λ x. IsNumberBefore n x (f start)) q.0 p)
  row_trans start f g h (inr p) (inl q) = inl (subst (IsNumberBefore n (h start)) (sym p.0) q)
  row_trans start f g h (inr p) (inr q) = inr (p.0 ∙ q.0, ahead_trans f g h p.1 q.1)

answer : {P Q R : Type 0} → P ⊎ (Q ⊎ R) → Ordering
answer (inl p) = Equal
answer (inr (inl q)) = Less
answer (inr (inr r)) = Greater

answer-ranks : (P Q R S : Type 0) → (P → S) → (s : P ⊎ (Q ⊎ R)) → MatchOrdering (answer s) Q S R
unfolding answer
answer-ranks P Q R S f (inl p) = f p
answer-ranks P Q R S f (inr (inl q)) = q
answer-ranks P Q R S f (inr (inr r)) = r

module _ (n : ℕ) (positive : 0 < n) {h : ℕ} (start : Fin h) where
  pub row_cmp : (f g : Fin h → Number n) → Ordering
  row_cmp f g = answer (row_before_or_after n positive start f g)

  pub row_cmp-ranks : (f g : Fin h → Number n) → MatchOrdering (row_cmp f g) (IsRowBefore n start f g) (f ≡ g) (IsRowBefore n start g f)
  unfolding row_cmp
  row_cmp-ranks f g = answer-ranks ((i : Fin h) → f i ≡ g i) (IsRowBefore n start f g) (IsRowBefore n start g f) (f ≡ g) (λ e k i. e i k)
      (row_before_or_after n positive start f g)

  pub row_irrefl : (f : Fin h → Number n) → IsRowBefore n start f f → ⊥
  row_irrefl f p = row_asymm n positive start f f p p

  pub row_cmp_total : IsTotalOrder row_cmp
  row_cmp_total = strict (λ (f g : Fin h → Number n). IsRowBefore n start f g) row_irrefl (row_trans n start) row_cmp row_cmp-ranks
