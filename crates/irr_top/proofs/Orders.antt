-- The orders that answers need.
--   needed_once       the order at a place is one number
--   large_once        so the first one above the limit is one number
--   one_within        where one order is needed, at a wave vector, and it is within the limit, all are
--   first_above       the first order, where it is above the limit
use Rattle.std.proofs.Common.{◌≡◌, subst, ℕ, ◌<◌, ◌≤◌, inl, inr, arith}
use Rattle.std.proofs.lemmas.Bool.{cases_order}
use Rattle.irr_space.specs.Operation.{Operation, WaveVector}
use Rattle.irr_space.specs.Reciprocal.{IsOrder}
use Rattle.irr_check.proofs.OneTable.{order_unique}
use Rattle.irr_line.proofs.Orders.{line_order_unique}
use Rattle.irr_product.proofs.PairOrders.{pair_order_unique}
use Rattle.irr_power.specs.Tensors.{origin}
use Rattle.irr_top.specs.CompatCommand.{point_of}
use Rattle.irr_top.specs.Question.{Question, IsNeededOrder}
use Rattle.irr_top.specs.Question.Question.{star, small, full, product, subduce, compat, real, square, tensor, site, check, summary}
use Rattle.irr_top.specs.Answer.{IsTooLargeAt, order_limit}

zero_or_one : (i : ℕ) → i ≡ 0 → i ≡ 1 → ⊥
zero_or_one i p o = absurd (omega (arith, p, o))

pub needed_once : (q : Question) (G : Operation → Type 0) (i m n : ℕ) → IsNeededOrder q G i m → IsNeededOrder q G i n
    → m ≡ n
needed_once (star k) G i m n p o = order_unique G k m n p.1 o.1
needed_once (small k) G i m n p o = order_unique G k m n p.1 o.1
needed_once (full k) G i m n p o = order_unique G k m n p.1 o.1
needed_once (product k l) G i m n (inl p) (inl o) = order_unique G k m n p.1 o.1
needed_once (product k l) G i m n (inl p) (inr o) = absurd (zero_or_one i p.0 o.0)
needed_once (product k l) G i m n (inr p) (inl o) = absurd (zero_or_one i o.0 p.0)
needed_once (product k l) G i m n (inr p) (inr o) = pair_order_unique G k l m n p.1 o.1
needed_once (subduce k S) G i m n p o = order_unique G k m n p.2 o.2
needed_once (compat k others) G i m n p o = line_order_unique G (point_of i k others) m n p.1 o.1
needed_once (real k) G i m n p o = order_unique G k m n p.1 o.1
needed_once (square k) G i m n p o = order_unique G k m n p.1 o.1
needed_once (tensor f) G i m n p o = order_unique G origin m n p.1 o.1
needed_once (site x k) G i m n p o = order_unique G k m n p.1 o.1
needed_once (check r) G i m n p o = order_unique G r.wave m n p.1 o.1
needed_once (summary number lines k) G i m n p o = order_unique G k m n p.1 o.1

-- a number above a limit and within it
pub within_or_above : (n limit : ℕ) → n ≤ limit → limit < n → ⊥
within_or_above n limit l h = omega arith

pub large_once : (q : Question) (G : Operation → Type 0) (m n : ℕ) → IsTooLargeAt q G m → IsTooLargeAt q G n → m ≡ n
large_once q G m n a b = elim (cases_order a.place b.place) [
  | inl e ↦ needed_once q G b.place m n (subst (λ i. IsNeededOrder q G i m) e a.is_order) b.is_order
  | inr (inl l) ↦ absurd (within_or_above m order_limit (b.first a.place m l a.is_order) a.above)
  | inr (inr l) ↦ absurd (within_or_above n order_limit (a.first b.place n l b.is_order) b.above)
]

pub one_within : (G : Operation → Type 0) (k : WaveVector) (m : ℕ) → IsOrder G k m → m ≤ order_limit
    → (i n : ℕ) → (i ≡ 0) × IsOrder G k n → n ≤ order_limit
one_within G k m o l i n p = subst (λ x. x ≤ order_limit) (order_unique G k m n o p.1) l

pub first_above : (q : Question) (G : Operation → Type 0) (n : ℕ) → IsNeededOrder q G 0 n → order_limit < n
    → IsTooLargeAt q G n
first_above q G n o l = record { place = 0; is_order = o; above = l; first = λ i m lt. absurd (omega (arith, lt)) }
