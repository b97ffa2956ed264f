-- The lexicographic order of lists of rational numbers.
--   below_irrefl, below_trans, below_asymm    a strict order
--   below_or_above                            of two lists one stands before the other, or they are the same
--   at_most_or_above                          the same, as a total order
--   at_most_refl, at_most_trans, at_most_antisymm
--   at_most_of_each                           what is at most place by place is at most
use Rattle.std.proofs.Common.{◌≡◌, sym, refl, ◌∙◌, subst, ℕ, zero, suc, ◌<◌, ◌≤◌, ◌⊎◌, inl, inr, arith}
use Rattle.std.proofs.lemmas.Bool.{cases_lt}
use mathlib.Core.Path.{fun_ext}
use Rattle.irr_algebra.specs.Fin.{Fin, to_nat}
use Rattle.irr_algebra.specs.Fin.Fin.{first, next}
use Rattle.irr_algebra.proofs.Indices.{to_nat_inj}
use Rattle.irr_rational.specs.Rational.{Rational, rational_field}
use Rattle.irr_rational.specs.Order.{IsBelow, IsAtMost, ◌≤ℚ◌, ◌<ℚ◌}
use Rattle.irr_rational.proofs.Orders.{le_or_lt, lt_irrefl, lt_trans, not_le_of_lt}

pub below_irrefl : {n : ℕ} (f : Fin n → Rational) → IsBelow f f → ⊥
below_irrefl f h = lt_irrefl (f h.place) h.less

pub below_trans : {n : ℕ} (f g h : Fin n → Rational) → IsBelow f g → IsBelow g h → IsBelow f h
below_trans f g h p q = at_places (cases_lt (to_nat p.place) (to_nat q.place)) (cases_lt (to_nat q.place) (to_nat p.place))
  where
    at_places : (to_nat p.place < to_nat q.place) ⊎ (to_nat q.place ≤ to_nat p.place) → (to_nat q.place < to_nat p.place) ⊎ (to_nat p.place ≤ to_nat q.place) → IsBelow f h
    at_places (inl l) c = record {
      place = p.place;
      before = λ i lt. p.before i lt ∙ q.before i (omega arith);
      less = subst (λ y. f p.place <ℚ y) (q.before p.place l) p.less;
    }
    at_places (inr k) (inl l) = record {
      place = q.place;
      before = λ i lt. p.before i (omega arith) ∙ q.before i lt;
      less = subst (λ x. x <ℚ h q.place) (sym (p.before q.place l)) q.less;
    }
    at_places (inr k) (inr l) =
        let e : q.place ≡ p.place = to_nat_inj q.place p.place (omega arith) in
        record {
          place = p.place;
          before = λ i lt. p.before i lt ∙ q.before i (omega arith);
          less = lt_trans (f p.place) (g p.place) (h p.place) p.less (subst (λ i. g i <ℚ h i) e q.less);
        }

pub below_asymm : {n : ℕ} (f g : Fin n → Rational) → IsBelow f g → IsBelow g f → ⊥
below_asymm f g h k = below_irrefl f (below_trans f g f h k)

-- lists with one first entry are in the order of their rests
below-next : {n : ℕ} (f g : Fin (suc n) → Rational) → f first ≡ g first → IsBelow (λ i. f (next i)) (λ i. g (next i)) → IsBelow f g
unfolding to_nat
below-next {n} f g e h = record { place = next h.place; before = before; less = h.less }
  where
    before : (i : Fin (suc n)) → to_nat i < to_nat (next h.place) → f i ≡ g i
    before first lt = e
    before (next i) lt = h.before i (omega arith)

below-first : {n : ℕ} (f g : Fin (suc n) → Rational) → f first <ℚ g first → IsBelow f g
unfolding to_nat
below-first f g l = record { place = first; before = λ i lt. absurd (omega arith); less = l }

-- of two lists one stands before the other, or they are the same
pub below_or_above : (n : ℕ) (f g : Fin n → Rational) → IsBelow f g ⊎ (((i : Fin n) → f i ≡ g i) ⊎ IsBelow g f)
below_or_above zero f g = inr (inl (λ i. elim i [ ]))
below_or_above (suc n) f g = at_first (rational_field.decide (f first) (g first)) (le_or_lt (f first) (g first)) (below_or_above n (λ i. f (next i)) (λ i. g (next i)))
  where
    at_first : (f first ≡ g first) ⊎ (f first ≡ g first → ⊥) → (f first ≤ℚ g first) ⊎ (g first <ℚ f first)
        → IsBelow (λ i. f (next i)) (λ i. g (next i)) ⊎ (((i : Fin n) → f (next i) ≡ g (next i)) ⊎ IsBelow (λ i. g (next i)) (λ i. f (next i)))
        → IsBelow f g ⊎ (((i : Fin (suc n)) → f i ≡ g i) ⊎ IsBelow g f)
    at_first (inr ne) (inl l) r = inl (below-first f g (l, ne))
    at_first (inr ne) (inr l) r = inr (inr (below-first g f l))
    at_first (inl e) c (inl b) = inl (below-next f g e b)
    at_first (inl e) c (inr (inl h)) = inr (inl (elim [ first ↦ e | next i ↦ h i ]))
    at_first (inl e) c (inr (inr b)) = inr (inr (below-next g f (sym e) b))

pub at_most_or_above : (n : ℕ) (f g : Fin n → Rational) → IsAtMost f g ⊎ IsBelow g f
at_most_or_above n f g = elim (below_or_above n f g) [ inl b ↦ inl (inr b) | inr r ↦ (elim r [ inl e ↦ inl (inl e) | inr b ↦ inr b ]) ]

pub at_most_refl : {n : ℕ} (f : Fin n → Rational) → IsAtMost f f
at_most_refl f = inl (λ i. refl)

pub at_most_trans : {n : ℕ} (f g h : Fin n → Rational) → IsAtMost f g → IsAtMost g h → IsAtMost f h
at_most_trans f g h (inl d) (inl e) = inl (λ i. d i ∙ e i)
at_most_trans f g h (inl d) (inr b) = inr (subst (λ u. IsBelow u h) (sym (fun_ext d)) b)
at_most_trans f g h (inr a) (inl e) = inr (subst (λ u. IsBelow f u) (fun_ext e) a)
at_most_trans f g h (inr a) (inr b) = inr (below_trans f g h a b)

pub at_most_antisymm : {n : ℕ} (f g : Fin n → Rational) → IsAtMost f g → IsAtMost g f → (i : Fin n) → f i ≡ g i
at_most_antisymm f g (inl e) k = e
at_most_antisymm f g (inr a) (inl e) = λ i. sym (e i)
at_most_antisymm f g (inr a) (inr b) = absurd (below_asymm f g a b)

-- nothing that is at most g stands behind it
pub not_below_of_at_most : {n : ℕ} (f g : Fin n → Rational) → IsAtMost f g → IsBelow g f → ⊥
not_below_of_at_most f g (inl e) b = below_irrefl g (subst (λ u. IsBelow g u) (fun_ext e) b)
not_below_of_at_most f g (inr a) b = below_asymm f g a b

-- at most place by place
pub at_most_of_each : (n : ℕ) (f g : Fin n → Rational) → ((i : Fin n) → f i ≤ℚ g i) → IsAtMost f g
at_most_of_each n f g h = elim (at_most_or_above n f g) [ inl a ↦ a | inr b ↦ absurd (not_le_of_lt (g b.place) (f b.place) b.less (h b.place)) ]
