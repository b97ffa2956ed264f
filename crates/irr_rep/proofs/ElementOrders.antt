-- Each place of a table has an order: among more powers than places, two are the same.
--   injective_ne             no injection goes from n + 1 indices to n
--   same_powers              two powers of a place are the same
--   place_order              each place has an order
use Rattle.std.specs.Prelude.{ℕ, zero, suc, ◌≡◌, ◌<◌, ◌≤◌, ◌+◌, ◌-◌, ◌⊎◌}
use Rattle.std.proofs.Common.{sym, ◌∙◌, ap, refl, inl, inr, arith}
use native.Mathlib.Decide.{dec_lt}
use Rattle.std.proofs.lemmas.Bool.{cases_lt}
use Rattle.irr_algebra.specs.Fin.{Fin, to_nat}
use Rattle.irr_algebra.specs.Fin.Fin.{first, next}
use Rattle.irr_algebra.proofs.Indices.{all_or_one, first-ne-next, next_inj, same_or_not, to_nat_inj}
use Rattle.irr_number.proofs.Primes.{strong_induction, find_below}
use Rattle.irr_space.specs.PhaseTable.{PhaseTable, IsPlaceOrder, place_power}

-- the index among those other than v
other : {n : ℕ} (v i : Fin (suc n)) → (v ≡ i → ⊥) → Fin n
other first first ne = absurd (ne refl)
other first (next i) ne = i
other {n = zero} (next v) i ne = elim v [ ]
other {n = suc n} (next v) first ne = first
other {n = suc n} (next v) (next i) ne = next (other v i (λ e. ne (ap next e)))

other_inj : {n : ℕ} (v i j : Fin (suc n)) (p : v ≡ i → ⊥) (q : v ≡ j → ⊥) → other v i p ≡ other v j q → i ≡ j
unfolding other
other_inj first first j p q e = absurd (p refl)
other_inj first (next i) first p q e = absurd (q refl)
other_inj first (next i) (next j) p q e = ap next e
other_inj {n = zero} (next v) i j p q e = elim v [ ]
other_inj {n = suc n} (next v) first first p q e = refl
other_inj {n = suc n} (next v) first (next j) p q e = absurd (first-ne-next (other v j (λ d. q (ap next d))) e)
other_inj {n = suc n} (next v) (next i) first p q e = absurd (first-ne-next (other v i (λ d. p (ap next d))) (sym e))
other_inj {n = suc n} (next v) (next i) (next j) p q e =
    ap next (other_inj v i j (λ d. p (ap next d)) (λ d. q (ap next d)) (next_inj (other v i (λ d. p (ap next d))) (other v j (λ d. q (ap next d))) e))

pub injective_ne : (n : ℕ) (f : Fin (suc n) → Fin n) → ((i j : Fin (suc n)) → f i ≡ f j → i ≡ j) → ⊥
injective_ne zero f injective = elim (f first) [ ]
injective_ne (suc n) f injective =
    injective_ne n (λ i. other (f first) (f (next i)) (apart i))
    (λ i j e. next_inj i j (injective (next i) (next j) (other_inj (f first) (f (next i)) (f (next j)) (apart i) (apart j) e)))
  where
    apart : (i : Fin (suc n)) → f first ≡ f (next i) → ⊥
    apart i e = first-ne-next i (injective first (next i) e)

-- two indices with the same value
same_values : (n : ℕ) (f : Fin (suc n) → Fin n) → (i : Fin (suc n)) × (j : Fin (suc n)) × ((i ≡ j → ⊥) × (f i ≡ f j))
same_values n f = elim (all_or_one (suc n) (λ i. (j : Fin (suc n)) → f i ≡ f j → i ≡ j) (λ i. (j : Fin (suc n)) × ((i ≡ j → ⊥) × (f i ≡ f j)))
    (λ i. all_or_one (suc n) (λ j. f i ≡ f j → i ≡ j) (λ j. (i ≡ j → ⊥) × (f i ≡ f j)) (decided i))) [
      | inl injective ↦ absurd (injective_ne n f injective)
      | inr found ↦ (found.0, found.1.0, found.1.1)
    ]
  where
    decided : (i j : Fin (suc n)) → (f i ≡ f j → i ≡ j) ⊎ ((i ≡ j → ⊥) × (f i ≡ f j))
    decided i j = elim (same_or_not i j) [
      | inl e ↦ inl (λ d. e)
      | inr ne ↦ (elim (same_or_not (f i) (f j)) [ inl e ↦ inr (ne, e) | inr d ↦ inl (λ e. absurd (d e)) ])
    ]

module _ {h : ℕ} (T : PhaseTable h) (g : Fin h) where
  -- the n-th power of g
  abbrev at : ℕ → Fin h
  at n = place_power T.start T.product g n

  cancelled : (i j : Fin h) → T.product g i ≡ T.product g j → i ≡ j
  cancelled i j e =
      sym (T.start-product i) ∙ ap (λ a. T.product a i) (sym (T.opposite-product g)) ∙ T.product_assoc (T.opposite g) g i
      ∙ ap (T.product (T.opposite g)) e ∙ sym (T.product_assoc (T.opposite g) g j) ∙ ap (λ a. T.product a j) (T.opposite-product g)
      ∙ T.start-product j

  -- what is left of two equal powers
  difference : (a d : ℕ) → at a ≡ at (a + d) → T.start ≡ at d
  unfolding place_power
  difference zero d e = e ∙ ap at (let s : 0 + d ≡ d = omega arith in s)
  difference (suc a) d e = difference a d (cancelled (at a) (at (a + d)) (e ∙ ap at (let s : suc a + d ≡ suc (a + d) = omega arith in s)))

  returning : (n : ℕ) × (0 < n) × (at n ≡ T.start)
  returning =
      let found : (i : Fin (suc h)) × (j : Fin (suc h)) × ((i ≡ j → ⊥) × (at (to_nat i) ≡ at (to_nat j))) = same_values h (λ i. at (to_nat i)) in
      apart (to_nat found.0) (to_nat found.1) (λ e. found.2.0 (to_nat_inj found.0 found.1 e)) found.2.1
    where
      apart : (a b : ℕ) → (a ≡ b → ⊥) → at a ≡ at b → (n : ℕ) × (0 < n) × (at n ≡ T.start)
      apart a b ne e = elim (cases_lt a b) [
        | inl l ↦ (b - a, omega arith, sym (difference a (b - a) (e ∙ ap at (let s : b ≡ a + (b - a) = omega arith in s))))
        | inr l ↦ (a - b, omega (arith, ne), sym (difference b (a - b) (sym e ∙ ap at (let s : a ≡ b + (a - b) = omega arith in s))))
      ]

  -- from a power that comes back, the first one
  order_from : (n : ℕ) → 0 < n → at n ≡ T.start → (m : ℕ) × IsPlaceOrder T.start T.product g m
  order_from = strong_induction (λ n. 0 < n → at n ≡ T.start → (m : ℕ) × IsPlaceOrder T.start T.product g m) (λ n smaller positive back.
      elim (find_below (λ k. (0 < k) × (at k ≡ T.start)) decided n) [
        | inl found ↦ smaller found.0 found.1 found.2.0 found.2.1
        | inr none ↦ (n, record { positive = positive; power = back; least = λ k above e. least n k (λ l. none k l (above, e)) })
      ])
    where
      decided : (k : ℕ) → Dec ((0 < k) × (at k ≡ T.start))
      decided k = elim (dec_lt 0 k) [
        | no f ↦ no (λ t. f t.0)
        | yes l ↦ (elim (same_or_not (at k) T.start) [ inl e ↦ yes (l, e) | inr f ↦ no (λ t. f t.1) ])
      ]

      least : (n k : ℕ) → (k < n → ⊥) → n ≤ k
      least n k f = elim (cases_lt k n) [ inl l ↦ absurd (f l) | inr l ↦ l ]

  pub place_order : (m : ℕ) × IsPlaceOrder T.start T.product g m
  place_order = order_from returning.0 returning.1 returning.2
