-- The order of rows is a strict total order.
--   row_asymm           no two rows stand each before the other
--   row_before_or_after of two rows, one stands first, or they are one
use Rattle.std.proofs.Common.{◌≡◌, sym, subst, ℕ, zero, suc, ◌<◌, ◌⊎◌, inl, inr, arith}
use Rattle.irr_algebra.specs.Fin.{Fin, to_nat}
use Rattle.irr_algebra.specs.Fin.Fin.{first, next}
use Rattle.irr_algebra.proofs.Indices.{to_nat_inj}
use Rattle.irr_number.specs.Number.{Number}
use Rattle.irr_space.specs.CompleteList.{IsNumberBefore, IsRowAhead, IsRowBefore}
use Rattle.irr_rows.proofs.NumberOrder.{three_ways, before_irrefl, before_asymm, before_or_after}

module _ (n : ℕ) (positive : 0 < n) where
  pub ahead_asymm : {h : ℕ} (f g : Fin h → Number n) → IsRowAhead n f g → IsRowAhead n g f → ⊥
  ahead_asymm f g p q = from_places (three_ways (to_nat p.place) (to_nat q.place))
    where
      from_places : (to_nat p.place < to_nat q.place) ⊎ ((to_nat p.place ≡ to_nat q.place) ⊎ (to_nat q.place < to_nat p.place)) → ⊥
      from_places (inl l) = before_irrefl n positive (f p.place) (subst (λ x. IsNumberBefore n (f p.place) x) (q.before p.place l) p.ahead)
      from_places (inr (inl e)) = before_asymm n positive (f p.place) (g p.place) p.ahead (subst (λ i. IsNumberBefore n (g i) (f i)) (sym (to_nat_inj p.place q.place e)) q.ahead)
      from_places (inr (inr l)) = before_irrefl n positive (g q.place) (subst (λ x. IsNumberBefore n (g q.place) x) (p.before q.place l) q.ahead)

  pub row_asymm : {h : ℕ} (start : Fin h) (f g : Fin h → Number n) → IsRowBefore n start f g → IsRowBefore n start g f → ⊥
  row_asymm start f g (inl p) (inl q) = before_asymm n positive (g start) (f start) p q
  row_asymm start f g (inl p) (inr q) = before_irrefl n positive (f start) (subst (λ x. IsNumberBefore n x (f start)) q.0 p)
  row_asymm start f g (inr p) (inl q) = before_irrefl n positive (g start) (subst (λ x. IsNumberBefore n x (g start)) p.0 q)
  row_asymm start f g (inr p) (inr q) = ahead_asymm f g p.1 q.1

  -- the first place at which rows differ, where there is one
  pub ahead_or_behind : (h : ℕ) (f g : Fin h → Number n) → ((i : Fin h) → f i ≡ g i) ⊎ (IsRowAhead n f g ⊎ IsRowAhead n g f)
  unfolding to_nat
  ahead_or_behind zero f g = inl (λ i. elim i [ ])
  ahead_or_behind (suc h) f g = from_first (ahead_or_behind h (λ i. f (next i)) (λ i. g (next i))) (before_or_after n positive (f first) (g first))
    where
      rest : (f first ≡ g first) → ((i : Fin h) → f (next i) ≡ g (next i)) ⊎ (IsRowAhead n (λ i. f (next i)) (λ i. g (next i)) ⊎ IsRowAhead n (λ i. g (next i)) (λ i. f (next i)))
          → ((i : Fin (suc h)) → f i ≡ g i) ⊎ (IsRowAhead n f g ⊎ IsRowAhead n g f)
      rest e (inl same) = inl (each e same)
        where
          each : f first ≡ g first → ((i : Fin h) → f (next i) ≡ g (next i)) → (i : Fin (suc h)) → f i ≡ g i
          each e same first = e
          each e same (next i) = same i
      rest e (inr (inl a)) = inr (inl (record { place = next a.place; before = earlier e a; ahead = a.ahead }))
        where
          earlier : f first ≡ g first → (a : IsRowAhead n (λ i. f (next i)) (λ i. g (next i))) → (i : Fin (suc h)) → to_nat i < to_nat (next a.place) → f i ≡ g i
          earlier e a first l = e
          earlier e a (next i) l = a.before i (omega arith)
      rest e (inr (inr a)) = inr (inr (record { place = next a.place; before = earlier e a; ahead = a.ahead }))
        where
          earlier : f first ≡ g first → (a : IsRowAhead n (λ i. g (next i)) (λ i. f (next i))) → (i : Fin (suc h)) → to_nat i < to_nat (next a.place) → g i ≡ f i
          earlier e a first l = sym e
          earlier e a (next i) l = a.before i (omega arith)

      none_before : (i : Fin (suc h)) → to_nat i < 0 → f i ≡ g i
      none_before i l = absurd (omega arith)

      none_before_back : (i : Fin (suc h)) → to_nat i < 0 → g i ≡ f i
      none_before_back i l = absurd (omega arith)

      from_first : ((i : Fin h) → f (next i) ≡ g (next i)) ⊎ (IsRowAhead n (λ i. f (next i)) (λ i. g (next i)) ⊎ IsRowAhead n (λ i. g (next i)) (λ i. f (next i)))
          → (f first ≡ g first) ⊎ (IsNumberBefore n (f first) (g first) ⊎ IsNumberBefore n (g first) (f first)) → ((i : Fin (suc h)) → f i ≡ g i) ⊎ (IsRowAhead n f g ⊎ IsRowAhead n g f)
      from_first r (inl e) = rest e r
      from_first r (inr (inl b)) = inr (inl (record { place = first; before = none_before; ahead = b }))
      from_first r (inr (inr b)) = inr (inr (record { place = first; before = none_before_back; ahead = b }))

  pub row_before_or_after : {h : ℕ} (start : Fin h) (f g : Fin h → Number n) → ((i : Fin h) → f i ≡ g i) ⊎ (IsRowBefore n start f g ⊎ IsRowBefore n start g f)
  row_before_or_after {h} start f g = from_start (before_or_after n positive (f start) (g start))
    where
      from_rest : f start ≡ g start → ((i : Fin h) → f i ≡ g i) ⊎ (IsRowAhead n f g ⊎ IsRowAhead n g f) → ((i : Fin h) → f i ≡ g i) ⊎ (IsRowBefore n start f g ⊎ IsRowBefore n start g f)
      from_rest e (inl same) = inl same
      from_rest e (inr (inl a)) = inr (inl (inr (e, a)))
      from_rest e (inr (inr a)) = inr (inr (inr (sym e, a)))

      from_start : (f start ≡ g start) ⊎ (IsNumberBefore n (f start) (g start) ⊎ IsNumberBefore n (g start) (f start)) → ((i : Fin h) → f i ≡ g i) ⊎ (IsRowBefore n start f g ⊎ IsRowBefore n start g f)
      from_start (inl e) = from_rest e (ahead_or_behind h f g)
      from_start (inr (inl b)) = inr (inr (inl b))
      from_start (inr (inr b)) = inr (inl (inl b))
