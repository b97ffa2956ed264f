-- More indices than places: two of them have the same place.
--   pigeons          n + 1 indices at n places: two different ones meet
--   crowded          n + 1 members of a list of at most n: two of them are the same
--   onto             indices at as many places, no two of which meet, take each place
use Rattle.std.proofs.Common.{◌<◌, ◌≤◌, List, length, get_or, arith, ◌∙◌, ◌≡◌, sym, ap, refl, ℕ, zero, suc, ◌⊎◌, inl, inr}
use Rattle.std.specs.List.{Contains}
use Rattle.std.proofs.lemmas.List.{get_or_default}
use Rattle.irr_algebra.specs.Fin.{Fin, to_nat}
use Rattle.irr_algebra.specs.Fin.Fin.{first, next}
use Rattle.irr_algebra.proofs.Indices.{from_nat, to_nat-from_nat, all_or_one, same_or_not, next_inj, first-ne-next}

-- the place of w once v is taken out
punch : (n : ℕ) (v w : Fin (suc n)) → (v ≡ w → ⊥) → Fin n
punch n first first d = absurd (d refl)
punch n first (next w) d = w
punch zero (next v) w d = elim v [ ]
punch (suc n) (next v) first d = first
punch (suc n) (next v) (next w) d = next (punch n v w (λ e. d (ap next e)))

punch_inj : (n : ℕ) (v w x : Fin (suc n)) (d : v ≡ w → ⊥) (e : v ≡ x → ⊥) → punch n v w d ≡ punch n v x e → w ≡ x
unfolding punch
punch_inj n first first x d e h = absurd (d refl)
punch_inj n first (next w) first d e h = absurd (e refl)
punch_inj n first (next w) (next x) d e h = ap next h
punch_inj zero (next v) w x d e h = elim v [ ]
punch_inj (suc n) (next v) first first d e h = refl
punch_inj (suc n) (next v) first (next x) d e h = absurd (first-ne-next _ h)
punch_inj (suc n) (next v) (next w) first d e h = absurd (first-ne-next _ (sym h))
punch_inj (suc n) (next v) (next w) (next x) d e h = ap next (punch_inj n v w x (λ p. d (ap next p)) (λ p. e (ap next p)) (next_inj _ _ h))

-- two different indices with the same place
pub record AreTwoAt {m n : ℕ} (f : Fin m → Fin n) : Type 0 where
  pub one : Fin m
  pub other : Fin m
  pub different : one ≡ other → ⊥
  pub meet : f one ≡ f other

pub pigeons : (n : ℕ) (f : Fin (suc n) → Fin n) → AreTwoAt f
pigeons zero f = elim (f first) [ ]
pigeons (suc n) f = go (λ g. pigeons n g)
    (all_or_one (suc n) (λ i. f first ≡ f (next i) → ⊥) (λ i. f first ≡ f (next i)) (λ i. flip i (same_or_not (f first) (f (next i)))))
  where
    flip : (i : Fin (suc n)) → (f first ≡ f (next i)) ⊎ (f first ≡ f (next i) → ⊥) → (f first ≡ f (next i) → ⊥) ⊎ (f first ≡ f (next i))
    flip i (inl e) = inr e
    flip i (inr d) = inl d

    among_rest : (d : (i : Fin (suc n)) → f first ≡ f (next i) → ⊥) → AreTwoAt (λ i. punch n (f first) (f (next i)) (d i)) → AreTwoAt f
    among_rest d t = record {
      one = next t.one;
      other = next t.other;
      different = λ e. t.different (next_inj t.one t.other e);
      meet = punch_inj n (f first) (f (next t.one)) (f (next t.other)) (d t.one) (d t.other) t.meet;
    }

    go : ((g : Fin (suc n) → Fin n) → AreTwoAt g) → ((i : Fin (suc n)) → f first ≡ f (next i) → ⊥) ⊎ ((i : Fin (suc n)) × (f first ≡ f (next i)))
        → AreTwoAt f
    go rest (inr p) = record { one = first; other = next p.0; different = first-ne-next p.0; meet = p.1 }
    go rest (inl d) = among_rest d (rest (λ i. punch n (f first) (f (next i)) (d i)))

-- k first, then the places of f
abbrev with_first : {n : ℕ} → Fin n → (Fin n → Fin n) → Fin (suc n) → Fin n
with_first k f first = k
with_first k f (next i) = f i

pub onto : {n : ℕ} (f : Fin n → Fin n) → ((i j : Fin n) → f i ≡ f j → i ≡ j) → (k : Fin n) → (i : Fin n) × (f i ≡ k)
onto {n = n} f inj k = let t = pigeons n (with_first k f) in found t.one t.other t.different t.meet
  where
    found : (i j : Fin (suc n)) → (i ≡ j → ⊥) → with_first k f i ≡ with_first k f j → (i : Fin n) × (f i ≡ k)
    found first first d e = absurd (d refl)
    found first (next j) d e = (j, sym e)
    found (next i) first d e = (i, e)
    found (next i) (next j) d e = absurd (d (ap next (inj i j e)))

-- two members of a list at one place are the same
same_place : {X : Type 0} (xs : List X) (x y : X) (m : Contains xs x) (n : Contains xs y) → m.0 ≡ n.0 → x ≡ y
same_place xs x y m n e = sym m.2 ∙ get_or_default xs m.0 x y m.1 ∙ ap (λ k. get_or xs k y) e ∙ n.2

-- n + 1 members of a list of at most n: two of them are the same
pub crowded : {X : Type 0} (n : ℕ) (xs : List X) → length xs ≤ n → (pick : Fin (suc n) → X) → ((i : Fin (suc n)) → Contains xs (pick i))
    → (i : Fin (suc n)) × (j : Fin (suc n)) × (i ≡ j → ⊥) × (pick i ≡ pick j)
crowded {X} n xs few pick has = let t = pigeons n place in (
  t.one,
  t.other,
  t.different,
  same_place xs (pick t.one) (pick t.other) (has t.one) (has t.other)
      (sym (to_nat-from_nat n (has t.one).0 (below t.one)) ∙ ap to_nat t.meet ∙ to_nat-from_nat n (has t.other).0 (below t.other)),
)
  where
    below : (i : Fin (suc n)) → (has i).0 < n
    below i = let l : (has i).0 < length xs = (has i).1 in omega arith

    place : Fin (suc n) → Fin n
    place i = from_nat n (has i).0 (below i)
