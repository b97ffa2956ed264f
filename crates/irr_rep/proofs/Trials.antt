-- Whether lists are those of a table, by trying all places: for tables that are written out.
--   tries_group, group_tried         the products
--   tries_inverses, inverses_tried   inverses
--   tries_factors, factors_tried     the exponents
--   tries_subgroup, subgroup_tried   a list of members
--   result_tried                     the same for what a call gives
use Rattle.std.specs.Prelude.{ℕ, zero, suc, ◌≡◌, ◌<◌, ◌≤◌, ◌+◌, ◌%◌, List, slice_index, length, Contains, Bool, true, false, not, ◌&&◌, ◌||◌, cond}
use Rattle.std.specs.Prelude.{Result, Ok, Err, IfOk}
use Rattle.std.specs.Int.{◌∣◌}
use Rattle.std.proofs.Common.{sym, ◌∙◌, ap, subst, refl, inl, inr, ltb, eqb, ltb-true, eqb-true, eq-eqb, arith}
use native.Mathlib.Nat as Nat
use Rattle.std.proofs.lemmas.Bool.{and_from, and_parts, cases_lt, ne_eqb, or_cases}
use Rattle.std.proofs.lemmas.List.{get_or_default}
use Rattle.irr_algebra.specs.Fin.{Fin, to_nat}
use Rattle.irr_algebra.proofs.Indices.{from_nat, to_nat-from_nat, to_nat_inj}
use Rattle.irr_space.specs.PhaseTable.{PhaseTable}
use Rattle.irr_rep.specs.Table.{IsElementOrder, IsFactorSystem, IsGroup, IsListed, HasInverses, entry, exponents_along, power_of}
use Rattle.irr_rep.specs.Subgroup.{IsSubgroup}
use Rattle.irr_rep.specs.Twisted.{operation_places, phase_table, place_count}
use Rattle.irr_rep.specs.declared.table.Twisted.{Twisted}

-- p passes at each number below n
abbrev pub all_below : ℕ → (ℕ → Bool) → Bool
all_below zero p = true
all_below (suc n) p = p n && all_below n p

all_below-at : (n : ℕ) (p : ℕ → Bool) → all_below n p ≡ true → (i : ℕ) → i < n → p i ≡ true
all_below-at zero p h i lt = absurd (omega arith)
all_below-at (suc n) p h i lt =
    let parts = and_parts (p n) (all_below n p) h in
    elim (cases_lt i n) [
      | inl l ↦ all_below-at n p parts.1 i l
      | inr l ↦ (let e : n ≡ i = omega arith in subst (λ k. p k ≡ true) e parts.0)
    ]

all_below-from : (n : ℕ) (p : ℕ → Bool) → ((i : ℕ) → i < n → p i ≡ true) → all_below n p ≡ true
all_below-from zero p h = refl
all_below-from (suc n) p h = and_from (p n) (all_below n p) (h n (omega arith)) (all_below-from n p (λ i lt. h i (omega arith)))

all_pairs-at : (n : ℕ) (p : ℕ → ℕ → Bool) → all_below n (λ i. all_below n (p i)) ≡ true → (i j : ℕ) → i < n → j < n → p i j ≡ true
all_pairs-at n p h i j a b = all_below-at n (p i) (all_below-at n (λ k. all_below n (p k)) h i a) j b

all_triples-at : (n : ℕ) (p : ℕ → ℕ → ℕ → Bool) → all_below n (λ i. all_below n (λ j. all_below n (p i j))) ≡ true
    → (i j k : ℕ) → i < n → j < n → k < n → p i j k ≡ true
all_triples-at n p h i j k a b c = all_below-at n (p i j) (all_pairs-at n (λ u v. all_below n (p u v)) h i j a b) k c

if_true : (b x : Bool) → cond b x true ≡ true → b ≡ true → x ≡ true
if_true true x h e = h
if_true false x h e = absurd (cc)

abbrev pub tries_group : (h : ℕ) → List ℕ → Bool
tries_group h xs =
    all_below h (λ i. all_below h (λ j. ltb (entry h xs i j) h))
    && (all_below h (λ i. eqb (entry h xs 0 i) i && eqb (entry h xs i 0) i)
    && all_below h (λ i. all_below h (λ j. all_below h (λ k. eqb (entry h xs (entry h xs i j) k) (entry h xs i (entry h xs j k))))))

pub group_tried : (h : ℕ) (xs : List ℕ) → tries_group h xs ≡ true → IsGroup h (entry h xs)
group_tried h xs tried =
    let all = and_parts (all_below h (λ i. all_below h (λ j. ltb (entry h xs i j) h))) _ tried in
    let others = and_parts (all_below h (λ i. eqb (entry h xs 0 i) i && eqb (entry h xs i 0) i)) _ all.1 in
    record {
      product_below = λ i j a b. ltb-true (entry h xs i j) h (all_pairs-at h (λ i j. ltb (entry h xs i j) h) all.0 i j a b);
      unit-product = λ i a. eqb-true (entry h xs 0 i) i (units others.0 i a).0;
      product-unit = λ i a. eqb-true (entry h xs i 0) i (units others.0 i a).1;
      product_assoc = λ i j k a b c. eqb-true (entry h xs (entry h xs i j) k) (entry h xs i (entry h xs j k))
          (all_triples-at h (λ i j k. eqb (entry h xs (entry h xs i j) k) (entry h xs i (entry h xs j k))) others.1 i j k a b c);
    }
  where
    units : all_below h (λ i. eqb (entry h xs 0 i) i && eqb (entry h xs i 0) i) ≡ true → (i : ℕ) → i < h
        → (eqb (entry h xs 0 i) i ≡ true) × (eqb (entry h xs i 0) i ≡ true)
    units e i a = and_parts (eqb (entry h xs 0 i) i) (eqb (entry h xs i 0) i)
        (all_below-at h (λ k. eqb (entry h xs 0 k) k && eqb (entry h xs k 0) k) e i a)

-- p passes at some number below n
abbrev pub some_below : ℕ → (ℕ → Bool) → Bool
some_below zero p = false
some_below (suc n) p = p n || some_below n p

some_below-at : (n : ℕ) (p : ℕ → Bool) → some_below n p ≡ true → (i : ℕ) × (i < n) × (p i ≡ true)
some_below-at zero p h = absurd (cc)
some_below-at (suc n) p h = elim (or_cases (p n) (some_below n p) h) [
  | inl e ↦ (n, omega arith, e)
  | inr e ↦ (let found = some_below-at n p e in (found.0, (let l : found.0 < n = found.1 in omega arith), found.2))
]

abbrev pub tries_inverses : (h : ℕ) → List ℕ → Bool
tries_inverses h xs = all_below h (λ i. some_below h (λ j. eqb (entry h xs i j) 0))

pub inverses_tried : (h : ℕ) (xs : List ℕ) → tries_inverses h xs ≡ true → HasInverses h (entry h xs)
inverses_tried h xs tried i a =
    let found = some_below-at h (λ j. eqb (entry h xs i j) 0) (all_below-at h (λ k. some_below h (λ j. eqb (entry h xs k j) 0)) tried i a) in
    (found.0, found.1, eqb-true (entry h xs i found.0) 0 found.2)

-- n + 1 is the order of i
abbrev pub tries_least : (product : ℕ → ℕ → ℕ) → ℕ → ℕ → Bool
tries_least product i n = eqb (power_of product i (suc n)) 0 && all_below n (λ k. not (eqb (power_of product i (suc k)) 0))

least-tried : (product : ℕ → ℕ → ℕ) (i n : ℕ) → IsElementOrder product i (suc n) → tries_least product i n ≡ true
least-tried product i n o = and_from (eqb (power_of product i (suc n)) 0) (all_below n (λ k. not (eqb (power_of product i (suc k)) 0)))
    (eq-eqb (power_of product i (suc n)) 0 o.power-order)
    (all_below-from n (λ k. not (eqb (power_of product i (suc k)) 0)) (λ k lt. ap not (ne_eqb (power_of product i (suc k)) 0
    (λ e. let l : suc n ≤ suc k = o.least (suc k) (omega arith) e in absurd (omega arith)))))

-- n + 1 is no order of i, or divides the order and the exponents along i
abbrev pub tries_order : (order h : ℕ) → List ℕ → List ℕ → ℕ → ℕ → Bool
tries_order order h xs ys i n =
    cond (tries_least (entry h xs) i n) (eqb (order % suc n) 0 && eqb (exponents_along (entry h xs) (entry h ys) i (suc n) % suc n) 0) true

abbrev pub tries_factors : (order h : ℕ) → List ℕ → List ℕ → Bool
tries_factors order h xs ys =
    all_below h (λ i. all_below h (λ j. ltb (entry h ys i j) order))
    && (all_below h (λ i. eqb (entry h ys 0 i) 0 && eqb (entry h ys i 0) 0)
    && (all_below h (λ i. all_below h (λ j. all_below h (λ k.
    eqb ((entry h ys i j + entry h ys (entry h xs i j) k) % order) ((entry h ys j k + entry h ys i (entry h xs j k)) % order))))
    && all_below h (λ i. eqb (power_of (entry h xs) i h) 0 && all_below h (tries_order order h xs ys i))))

pub factors_tried : (order h : ℕ) (xs ys : List ℕ) → 0 < h → tries_factors order h xs ys ≡ true → IsFactorSystem order h (entry h xs) (entry h ys)
factors_tried order h xs ys positive tried =
    let all = and_parts (all_below h (λ i. all_below h (λ j. ltb (entry h ys i j) order))) _ tried in
    let others = and_parts (all_below h (λ i. eqb (entry h ys 0 i) 0 && eqb (entry h ys i 0) 0)) _ all.1 in
    let last = and_parts (all_below h (λ i. all_below h (λ j. all_below h (λ k.
    eqb ((entry h ys i j + entry h ys (entry h xs i j) k) % order) ((entry h ys j k + entry h ys i (entry h xs j k)) % order))))) _ others.1 in
    record {
      exponent_below = λ i j a b. ltb-true (entry h ys i j) order (all_pairs-at h (λ i j. ltb (entry h ys i j) order) all.0 i j a b);
      unit-exponent = λ i a. eqb-true (entry h ys 0 i) 0 (units others.0 i a).0;
      exponent-unit = λ i a. eqb-true (entry h ys i 0) 0 (units others.0 i a).1;
      exponent_assoc = λ i j k a b c.
          eqb-true ((entry h ys i j + entry h ys (entry h xs i j) k) % order) ((entry h ys j k + entry h ys i (entry h xs j k)) % order)
          (all_triples-at h (λ i j k. eqb ((entry h ys i j + entry h ys (entry h xs i j) k) % order)
          ((entry h ys j k + entry h ys i (entry h xs j k)) % order))
          last.0 i j k a b c);
      order_divides = λ i m a o. (orders last.1 i a m o).0;
      exponents_divided = λ i m a o. (orders last.1 i a m o).1;
    }
  where
    units : all_below h (λ i. eqb (entry h ys 0 i) 0 && eqb (entry h ys i 0) 0) ≡ true → (i : ℕ) → i < h
        → (eqb (entry h ys 0 i) 0 ≡ true) × (eqb (entry h ys i 0) 0 ≡ true)
    units e i a = and_parts (eqb (entry h ys 0 i) 0) (eqb (entry h ys i 0) 0)
        (all_below-at h (λ k. eqb (entry h ys 0 k) 0 && eqb (entry h ys k 0) 0) e i a)

    orders : all_below h (λ i. eqb (power_of (entry h xs) i h) 0 && all_below h (tries_order order h xs ys i)) ≡ true
        → (i : ℕ) → i < h → (m : ℕ) → IsElementOrder (entry h xs) i m → (m ∣ order) × (m ∣ exponents_along (entry h xs) (entry h ys) i m)
    orders e i a zero o = absurd (let l : 0 < 0 = o.positive in omega arith)
    orders e i a (suc n) o =
        let here = and_parts (eqb (power_of (entry h xs) i h) 0) (all_below h (tries_order order h xs ys i))
        (all_below-at h (λ k. eqb (power_of (entry h xs) k h) 0 && all_below h (tries_order order h xs ys k)) e i a) in
        let small : suc n ≤ h = o.least h positive (eqb-true (power_of (entry h xs) i h) 0 here.0) in
        let both = and_parts (eqb (order % suc n) 0) (eqb (exponents_along (entry h xs) (entry h ys) i (suc n) % suc n) 0)
        (if_true (tries_least (entry h xs) i n) _ (all_below-at h (tries_order order h xs ys i) here.1 n (omega arith))
        (least-tried (entry h xs) i n o)) in (
          Nat.dvd_of_mod-eq-zero _ (eqb-true (order % suc n) 0 both.0),
          Nat.dvd_of_mod-eq-zero _ (eqb-true (exponents_along (entry h xs) (entry h ys) i (suc n) % suc n) 0 both.1),
        )

-- the members at a and b are the same only where a and b are, and their product is a member
abbrev pub tries_members : (h : ℕ) → List ℕ → List ℕ → ℕ → ℕ → Bool
tries_members h xs members a b =
    cond (eqb (slice_index members a) (slice_index members b)) (eqb a b) true
    && some_below (length members) (λ k. eqb (slice_index members k) (entry h xs (slice_index members a) (slice_index members b)))

abbrev pub tries_subgroup : (h : ℕ) → List ℕ → List ℕ → Bool
tries_subgroup h xs members =
    (ltb 0 (length members) && eqb (slice_index members 0) 0)
    && (all_below (length members) (λ a. ltb (slice_index members a) h
    && some_below (length members) (λ b. eqb (entry h xs (slice_index members a) (slice_index members b)) 0))
    && all_below (length members) (λ a. all_below (length members) (tries_members h xs members a)))

pub subgroup_tried : {h : ℕ} (T : PhaseTable h) (order : ℕ) (xs ys members : List ℕ) → IsListed T order xs ys → tries_subgroup h xs members ≡ true
    → IsSubgroup T members
subgroup_tried {h} T order xs ys members listed tried =
    let all = and_parts (ltb 0 (length members) && eqb (slice_index members 0) 0) _ tried in
    let first = and_parts (ltb 0 (length members)) (eqb (slice_index members 0) 0) all.0 in
    let others = and_parts (all_below (length members) (λ a. ltb (slice_index members a) h
    && some_below (length members) (λ b. eqb (entry h xs (slice_index members a) (slice_index members b)) 0))) _ all.1 in
    record {
      below = λ a lt. (single others.0 a lt).0;
      distinct = λ a b p q. (pairs others.1 a b p q).0;
      not_empty = ltb-true 0 (length members) first.0;
      unit_first = eqb-true (slice_index members 0) 0 first.1;
      products_inside = λ i j p q.
          let found = (pairs others.1 p.0 q.0 p.1 q.1).1 in
          inside found.0 (to_nat (T.product i j)) found.1
          (found.2 ∙ ap (λ k. entry h xs k (slice_index members q.0)) (at_number p) ∙ ap (entry h xs (to_nat i)) (at_number q)
          ∙ sym (listed.product-entry i j));
      opposites_inside = λ i p.
          let found = (single others.0 p.0 p.1).1 in
          inside found.0 (to_nat (T.opposite i)) found.1
          (opposite i found.0 ((single others.0 found.0 found.1).0)
          (ap (λ k. entry h xs k (slice_index members found.0)) (sym (at_number p)) ∙ found.2));
    }
  where
    inside : (k x : ℕ) → k < length members → slice_index members k ≡ x → Contains members x
    inside k x lt e = (k, lt, get_or_default members k x 0 lt ∙ e)

    at_number : {x : ℕ} (p : Contains members x) → slice_index members p.0 ≡ x
    at_number {x} p = get_or_default members p.0 0 x p.1 ∙ p.2

    -- the inverse is the place with which the product is the unit
    opposite : (i : Fin h) (b : ℕ) → slice_index members b < h → entry h xs (to_nat i) (slice_index members b) ≡ 0
        → slice_index members b ≡ to_nat (T.opposite i)
    opposite i b lt e =
        let j : Fin h = from_nat h (slice_index members b) lt in
        let number : to_nat j ≡ slice_index members b = to_nat-from_nat h (slice_index members b) lt in
        let unit : T.product i j ≡ T.start = to_nat_inj (T.product i j) T.start
        (listed.product-entry i j ∙ ap (entry h xs (to_nat i)) number ∙ e ∙ sym T.start_first) in
        sym number ∙ ap to_nat (sym (T.start-product j) ∙ ap (λ k. T.product k j) (sym (T.opposite-product i)) ∙ T.product_assoc (T.opposite i) i j
        ∙ ap (T.product (T.opposite i)) unit ∙ T.product-start (T.opposite i))

    single : all_below (length members) (λ a. ltb (slice_index members a) h
        && some_below (length members) (λ b. eqb (entry h xs (slice_index members a) (slice_index members b)) 0)) ≡ true
        → (a : ℕ) → a < length members → (slice_index members a < h) × ((b : ℕ) × (b < length members) × (entry h xs (slice_index members a)
        (slice_index members b) ≡ 0))
    single e a lt =
        let here = and_parts (ltb (slice_index members a) h) _ (all_below-at (length members) (λ a. ltb (slice_index members a) h
        && some_below (length members) (λ b. eqb (entry h xs (slice_index members a) (slice_index members b)) 0)) e a lt) in
        let found = some_below-at (length members) (λ b. eqb (entry h xs (slice_index members a) (slice_index members b)) 0) here.1 in (
          ltb-true (slice_index members a) h here.0,
          (
            found.0,
            found.1,
            eqb-true
                (entry h xs (slice_index members a) (slice_index members found.0)) 0 found.2,
          ),
        )

    pairs : all_below (length members) (λ a. all_below (length members) (tries_members h xs members a)) ≡ true
        → (a b : ℕ) → a < length members → b < length members → (slice_index members a ≡ slice_index members b → a ≡ b)
        × ((k : ℕ) × (k < length members) × (slice_index members k ≡ entry h xs (slice_index members a) (slice_index members b)))
    pairs e a b p q =
        let here = and_parts (cond (eqb (slice_index members a) (slice_index members b)) (eqb a b) true) _
        (all_pairs-at (length members) (tries_members h xs members) e a b p q) in
        let found = some_below-at (length members) (λ k. eqb (slice_index members k)
        (entry h xs (slice_index members a) (slice_index members b))) here.1 in (
          (λ d. eqb-true a b (if_true (eqb (slice_index members a) (slice_index members b)) (eqb a b) here.0
              (eq-eqb (slice_index members a) (slice_index members b) d))),
          (found.0, found.1, eqb-true (slice_index members found.0) (entry h xs (slice_index members a) (slice_index members b)) found.2),
        )

pub result_tried : {E : Type 0} (r : Result Twisted E) (order h : ℕ) (xs ys zs members : List ℕ) → IfOk r (λ t. IsListed (phase_table t) order xs ys)
    → IfOk r (λ t. operation_places t ≡ zs)
    → length zs ≡ h → tries_subgroup h xs members ≡ true → IfOk r (λ t. IsSubgroup (phase_table t) members)
result_tried (Ok t) order h xs ys zs members listed places count tried =
    let total : place_count t ≡ h = t.places.ok.0 ∙ ap length places ∙ count in
    subgroup_tried (phase_table t) order xs ys members listed (ap (λ k. tries_subgroup k xs members) total ∙ tried)
result_tried (Err e) order h xs ys zs members listed places count tried = tt
