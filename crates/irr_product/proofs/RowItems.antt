-- Numbers of rows, and sums of products of them.
--   listed_class           a class of the list
--   traces_are             the items of a row
--   first_of_pair, second_of_pair     the numbers of a pair
--   term_of                the product for a class
--   at_class               the rows and the numbers of a class
--   few_product, few_sum   sizes
--   product_there, product_small, zero_product     a product, at an equal order
--   first_order, .., term_is     the two numbers of a class at a place
--   next_sum               one more product
--   terms_below, few_terms, all_terms     the sum so far, and all of it
use Rattle.std.proofs.Common.{◌≡◌, sym, ◌∙◌, ap, ap₂, subst, refl, ℕ, ◌+◌, ◌*◌, ◌/◌, ◌%◌, ◌<◌, ◌≤◌, ◌^◌, List, [], length, get_or, map, Vec, Global, arith}
use Rattle.std.proofs.lemmas.List.{get_or-map, get_or_default}
use native.Mathlib.Nat as Nat
use Rattle.irr_algebra.specs.Fin.{Fin, to_nat}
use Rattle.irr_algebra.proofs.Indices.{from_nat, to_nat-from_nat, to_nat-lt}
use Rattle.irr_algebra.proofs.Rings.{zero-mul}
use Rattle.irr_number.specs.Number.{Number, numbers}
use Rattle.irr_canonical.specs.RootSum.{IsRootSum}
use Rattle.irr_canonical.proofs.RootSums.{IsRootSum-more, IsRootSum-mul}
use Rattle.irr_mat.proofs.PartialSums.{PartialSum, partial-add, partial-within}
use Rattle.irr_algebra.specs.Listed.{sum_below}
use Rattle.irr_char.specs.Characters.{IsRowOf}
use Rattle.irr_mult.specs.Listing.{item}
use Rattle.irr_mult.specs.Traced.{traces_at}
use Rattle.irr_mult.proofs.Listings.{item-get}
use Rattle.irr_char.proofs.Traces.{extended, extended-is, sum-extended}
use Rattle.irr_product.specs.ClassRows.{ClassRows, class_sum}

pub listed_class : (classes : List ℕ) (k : ℕ) → k < length classes → get_or classes k 0 ≡ get_or classes k (get_or classes k 0)
listed_class classes k l = get_or_default classes k 0 (get_or classes k 0) l

pub traces_are : {S : Type 0} (rows : List (Vec S Global)) (k : ℕ) (v : Vec S Global) → k < length rows → v ≡ get_or rows k v
    → traces_at rows k ≡ v.items
traces_are {S} rows k v l is = get_or-map (λ (w : Vec S Global). w.items) rows k v [] l ∙ ap (λ (w : Vec S Global). w.items) (sym is)

pub second_of_pair : (i b j : ℕ) → j < b → (i * b + j) % b ≡ j
second_of_pair i b j l = ap (λ n. n % b) (let e : i * b + j ≡ j + i * b = omega arith in e) ∙ Nat.add-mul-mod_self_right j i b ∙ Nat.mod-eq_of_lt l

pub first_of_pair : (i b j : ℕ) → j < b → (i * b + j) / b ≡ i
first_of_pair i b j l =
    let positive : 0 < b = omega (arith, l) in
    let split : b * ((i * b + j) / b) + (i * b + j) % b ≡ i * b + j = Nat.div-add-mod (i * b + j) b in
    let rest : (i * b + j) % b ≡ j = second_of_pair i b j l in
    let same : b * ((i * b + j) / b) ≡ i * b = omega (arith, split, rest) in
    sym (Nat.div-eq_of_eq-mul_right positive (sym same)) ∙ Nat.div-eq_of_eq-mul_right positive (Nat.mul_comm i b)

module _ {S : Type 0} (order : S → ℕ) (value : (n : ℕ) → S → Number n) (n h : ℕ) (f : Fin h → Number n) (row : List S)
    (r : IsRowOf order value n f row) (k : ℕ) (l : k < h) (x : S) (is : x ≡ get_or row k x) where
  within : k < length row
  within = subst (λ m. k < m) (sym r.count) l

  pub number_order : order x ≡ n
  number_order = subst (λ y. order y ≡ n) (sym is) (r.orders k x within)

  pub number_value : (p : Fin h) → to_nat p ≡ k → value n x ≡ f p
  number_value p e = ap (value n) is ∙ sym (get_or-map (value n) row k x (numbers n).zero within)
      ∙ ap (λ j. get_or (map (value n) row) j (numbers n).zero) (sym e) ∙ r.numbers_at p

module _ {S : Type 0} (order : S → ℕ) (value : (n : ℕ) → S → Number n) (n h : ℕ) (left right : List (Vec S Global)) (classes : List ℕ)
    (e : ClassRows order value n h left right classes) where
  abbrev pub term_of : Fin h → Fin (length classes) → Number n
  term_of p t = (numbers n).mul (e.left_number (e.first t) p) (e.right_number (e.second t) p)

  pub term_small : (p : Fin h) (t : Fin (length classes)) → IsRootSum n 2304 1 (term_of p t)
  term_small p t = IsRootSum-mul n (e.left_small (e.first t) p) (e.right_small (e.second t) p)

  module _ (k : ℕ) (l : k < length classes) (class : ℕ) (is : class ≡ get_or classes k class) (b : ℕ) (count : b ≡ length right) where
    abbrev pub here : Fin (length classes)
    here = from_nat (length classes) k l

    rights_are : b ≡ e.rights
    rights_are = count ∙ e.right_count

    pub some_right : 0 < b
    some_right = let w = to_nat-lt (e.second here) in let q = rights_are in omega (arith, w, q)

    number_is : class ≡ to_nat (e.first here) * b + to_nat (e.second here)
    number_is = is ∙ ap (λ m. get_or classes m class) (sym (to_nat-from_nat (length classes) k l)) ∙ sym (item-get classes here class)
        ∙ e.class here ∙ ap (λ m. to_nat (e.first here) * m + to_nat (e.second here)) (sym rights_are)

    below : to_nat (e.second here) < b
    below = subst (λ m. to_nat (e.second here) < m) (sym rights_are) (to_nat-lt (e.second here))

    pub first_is : class / b ≡ to_nat (e.first here)
    first_is = ap (λ m. m / b) number_is ∙ first_of_pair (to_nat (e.first here)) b (to_nat (e.second here)) below

    pub second_is : class % b ≡ to_nat (e.second here)
    second_is = ap (λ m. m % b) number_is ∙ second_of_pair (to_nat (e.first here)) b (to_nat (e.second here)) below

    pub first_inside : class / b < length left
    first_inside = let w = to_nat-lt (e.first here) in let q = first_is in let u = e.left_count in omega (arith, w, q, u)

    pub second_inside : class % b < length right
    second_inside = let w = to_nat-lt (e.second here) in let q = second_is in let u = e.right_count in omega (arith, w, q, u)

    pub left_row_here : IsRowOf {h = h} order value n (e.left_number (e.first here)) (traces_at left (class / b))
    left_row_here = subst (λ m. IsRowOf {h = h} order value n (e.left_number (e.first here)) (traces_at left m)) (sym first_is)
        (e.left_row (e.first here))

    pub right_row_here : IsRowOf {h = h} order value n (e.right_number (e.second here)) (traces_at right (class % b))
    right_row_here = subst (λ m. IsRowOf {h = h} order value n (e.right_number (e.second here)) (traces_at right m)) (sym second_is)
        (e.right_row (e.second here))

pub few_product : (n : ℕ) → n ≤ 12000 → 48 * n * (48 * n) ≤ 2 ^ 100
few_product n l =
    let a : 48 * n * (48 * n) ≤ 48 * 12000 * (48 * 12000) = Nat.mul-le-mul (Nat.mul-le-mul_left 48 l) (Nat.mul-le-mul_left 48 l) in
    let b : 48 * 12000 * (48 * 12000) ≤ 2 ^ 100 = omega arith in
    Nat.le_trans a b

pub few_sum : (n : ℕ) → n ≤ 12000 → 5308416 * n * 1 + 2304 * n * 1 < 2 ^ 110
few_sum n l = omega (arith, l)

module _ {S : Type 0} (value : (n : ℕ) → S → Number n) (n m : ℕ) (x y z : S) (same : m ≡ n) where
  pub product_there : value m z ≡ (numbers m).mul (value m x) (value m y) → value n z ≡ (numbers n).mul (value n x) (value n y)
  product_there e = subst (λ k. value k z ≡ (numbers k).mul (value k x) (value k y)) same e

  pub product_small : value m z ≡ (numbers m).mul (value m x) (value m y) → IsRootSum n 48 1 (value n x) → IsRootSum n 48 1 (value n y)
      → IsRootSum n 2304 1 (value n z)
  product_small e a b = subst (IsRootSum n 2304 1) (sym (product_there e)) (IsRootSum-mul n a b)

  pub zero_product : (w : Number n) → value m x ≡ (numbers m).zero → w ≡ (numbers n).add w ((numbers n).mul (value n x) (value n y))
  zero_product w e = sym (ap ((numbers n).add w) (ap (λ v. (numbers n).mul v (value n y))
      (subst (λ k. value k x ≡ (numbers k).zero) same e) ∙ zero-mul (numbers n) (value n y)) ∙ (numbers n).add-zero w)

-- the two numbers of a class at a place
module _ {S : Type 0} (order : S → ℕ) (value : (n : ℕ) → S → Number n) (n h : ℕ) (left right : List (Vec S Global)) (classes : List ℕ)
    (e : ClassRows order value n h left right classes) (k : ℕ) (l : k < length classes) (class : ℕ) (is : class ≡ get_or classes k class)
    (place : ℕ) (inside : place < h) (x y : S)
    (x-is : x ≡ get_or (traces_at left (class / length right)) place x) (y-is : y ≡ get_or (traces_at right (class % length right)) place y) where
  at : Fin (length classes)
  at = from_nat (length classes) k l

  first_row : IsRowOf {h = h} order value n (e.left_number (e.first at)) (traces_at left (class / length right))
  unfolding at
  first_row = left_row_here order value n h left right classes e k l class is (length right) refl

  second_row : IsRowOf {h = h} order value n (e.right_number (e.second at)) (traces_at right (class % length right))
  unfolding at
  second_row = right_row_here order value n h left right classes e k l class is (length right) refl

  pub first_order : order x ≡ n
  first_order = number_order order value n h (e.left_number (e.first at)) (traces_at left (class / length right)) first_row place inside x x-is

  pub second_order : order y ≡ n
  second_order = number_order order value n h (e.right_number (e.second at)) (traces_at right (class % length right)) second_row place inside y y-is

  module _ (p : Fin h) (same : to_nat p ≡ place) where
    first_value : value n x ≡ e.left_number (e.first at) p
    first_value = number_value order value n h (e.left_number (e.first at)) (traces_at left (class / length right)) first_row place inside x x-is p same

    second_value : value n y ≡ e.right_number (e.second at) p
    second_value = number_value order value n h (e.right_number (e.second at)) (traces_at right (class % length right)) second_row place inside y y-is p same

    pub first_small : IsRootSum n 48 1 (value n x)
    first_small = subst (IsRootSum n 48 1) (sym first_value) (e.left_small (e.first at) p)

    pub second_small : IsRootSum n 48 1 (value n y)
    second_small = subst (IsRootSum n 48 1) (sym second_value) (e.right_small (e.second at) p)

    pub term_is : (numbers n).mul (value n x) (value n y) ≡ extended n (term_of order value n h left right classes e p) k
    unfolding at
    term_is = ap₂ (numbers n).mul first_value second_value ∙ sym (extended-is n (term_of order value n h left right classes e p) k l)

    pub first_few : (m : ℕ) → m ≡ n → IsRootSum m 48 1 (value m x)
    first_few m o = subst (λ i. IsRootSum i 48 1 (value i x)) (sym o) first_small

    pub second_few : (m : ℕ) → m ≡ n → IsRootSum m 48 1 (value m y)
    second_few m o = subst (λ i. IsRootSum i 48 1 (value i y)) (sym o) second_small

    pub next_sum : (s z : S) → PartialSum order value n (extended n (term_of order value n h left right classes e p)) k s
        → order z ≡ order s
        → value (order s) z ≡ (numbers (order s)).add (value (order s) s) ((numbers (order s)).mul (value (order s) x) (value (order s) y))
        → PartialSum order value n (extended n (term_of order value n h left right classes e p)) (k + 1) z
    next_sum s z so o v = partial-add order value n (extended n (term_of order value n h left right classes e p)) k s z
        ((numbers n).mul (value n x) (value n y)) so (o ∙ so.has_order)
        (subst (λ m. value m z ≡ (numbers m).add (value m s) ((numbers m).mul (value m x) (value m y))) so.has_order v) term_is

-- the sum so far
pub terms_below : {S : Type 0} (order : S → ℕ) (value : (n : ℕ) → S → Number n) (n h : ℕ) (left right : List (Vec S Global)) (classes : List ℕ)
    (e : ClassRows order value n h left right classes) (p : Fin h) (k : ℕ) → k < length classes → (s : S)
    → PartialSum order value n (extended n (term_of order value n h left right classes e p)) k s → IsRootSum n 5308416 1 (value n s)
terms_below order value n h left right classes e p k l s so =
    let few = e.few_classes in
    let within : k ≤ 2304 = omega (arith, few, l) in
    let size : k * 2304 ≤ 2304 * 2304 = Nat.mul-le-mul_right 2304 within in
    IsRootSum-more n 5308416 (omega (arith, size))
    (partial-within order value n (extended n (term_of order value n h left right classes e p)) k 2304 1 s so (omega arith)
    (λ i q. let m : i < length classes = omega (arith, q, l) in
    subst (IsRootSum n 2304 1) (sym (extended-is n (term_of order value n h left right classes e p) i m))
    (term_small order value n h left right classes e p (from_nat (length classes) i m))))

pub few_terms : {S : Type 0} (order : S → ℕ) (value : (n : ℕ) → S → Number n) (n h : ℕ) (left right : List (Vec S Global)) (classes : List ℕ)
    (e : ClassRows order value n h left right classes) (p : Fin h) (k : ℕ) → k < length classes → (s : S)
    → PartialSum order value n (extended n (term_of order value n h left right classes e p)) k s → IsRootSum (order s) 5308416 1 (value (order s) s)
few_terms order value n h left right classes e p k l s so = subst (λ m. IsRootSum m 5308416 1 (value m s)) (sym so.has_order)
    (terms_below order value n h left right classes e p k l s so)

pub all_terms : {S : Type 0} (order : S → ℕ) (value : (n : ℕ) → S → Number n) (n h : ℕ) (left right : List (Vec S Global)) (classes : List ℕ)
    (e : ClassRows order value n h left right classes) (p : Fin h) (k : ℕ) → k ≡ length classes → (s : S)
    → PartialSum order value n (extended n (term_of order value n h left right classes e p)) k s → value n s ≡ class_sum e p
unfolding class_sum
all_terms order value n h left right classes e p k done s so = so.is_sum
    ∙ ap (λ m. sum_below (numbers n) m (extended n (term_of order value n h left right classes e p))) done
    ∙ sum-extended n (term_of order value n h left right classes e p)

pub place_inside_left : {S : Type 0} (order : S → ℕ) (value : (n : ℕ) → S → Number n) (n h : ℕ) (left right : List (Vec S Global)) (classes : List ℕ)
    (e : ClassRows order value n h left right classes) (k : ℕ) (l : k < length classes) (class : ℕ) → class ≡ get_or classes k class
    → (place : ℕ) → place < h → place < length (traces_at left (class / length right))
place_inside_left order value n h left right classes e k l class is place inside = subst (λ m. place < m)
    (sym (left_row_here order value n h left right classes e k l class is (length right) refl).count) inside

pub place_inside_right : {S : Type 0} (order : S → ℕ) (value : (n : ℕ) → S → Number n) (n h : ℕ) (left right : List (Vec S Global)) (classes : List ℕ)
    (e : ClassRows order value n h left right classes) (k : ℕ) (l : k < length classes) (class : ℕ) → class ≡ get_or classes k class
    → (place : ℕ) → place < h → place < length (traces_at right (class % length right))
place_inside_right order value n h left right classes e k l class is place inside = subst (λ m. place < m)
    (sym (right_row_here order value n h left right classes e k l class is (length right) refl).count) inside

-- a row, number by number
pub row_of_each : {S : Type 0} (order : S → ℕ) (value : (n : ℕ) → S → Number n) (n h : ℕ) (f : Fin h → Number n) (row : List S)
    → length row ≡ h → ((k : ℕ) (x : S) → k < h → order (get_or row k x) ≡ n)
    → ((k : ℕ) (x : S) → k < h → (p : Fin h) → to_nat p ≡ k → value n (get_or row k x) ≡ f p) → IsRowOf {h = h} order value n f row
row_of_each {S} order value n h f row count orders values = record {
  count = count;
  orders = λ k x l. orders k x (subst (λ m. k < m) count l);
  numbers_at = λ p.
      let l : to_nat p < length row = subst (λ m. to_nat p < m) (sym count) (to_nat-lt p) in
      let x = item row (from_nat (length row) (to_nat p) l) in
      get_or-map (value n) row (to_nat p) x (numbers n).zero l ∙ values (to_nat p) x (to_nat-lt p) p refl;
}
