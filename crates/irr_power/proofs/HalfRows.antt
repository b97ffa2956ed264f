-- Rows of halves.
--   sum_small           sums of sums of few powers of z
--   class_small, return_small     the sums over classes
--   pairs_of_rows       two rows of sums of few powers
--   halved_row          a row of halves has the numbers whose doubles are known
use Rattle.std.proofs.Common.{◌≡◌, sym, ◌∙◌, ap, ap₂, subst, ℕ, ◌*◌, ◌<◌, ◌≤◌, List, length, get_or, map, Vec, Global, arith}
use Rattle.std.proofs.lemmas.List.{get_or-map}
use native.Mathlib.Nat as Nat
use Rattle.irr_algebra.specs.Fin.{Fin, to_nat}
use Rattle.irr_algebra.specs.Sum.{sum}
use Rattle.irr_algebra.proofs.Indices.{from_nat, to_nat-from_nat}
use Rattle.irr_number.specs.Number.{Number, numbers}
use Rattle.irr_canonical.specs.RootSum.{IsRootSum}
use Rattle.irr_canonical.proofs.RootSums.{IsRootSum-more}
use Rattle.irr_canonical.proofs.Sums.{eq_of_mul}
use Rattle.irr_mat.proofs.Sizes.{IsRootSum-sum_below}
use Rattle.irr_char.specs.Characters.{IsRowOf}
use Rattle.irr_char.proofs.Traces.{extended, extended-is, sum-extended}
use Rattle.irr_power.specs.Halves.{AreHalves, ArePairs, IsHalf}
use Rattle.irr_product.specs.ClassRows.{ClassRows, class_sum}
use Rattle.irr_power.specs.Returns.{ReturnRows, return_sum}
use Rattle.irr_product.proofs.RowItems.{term_of, term_small}
use Rattle.irr_power.proofs.HalfNumbers.{twice_of}
use Rattle.irr_power.proofs.ReturnItems.{return_term, return_term_small, row_of_each}

-- numbers have one half
halved : (n : ℕ) → 0 < n → (x y : Number n) → (numbers n).add x x ≡ (numbers n).add y y → x ≡ y
halved n positive x y e = eq_of_mul n positive 2 (omega arith) x y (twice_of (numbers n) x ∙ e ∙ sym (twice_of (numbers n) y))

sum_small : (n s m b : ℕ) → m ≤ b → (f : Fin m → Number n) → ((i : Fin m) → IsRootSum n s 1 (f i)) → IsRootSum n (b * s) 1 (sum (numbers n) m f)
sum_small n s m b l f small =
    let few : m * s ≤ b * s = Nat.mul-le-mul_right s l in
    IsRootSum-more n (b * s) few (subst (IsRootSum n (m * s) 1) (sum-extended n f)
    (IsRootSum-sum_below n s 1 m (extended n f) (omega arith)
    (λ k q. subst (IsRootSum n s 1) (sym (extended-is n f k q)) (small (from_nat m k q)))))

pub class_small : {S : Type 0} (order : S → ℕ) (value : (n : ℕ) → S → Number n) (n h : ℕ) (left right : List (Vec S Global)) (classes : List ℕ)
    (e : ClassRows order value n h left right classes) (p : Fin h) → IsRootSum n 5308416 1 (class_sum e p)
unfolding class_sum
class_small order value n h left right classes e p = sum_small n 2304 (length classes) 2304 e.few_classes
    (term_of order value n h left right classes e p) (term_small order value n h left right classes e p)

pub return_small : {S : Type 0} (order : S → ℕ) (value : (n : ℕ) → S → Number n) (n h : ℕ) (doubles : List (Vec S Global)) (targets : List (Vec ℕ Global))
    (classes : List ℕ) (e : ReturnRows order value n h doubles targets classes) (p : Fin h) → IsRootSum n 110592 1 (return_sum e p)
unfolding return_sum
return_small order value n h doubles targets classes e p = sum_small n 48 (length classes) 2304 e.few_classes
    (return_term order value n h doubles targets classes e p) (return_term_small order value n h doubles targets classes e p)

module _ {S : Type 0} (order : S → ℕ) (value : (n : ℕ) → S → Number n) (n h : ℕ) (f : Fin h → Number n) (row : List S)
    (r : IsRowOf order value n f row) where
  -- the number at a place
  row_value : (k : ℕ) (x : S) → k < length row → (p : Fin h) → to_nat p ≡ k → value n (get_or row k x) ≡ f p
  row_value k x l p e = sym (get_or-map (value n) row k x (numbers n).zero l) ∙ ap (λ j. get_or (map (value n) row) j (numbers n).zero) (sym e) ∙ r.numbers_at p

  row_place : (k : ℕ) → k < length row → (p : Fin h) × (to_nat p ≡ k)
  row_place k l = let m : k < h = subst (λ j. k < j) r.count l in (from_nat h k m, to_nat-from_nat h k m)

  row_few : (s : ℕ) → ((p : Fin h) → IsRootSum n s 1 (f p)) → (k : ℕ) (x : S) → k < length row → IsRootSum n s 1 (value n (get_or row k x))
  row_few s few k x l = let p = row_place k l in subst (IsRootSum n s 1) (sym (row_value k x l p.0 p.1)) (few p.0)

module _ {S : Type 0} (order : S → ℕ) (value : (n : ℕ) → S → Number n) (n h : ℕ) (f g : Fin h → Number n) (xs ys : List S)
    (r : IsRowOf order value n f xs) (q : IsRowOf order value n g ys) where
  second_inside : (k : ℕ) → k < length xs → k < length ys
  second_inside k l = subst (λ j. k < j) (r.count ∙ sym q.count) l

  pub pairs_of_rows : ((p : Fin h) → IsRootSum n 5308416 1 (f p)) → ((p : Fin h) → IsRootSum n 110592 1 (g p)) → ArePairs order value n xs ys
  pairs_of_rows few_f few_g = record {
    same_length = q.count ∙ sym r.count;
    first_order = r.orders;
    second_order = λ k y l. q.orders k y (second_inside k l);
    first_few = row_few order value n h f xs r 5308416 few_f;
    second_few = λ k y l. row_few order value n h g ys q 110592 few_g k y (second_inside k l);
  }

  pub halved_row : 0 < n → (op : Number n → Number n → Number n) (zs : List S) → AreHalves order value n op xs ys zs → (t : Fin h → Number n)
      → ((p : Fin h) → IsHalf n (op (f p) (g p)) (t p)) → IsRowOf order value n t zs
  halved_row positive op zs halves t twice = row_of_each order value n h t zs (record {
    count = halves.count ∙ r.count;
    each = λ k z l.
        let inside : k < length xs = subst (λ j. k < j) (sym r.count) l in
        let half = halves.each k z inside (get_or zs k z) (get_or zs k z) in (
          half.0,
          λ p e. halved n positive (value n (get_or zs k z)) (t p) (half.1.twice
              ∙ ap₂ op (row_value order value n h f xs r k (get_or zs k z) inside p e)
              (row_value order value n h g ys q k (get_or zs k z) (second_inside k inside) p e) ∙ sym (twice p).twice),
        );
  })
