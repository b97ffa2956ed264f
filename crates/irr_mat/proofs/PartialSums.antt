-- Running sums of a program's numbers, for products and traces.
--   PartialSum order value n f k x       x has the order n, and its value is f 0 + .. + f (k-1)
--   partial-none, partial-one            no number, and the first one
--   partial-add, partial-skip            one more number, and one that is 0
--   partial-within                       the size of the sum so far
--   le_of_square, partial_sizes          each sum so far meets the condition of a sum
--   term, term-within, term-value, term-zero_left, term-zero_right, product-entry     the numbers that add up to an entry of a product
--   diagonal, diagonal-within, diagonal-value, trace-entries                          the numbers that add up to a trace
use Rattle.std.proofs.Common.{◌≡◌, sym, ◌∙◌, ap, ap₂, subst, ℕ, zero, suc, ◌+◌, ◌*◌, ◌<◌, ◌≤◌, List, get_or, map, Some, arith}
use Rattle.std.specs.Prelude.{slice_get}
use native.Mathlib.Nat as Nat
use Rattle.irr_algebra.specs.Fin.{to_nat}
use Rattle.irr_algebra.specs.Listed.{of_list, sum_below}
use Rattle.irr_algebra.specs.Matrix.{◌·◌, trace}
use Rattle.irr_algebra.proofs.Listed.{sum-to_nat, sum_below-add_one, trace-of_list}
use Rattle.irr_algebra.proofs.Matrices.{mul-at}
use Rattle.irr_algebra.proofs.Rings.{mul-zero, zero-add, zero-mul}
use Rattle.irr_number.specs.Number.{Number, numbers}
use Rattle.irr_canonical.specs.RootSum.{IsRootSum}
use Rattle.irr_canonical.proofs.RootSums.{IsRootSum-mul}
use Rattle.irr_mat.specs.Entries.{IsEntry, matrix_of}
use Rattle.irr_mat.specs.Size.{IsWithin}
use Rattle.irr_mat.proofs.Entries.{entry-value}
use Rattle.irr_mat.proofs.Sizes.{IsRootSum-sum_below, within-get}

module _ {S : Type 0} (order : S → ℕ) (value : (n : ℕ) → S → Number n) (n : ℕ) where
  pub record PartialSum (f : ℕ → Number n) (k : ℕ) (x : S) : Type 0 where
    pub has_order : order x ≡ n
    pub is_sum : value n x ≡ sum_below (numbers n) k f

  pub partial-none : (f : ℕ → Number n) (x : S) → order x ≡ n → value n x ≡ (numbers n).zero → PartialSum f 0 x
  unfolding sum_below
  partial-none f x o v = record { has_order = o; is_sum = v }

  pub partial-one : (f : ℕ → Number n) (x : S) → order x ≡ n → value n x ≡ f 0 → PartialSum f 1 x
  unfolding sum_below
  partial-one f x o v = record { has_order = o; is_sum = v ∙ sym (zero-add (numbers n) (f 0)) }

  pub partial-add : (f : ℕ → Number n) (k : ℕ) (x z : S) (y : Number n) → PartialSum f k x → order z ≡ n → value n z ≡ (numbers n).add (value n x) y → y ≡ f k → PartialSum f (k + 1) z
  partial-add f k x z y h o v e = record {
    has_order = o;
    is_sum = v ∙ ap₂ (numbers n).add h.is_sum e ∙ sym (sum_below-add_one (numbers n) k f);
  }

  pub partial-skip : (f : ℕ → Number n) (k : ℕ) (x : S) → PartialSum f k x → f k ≡ (numbers n).zero → PartialSum f (k + 1) x
  partial-skip f k x h e = record {
    has_order = h.has_order;
    is_sum = h.is_sum ∙ sym (sum_below-add_one (numbers n) k f ∙ ap ((numbers n).add (sum_below (numbers n) k f)) e ∙ (numbers n).add-zero (sum_below (numbers n) k f));
  }

  pub partial-within : (f : ℕ → Number n) (k s d : ℕ) (x : S) → PartialSum f k x → 0 < d → ((i : ℕ) → i < k → IsRootSum n s d (f i)) → IsRootSum n (k * s) d (value n x)
  partial-within f k s d x h p w = subst (IsRootSum n (k * s) d) (sym h.is_sum) (IsRootSum-sum_below n s d k f p w)

-- a number is at most its square
pub le_of_square : (u b : ℕ) → u * u ≤ b → u ≤ b
le_of_square zero b h = omega arith
le_of_square (suc u) b h = omega arith

pub partial_sizes : (k m u N v b : ℕ) → k < m → m * u * N * v < b → k * u * N * v + u * N * v < b
partial_sizes k m u N v b l h =
    let e : (k + 1) * (u * N * v) ≤ m * (u * N * v) = Nat.mul-le-mul_right (u * N * v) (omega arith) in
    omega arith

module _ {S : Type 0} (value : (n : ℕ) → S → Number n) (n m c : ℕ) (xs ys : List S) (i j : ℕ) where
  -- the products that add up to the entry in row i and column j
  abbrev pub term : ℕ → Number n
  term k = (numbers n).mul (get_or (map (value n) xs) (i * m + k) (numbers n).zero) (get_or (map (value n) ys) (k * c + j) (numbers n).zero)

  pub term-within : (r s d t e : ℕ) → IsWithin n s d (matrix_of value n r m xs) → IsWithin n t e (matrix_of value n m c ys) → i < r → j < c → (k : ℕ) → k < m → IsRootSum n (s * t) (d * e) (term k)
  term-within r s d t e a b p q k l = IsRootSum-mul n (within-get value n r m s d xs i k a p l) (within-get value n m c t e ys k j b l q)

  pub term-value : (k : ℕ) (x y : S) → slice_get xs (i * m + k) ≡ Some x → slice_get ys (k * c + j) ≡ Some y → (numbers n).mul (value n x) (value n y) ≡ term k
  term-value k x y p q = sym (ap₂ (numbers n).mul (entry-value (value n) xs (i * m + k) x (numbers n).zero p) (entry-value (value n) ys (k * c + j) y (numbers n).zero q))

  pub term-zero_left : (k : ℕ) (x : S) → slice_get xs (i * m + k) ≡ Some x → value n x ≡ (numbers n).zero → term k ≡ (numbers n).zero
  term-zero_left k x p e =
      ap (λ u. (numbers n).mul u (get_or (map (value n) ys) (k * c + j) (numbers n).zero)) (entry-value (value n) xs (i * m + k) x (numbers n).zero p ∙ e)
      ∙ zero-mul (numbers n) (get_or (map (value n) ys) (k * c + j) (numbers n).zero)

  pub term-zero_right : (k : ℕ) (y : S) → slice_get ys (k * c + j) ≡ Some y → value n y ≡ (numbers n).zero → term k ≡ (numbers n).zero
  term-zero_right k y p e =
      ap ((numbers n).mul (get_or (map (value n) xs) (i * m + k) (numbers n).zero)) (entry-value (value n) ys (k * c + j) y (numbers n).zero p ∙ e)
      ∙ mul-zero (numbers n) (get_or (map (value n) xs) (i * m + k) (numbers n).zero)

  pub product-entry : (r : ℕ) (x : Number n) → x ≡ sum_below (numbers n) m term → IsEntry (matrix_of value n r m xs · matrix_of value n m c ys) i j x
  unfolding matrix_of of_list
  product-entry r x e = record {
    is_entry = λ k l p q.
        e ∙ ap₂ (λ u v. sum_below (numbers n) m (λ w. (numbers n).mul (get_or (map (value n) xs) (u * m + w) (numbers n).zero) (get_or (map (value n) ys) (w * c + v) (numbers n).zero))) (sym p) (sym q)
        ∙ sym (mul-at (matrix_of value n r m xs) (matrix_of value n m c ys) k l
        ∙ sum-to_nat (numbers n) m (λ w. (numbers n).mul (get_or (map (value n) xs) (to_nat k * m + w) (numbers n).zero) (get_or (map (value n) ys) (w * c + to_nat l) (numbers n).zero)));
  }

module _ {S : Type 0} (value : (n : ℕ) → S → Number n) (n r : ℕ) (xs : List S) where
  -- the diagonal entries
  abbrev pub diagonal : ℕ → Number n
  diagonal k = get_or (map (value n) xs) (k * r + k) (numbers n).zero

  pub diagonal-within : (s d : ℕ) → IsWithin n s d (matrix_of value n r r xs) → (k : ℕ) → k < r → IsRootSum n s d (diagonal k)
  diagonal-within s d a k l = within-get value n r r s d xs k k a l l

  pub diagonal-value : (k : ℕ) (x : S) → slice_get xs (k * r + k) ≡ Some x → value n x ≡ diagonal k
  diagonal-value k x p = sym (entry-value (value n) xs (k * r + k) x (numbers n).zero p)

  pub trace-entries : trace (matrix_of value n r r xs) ≡ sum_below (numbers n) r diagonal
  unfolding matrix_of
  trace-entries = trace-of_list (numbers n) r (map (value n) xs)
