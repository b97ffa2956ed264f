-- Tables of phases as lists of numbers, row by row (Bradley and Cracknell, section 3.7).
--   entry h xs i j           what stands in row i and column j of a table with h columns
--   IsListed T N l x         T has the order N, the products l and the exponents x, row by row
--   IsGroup h l              the products l(i,j) of the places below h are associative, with the unit 0
--   HasInverses h l          each place below h has one with which its product is 0
--   AreInverses h l v        v(i) is the inverse of i
--   AreUnitColumns h l v     v lists the column of the unit in each row
--   AreEntries h P xs        P holds of each row, column and entry of a table
--   power_of l i n           the n-th power of i
--   exponents_along l x i n  the sum of x(i, i^a) over a below n
--   IsElementOrder l i m     m is the order of i
--   IsFactorSystem N h l x   the exponents x(i,j) modulo N are a normalized 2-cocycle, and meet the law on orders
use Rattle.std.specs.Prelude.{ℕ, zero, suc, ◌≡◌, ◌<◌, ◌≤◌, ◌+◌, ◌*◌, ◌%◌, List, length, slice_index}
use Rattle.std.specs.Int.{◌∣◌}
use Rattle.irr_algebra.specs.Fin.{Fin, to_nat}
use Rattle.irr_space.specs.PhaseTable.{PhaseTable}

-- the entry in row i and column j
abbrev pub entry : (h : ℕ) → List ℕ → ℕ → ℕ → ℕ
entry h xs i j = slice_index xs (i * h + j)

-- the products are associative on the places below h, and 0 is the unit
pub record IsGroup (h : ℕ) (product : ℕ → ℕ → ℕ) : Type 0 where
  pub product_below : (i j : ℕ) → i < h → j < h → product i j < h
  pub unit-product : (i : ℕ) → i < h → product 0 i ≡ i
  pub product-unit : (i : ℕ) → i < h → product i 0 ≡ i
  pub product_assoc : (i j k : ℕ) → i < h → j < h → k < h → product (product i j) k ≡ product i (product j k)

-- each place has an inverse
abbrev pub HasInverses : ℕ → (ℕ → ℕ → ℕ) → Type 0
HasInverses h product = (i : ℕ) → i < h → (j : ℕ) × (j < h) × (product i j ≡ 0)

-- the inverse of each place
pub record AreInverses (h : ℕ) (product : ℕ → ℕ → ℕ) (inverse : ℕ → ℕ) : Type 0 where
  pub inverse_below : (i : ℕ) → i < h → inverse i < h
  pub product-inverse : (i : ℕ) → i < h → product i (inverse i) ≡ 0
  pub inverse-product : (i : ℕ) → i < h → product (inverse i) i ≡ 0

-- in each row, the column where the unit stands
pub record AreUnitColumns (h : ℕ) (product : ℕ → ℕ → ℕ) (columns : List ℕ) : Type 0 where
  pub count : length columns ≡ h
  pub column_below : (i : ℕ) → i < h → slice_index columns i < h
  pub product-column : (i : ℕ) → i < h → product i (slice_index columns i) ≡ 0

-- P holds of each row, column and entry
abbrev pub AreEntries : (h : ℕ) → (ℕ → ℕ → ℕ → Type 0) → List ℕ → Type 0
AreEntries h P xs = (i j : ℕ) → i < h → j < h → P i j (entry h xs i j)

-- the n-th power of i
unfoldable pub power_of : (product : ℕ → ℕ → ℕ) → ℕ → ℕ → ℕ
power_of product i zero = 0
power_of product i (suc n) = product i (power_of product i n)

-- the exponents of i with its powers below the n-th, added up
unfoldable pub exponents_along : (product exponent : ℕ → ℕ → ℕ) → ℕ → ℕ → ℕ
exponents_along product exponent i zero = 0
exponents_along product exponent i (suc n) = exponents_along product exponent i n + exponent i (power_of product i n)

-- m is the least positive number for which the m-th power of i is the unit
pub record IsElementOrder (product : ℕ → ℕ → ℕ) (i m : ℕ) : Type 0 where
  pub positive : 0 < m
  pub power-order : power_of product i m ≡ 0
  pub least : (n : ℕ) → 0 < n → power_of product i n ≡ 0 → m ≤ n

-- z^x(i,j) with z of the given order is a factor system, and the order m of each place divides the order and
-- the sum of x(i, i^a) over a from 0 to m - 1
pub record IsFactorSystem (order h : ℕ) (product exponent : ℕ → ℕ → ℕ) : Type 0 where
  pub exponent_below : (i j : ℕ) → i < h → j < h → exponent i j < order
  pub unit-exponent : (i : ℕ) → i < h → exponent 0 i ≡ 0
  pub exponent-unit : (i : ℕ) → i < h → exponent i 0 ≡ 0
  pub exponent_assoc : (i j k : ℕ) → i < h → j < h → k < h
      → (exponent i j + exponent (product i j) k) % order ≡ (exponent j k + exponent i (product j k)) % order
  pub order_divides : (i m : ℕ) → i < h → IsElementOrder product i m → m ∣ order
  pub exponents_divided : (i m : ℕ) → i < h → IsElementOrder product i m → m ∣ exponents_along product exponent i m

-- a table with this order whose products and exponents stand in these lists
pub record IsListed {h : ℕ} (T : PhaseTable h) (order : ℕ) (products exponents : List ℕ) : Type 0 where
  pub same_order : T.order ≡ order
  pub product-entry : (i j : Fin h) → to_nat (T.product i j) ≡ entry h products (to_nat i) (to_nat j)
  pub exponent-entry : (i j : Fin h) → T.exponent i j ≡ entry h exponents (to_nat i) (to_nat j)
