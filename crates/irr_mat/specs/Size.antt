-- Sizes of matrices of numbers of order N, and when a call can work with them. A sum of at most s powers of z
-- over d has a size of at most s N and a denominator of at most d.
--   IsWithin N s d a          each entry of a is a sum of at most s powers of z with signs, over d
--   SumsFit N a b             an entry of a and one of b can be added and compared
--   MultiplesFit N x a        x times each entry of a can be worked out
--   ProductsFit N a b         an entry of a times one of b can be worked out
--   ProductFits N a b         the product of the matrices can be worked out
--   TraceFits N a             the trace can be worked out
use Rattle.std.specs.Prelude.{ℕ, ◌+◌, ◌*◌, ◌^◌, ◌<◌, ◌≤◌}
use Rattle.irr_algebra.specs.Fin.{Fin}
use Rattle.irr_algebra.specs.Matrix.{Matrix}
use Rattle.irr_number.specs.Number.{Number, numbers}
use Rattle.irr_canonical.specs.RootSum.{IsRootSum}

-- each entry is a sum of at most s powers over d
pub record IsWithin (N : ℕ) {r c : ℕ} (s d : ℕ) (a : Matrix (numbers N) r c) : Type 0 where
  pub positive : 0 < d
  pub entry : (i : Fin r) (j : Fin c) → IsRootSum N s d (a.at i j)

-- sizes and denominators of sums of two entries
pub record SumsFit (N : ℕ) {r c p q : ℕ} (a : Matrix (numbers N) r c) (b : Matrix (numbers N) p q) : Type 0 where
  pub s : ℕ
  pub d : ℕ
  pub t : ℕ
  pub e : ℕ
  pub left : IsWithin N s d a
  pub right : IsWithin N t e b
  pub denominators : d * e ≤ 2 ^ 60
  pub sizes : s * N * e + t * N * d < 2 ^ 110

-- sizes and denominators of products with one number
pub record MultiplesFit (N : ℕ) {r c : ℕ} (x : Number N) (a : Matrix (numbers N) r c) : Type 0 where
  pub s : ℕ
  pub d : ℕ
  pub t : ℕ
  pub e : ℕ
  pub factor : IsRootSum N s d x
  pub right : IsWithin N t e a
  pub denominators : d * e ≤ 2 ^ 60
  pub sizes : s * N * (t * N) ≤ 2 ^ 100

-- sizes and denominators of products of two entries
pub record ProductsFit (N : ℕ) {r c p q : ℕ} (a : Matrix (numbers N) r c) (b : Matrix (numbers N) p q) : Type 0 where
  pub s : ℕ
  pub d : ℕ
  pub t : ℕ
  pub e : ℕ
  pub left : IsWithin N s d a
  pub right : IsWithin N t e b
  pub denominators : d * e ≤ 2 ^ 60
  pub sizes : s * N * (t * N) ≤ 2 ^ 100

-- sizes and denominators of sums of products
pub record ProductFits (N : ℕ) {r m c : ℕ} (a : Matrix (numbers N) r m) (b : Matrix (numbers N) m c) : Type 0 where
  pub s : ℕ
  pub d : ℕ
  pub t : ℕ
  pub e : ℕ
  pub left : IsWithin N s d a
  pub right : IsWithin N t e b
  pub denominators : d * e * (d * e) ≤ 2 ^ 60
  pub products : s * N * (t * N) ≤ 2 ^ 100
  pub sums : m * (s * t) * N * (d * e) < 2 ^ 110

-- sizes and denominators of sums of diagonal entries
pub record TraceFits (N : ℕ) {n : ℕ} (a : Matrix (numbers N) n n) : Type 0 where
  pub s : ℕ
  pub d : ℕ
  pub within : IsWithin N s d a
  pub denominators : d * d ≤ 2 ^ 60
  pub sums : n * s * N * d < 2 ^ 110
