-- Monomial matrices: one power of z in each row and in each column, and zero elsewhere.
--   monomial_entry N place exp i j    the entry in row i and column j: z^exp[j] where i is place[j], and 0 elsewhere
--   monomial N n place exp            the n by n matrix of these entries
--   AreRules N place exp              rows and exponents of columns: the rows are a permutation, the exponents below N
--   HasPower N a j i e                column j of a has z^e in row i, and zero elsewhere
--   IsMonomial N a place exp          a is the monomial matrix with these rows and exponents
--   PowersFit N a                     the entries of a can be compared with powers of z
use Rattle.std.specs.Prelude.{ℕ, ◌≡◌, ◌+◌, ◌*◌, ◌^◌, ◌<◌, ◌≤◌, List, length, slice_index}
use Rattle.irr_algebra.specs.Fin.{Fin, to_nat}
use Rattle.irr_algebra.specs.Matrix.{Matrix}
use Rattle.irr_number.specs.Element.{delta}
use Rattle.irr_number.specs.Number.{Number, numbers, root_power}
use Rattle.irr_mat.specs.Size.{IsWithin}

-- z^exp[j] in row place[j], and 0 in the other rows
unfoldable pub monomial_entry : (N : ℕ) → List ℕ → List ℕ → ℕ → ℕ → Number N
monomial_entry N place exp i j = (numbers N).mul (delta (numbers N) (slice_index place j) i) (root_power N (slice_index exp j))

-- the square matrix with these entries
unfoldable pub monomial : (N n : ℕ) → List ℕ → List ℕ → Matrix (numbers N) n n
monomial N n place exp = record { at = λ i j. monomial_entry N place exp (to_nat i) (to_nat j) }

-- a row for each column, and each row once; for each column an exponent below N
pub record AreRules (N : ℕ) (place exp : List ℕ) : Type 0 where
  pub some : 0 < length place
  pub few : length place < 2 ^ 32
  pub same : length exp ≡ length place
  pub inside : (j : ℕ) → j < length place → slice_index place j < length place
  pub distinct : (j k : ℕ) → j < length place → k < length place → slice_index place j ≡ slice_index place k → j ≡ k
  pub below : (j : ℕ) → j < length place → slice_index exp j < N

-- column j has z^e in row i, and zero elsewhere
pub record HasPower (N : ℕ) {r c : ℕ} (a : Matrix (numbers N) r c) (j i e : ℕ) : Type 0 where
  pub inside : i < r
  pub below : e < N
  pub entries : (k : Fin r) (l : Fin c) → to_nat l ≡ j → a.at k l ≡ (numbers N).mul (delta (numbers N) i (to_nat k)) (root_power N e)

-- a is square, and the monomial matrix of the rows and exponents
pub record IsMonomial (N : ℕ) {r c : ℕ} (a : Matrix (numbers N) r c) (place exp : List ℕ) : Type 0 where
  pub rules : AreRules N place exp
  pub rows : length place ≡ r
  pub columns : length place ≡ c
  pub powers : (j : ℕ) → j < c → HasPower N a j (slice_index place j) (slice_index exp j)

-- sizes and denominators of an entry beside a power of z
pub record PowersFit (N : ℕ) {r c : ℕ} (a : Matrix (numbers N) r c) : Type 0 where
  pub s : ℕ
  pub d : ℕ
  pub within : IsWithin N s d a
  pub denominators : d ≤ 2 ^ 60
  pub sizes : s * N + N * d < 2 ^ 110
