-- Where a family of matrices first fails to be a small representation.
--   IsMatrix n d a m               m holds the square matrix a of d rows, over the numbers of order n
--   IsLimited n h d e mats         h square matrices of d rows, at most 48, whose entries are sums of at most 2^30 powers of z with signs
--                                  over the denominator e, at most 4096
--   IsCheckable T d mats           a limited family with a matrix for each place, over an order that the table's order divides
--   AreMultiples n h d q mats xs   xs are the matrices of a family, each times q
--   Multiplies T n v d mats i j    D(i)D(j) = z^x(i,j) D(l(i,j))
--   MultipliesBy .. q i j          the same for a family that is given as the matrices q D(i)
--   IsFirstFailure P r             None: P holds at each place; else the first place at which it does not
--   IsFirstWrongPair .. i j        D(start) = 1, and (i,j) is the first wrong pair, row by row
--   IsFirstDefect .. r             None: a small representation; Unit: D(start) is not 1; else the first wrong pair
use Rattle.std.specs.Prelude.{ℕ, ◌≡◌, ◌<◌, ◌≤◌, ◌^◌, ◌⊎◌, List, Option, Some, None}
use Rattle.std.specs.Int.{◌∣◌}
use Rattle.irr_algebra.specs.Fin.{Fin, to_nat}
use Rattle.irr_algebra.specs.Matrix.{Matrix, ◌·◌, unit, scale}
use Rattle.irr_algebra.specs.Ring.{whole}
use Rattle.irr_number.specs.Number.{numbers}
use Rattle.irr_space.specs.PhaseTable.{PhaseTable, phases_over}
use Rattle.irr_cyc.specs.declared.scalars.Scalar.{Ghosts}
use Rattle.irr_mat.specs.declared.matrices.Mat.{Mat}
use Rattle.irr_mat.specs.Entries.{first_order, matrix_of}
use Rattle.irr_mat.specs.Size.{IsWithin}
use Rattle.irr_rep.specs.declared.family.Defect.{Defect}
use Rattle.irr_rep.specs.declared.family.Defect.TheVariants.{Product, Unit}
use Rattle.irr_rep.specs.Family.{HasShape, IsRepresentationOf, matrix_at}

-- m holds the matrix a
pub record IsMatrix {S : Type 0} {G : Ghosts S} (n d : ℕ) (a : Matrix (numbers n) d d) (m : Mat S G) : Type 0 where
  pub rows : m.rows ≡ d
  pub cols : m.cols ≡ d
  pub order : first_order G.order_of m.entries.items ≡ n
  pub value : matrix_of G.value n d d m.entries.items ≡ a

-- few rows, and entries of limited size over one denominator
pub record IsLimited {S : Type 0} {G : Ghosts S} (n h d denominator : ℕ) (mats : List (Mat S G)) : Type 0 where
  pub shape : HasShape n h d mats
  pub few : d ≤ 48
  pub limited : denominator ≤ 4096
  pub within : (i : Fin h) → IsWithin n (2 ^ 30) denominator (matrix_at n d mats i)

-- a limited family on the places, over an order that the table's order divides
pub record IsCheckable {S : Type 0} {G : Ghosts S} {h : ℕ} (T : PhaseTable h) (d : ℕ) (mats : List (Mat S G)) : Type 0 where
  pub n : ℕ
  pub divides : T.order ∣ n
  pub denominator : ℕ
  pub limits : IsLimited n h d denominator mats

-- the matrices of a family, each times q
pub record AreMultiples {S : Type 0} {G : Ghosts S} (n h d q : ℕ) (mats multiples : List (Mat S G)) : Type 0 where
  pub shape : HasShape n h d multiples
  pub multiple : (i : Fin h) → matrix_at n d multiples i ≡ scale (numbers n) (whole (numbers n) q) (matrix_at n d mats i)

-- P holds at each place, or this is the first at which it does not
unfoldable pub IsFirstFailure : {h : ℕ} → (Fin h → Type 0) → Option ℕ → Type 0
IsFirstFailure {h} P None = (j : Fin h) → P j
IsFirstFailure {h} P (Some k) = (j : Fin h) × (to_nat j ≡ k) × ¬ (P j) × ((i : Fin h) → to_nat i < k → P i)

module _ {S : Type 0} {G : Ghosts S} {h : ℕ} (T : PhaseTable h) (n : ℕ) (v : T.order ∣ n) (d : ℕ) (mats : List (Mat S G)) where
  -- the product of the matrices at i and j is right
  abbrev pub Multiplies : Fin h → Fin h → Type 0
  Multiplies i j = matrix_at n d mats i · matrix_at n d mats j ≡ scale (numbers n) ((phases_over T n v).phase i j) (matrix_at n d mats (T.product i j))

  -- the product of the matrices at i and j is right, where they are those of a family times q
  abbrev pub MultipliesBy : ℕ → Fin h → Fin h → Type 0
  MultipliesBy q i j = matrix_at n d mats i · matrix_at n d mats j
      ≡ scale (numbers n) ((numbers n).mul (whole (numbers n) q) ((phases_over T n v).phase i j)) (matrix_at n d mats (T.product i j))

  -- the first wrong pair, row by row
  pub record IsFirstWrongPair (i j : ℕ) : Type 0 where
    pub left : Fin h
    pub right : Fin h
    pub left-number : to_nat left ≡ i
    pub right-number : to_nat right ≡ j
    pub at-start : matrix_at n d mats T.start ≡ unit (numbers n) d
    pub wrong : ¬ (Multiplies left right)
    pub before : (p q : Fin h) → (to_nat p < i) ⊎ ((to_nat p ≡ i) × (to_nat q < j)) → Multiplies p q

  -- a small representation, or where it first fails to be one
  unfoldable pub IsFirstDefect : Option Defect → Type 0
  IsFirstDefect None = IsRepresentationOf T n v d mats
  IsFirstDefect (Some Unit) = ¬ (matrix_at n d mats T.start ≡ unit (numbers n) d)
  IsFirstDefect (Some (Product i j)) = IsFirstWrongPair i j
