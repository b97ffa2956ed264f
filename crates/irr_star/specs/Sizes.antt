-- What is asked of numbers.
--   IsSmallFamily M D f     the family f has the matrices D, with few rows and small entries over the numbers of order M
--   HasSmallVector g        no component of the vector of g is above 100,000 in absolute value
use Rattle.std.specs.Prelude.{ℕ, ◌≡◌, ◌*◌, ◌^◌, ◌≤◌, unsigned_abs}
use Rattle.irr_algebra.specs.Fin.{Fin}
use Rattle.irr_algebra.specs.Matrix.{Matrix}
use Rattle.irr_number.specs.Number.{numbers}
use Rattle.irr_rational.specs.Ratio.{entry}
use Rattle.irr_seitz.specs.declared.op.Op.{Op}
use Rattle.irr_cyc.specs.declared.scalars.Scalar.{Ghosts}
use Rattle.irr_mat.specs.Size.{IsWithin}
use Rattle.irr_rep.specs.declared.family.Family.{Family}
use Rattle.irr_rep.specs.Family.{HasShape, matrix_at}

-- entries are sums of at most 13,824 powers of z, over one denominator of at most 2^11
pub record IsSmallFamily {X : Type 0} {V : Ghosts X} (M : ℕ) {h d : ℕ} (D : Fin h → Matrix (numbers M) d d)
    (f : Family X V) : Type 0 where
  pub size : f.dim ≡ d
  pub shape : HasShape M h d f.mats.items
  pub matrices : (i : Fin h) → matrix_at M d f.mats.items i ≡ D i
  pub few : d ≤ 48
  pub denominator : ℕ
  pub small : denominator ≤ 2 ^ 11
  pub entries : (i : Fin h) → IsWithin M 13824 denominator (D i)

abbrev pub HasSmallVector : Op → Type 0
HasSmallVector g = (i : Fin 3) → unsigned_abs (entry g.num i) ≤ 100000 * g.den
