-- The places of a table as powers of one place times members of a list.
--   IsSplit T members g p x e n      x is the e-th power of g times the n-th member, and e is below p
--   HasSplit T members g p x         there are such e and n
use Rattle.std.specs.Prelude.{ℕ, ◌≡◌, ◌<◌, List, length, slice_index}
use Rattle.irr_algebra.specs.Fin.{Fin, to_nat}
use Rattle.irr_space.specs.PhaseTable.{PhaseTable}
use Rattle.irr_chain.specs.Quotient.{power}

-- x = g^e times the member with the number n
pub record IsSplit {h : ℕ} (T : PhaseTable h) (members : List ℕ) (g p x e n : ℕ) : Type 0 where
  pub exponent_below : e < p
  pub part_inside : n < length members
  pub is_product : (a b : Fin h) → to_nat a ≡ g → to_nat b ≡ slice_index members n → to_nat (T.product (power T a e) b) ≡ x

-- for some e and n
abbrev pub HasSplit : {h : ℕ} (T : PhaseTable h) (members : List ℕ) (g p x : ℕ) → Type 0
HasSplit T members g p x = (e : ℕ) × (n : ℕ) × IsSplit T members g p x e n
