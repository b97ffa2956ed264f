-- A number has a p-th root where it is the p-th power of a matrix with a trace other than 0: by descent to
-- smaller matrices with the same trace.
use Rattle.std.proofs.Common.{◌≡◌, sym, ◌∙◌, ap, refl, ℕ, zero, suc, ◌⊎◌, inl, inr, ◌≤◌, arith}
use Rattle.irr_algebra.specs.Ring.{Ring}
use Rattle.irr_algebra.specs.Field.{Field}
use Rattle.irr_algebra.specs.Fin.Fin.{first}
use Rattle.irr_algebra.specs.Sum.{sum}
use Rattle.irr_algebra.specs.Matrix.{Matrix, ◌·◌, scale, unit, trace}
use Rattle.irr_algebra.proofs.Matrices.{scale-mul, unit-mul}
use Rattle.irr_theory.specs.Extension.{matrix_power}
use Rattle.irr_eigen.specs.Power.{Root}
use Rattle.irr_eigen.proofs.Powers.{matrix_power-single, unit-entry}
use Rattle.irr_eigen.proofs.Parts.{IsPart, part-power, ZeroBlock, Rest, rest_of}

-- a matrix of one entry
pub root_of_single : {R : Ring} (p : ℕ) (c : R.Carrier) (k : Matrix R 1 1) → matrix_power k p ≡ scale R c (unit R 1) → Root R p c
root_of_single {R} p c k e = record {
  root = k.at first first;
  root-power = sym (matrix_power-single k p) ∙ ap (λ (x : Matrix R 1 1). x.at first first) e ∙ unit-entry R c first;
}

pub trace-empty : {R : Ring} (u : Matrix R 0 0) → trace u ≡ R.zero
unfolding trace sum
trace-empty u = refl

-- the rest of a matrix whose p-th power is c
pub rest-power : {R : Ring} {m n : ℕ} {u : Matrix R n n} {w : Matrix R m m} (h : IsPart u w) (p : ℕ) (c : R.Carrier)
    → matrix_power u p ≡ scale R c (unit R n) → matrix_power w p ≡ scale R c (unit R m)
rest-power {R} {m} {n} h p c e =
    part-power h p c (ap (λ (x : Matrix R n n). x · h.list) e ∙ scale-mul R c (unit R n) h.list ∙ ap (scale R c) (unit-mul h.list))

module _ (F : Field) where
  open F use {ring as R}

  -- each matrix with p-th power c gives a root of c, or a list with trace 0 that it maps into its span
  abbrev pub Splits : ℕ → R.Carrier → Type 0
  Splits p c = (n : ℕ) (u : Matrix R (suc n) (suc n)) → matrix_power u p ≡ scale R c (unit R (suc n)) → Root R p c ⊎ ZeroBlock u

  descend : (p : ℕ) (c : R.Carrier) → Splits p c → (bound n : ℕ) (u : Matrix R n n) → n ≤ bound
      → matrix_power u p ≡ scale R c (unit R n) → (trace u ≡ R.zero → ⊥) → Root R p c
  descend p c split bound zero u l e t = absurd (t (trace-empty u))
  descend p c split zero (suc n) u l e t = absurd (omega arith)
  descend p c split (suc bound) (suc n) u l e t = go (descend p c split bound) (split n u e)
    where
      go : ((m : ℕ) (w : Matrix R m m) → m ≤ bound → matrix_power w p ≡ scale R c (unit R m) → (trace w ≡ R.zero → ⊥) → Root R p c)
          → Root R p c ⊎ ZeroBlock u → Root R p c
      go smaller (inl r) = r
      go smaller (inr z) =
          let k : Rest u = rest_of F u z in
          let below : suc k.size ≤ suc n = k.smaller in
          smaller k.size k.rest (omega arith) (rest-power k.is_part p c e) (λ o. t (k.same_trace ∙ o))

  pub root_of_trace : (p : ℕ) (c : R.Carrier) → Splits p c → (n : ℕ) (u : Matrix R n n)
      → matrix_power u p ≡ scale R c (unit R n) → (trace u ≡ R.zero → ⊥) → Root R p c
  root_of_trace p c split n u = descend p c split n n u (omega arith)
