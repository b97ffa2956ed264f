-- Phases as numbers of order M, and the scalar that a matrix for one more element has.
--   phase_number T M x        z^x, for z of the order of T, as a number of order M
--   conjugate_exponent T n g m    x(n,g) - x(g,m), up to multiples of the order
--   HasPowerScalar restriction M w g p D u c       u carries D to its conjugate by g, and its p-th power is c z^y D(g^p)
--   IsRootSum T M p v s       s is a sum of p-th roots of the eigenvalues of v, each as often as it occurs
use Rattle.std.specs.Prelude.{ℕ, ◌≡◌, ◌+◌, ◌*◌, ◌-◌, ◌/◌, List}
use Rattle.std.specs.Int.{◌∣◌}
use Rattle.irr_algebra.specs.Fin.{Fin}
use Rattle.irr_algebra.specs.Sum.{sum}
use Rattle.irr_algebra.specs.Matrix.{Matrix, ◌·◌, scale}
use Rattle.irr_number.specs.Number.{numbers, root_power}
use Rattle.irr_theory.specs.Extension.{matrix_power}
use Rattle.irr_theory.specs.FactorSystem.{Representation}
use Rattle.irr_eigen.specs.Eigenspace.{Occurs}
use Rattle.irr_space.specs.PhaseTable.{PhaseTable, exponents_below, phases_over, place_power}
use Rattle.irr_rep.specs.Subgroup.{IsRestriction}

-- exp(2 pi i x / N) for the order N of the table, among the numbers of order M
abbrev pub phase_number : {h : ℕ} (T : PhaseTable h) (M : ℕ) → ℕ → (numbers M).Carrier
phase_number T M x = root_power M (M / T.order * x)

-- x(n,g) - x(g,m) modulo the order, as a natural number
abbrev pub conjugate_exponent : {h : ℕ} (T : PhaseTable h) (n g m : Fin h) → ℕ
conjugate_exponent T n g m = T.exponent n g + (T.order - 1) * T.exponent g m

-- for each member n, with n' = g n g^-1, z^x(n',g) u D(n) = z^x(g,n) D(n') u; and u^p = c z^y D(g^p), where y is the sum
-- of the x(g, g^a) for a below p
pub record HasPowerScalar {h n : ℕ} {T : PhaseTable h} {members : List ℕ} {S : PhaseTable n} (restriction : IsRestriction T members S)
    (M : ℕ) (w : S.order ∣ M) (g : Fin h) (p : ℕ) {d : ℕ} (D : Representation (phases_over S M w) d)
    (u : Matrix (numbers M) d d) (c : (numbers M).Carrier) : Type 0 where
  pub carries : (i j : Fin n) → T.product (restriction.member j) g ≡ T.product g (restriction.member i)
      → scale (numbers M) (phase_number T M (T.exponent (restriction.member j) g)) (u · D.at i)
      ≡ scale (numbers M) (phase_number T M (T.exponent g (restriction.member i))) (D.at j · u)
  pub top : Fin n
  pub top_member : restriction.member top ≡ place_power T.start T.product g p
  pub power : matrix_power u p
      ≡ scale (numbers M) ((numbers M).mul c (phase_number T M (exponents_below T.start T.product T.exponent g p))) (D.at top)

-- the numbers z^e, with z^(p e) an eigenvalue of v, added up: for each eigenvalue as many as it occurs
pub record IsRootSum {h : ℕ} (T : PhaseTable h) (M p : ℕ) {d : ℕ} (v : Matrix (numbers M) d d) (s : (numbers M).Carrier) : Type 0 where
  -- the eigenvalues z^x of v
  pub count : ℕ
  pub eigenvalue : Fin count → ℕ
  pub different : (a b : Fin count) → phase_number T M (eigenvalue a) ≡ phase_number T M (eigenvalue b) → a ≡ b
  pub times : Fin count → ℕ
  pub occurs : (a : Fin count) → Occurs v (phase_number T M (eigenvalue a)) (times a)
  pub no_other : (x : ℕ) → ((a : Fin count) → phase_number T M x ≡ phase_number T M (eigenvalue a) → ⊥) → Occurs v (phase_number T M x) 0
  -- a p-th root of each
  pub exponent : (a : Fin count) → Fin (times a) → ℕ
  pub is_root : (a : Fin count) (i : Fin (times a)) → phase_number T M (p * exponent a i) ≡ phase_number T M (eigenvalue a)
  pub is_sum : s ≡ sum (numbers M) count (λ a. sum (numbers M) (times a) (λ i. phase_number T M (exponent a i)))
