-- An extension of a family of the program by one level, with its traces at g n for the generator g and the members n.
--   HasExtension M step f traces     f is D, a simple family that is equivalent to its conjugate, on at most 24 members; E is an
--                                    extension of D with these traces
--   HasSmallProducts is E            products of two matrices of E are limited in size, also times a power of z
--   HasTraces order value is E traces     the traces of E at g n, for a family E of at most 48 rows
--   term_exponent is x m     x(x,m) - x(m,m'), up to multiples of the order, for the inverse m' of the member m
--   trace_factor is E x m    z to this exponent times the trace of E at x m
--   trace_term is D E x m    this times D(m'): the term of m in the sum for E(x)
--   exponent_root is a x     the a-th root of one of the order of the index, to the exponent of the place x
use Rattle.std.specs.Prelude.{ℕ, ◌≡◌, ◌≤◌, ◌+◌, ◌-◌, ◌*◌, ◌/◌, List}
use Rattle.irr_algebra.specs.Fin.{Fin, to_nat}
use Rattle.irr_algebra.specs.Matrix.{Matrix, ◌·◌, scale, trace}
use Rattle.irr_number.specs.Number.{Number, numbers, root_power}
use Rattle.irr_theory.specs.FactorSystem.{Representation}
use Rattle.irr_level.specs.Scalar.{phase_number}
use Rattle.irr_canonical.specs.RootSum.{IsRootSum}
use Rattle.irr_cyc.specs.declared.scalars.Scalar.{Ghosts}
use Rattle.irr_mat.specs.Size.{MultiplesFit, ProductFits}
use Rattle.irr_rep.specs.declared.family.Family.{Family}
use Rattle.irr_rep.specs.Twisted.{phase_table, place_count}
use Rattle.irr_char.specs.Characters.{IsRowOf}
use Rattle.irr_climb.specs.declared.step.Step.{Step}
use Rattle.irr_climb.specs.Steps.{IsFixedFamily, IsStep, large, small}

-- the traces of E at g n
pub record HasTraces {S : Type 0} (order : S → ℕ) (value : (n : ℕ) → S → Number n) {M : ℕ} {step : Step} (is : IsStep M step) {d : ℕ}
    (E : Representation (large is) d) (traces : List S) : Type 0 where
  pub few : d ≤ 48
  pub row : IsRowOf order value M (λ (n : Fin (place_count step.inner)).
      trace (E.at ((phase_table step.outer).product is.quotient.generator (is.part.place n)))) traces

-- an extension E of the family f, which is D, with its traces at g n
pub record HasExtension {S : Type 0} {G : Ghosts S} (M : ℕ) (step : Step) (f : Family S G) (traces : List S) : Type 0 where
  pub is : IsStep M step
  pub d : ℕ
  pub D : Representation (small is) d
  pub E : Representation (large is) d
  pub fixed : IsFixedFamily is D f
  pub few_members : place_count step.inner ≤ 24
  pub at-member : (n : Fin (place_count step.inner)) → E.at (is.part.place n) ≡ D.at n
  pub has_traces : HasTraces G.order_of G.value is E traces

-- products of two matrices of E can be worked out, and their multiples by powers of z
pub record HasSmallProducts {M : ℕ} {step : Step} (is : IsStep M step) {d : ℕ} (E : Representation (large is) d) : Type 0 where
  pub product : (x y : Fin (place_count step.outer)) → ProductFits M (E.at x) (E.at y)
  pub multiple : (x y : Fin (place_count step.outer)) (u : Number M) → IsRootSum M 1 1 u → MultiplesFit M u (E.at x · E.at y)

-- x(x,m) - x(m,m') modulo the order, as a natural number
abbrev pub term_exponent : {M : ℕ} {step : Step} (is : IsStep M step) → Fin (place_count step.outer) → Fin (place_count step.inner) → ℕ
term_exponent {step = step} is x m =
    let T = phase_table step.inner in
    (phase_table step.outer).exponent x (is.part.place m) + (T.order - 1) * T.exponent m (T.opposite m)

-- z to this exponent times the trace of E at x m
unfoldable pub trace_factor : {M : ℕ} {step : Step} (is : IsStep M step) {d : ℕ} (E : Representation (large is) d)
    → Fin (place_count step.outer) → Fin (place_count step.inner) → Number M
trace_factor {M} {step} is E x m = (numbers M).mul (phase_number (phase_table step.outer) M (term_exponent is x m))
    (trace (E.at ((phase_table step.outer).product x (is.part.place m))))

-- this times D(m')
unfoldable pub trace_term : {M : ℕ} {step : Step} (is : IsStep M step) {d : ℕ} (D : Representation (small is) d) (E : Representation (large is) d)
    → Fin (place_count step.outer) → Fin (place_count step.inner) → Matrix (numbers M) d d
trace_term {M} {step} is D E x m = scale (numbers M) (trace_factor is E x m) (D.at ((phase_table step.inner).opposite m))

-- z^(M a e / p), for the index p and the exponent e of x
abbrev pub exponent_root : {M : ℕ} {step : Step} (is : IsStep M step) → ℕ → Fin (place_count step.outer) → Number M
exponent_root {M} is a x = root_power M (a * to_nat (is.quotient.exponent x) * (M / is.quotient.index))
