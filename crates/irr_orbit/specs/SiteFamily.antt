-- What the sites of a point bring to a wave vector k: the family that a representation of the site group induces, and
-- that of the displacements of atoms (R. A. Evarestov and V. P. Smirnov, Site Symmetry in Crystals).
--   IsMonomial n d m            in each of n rows and n columns exactly one d by d block of m is not 0
--   IsInduced s k M O r g m     m is the matrix at g that r induces: where g x_a = x_b + t with t in T, its block in
--                               row b and column a is exp(2 pi i s k.t) r(n), for n = h_b^-1 (1|-t) g h_a; the other blocks are 0
--   IsDisplacement s k M O g m  m is the matrix at g of displacements: there its block is exp(2 pi i s k.t) R, for g
--                               = (R|v)
--   AreTerms s k M O c g f      f(a) is the term of the a-th site in a trace at g: exp(2 pi i s k.t) c(n), where g
--                               x_a = x_a + t, else 0
use Rattle.std.specs.Prelude.{ℕ, ◌≡◌}
use Rattle.irr_algebra.specs.Ring.{Ring}
use Rattle.irr_algebra.specs.Fin.{Fin}
use Rattle.irr_algebra.specs.Matrix.{Matrix, scale, null}
use Rattle.irr_algebra.specs.Pair.{times}
use Rattle.irr_number.specs.Number.{Number, numbers, root_power}
use Rattle.irr_rational.specs.Integer.{whole_matrix}
use Rattle.irr_space.specs.Operation.{Operation, Vector, WaveVector, ◌⊙◌, translation}
use Rattle.irr_space.specs.Reciprocal.{Sign, IsPhase}
use Rattle.irr_full.specs.Full.{block}
use Rattle.irr_orbit.specs.Site.{Orbit, DifferBy, AreTogether, image, carrier, site}

pub record IsMonomial {R : Ring} (n d : ℕ) (m : Matrix R (times n d) (times n d)) : Type 0 where
  pub in_column : (a : Fin n) → (b : Fin n) × (block d m b a ≡ null → ⊥) × ((c : Fin n) → (c ≡ b → ⊥)
      → block d m c a ≡ null)
  pub in_row : (b : Fin n) → (a : Fin n) × (block d m b a ≡ null → ⊥) × ((c : Fin n) → (c ≡ a → ⊥)
      → block d m b c ≡ null)

-- with no inverse: g h_a is (1|t) h_b n; the phase is a number of order M
pub record IsInduced (s : Sign) (k : WaveVector) (M : ℕ) {G : Operation
    → Type 0} {x : Vector} (O : Orbit G x) {d : ℕ} (r : Fin O.places → Matrix (numbers M) d d) (g : Operation)
    (m : Matrix (numbers M) (times O.sites d) (times O.sites d)) : Type 0 where
  pub carried : (b a : Fin O.sites) (t : Vector) (e : ℕ) (n : Fin O.places)
      → DifferBy G t (image g (site O a)) (site O b) → IsPhase s M k t e
      → g ⊙ carrier O a ≡ (translation t ⊙ carrier O b) ⊙ O.operation n
      → block d m b a ≡ scale (numbers M) (root_power M e) (r n)
  pub apart : (b a : Fin O.sites) → (AreTogether G (image g (site O a)) (site O b) → ⊥) → block d m b a ≡ null

pub record IsDisplacement (s : Sign) (k : WaveVector) (M : ℕ) {G : Operation
    → Type 0} {x : Vector} (O : Orbit G x) (g : Operation)
    (m : Matrix (numbers M) (times O.sites 3) (times O.sites 3)) : Type 0 where
  pub carried : (b a : Fin O.sites) (t : Vector) (e : ℕ) → DifferBy G t (image g (site O a)) (site O b)
      → IsPhase s M k t e
      → block 3 m b a ≡ scale (numbers M) (root_power M e) (whole_matrix (numbers M) g.rotation)
  pub apart : (b a : Fin O.sites) → (AreTogether G (image g (site O a)) (site O b) → ⊥) → block 3 m b a ≡ null

-- n = h_a^-1 (1|-t) g h_a; with c the character of r, these are the terms of the family that r induces
pub record AreTerms (s : Sign) (k : WaveVector) (M : ℕ) {G : Operation
    → Type 0} {x : Vector} (O : Orbit G x) (c : Fin O.places → Number M) (g : Operation) (f : Fin O.sites
    → Number M) : Type 0 where
  pub kept : (a : Fin O.sites) (t : Vector) (e : ℕ) (n : Fin O.places)
      → DifferBy G t (image g (site O a)) (site O a) → IsPhase s M k t e
      → g ⊙ carrier O a ≡ (translation t ⊙ carrier O a) ⊙ O.operation n → f a ≡ (numbers M).mul (root_power M e) (c n)
  pub moved : (a : Fin O.sites) → (AreTogether G (image g (site O a)) (site O a) → ⊥) → f a ≡ (numbers M).zero
