-- What is left of operations that carry sites to themselves.
--   IsConjugate group i a b        R_i R_a = R_a R_b for the rotations with these numbers
--   IsKept s k N O g a q           g x_a = x_a + t with t in T: q has the exponent of the phase of t, and the place of
--                                  h_a^-1 (1|-t) g h_a in the site group
--   IsRestAt s k N O g a r         r is this, and none where g carries the site a to another one
--   AreRests s k N O g rs          so for each site
--   AreAllRests s k N O ops rows   so for each operation
use Rattle.std.specs.Prelude.{ℕ, ◌≡◌, ◌<◌, List, length, Option, Some, None, slice_index_or, Vec}
use Rattle.std.specs.Global.{Global}
use Rattle.irr_algebra.specs.Fin.{Fin, to_nat}
use Rattle.irr_space.specs.Operation.{Operation, Vector, WaveVector, ◌⊙◌, translation}
use Rattle.irr_space.specs.Reciprocal.{Sign, IsPhase}
use Rattle.irr_close.specs.declared.group.Group.{Group}
use Rattle.irr_orbit.specs.Site.{AreTogether, DifferBy, Orbit, carrier, image, site}
use Rattle.irr_site.specs.Products.{IsRotationProduct}
use Rattle.irr_site.specs.declared.rest.Rest.{Rest}

abbrev pub IsConjugate : Group → ℕ → ℕ → ℕ → Type 0
IsConjugate group i a b = (l : ℕ) × IsRotationProduct group i a l × IsRotationProduct group a b l

pub record IsKept (s : Sign) (k : WaveVector) (N : ℕ) {G : Operation → Type 0} {x : Vector} (O : Orbit G x)
    (g : Operation) (a : Fin O.sites) (q : Rest) : Type 0 where
  pub translation_of : Vector
  pub differ : DifferBy G translation_of (image g (site O a)) (site O a)
  pub is_phase : IsPhase s N k translation_of q.exponent
  pub place : Fin O.places
  pub number : to_nat place ≡ q.place
  pub is_product : g ⊙ carrier O a ≡ (translation translation_of ⊙ carrier O a) ⊙ O.operation place

unfoldable pub IsRestAt : (s : Sign) (k : WaveVector) (N : ℕ) {G : Operation → Type 0} {x : Vector} (O : Orbit G x)
    → Operation → Fin O.sites → Option Rest → Type 0
IsRestAt s k N {G} O g a (Some q) = IsKept s k N O g a q
IsRestAt s k N {G} O g a None = AreTogether G (image g (site O a)) (site O a) → ⊥

pub record AreRests (s : Sign) (k : WaveVector) (N : ℕ) {G : Operation → Type 0} {x : Vector} (O : Orbit G x)
    (g : Operation) (rs : List (Option Rest)) : Type 0 where
  pub count : length rs ≡ O.sites
  pub each : (a : Fin O.sites) (e : Option Rest) → IsRestAt s k N O g a (slice_index_or rs (to_nat a) e)

-- the rests at a place of a list, none past its end
pub record AreAllRests (s : Sign) (k : WaveVector) (N : ℕ) {G : Operation → Type 0} {x : Vector} (O : Orbit G x)
    {h : ℕ} (ops : Fin h → Operation) (rows : List (Vec (Option Rest) Global)) : Type 0 where
  pub count : length rows ≡ h
  pub each : (i : Fin h) (e : Vec (Option Rest) Global) → AreRests s k N O (ops i) (slice_index_or rows (to_nat i) e).items
