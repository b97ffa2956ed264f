-- The parts of a representation A of G, from what stands at each of its stars.
--   member_part S L m q      the part of the member m of a list at the star S, which stands q times
--   StarLists positive Z     a complete list of small representations in canonical order at the representative of each star
--                            of Z, and how often the full representation of each member stands in A
--   star_part c i m          the part of the member m at the star i
--   ArePartsOfStars c ps     ps are those whose multiplicity is not 0, each once, by wave vector and label
use Rattle.std.specs.Prelude.{ℕ, suc, ◌≡◌, ◌<◌}
use Rattle.irr_algebra.specs.Fin.{Fin, to_nat}
use Rattle.irr_algebra.specs.Matrix.{Matrix}
use Rattle.irr_algebra.specs.Pair.{times}
use Rattle.irr_number.specs.Number.{numbers}
use Rattle.irr_theory.specs.Representations.{Representations}
use Rattle.irr_space.specs.Operation.{Operation, WaveVector}
use Rattle.irr_space.specs.Reciprocal.{Sign}
use Rattle.irr_space.specs.PhaseTable.{phases_at}
use Rattle.irr_space.specs.CompleteList.{IsCompleteList, IsInOrder}
use Rattle.irr_full.specs.Parts.{Part, IsRepresentative, IsMultiplicity, IsPartBefore}
use Rattle.irr_full.specs.Star.{Star}
use Rattle.irr_full.specs.Stars.{Stars}

-- wave vector, label, multiplicity and dimension
abbrev pub member_part : {s : Sign} {G : Operation → Type 0} {k : WaveVector} (S : Star s G k)
    (L : Representations (phases_at S.table)) (m : Fin L.count) (q : ℕ) → Part
member_part {k = k} S L m q = record { wave = k; label = suc (to_nat m); mult = q; dim = times S.arms (L.size m) }

pub record StarLists {s : Sign} {G : Operation → Type 0} {M : ℕ} (positive : 0 < M) {e : ℕ}
    {A : Operation → Matrix (numbers M) e e} (Z : Stars s G M A) : Type 0 where
  pub list : (i : Fin Z.count) → Representations (phases_at (Z.star i).table)
  pub complete : (i : Fin Z.count) → IsCompleteList (Z.star i).table (list i)
  pub ordered : (i : Fin Z.count) → IsInOrder (Z.star i).table (list i)
  pub representative : (i : Fin Z.count) → IsRepresentative G (Z.wave i)
  pub mult : (i : Fin Z.count) → Fin (list i).count → ℕ
  pub multiplicity : (i : Fin Z.count) (m : Fin (list i).count) → IsMultiplicity s G positive A
      (member_part (Z.star i) (list i) m (mult i m))

abbrev pub star_part : {s : Sign} {G : Operation → Type 0} {M : ℕ} {positive : 0 < M} {e : ℕ}
    {A : Operation → Matrix (numbers M) e e} {Z : Stars s G M A} (c : StarLists positive Z)
    (i : Fin Z.count) → Fin (c.list i).count → Part
star_part {Z = Z} c i m = member_part (Z.star i) (c.list i) m (c.mult i m)

pub record ArePartsOfStars {s : Sign} {G : Operation → Type 0} {M : ℕ} {positive : 0 < M} {e : ℕ}
    {A : Operation → Matrix (numbers M) e e} {Z : Stars s G M A} (c : StarLists positive Z)
    {n : ℕ} (parts : Fin n → Part) : Type 0 where
  pub from_star : (t : Fin n) → (i : Fin Z.count) × (m : Fin (c.list i).count) × (parts t ≡ star_part c i m)
  pub occurs : (t : Fin n) → 0 < (parts t).mult
  pub all : (i : Fin Z.count) (m : Fin (c.list i).count) → 0 < c.mult i m → (t : Fin n) × (parts t ≡ star_part c i m)
  pub ordered : (t u : Fin n) → to_nat t < to_nat u → IsPartBefore (parts t) (parts u)
