-- Representations whose diagonal places fall into classes: at the translations the places of one class have the phases
-- of one wave vector. So do direct products, a class for each pair of arms, and restrictions, a class for each arm.
--   Classes A              the class of each diagonal place, and the wave vector of each class, whose order divides
--                          that of A
--   class_trace C c g      the sum of the diagonal entries of A(g) at the places of the class c
--   AreClassesAt C k cs    cs are the numbers of the classes whose wave vectors are equivalent to k, in order
--   part_trace C k l g     the sum of the traces of these classes: the trace of the part of A at k, for g in its little
--                          group
--   IsRowAt .. C c cs row  cs are the classes at the wave vector of c, and row has the traces of the part there
use Rattle.std.specs.Prelude.{ℕ, ◌<◌, List, length}
use Rattle.std.specs.Int.{◌∣◌}
use Rattle.irr_algebra.specs.Fin.{Fin, to_nat}
use Rattle.irr_algebra.specs.Sum.{sum, delta}
use Rattle.irr_number.specs.Number.{Number, numbers}
use Rattle.irr_space.specs.Operation.{Operation, WaveVector}
use Rattle.irr_space.specs.Reciprocal.{AreEquivalent, IsOrder}
use Rattle.irr_seitz.specs.PhaseMeaning.{sign_of}
use Rattle.irr_close.specs.StandsFor.{stands_for}
use Rattle.irr_kvec.specs.WaveMeaning.{wave_vector}
use Rattle.irr_full.specs.Part.{HasPhase}
use Rattle.irr_char.specs.Characters.{IsRowOf}
use Rattle.irr_mult.specs.declared.star.StarCharacters.{StarCharacters}
use Rattle.irr_mult.specs.Listing.{IsListing}
use Rattle.irr_mult.specs.Traced.{SpaceRepresentation, AreStarCharacters}

pub record Classes (A : SpaceRepresentation) : Type 0 where
  pub count : ℕ
  pub class : Fin A.size → Fin count
  pub wave : Fin count → WaveVector
  pub has_order : (c : Fin count) → (n : ℕ) × IsOrder (stands_for A.group) (wave c) n × (n ∣ A.order)
  pub has_phase : (j : Fin A.size)
      → HasPhase (sign_of A.group.phase) (stands_for A.group) (wave (class j)) A.order A.at j

unfoldable pub class_trace : {A : SpaceRepresentation} (C : Classes A) → Fin C.count → Operation → Number A.order
class_trace {A = A} C c g = sum (numbers A.order) A.size
    (λ j. (numbers A.order).mul (delta (numbers A.order) c (C.class j)) ((A.at g).at j j))

abbrev pub AreClassesAt : {A : SpaceRepresentation} (C : Classes A) → WaveVector → List ℕ → Type 0
AreClassesAt {A = A} C k cs = IsListing (λ (c : Fin C.count). to_nat c)
    (λ c. AreEquivalent (stands_for A.group) k (C.wave c)) (λ c d. to_nat c < to_nat d) cs

unfoldable pub part_trace : {A : SpaceRepresentation} (C : Classes A) (k : WaveVector) {cs : List ℕ}
    → AreClassesAt C k cs → Operation → Number A.order
part_trace {A = A} C k {cs = cs} at g = sum (numbers A.order) (length cs) (λ t. class_trace C (at.index t) g)

pub record IsRowAt {S : Type 0} (order : S → ℕ) (value : (n : ℕ) → S → Number n) {A : SpaceRepresentation}
    (C : Classes A) (c : StarCharacters S) (cs : List ℕ) (row : List S) : Type 0 where
  pub has : AreStarCharacters order value A.group A.order c
  pub at : AreClassesAt C (wave_vector c.wave) cs
  pub traces : IsRowOf order value A.order (λ p. part_trace C (wave_vector c.wave) at (has.star.operation p)) row
