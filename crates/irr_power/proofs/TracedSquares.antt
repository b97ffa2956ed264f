-- The parts of the squares of a full representation, by the traces of the classes of their diagonal places.
--   symmetric_traced, skew_traced     with the sums of all pairs of arms in a list, the stars of its items, and a row for each of
--                                     these, the stars and the rows are those of the square
use Rattle.std.proofs.Common.{◌≡◌, ℕ, ◌+◌, ◌*◌, ◌<◌, ◌≤◌, List, length, get_or, map, Vec, Global, arith}
use Rattle.std.specs.Int.{◌∣◌}
use Rattle.irr_algebra.specs.Fin.{Fin, to_nat}
use Rattle.irr_algebra.specs.Matrix.{Matrix, ◌⊕◌}
use Rattle.irr_algebra.specs.Pair.{times}
use Rattle.irr_number.specs.Number.{Number, numbers}
use Rattle.irr_theory.specs.FactorSystem.{Representation}
use Rattle.irr_space.specs.Operation.{Operation, WaveVector}
use Rattle.irr_space.specs.Reciprocal.{AreEquivalent}
use Rattle.irr_space.specs.PhaseTable.{phases_over}
use Rattle.irr_seitz.specs.PhaseMeaning.{sign_of}
use Rattle.irr_kvec.specs.WaveMeaning.{wave_vector}
use Rattle.irr_close.specs.StandsFor.{stands_for}
use Rattle.irr_close.specs.declared.group.Group.{Group}
use Rattle.irr_full.specs.Star.{Star}
use Rattle.irr_full.specs.Full.{IsFullOf}
use Rattle.irr_mult.specs.declared.star.StarCharacters.{StarCharacters}
use Rattle.irr_mult.specs.Listing.{item}
use Rattle.irr_mult.specs.Stars.{AreStarsOf}
use Rattle.irr_mult.specs.Traced.{AreTraced, traces_at}
use Rattle.irr_mult.specs.Classes.{IsRowAt}
use Rattle.irr_mult.proofs.ClassParts.{traced_of_classes}
use Rattle.irr_product.proofs.KroneckerLists.{listed_covered, listed_near, listed_wave}
use Rattle.irr_power.proofs.SquareSpaces.{few_skew, few_symmetric, skew_classes, skew_representation, symmetric_classes, symmetric_representation}

module _ (group : Group) {k : WaveVector} (U : Star (sign_of group.phase) (stands_for group) k)
    (M : ℕ) (positive : 0 < M) (u : U.table.order ∣ M) {d : ℕ} (D : Representation (phases_over U.table M u) d)
    (F : Operation → Matrix (numbers M) (times U.arms d) (times U.arms d)) (full : IsFullOf U M u D F)
    (sums : List WaveVector) (default : WaveVector)
    (near : (i j : Fin U.arms) → AreEquivalent (stands_for group) (get_or sums (to_nat i * U.arms + to_nat j) default) (U.arm i ⊕ U.arm j))
    (count : length sums ≡ U.arms * U.arms) (few : times U.arms d ≤ 48)
    {S : Type 0} (order : S → ℕ) (value : (n : ℕ) → S → Number n) (stars : List (StarCharacters S)) (rows : List (Vec S Global))
    (same_length : length rows ≡ length stars) (are : AreStarsOf (stands_for group) sums (map (λ c. wave_vector c.wave) stars))
    (cs : Fin (length stars) → List ℕ) where
  abbrev wave_at : Fin (times U.arms U.arms) → WaveVector
  wave_at = listed_wave (stands_for group) U.arm U.arm sums default

  pub symmetric_traced : ((i : Fin (length stars)) → IsRowAt order value
      (symmetric_classes group U M positive u D F full (listed_wave (stands_for group) U.arm U.arm sums default)
      (listed_near (stands_for group) U.arm U.arm sums default near)) (item stars i) (cs i) (traces_at rows (to_nat i)))
      → AreTraced order value (symmetric_representation group U M positive u D F full) stars rows
  symmetric_traced row = traced_of_classes (symmetric_representation group U M positive u D F full)
      (symmetric_classes group U M positive u D F full (listed_wave (stands_for group) U.arm U.arm sums default)
      (listed_near (stands_for group) U.arm U.arm sums default near))
      (let l = few_symmetric (times U.arms d) few in omega (arith, l)) order value sums
      (listed_covered (stands_for group) U.arm U.arm sums default count) stars rows same_length are cs row

  pub skew_traced : ((i : Fin (length stars)) → IsRowAt order value
      (skew_classes group U M positive u D F full (listed_wave (stands_for group) U.arm U.arm sums default)
      (listed_near (stands_for group) U.arm U.arm sums default near)) (item stars i) (cs i) (traces_at rows (to_nat i)))
      → AreTraced order value (skew_representation group U M positive u D F full) stars rows
  skew_traced row = traced_of_classes (skew_representation group U M positive u D F full)
      (skew_classes group U M positive u D F full (listed_wave (stands_for group) U.arm U.arm sums default)
      (listed_near (stands_for group) U.arm U.arm sums default near))
      (let l = few_skew (times U.arms d) few in omega (arith, l)) order value sums
      (listed_covered (stands_for group) U.arm U.arm sums default count) stars rows same_length are cs row
