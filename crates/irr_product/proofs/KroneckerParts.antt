-- The parts of the direct product of two full representations, by the traces of the classes of its diagonal places.
--   product_traced     with the sums of all pairs of arms in a list, the stars of its items, and a row for each star, the
--                      stars and the rows are those of the direct product
use Rattle.std.proofs.Common.{◌≡◌, ℕ, ◌+◌, ◌*◌, ◌<◌, ◌≤◌, List, length, get_or, map, Vec, Global}
use Rattle.std.specs.Int.{◌∣◌}
use Rattle.irr_algebra.specs.Fin.{Fin, to_nat}
use Rattle.irr_algebra.specs.Matrix.{Matrix, ◌⊕◌}
use Rattle.irr_algebra.specs.Pair.{times}
use Rattle.irr_number.specs.Number.{Number, numbers}
use Rattle.irr_theory.specs.FactorSystem.{Representation}
use Rattle.irr_space.specs.Operation.{Operation, WaveVector}
use Rattle.irr_space.specs.Reciprocal.{AreEquivalent}
use Rattle.irr_space.specs.PhaseTable.{phases_over}
use Rattle.irr_seitz.specs.PhaseMeaning.{sign_of}
use Rattle.irr_kvec.specs.WaveMeaning.{wave_vector}
use Rattle.irr_close.specs.StandsFor.{stands_for}
use Rattle.irr_close.specs.declared.group.Group.{Group}
use Rattle.irr_full.specs.Star.{Star}
use Rattle.irr_full.specs.Full.{IsFullOf}
use Rattle.irr_mult.specs.declared.star.StarCharacters.{StarCharacters}
use Rattle.irr_mult.specs.Listing.{item}
use Rattle.irr_mult.specs.Stars.{AreStarsOf}
use Rattle.irr_mult.specs.Traced.{AreTraced, traces_at}
use Rattle.irr_mult.specs.Classes.{IsRowAt}
use Rattle.irr_mult.proofs.ClassParts.{traced_of_classes}
use Rattle.irr_product.proofs.KroneckerClasses.{product_representation, product_classes}
use Rattle.irr_product.proofs.KroneckerLists.{few_places, listed_covered, listed_near, listed_wave}

module _ (group : Group) {k l : WaveVector} (U : Star (sign_of group.phase) (stands_for group) k)
    (V : Star (sign_of group.phase) (stands_for group) l)
    (M : ℕ) (positive : 0 < M) (u : U.table.order ∣ M) (v : V.table.order ∣ M)
    {c d : ℕ} (D : Representation (phases_over U.table M u) c) (E : Representation (phases_over V.table M v) d)
    (F : Operation → Matrix (numbers M) (times U.arms c) (times U.arms c)) (full_F : IsFullOf U M u D F)
    (H : Operation → Matrix (numbers M) (times V.arms d) (times V.arms d)) (full_H : IsFullOf V M v E H)
    (sums : List WaveVector) (default : WaveVector)
    (near : (i : Fin U.arms) (j : Fin V.arms)
    → AreEquivalent (stands_for group) (get_or sums (to_nat i * V.arms + to_nat j) default)
    (U.arm i ⊕ V.arm j)) where
  pub product_traced : length sums ≡ U.arms * V.arms → times U.arms c ≤ 48 → times V.arms d ≤ 48
      → {S : Type 0} (order : S → ℕ) (value : (n : ℕ) → S → Number n) (stars : List (StarCharacters S))
      (rows : List (Vec S Global))
      → length rows ≡ length stars → AreStarsOf (stands_for group) sums (map (λ c. wave_vector c.wave) stars)
      → (cs : Fin (length stars) → List ℕ)
      → ((i : Fin (length stars)) → IsRowAt order value
      (product_classes group U V M positive u v D E F full_F H full_H
      (listed_wave (stands_for group) U.arm V.arm sums default)
      (listed_near (stands_for group) U.arm V.arm sums default near)) (item stars i) (cs i) (traces_at rows (to_nat i)))
      → AreTraced order value (product_representation group U V M positive u v D E F full_F H full_H) stars rows
  product_traced count few_F few_H order value stars rows same_length are cs row = traced_of_classes
      (product_representation group U V M positive u v D E F full_F H full_H)
      (product_classes group U V M positive u v D E F full_F H full_H
      (listed_wave (stands_for group) U.arm V.arm sums default)
      (listed_near (stands_for group) U.arm V.arm sums default near))
      (few_places (times U.arms c) (times V.arms d) few_F few_H) order value sums
      (listed_covered (stands_for group) U.arm V.arm sums default count) stars rows same_length are cs row
