-- The characters of a full list, as rows.
--   total-term               a term of a sum of numbers is at most the sum
--   square_few, size_few     the sizes of the members of a full list on at most 48 places
--   full_row                 the character of a member is a row of small sums
use Rattle.std.specs.Prelude.{ℕ, zero, suc, ◌≡◌, ◌<◌, ◌≤◌, ◌*◌, List, length}
use Rattle.std.specs.Int.{◌∣◌}
use Rattle.std.proofs.Common.{sym, ◌∙◌, ap, subst, get_or, arith}
use Rattle.irr_algebra.specs.Ring.{Ring}
use Rattle.irr_algebra.specs.Fin.{Fin, to_nat}
use Rattle.irr_algebra.specs.Fin.Fin.{first, next}
use Rattle.irr_algebra.specs.Matrix.{trace}
use Rattle.irr_number.specs.Number.{Number, numbers}
use Rattle.irr_theory.specs.FactorSystem.{FactorSystem}
use Rattle.irr_theory.specs.Representations.{count_total, IsFull, Representations}
use Rattle.irr_space.specs.PhaseTable.{PhaseTable, phases_over}
use Rattle.irr_char.specs.Characters.{IsRowOf, IsSmallRow}
use Rattle.irr_char.proofs.ScalarProducts.{small_row}
use Rattle.irr_climb.specs.Families.{AreRows}

pub total-term : (n : ℕ) (f : Fin n → ℕ) (i : Fin n) → f i ≤ count_total n f
unfolding count_total
total-term zero f i = elim i [ ]
total-term (suc n) f first = omega arith
total-term (suc n) f (next i) = let l = total-term n (λ j. f (next j)) i in omega (arith, l)

le_square : (d : ℕ) → d ≤ d * d
le_square zero = omega arith
le_square (suc d) = omega arith

module _ {R : Ring} {P : FactorSystem R} (L : Representations P) (full : IsFull L) (m : Fin L.count) where
  pub square_few : L.size m * L.size m ≤ P.places
  square_few = subst (λ k. L.size m * L.size m ≤ k) full.squares (total-term L.count (λ i. L.size i * L.size i) m)

  pub size_few : P.places ≤ 48 → L.size m ≤ 48
  size_few few = let l = le_square (L.size m) in let k = square_few in omega (arith, l, k, few)

module _ {S : Type 0} (order : S → ℕ) (value : (n : ℕ) → S → Number n) {h : ℕ} (T : PhaseTable h) (M : ℕ) (positive : 0 < M) (v : T.order ∣ M)
    (few : h ≤ 48) (L : Representations (phases_over T M v)) (full : IsFull L) where
  pub full_row : (m : Fin L.count) (row : List S) → IsRowOf {h = h} order value M (λ i. trace ((L.member m).at i)) row
      → IsSmallRow order value M h row
  full_row m row is = small_row T M positive v order value (L.member m) row (size_few L full m few) is
