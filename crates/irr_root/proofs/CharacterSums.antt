-- Characters in the program, and the sums over the powers of a place that are made from them.
--   character-positive       the order of its numbers is positive
--   character-small          it is a small row
--   character-counted        how often z^e is an eigenvalue, at the order that the sum has
use Rattle.std.proofs.Common.{◌≡◌, sym, subst, ℕ, ◌<◌, ◌≤◌, ◌*◌, ◌/◌, ◌%◌, ◌^◌, List, [], ◌∷◌, length, map, arith}
use native.Mathlib.Nat as Nat
use Rattle.std.specs.List.{AllByRecursion}
use Rattle.std.proofs.lemmas.List.Elements.{recursion_from_All}
use Rattle.irr_algebra.specs.Fin.{Fin}
use Rattle.irr_algebra.specs.Listed.{sum_below}
use Rattle.irr_algebra.specs.Ring.{whole}
use Rattle.irr_number.specs.Number.{Number, numbers, root_power}
use Rattle.irr_eigen.specs.Eigenspace.{Occurs}
use Rattle.irr_eigen.specs.Power.{power}
use Rattle.irr_space.specs.PhaseTable.{PhaseTable}
use Rattle.irr_char.specs.Characters.{IsSmallRow}
use Rattle.irr_char.proofs.ScalarProducts.{small_row}
use Rattle.irr_root.specs.Characters.{IsCharacter}
use Rattle.irr_root.specs.Powers.{ArePowers, power_trace}
use Rattle.irr_root.proofs.EigenvalueSums.{counted-at}
use Rattle.irr_root.proofs.Walks.{powers-length}

first-positive : {S : Type 0} (order : S → ℕ) → ((x : S) → 0 < order x) → (n : ℕ) (row : List S) → 0 < length row → AllByRecursion (λ x. order x ≡ n) row → 0 < n
first-positive order positive n [] l h = absurd (omega (arith, l))
first-positive order positive n (x ∷ row) l h = subst (λ k. 0 < k) h.0 (positive x)

module _ {S : Type 0} {h : ℕ} (order : S → ℕ) (value : (n : ℕ) → S → Number n) (positive : (x : S) → 0 < order x) (some : 0 < h) (T : PhaseTable h) (row : List S)
    (c : IsCharacter order value T row) where
  pub character-positive : 0 < c.n
  character-positive = first-positive order positive c.n row (subst (λ k. 0 < k) (sym c.is_row.count) some) (recursion_from_All (λ x. order x ≡ c.n) row c.is_row.orders)

  pub character-small : IsSmallRow order value c.n h row
  character-small = small_row T c.n character-positive c.divides order value c.representation row c.few c.is_row

  pub character-counted : {places exponents : List ℕ} {turn : ℕ} (p : Fin h) → ArePowers T p places exponents turn → (e : ℕ) → e < T.order
      → length places * e % T.order ≡ turn % T.order → T.order ≤ 12000 → (m : ℕ) → m ≡ c.n
      → (k : ℕ) × Occurs (c.representation.at p) (power (numbers c.n) (root_power c.n (c.n / T.order)) e) k
      × (sum_below (numbers m) (length places) (power_trace m T.order (map (value m) row) places exponents e) ≡ whole (numbers m) (length places * k))
      × (length places * k < 2 ^ 31)
  character-counted {places} {exponents} p w e l same limited m is =
      let o = counted-at T c.n character-positive c.divides p w c.representation (map (value c.n) row) c.is_row.numbers_at e l same in
      let few : length places * o.0 ≤ 12000 * 48 = Nat.mul-le-mul (Nat.le_trans (powers-length T p w) limited) (Nat.le_trans o.3 c.few) in (
        o.0,
        o.1,
        subst (λ u. sum_below (numbers u) (length places) (power_trace u T.order (map (value u) row) places exponents e) ≡ whole (numbers u) (length places * o.0)) (sym is) o.2,
        omega (arith, few),
      )
