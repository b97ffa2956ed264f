-- The terms of the scalar product of two characters, and their sum.
--   item-value, item-small   a number of a row, by its place
--   few_powers, few_products conditions of the two products of a term
--   term-value               the two products make the term
--   term-small               the size of a term
--   term-zero_left, term-zero_right      a term is 0 where one of its numbers is
use Rattle.std.proofs.Common.{◌≡◌, sym, ◌∙◌, ap, ap₂, subst, ℕ, ◌*◌, ◌-◌, ◌/◌, ◌%◌, ◌<◌, ◌≤◌, ◌^◌, List, length, get_or, map, arith}
use native.Mathlib.Nat as Nat
use Rattle.std.proofs.lemmas.List.{get_or-map}
use Rattle.std.proofs.lemmas.List.Elements.{All-get_or}
use Rattle.irr_algebra.specs.Fin.{Fin, to_nat}
use Rattle.irr_algebra.proofs.Indices.{from_nat, to_nat-from_nat}
use Rattle.irr_algebra.proofs.Rings.{mul-zero, zero-mul}
use Rattle.irr_number.specs.Number.{Number, numbers, root_power}
use Rattle.irr_canonical.specs.RootSum.{IsRootSum}
use Rattle.irr_canonical.proofs.RootSums.{IsRootSum-mul, IsRootSum-root}
use Rattle.irr_space.specs.PhaseTable.{PhaseTable}
use Rattle.irr_char.specs.Rows.{row_of}
use Rattle.irr_char.specs.Characters.{IsRowWithin, average_term}

pub few_powers : (n s t : ℕ) → n ≤ 12000 → s ≤ 48 → t ≤ 2304 → s * n * (t * n) ≤ 2 ^ 100
few_powers n s t l p q =
    let a : s * n * (t * n) ≤ 48 * 12000 * (2304 * 12000) = Nat.mul-le-mul (Nat.mul-le-mul p l) (Nat.mul-le-mul q l) in
    let b : 48 * 12000 * (2304 * 12000) ≤ 2 ^ 100 = omega arith in
    Nat.le_trans a b

pub few_products : (n s t : ℕ) → n ≤ 12000 → s ≤ 2304 → t ≤ 48 → s * n * (t * n) ≤ 2 ^ 100
few_products n s t l p q = subst (λ k. k ≤ 2 ^ 100) (Nat.mul_comm (t * n) (s * n)) (few_powers n t s l q p)

module _ {S : Type 0} (order : S → ℕ) (value : (n : ℕ) → S → Number n) (n h : ℕ) (row : List S) {s : ℕ} (small : IsRowWithin order value n h s row)
    (k : ℕ) (l : k < h) (x : S) (is : x ≡ get_or row k x) where
  within : k < length row
  within = subst (λ m. k < m) (sym small.count) l

  pub item-order : order x ≡ n
  item-order = ap order is ∙ All-get_or (λ y. order y ≡ n) row k x within small.orders

  pub item-value : (p : Fin h) → to_nat p ≡ k → value n x ≡ row_of n (map (value n) row) p
  item-value p e = ap (value n) is ∙ sym (get_or-map (value n) row k x (numbers n).zero within)
      ∙ ap (λ j. get_or (map (value n) row) j (numbers n).zero) (sym e)

  pub item-small : IsRootSum n s 1 (value n x)
  item-small =
      let p = from_nat h k l in
      subst (IsRootSum n s 1) (sym (item-value p (to_nat-from_nat h k l))) (small.small p)

module _ {h : ℕ} (T : PhaseTable h) (n : ℕ) (f g : Fin h → Number n) where
  -- the two products make the term
  pub term-value : (p : Fin h) (z u x y : Number n) → z ≡ root_power n ((T.order - 1) * T.exponent p (T.opposite p) % T.order * (n / T.order))
      → u ≡ f (T.opposite p) → y ≡ g p → x ≡ (numbers n).mul y ((numbers n).mul z u) → x ≡ average_term T n f g p
  unfolding average_term
  term-value p z u x y q r s v = v ∙ ap₂ (numbers n).mul s (ap₂ (numbers n).mul q r)

  pub term-small : {s t : ℕ} → ((i : Fin h) → IsRootSum n s 1 (f i)) → ((i : Fin h) → IsRootSum n t 1 (g i)) → (p : Fin h)
      → IsRootSum n (t * (1 * s)) (1 * (1 * 1)) (average_term T n f g p)
  unfolding average_term
  term-small a b p = IsRootSum-mul n (b p) (IsRootSum-mul n (IsRootSum-root n ((T.order - 1) * T.exponent p (T.opposite p) % T.order * (n / T.order)))
      (a (T.opposite p)))

  pub term-zero_left : (p : Fin h) → f (T.opposite p) ≡ (numbers n).zero → average_term T n f g p ≡ (numbers n).zero
  unfolding average_term
  term-zero_left p e =
      let N = numbers n in
      let z = root_power n ((T.order - 1) * T.exponent p (T.opposite p) % T.order * (n / T.order)) in
      ap (λ x. N.mul (g p) (N.mul z x)) e ∙ ap (N.mul (g p)) (mul-zero N z) ∙ mul-zero N (g p)

  pub term-zero_right : (p : Fin h) → g p ≡ (numbers n).zero → average_term T n f g p ≡ (numbers n).zero
  unfolding average_term
  term-zero_right p e =
      let N = numbers n in
      let z = root_power n ((T.order - 1) * T.exponent p (T.opposite p) % T.order * (n / T.order)) in
      ap (λ x. N.mul x (N.mul z (f (T.opposite p)))) e ∙ zero-mul N (N.mul z (f (T.opposite p)))
