-- Numberings of canonical operations.
--   rotation_distinct    operations of a numbering with one rotation are one
--   unit_first           the unit stands at the first place
use Rattle.std.proofs.Common.{◌≡◌, sym, subst, refl, ℕ, zero, suc, ◌<◌, inl, inr, ◌<ℤ◌, arith}
use Rattle.std.proofs.lemmas.Int.{ints}
use Rattle.std.proofs.lemmas.Bool.{cases_lt}
use Rattle.irr_algebra.specs.Fin.{Fin, to_nat}
use Rattle.irr_algebra.specs.Matrix.{unit}
use Rattle.irr_algebra.proofs.Indices.{from_nat, to_nat-from_nat, to_nat-lt, to_nat_inj}
use Rattle.irr_number.specs.Integers.{integers}
use Rattle.irr_space.specs.Operation.{Operation, Rotation}
use Rattle.irr_space.specs.CanonicalOperation.{IsNumbering, IsNumberedBefore}

module _ (G P : Operation → Type 0) {h : ℕ} (ops : Fin h → Operation) (numbering : IsNumbering G P ops) where
  not_before_itself : (R : Rotation) → IsNumberedBefore R R → ⊥
  not_before_itself R (n, inl u) = n u
  not_before_itself R (n, inr b) = let l : R.at b.row b.place <ℤ R.at b.row b.place = b.less in omega (arith, ints)

  -- operations of the numbering with one rotation are one
  pub rotation_distinct : (i j : Fin h) → (ops i).rotation ≡ (ops j).rotation → i ≡ j
  rotation_distinct i j e = elim (cases_lt (to_nat i) (to_nat j)) [
    | inl l ↦ absurd (not_before_itself (ops i).rotation (subst (λ R. IsNumberedBefore (ops i).rotation R) (sym e) (numbering.ordered i j l)))
    | inr g ↦ (elim (cases_lt (to_nat j) (to_nat i)) [
      | inl l ↦ absurd (not_before_itself (ops j).rotation (subst (λ R. IsNumberedBefore (ops j).rotation R) e (numbering.ordered j i l)))
      | inr k ↦ to_nat_inj i j (omega arith)
    ])
  ]

  -- the unit stands at the first place
  pub unit_first : (i : Fin h) → (ops i).rotation ≡ unit integers 3 → to_nat i ≡ 0
  unit_first i e = from_place (to_nat i) refl
    where
      from_place : (k : ℕ) → to_nat i ≡ k → to_nat i ≡ 0
      from_place zero p = p
      from_place (suc k) p =
          let l : 0 < h = let t : to_nat i < h = to_nat-lt i in omega arith in
          let z : to_nat (from_nat h 0 l) ≡ 0 = to_nat-from_nat h 0 l in
          absurd ((numbering.ordered (from_nat h 0 l) i (omega arith)).0 e)
