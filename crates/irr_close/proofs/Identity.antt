-- The operation that leaves each point, as a program keeps it.
--   no_shift, no_shift-lowest      three times 0 over 1 is the vector 0, in lowest terms
--   unit_small                     the unit has small entries
--   start                          the list of the identity is a start of the closing
use Rattle.std.proofs.Common.{◌≡◌, sym, ◌∙◌, ap, subst, refl, zero, suc, ◌≤◌, List, [], ◌∷◌, pos, unsigned_abs, arith}
use Rattle.std.specs.List.{All}
use native.Mathlib.Nat as Nat
use Rattle.std.specs.Int.{◌∣◌}
use Rattle.irr_algebra.specs.Fin.{Fin, to_nat}
use Rattle.irr_algebra.specs.Fin.Fin.{first, next}
use Rattle.irr_algebra.specs.Sum.{delta}
use Rattle.irr_algebra.specs.Matrix.{unit, null}
use Rattle.irr_number.specs.Integers.{integers}
use Rattle.irr_rational.specs.Ratio.{entry}
use Rattle.irr_rational.specs.Rational.{ratio}
use Rattle.irr_rational.proofs.Orders.{ratio-zero}
use Rattle.irr_space.specs.Operation.{Operation, identity}
use Rattle.irr_space.specs.SpaceGroup.Generated.{one}
use Rattle.irr_space.specs.SpaceGroup.{Generated}
use Rattle.irr_space.specs.CanonicalOperation.{IsInCell}
use Rattle.irr_lattice.proofs.OneOperation.{identity_canonical}
use Rattle.irr_lattice.proofs.Vectors.{component-null}
use Rattle.irr_rat.specs.VectorMeaning.{vector_of}
use Rattle.irr_rat.specs.Lowest.{AreThreeLowest}
use Rattle.irr_rat.proofs.Vectors.{component-vector_of, vector-ext, each_of_three}
use Rattle.irr_seitz.specs.Rotation.{IsWithin}
use Rattle.irr_seitz.specs.OperationMeaning.{operation}
use Rattle.irr_seitz.specs.declared.op.Op.{Op}
use Rattle.irr_close.specs.Limits.{operations}
use Rattle.irr_close.specs.Closing.{IsKept, IsPartial}

pub no_shift : vector_of (pos 0 ∷ pos 0 ∷ pos 0 ∷ []) 1 ≡ null
unfolding to_nat
no_shift = vector-ext (vector_of (pos 0 ∷ pos 0 ∷ pos 0 ∷ []) 1) null (λ i. component-vector_of (pos 0 ∷ pos 0 ∷ pos 0 ∷ []) 1 i
    ∙ ap (λ k. ratio k 1) (each_of_three (λ i. entry (pos 0 ∷ pos 0 ∷ pos 0 ∷ []) i ≡ pos 0) refl refl refl i) ∙ ratio-zero 1 (omega arith)
    ∙ sym (component-null i))

pub no_shift-lowest : AreThreeLowest (pos 0 ∷ pos 0 ∷ pos 0 ∷ []) 1
no_shift-lowest = record { positive = omega arith; lowest = λ d h k. Nat.dvd_antisymm h (Nat.one-dvd d) }

pub unit_small : IsWithin 9 (unit integers 3)
unfolding unit delta
unit_small = each_of_three (λ i. (j : Fin 3) → unsigned_abs ((unit integers 3).at i j) ≤ 9)
    (each_of_three (λ j. unsigned_abs ((unit integers 3).at first j) ≤ 9) (omega arith) (omega arith) (omega arith))
    (each_of_three (λ j. unsigned_abs ((unit integers 3).at (next first) j) ≤ 9) (omega arith) (omega arith) (omega arith))
    (each_of_three (λ j. unsigned_abs ((unit integers 3).at (next (next first)) j) ≤ 9) (omega arith) (omega arith) (omega arith))

identity_small : IsWithin 9 identity.rotation
unfolding identity
identity_small = unit_small

identity_kept : (gs : List Op) (g : Op) → operation g ≡ identity → g.den ≡ 1 → IsKept gs g
identity_kept gs g e f = record {
  generated = subst (Generated (operations gs)) (sym e) one;
  within = subst (λ (h : Operation). IsWithin 9 h.rotation) (sym e) identity_small;
  in_cell = subst (λ (h : Operation). IsInCell h.vector) (sym e) identity_canonical.in_cell;
  divides = λ D p h. subst (λ d. d ∣ D) (sym f) (Nat.one-dvd D);
}

pub start : (gs ops : List Op) (g : Op) → operation g ≡ identity → g.den ≡ 1 → ops ≡ g ∷ [] → IsPartial gs ops
start gs ops g e f h = subst (IsPartial gs) (sym h) (record {
  nonempty = omega arith;
  identity_first = λ d. e;
  few = omega arith;
  kept = kept;
  distinct = λ i j d l m. absurd (omega arith);
})
  where
    kept : All (IsKept gs) (g ∷ [])
    kept zero d l = identity_kept gs g e f
    kept (suc k) d l = absurd (omega arith)
