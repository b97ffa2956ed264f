-- Complete lists of small representations of little groups.
--   is_complete      complete over the list's own order
--   is_full          full: the squares of the sizes add up to the number of places
use Rattle.std.proofs.Common.{◌≡◌, sym, subst, ℕ, ◌<◌}
use Rattle.std.specs.Int.{◌∣◌}
use native.Mathlib.Nat as Nat
use Rattle.irr_algebra.specs.Fin.{Fin}
use Rattle.irr_algebra.specs.Action.{Equivalent, IsIrreducible}
use Rattle.irr_algebra.specs.Matrix.{Matrix}
use Rattle.irr_number.specs.Number.{numbers}
use Rattle.irr_theory.specs.FactorSystem.{Representation}
use Rattle.irr_theory.specs.Representations.{IsComplete, IsFull, Representations}
use Rattle.irr_space.specs.Operation.{WaveVector}
use Rattle.irr_space.specs.Star.{IsInLittleGroup}
use Rattle.irr_space.specs.PhaseTable.{phases_at}
use Rattle.irr_space.specs.CompleteList.{IsCompleteList, over}
use Rattle.irr_seitz.specs.PhaseMeaning.{sign_of}
use Rattle.irr_rep.proofs.Families.{at_own_order-over}
use Rattle.irr_close.specs.StandsFor.{stands_for}
use Rattle.irr_close.specs.declared.group.Group.{Group}
use Rattle.irr_full.specs.Star.{Star}
use Rattle.irr_level.proofs.FullLists.{complete_full}
use Rattle.irr_steps.proofs.Tables.{tables_have_steps}

module _ (group : Group) {k : WaveVector} (U : Star (sign_of group.phase) (stands_for group) k) (L : Representations (phases_at U.table))
    (complete : IsCompleteList U.table L) where
  is_complete : IsComplete L
  is_complete = record {
    positive = complete.positive;
    irreducible = λ m. subst IsIrreducible (own_at (L.member m))
        (complete.irreducible U.table.order own_order U.table.order_positive m);
    inequivalent = complete.inequivalent;
    all = λ {a} A l i. all_at_home A l i;
  }
    where
      own_order : U.table.order ∣ U.table.order
      own_order = Nat.dvd_refl U.table.order

      own_at : {d : ℕ} (A : Representation (phases_at U.table) d) → (over U.table U.table.order own_order A).at ≡ A.at
      own_at A = λ t i. at_own_order-over U.table own_order A i t

      all_at_home : {a : ℕ} (A : Representation (phases_at U.table) a) → 0 < a → IsIrreducible A.at
          → (m : Fin L.count) × Equivalent A.at (L.member m).at
      all_at_home {a} A l i =
          let found = complete.all U.table.order own_order U.table.order_positive a (over U.table U.table.order own_order A) l
          (subst IsIrreducible (sym (own_at A)) i) in (
            found.0,
            subst (λ (s : Fin U.places → Matrix (numbers U.table.order) a a). Equivalent s (L.member found.0).at) (own_at A)
                (subst (Equivalent (over U.table U.table.order own_order A).at) (own_at (L.member found.0)) found.1),
          )

  pub is_full : IsFull L
  is_full = complete_full U.table (tables_have_steps (sign_of group.phase) (stands_for group)
      (IsInLittleGroup (stands_for group) k) k U.operation U.table U.numbering U.is_table) L is_complete
