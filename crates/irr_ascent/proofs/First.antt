-- Lists over the first members, one after another.
--
-- first_start  the list with no members is over the first 0
-- first_step   the list over the next member is appended
-- first_over   over the first of all, there is a list over each member
use Rattle.std.proofs.Common.{◌≡◌, sym, ◌∙◌, refl, subst, ℕ, suc}
use Rattle.irr_algebra.specs.Ring.{Ring}
use Rattle.irr_algebra.specs.Fin.{Fin, to_nat}
use Rattle.irr_algebra.proofs.Indices.{to_nat_inj}
use Rattle.irr_theory.specs.FactorSystem.{FactorSystem}
use Rattle.irr_theory.specs.Representations.{Representations}
use Rattle.irr_clifford.specs.Subgroup.{Subgroup}
use Rattle.irr_clifford.specs.Cyclic.{CyclicQuotient}
use Rattle.irr_ascent.specs.Joined.{none, append, on_last}
use Rattle.irr_ascent.specs.Over.{AreOver}
use Rattle.irr_ascent.specs.First.{IsOverFirst}
use Rattle.irr_ascent.proofs.Places.{to_nat-widen, to_nat-last}
use Rattle.irr_ascent.proofs.Union.{union_none, union_grown, each_grown}

module _ {R : Ring} {T : FactorSystem R} {H : Subgroup T} (Q : CyclicQuotient H) (L : Representations H.table) (turn : Fin L.count → Fin L.count) where
  pub first_start : IsOverFirst Q L turn 0 (none T)
  first_start = record { over = λ i. elim i [ ]; are_over = λ i. elim i [ ]; union = union_none (λ i. elim i [ ]) }

  pub first_step : (k : ℕ) (l : Fin L.count) (M B : Representations T) → to_nat l ≡ k → IsOverFirst Q L turn k M → AreOver Q L turn l B
      → IsOverFirst Q L turn (suc k) (append M B)
  first_step k l M B e h b = record {
    over = on_last h.over B;
    are_over = each_grown h.over B (λ i C. (m : Fin L.count) → to_nat i ≡ to_nat m → AreOver Q L turn m C)
        (λ i m q. h.are_over i m (sym (to_nat-widen i) ∙ q))
        (λ m q. subst (λ m. AreOver Q L turn m B) (to_nat_inj l m (e ∙ sym (to_nat-last k) ∙ q)) b);
    union = union_grown h.over M B h.union;
  }

  pub first_over : (M : Representations T) (h : IsOverFirst Q L turn L.count M) (l : Fin L.count) → AreOver Q L turn l (h.over l)
  first_over M h l = h.are_over l l refl
