-- Two restrictions of a table to one list: the same families are the members of a full list on each.
--   same_member, same_product, same_start, same_phase    the two tables agree
--   moved                    a representation on the one is one on the other
--   same_count               where the numbers of places are the same
--   read_on                  in general
use Rattle.std.specs.Prelude.{ℕ, ◌≡◌, ◌*◌, ◌/◌, List, slice_index}
use Rattle.std.specs.Int.{◌∣◌}
use Rattle.std.proofs.Common.{sym, ◌∙◌, ap, ap₂, subst}
use Rattle.irr_algebra.specs.Fin.{Fin, to_nat}
use Rattle.irr_algebra.specs.Matrix.{scale}
use Rattle.irr_algebra.proofs.Indices.{to_nat_inj}
use Rattle.irr_number.specs.Number.{numbers, root_power}
use Rattle.irr_theory.specs.FactorSystem.{Representation}
use Rattle.irr_theory.specs.Representations.{Representations}
use Rattle.irr_space.specs.PhaseTable.{PhaseTable, phases_over}
use Rattle.irr_level.proofs.Phases.{phase_at}
use Rattle.irr_level.proofs.Positions.{member_inj}
use Rattle.irr_cyc.specs.declared.scalars.Scalar.{Ghosts}
use Rattle.irr_rep.specs.declared.family.Family.{Family}
use Rattle.irr_rep.specs.Subgroup.{IsRestriction, IsSubgroup}
use Rattle.irr_climb.specs.Lists.{IsFullyRead}

module _ {h : ℕ} (T : PhaseTable h) (members : List ℕ) (subgroup : IsSubgroup T members) (M : ℕ) where
  module _ {n : ℕ} (U V : PhaseTable n) (r : IsRestriction T members U) (s : IsRestriction T members V) (w : U.order ∣ M) (v : V.order ∣ M) where
    same_member : (i : Fin n) → r.member i ≡ s.member i
    same_member i = to_nat_inj (r.member i) (s.member i) (r.member-number i ∙ sym (s.member-number i))

    same_product : (i j : Fin n) → U.product i j ≡ V.product i j
    same_product i j = member_inj T members U subgroup r (U.product i j) (V.product i j)
        (r.member-product i j ∙ ap₂ T.product (same_member i) (same_member j) ∙ sym (s.member-product i j) ∙ sym (same_member (V.product i j)))

    same_start : U.start ≡ V.start
    same_start = to_nat_inj U.start V.start (U.start_first ∙ sym V.start_first)

    same_phase : (i j : Fin n) → (phases_over U M w).phase i j ≡ (phases_over V M v).phase i j
    same_phase i j = phase_at U M w i j
        ∙ ap₂ (λ o x. root_power M (M / o * x)) (r.same_order ∙ sym s.same_order)
        (r.same_exponent i j ∙ ap₂ T.exponent (same_member i) (same_member j) ∙ sym (s.same_exponent i j))
        ∙ sym (phase_at V M v i j)

    abbrev moved : {d : ℕ} → Representation (phases_over U M w) d → Representation (phases_over V M v) d
    moved A = record {
      at = A.at;
      at-start = ap A.at (sym same_start) ∙ A.at-start;
      at-product = λ i j. A.at-product i j ∙ ap₂ (λ c k. scale (numbers M) c (A.at k)) (same_phase i j) (same_product i j);
    }

    same_count : {S : Type 0} {G : Ghosts S} (fs : List (Family S G)) → IsFullyRead M (phases_over U M w) fs → IsFullyRead M (phases_over V M v) fs
    same_count fs f =
        let L : Representations (phases_over V M v) = record { count = f.list.count; size = f.list.size; member = λ m. moved (f.list.member m) } in
        record {
          list = L;
          read = record {
            count = f.read.count;
            read = λ m e. let one = f.read.read m e in record { size = one.size; shape = one.shape; matrices = one.matrices };
          };
          full = record { positive = f.full.positive; simple = f.full.simple; inequivalent = f.full.inequivalent; squares = f.full.squares };
        }

  pub read_on : {n m : ℕ} (U : PhaseTable n) (V : PhaseTable m) → IsRestriction T members U → IsRestriction T members V
      → (w : U.order ∣ M) (v : V.order ∣ M) → {S : Type 0} {G : Ghosts S} (fs : List (Family S G))
      → IsFullyRead M (phases_over U M w) fs → IsFullyRead M (phases_over V M v) fs
  read_on {n} {m} U V r s w v {S} {G} fs f =
      subst (λ k. (V : PhaseTable k) → IsRestriction T members V → (v : V.order ∣ M) → IsFullyRead M (phases_over V M v) fs) (r.count ∙ sym s.count)
      (λ V s v. same_count U V r s w v fs f) V s v
