-- Verdicts on reports.
--   verdict_meant_of       the verdict by dimensions is the verdict as it is meant: the tables of little groups have steps
--   complete_of_yes        Yes means the report of a complete list
--   yes_is_complete        so it does where no dimension is known to be positive: each is
--   meant_is_complete      so it does as it is meant
use Rattle.std.proofs.Common.{◌≡◌, refl, sym, ◌∙◌, ap, subst, inl, inr, ℕ, ◌<◌, arith}
use mathlib.Core.Path.{fun_ext}
use Rattle.irr_algebra.specs.Action.{IsSimple}
use Rattle.irr_algebra.specs.Field.{Field}
use Rattle.irr_algebra.specs.Fin.{Fin}
use Rattle.irr_algebra.specs.Fin.Fin.{first as only_place}
use Rattle.irr_algebra.specs.Matrix.{Matrix, trace}
use Rattle.irr_algebra.specs.Sum.{delta}
use Rattle.irr_algebra.proofs.Entries.{null_or_entry}
use Rattle.irr_algebra.proofs.Fields.{one-ne-zero}
use Rattle.irr_algebra.proofs.Indices.{to_nat-lt}
use Rattle.irr_algebra.proofs.Sums.{delta-refl}
use Rattle.irr_algebra.proofs.Totals.{combination-delta}
use Rattle.irr_number.specs.Number.{Number}
use Rattle.irr_number.proofs.NumberField.{number_field}
use Rattle.irr_space.specs.Operation.{Operation}
use Rattle.irr_space.specs.Reciprocal.{Sign}
use Rattle.irr_space.specs.CanonicalOperation.{IsNumbering}
use Rattle.irr_space.specs.Star.{IsInLittleGroup}
use Rattle.irr_space.specs.PhaseTable.{IsTableOf, PhaseTable}
use Rattle.irr_space.specs.CompleteList.{IsCompleteList, row}
use Rattle.irr_text.specs.ReportText.{ReportContent}
use Rattle.irr_steps.proofs.Tables.{tables_have_steps}
use Rattle.irr_check.specs.declared.verdict.Verdict.{Verdict}
use Rattle.irr_check.specs.declared.verdict.Verdict.TheVariants.{Yes}
use Rattle.irr_check.specs.Families.{AreSmall, Families, families_report, small_list}
use Rattle.irr_check.specs.Trials.{Passes, PassesIrreducible, Reading, Trial}
use Rattle.irr_check.specs.Trials.Reading.{dimensions, meaning}
use Rattle.irr_check.specs.Trials.Trial.{all, at_product, at_trace, at_unit, inequivalent, irreducible}
use Rattle.irr_check.specs.Verdict.{IsCompleteReport, IsFamiliesVerdict, IsVerdict, verdict_at}
use Rattle.irr_check.specs.Verdict.IsFamiliesVerdict.{fails, passes}
use Rattle.irr_check.specs.Verdict.IsVerdict.{of_families, other_operations, other_order}
use Rattle.irr_check.proofs.Readings.{meant_complete, meant_small, meant_traces, passed_complete, passed_small, passed_traces, verdict_meant}

failed_trial : {c h : ℕ} (t : Trial c h) → verdict_at t ≡ Yes → ⊥
unfolding verdict_at
failed_trial (at_unit m) e = cc
failed_trial (at_product m i j) e = cc
failed_trial (at_trace m i) e = cc
failed_trial (irreducible m) e = cc
failed_trial (inequivalent a b) e = cc
failed_trial all e = cc

passed_all : {w : Reading} {h : ℕ} (T : PhaseTable h) (F : Families T) {v : Verdict} → IsFamiliesVerdict w T F v → v ≡ Yes
    → (t : Trial F.count h) → Passes T F w t
passed_all T F (fails t is) e = absurd (failed_trial t e)
passed_all T F (passes every) e = every

module _ (s : Sign) (G : Operation → Type 0) (r : ReportContent) (positive : (m : Fin r.count) → 0 < r.size m) where
  sizes_positive : {h : ℕ} (ops : Fin h → Operation) (T : PhaseTable h) (F : Families T) → r ≡ families_report r.wave ops T F
      → (m : Fin F.count) → 0 < F.size m
  sizes_positive ops T F is = subst (λ (x : ReportContent). (m : Fin x.count) → 0 < x.size m) is positive

  pub verdict_meant_of : {v : Verdict} → IsVerdict dimensions s G r v → IsVerdict meaning s G r v
  verdict_meant_of (other_order order other) = other_order order other
  verdict_meant_of (other_operations ops order numbering first) = other_operations ops order numbering first
  verdict_meant_of (of_families ops T F numbering table is verdict) = of_families ops T F numbering table is
      (verdict_meant T F (sizes_positive ops T F is) (tables_have_steps s G (IsInLittleGroup G r.wave) r.wave ops T numbering table) verdict)

  module _ {h : ℕ} (ops : Fin h → Operation) (T : PhaseTable h) (F : Families T) (numbering : IsNumbering G (IsInLittleGroup G r.wave) ops)
      (table : IsTableOf s G r.wave ops T) (is : r ≡ families_report r.wave ops T F) where
    with_characters : (Fin F.count → Fin h → Number T.order) → ReportContent
    with_characters c = families_report r.wave ops T (record { count = F.count; size = F.size; character = c; matrix = F.matrix })

    complete_of_list : (small : AreSmall T F) → IsCompleteList T (small_list T F small)
        → ((m : Fin F.count) (i : Fin h) → F.character m i ≡ trace (F.matrix m i)) → IsCompleteReport s G r
    unfolding with_characters row
    complete_of_list small complete traces = record {
      places = h;
      operation = ops;
      numbering = numbering;
      table = T;
      is_table = table;
      representations = small_list T F small;
      complete = complete;
      content = is ∙ ap with_characters (fun_ext (λ m. fun_ext (λ i. traces m i)));
    }

    complete_families : ((t : Trial F.count h) → Passes T F dimensions t) → IsCompleteReport s G r
    complete_families every = let p = sizes_positive ops T F is in
        complete_of_list (passed_small T F p every) (passed_complete T F p every) (passed_traces T F p every)

    complete_as_meant : ((t : Trial F.count h) → Passes T F meaning t) → IsCompleteReport s G r
    complete_as_meant every = let p = sizes_positive ops T F is in
        complete_of_list (meant_small T F p every) (meant_complete T F p every) (meant_traces T F p every)

  pub complete_of_yes : {v : Verdict} → IsVerdict dimensions s G r v → v ≡ Yes → IsCompleteReport s G r
  complete_of_yes (other_order order other) e = absurd cc
  complete_of_yes (other_operations ops order numbering first) e = absurd cc
  complete_of_yes (of_families ops T F numbering table is verdict) e = complete_families ops T F numbering table is (passed_all T F verdict e)

  complete_of_meant : {v : Verdict} → IsVerdict meaning s G r v → v ≡ Yes → IsCompleteReport s G r
  complete_of_meant (other_order order other) e = absurd cc
  complete_of_meant (other_operations ops order numbering first) e = absurd cc
  complete_of_meant (of_families ops T F numbering table is verdict) e = complete_as_meant ops T F numbering table is (passed_all T F verdict e)

  pub meant_is_complete : IsVerdict meaning s G r Yes → IsCompleteReport s G r
  meant_is_complete p = complete_of_meant p refl

-- where the multiples of one matrix intertwine, and no others, there are rows
simple_positive : (F : Field) {I : Type 0} (n : ℕ) (s : I → Matrix F.ring n n) → IsSimple s → 0 < n
simple_positive F n s d = elim (null_or_entry F (d.members only_place)) [
  | inl e ↦ absurd (one-ne-zero F (sym (delta-refl F.ring only_place)
      ∙ d.independent (delta F.ring only_place) (combination-delta 1 only_place d.members ∙ e) only_place))
  | inr f ↦ (let l = to_nat-lt f.0 in omega (arith, l))
]

module _ (s : Sign) (G : Operation → Type 0) (r : ReportContent) where
  passed_simple : {h : ℕ} (T : PhaseTable h) (F : Families T) → ((t : Trial F.count h) → Passes T F dimensions t)
      → (m : Fin F.count) → IsSimple (F.matrix m)
  unfolding Passes PassesIrreducible
  passed_simple T F every m = every (irreducible m)

  sizes_of_yes : {v : Verdict} → IsVerdict dimensions s G r v → v ≡ Yes → (m : Fin r.count) → 0 < r.size m
  sizes_of_yes (other_order order other) e = absurd cc
  sizes_of_yes (other_operations ops order numbering first) e = absurd cc
  sizes_of_yes (of_families ops T F numbering table is verdict) e = subst (λ (x : ReportContent). (m : Fin x.count) → 0 < x.size m) (sym is)
      (λ m. simple_positive (number_field T.order T.order_positive) (F.size m) (F.matrix m) (passed_simple T F (passed_all T F verdict e) m))

  pub yes_is_complete : IsVerdict dimensions s G r Yes → IsCompleteReport s G r
  yes_is_complete p = complete_of_yes s G r (sizes_of_yes p refl) p refl
