-- Each form's trace.
use Rattle.std.proofs.Common.{◌≡◌, sym, ◌∙◌, ap, ap₂, subst, ◌-ℤ◌, ◌*ℤ◌, w64, to_z, of_z}
use Rattle.std.proofs.lemmas.Int.{to_z-of_z}
use Rattle.irr_algebra.specs.Matrix.{trace}
use Rattle.irr_number.specs.Number.{numbers}
use Rattle.irr_rational.specs.Integer.{integer}
use Rattle.irr_seitz.specs.OperationMeaning.{operation}
use Rattle.irr_power.specs.Tensors.{form_matrix}
use Rattle.irr_power.proofs.FormNumbers.{fourth_of, second_of, skew_of, symmetric_of, third_of, trace_of}
use Rattle.irr_power.proofs.forms.form_trace.Goals as goal

pub returns-in-Rank1-clause-value : goal.returns-in-Rank1-clause-value
returns-in-Rank1-clause-value c n = subst (λ f. integer (numbers n) (to_z w64 (of_z w64 c.vector_trace-trace.result)) ≡ trace (form_matrix (numbers n) f (operation c.args.op.now)))
    (sym c.in-Rank1.is)
    (ap (integer (numbers n)) (to_z-of_z w64 c.vector_trace-trace.result (record { sfits = c.vector_trace-trace.type_inv }) ∙ c.vector_trace-trace.ensures.value) ∙ trace_of (numbers n) (operation c.args.op.now).rotation)

pub returns-in-Rank2-clause-value : goal.returns-in-Rank2-clause-value
returns-in-Rank2-clause-value c n = subst (λ f. integer (numbers n) (to_z w64 (of_z w64 c.second_power.result)) ≡ trace (form_matrix (numbers n) f (operation c.args.op.now)))
    (sym c.in-Rank2.is)
    (ap (integer (numbers n)) (to_z-of_z w64 c.second_power.result (record { sfits = c.second_power.type_inv }) ∙ c.second_power.ensures.value)
    ∙ second_of (numbers n) (operation c.args.op.now) _
    (to_z-of_z w64 c.vector_trace-trace.result (record { sfits = c.vector_trace-trace.type_inv }) ∙ c.vector_trace-trace.ensures.value))

pub returns-in-Rank3-clause-value : goal.returns-in-Rank3-clause-value
returns-in-Rank3-clause-value c n = subst (λ f. integer (numbers n) (to_z w64 (of_z w64 c.third_power.result)) ≡ trace (form_matrix (numbers n) f (operation c.args.op.now)))
    (sym c.in-Rank3.is)
    (ap (integer (numbers n)) (to_z-of_z w64 c.third_power.result (record { sfits = c.third_power.type_inv }) ∙ c.third_power.ensures.value)
    ∙ third_of (numbers n) (operation c.args.op.now) _
    (to_z-of_z w64 c.vector_trace-trace.result (record { sfits = c.vector_trace-trace.type_inv }) ∙ c.vector_trace-trace.ensures.value))

pub returns-in-Rank4-clause-value : goal.returns-in-Rank4-clause-value
returns-in-Rank4-clause-value c n = subst (λ f. integer (numbers n) (to_z w64 (of_z w64 c.fourth_power.result)) ≡ trace (form_matrix (numbers n) f (operation c.args.op.now)))
    (sym c.in-Rank4.is)
    (ap (integer (numbers n)) (to_z-of_z w64 c.fourth_power.result (record { sfits = c.fourth_power.type_inv }) ∙ c.fourth_power.ensures.value)
    ∙ fourth_of (numbers n) (operation c.args.op.now) _
    (to_z-of_z w64 c.vector_trace-trace.result (record { sfits = c.vector_trace-trace.type_inv }) ∙ c.vector_trace-trace.ensures.value))

pub returns-in-Sym2-clause-value : goal.returns-in-Sym2-clause-value
returns-in-Sym2-clause-value c n = subst (λ f. integer (numbers n) (to_z w64 (of_z w64 c.rest_of.result)) ≡ trace (form_matrix (numbers n) f (operation c.args.op.now)))
    (sym c.in-Sym2.is)
    (ap (integer (numbers n)) (to_z-of_z w64 c.rest_of.result (record { sfits = c.rest_of.type_inv }) ∙ c.rest_of.ensures.value
    ∙ ap₂ ◌-ℤ◌ (to_z-of_z w64 c.second_power-in-Sym2.result (record { sfits = c.second_power-in-Sym2.type_inv }) ∙ c.second_power-in-Sym2.ensures.value
    ∙ ap (λ t. t *ℤ t) (to_z-of_z w64 c.vector_trace-trace.result (record { sfits = c.vector_trace-trace.type_inv }) ∙ c.vector_trace-trace.ensures.value))
    (to_z-of_z w64 c.minors.result (record { sfits = c.minors.type_inv }) ∙ c.minors.ensures.value))
    ∙ symmetric_of (numbers n) (operation c.args.op.now).rotation)

pub returns-in-Anti2-clause-value : goal.returns-in-Anti2-clause-value
returns-in-Anti2-clause-value c n = subst (λ f. integer (numbers n) (to_z w64 (of_z w64 c.minors-in-Anti2.result)) ≡ trace (form_matrix (numbers n) f (operation c.args.op.now)))
    (sym c.in-Anti2.is)
    (ap (integer (numbers n)) (to_z-of_z w64 c.minors-in-Anti2.result (record { sfits = c.minors-in-Anti2.type_inv }) ∙ c.minors-in-Anti2.ensures.value)
    ∙ skew_of (numbers n) (operation c.args.op.now).rotation)
