-- The first representation with which something is wrong by itself.
use Rattle.std.proofs.Common.{rules, ◌≡◌, sym, ◌∙◌, subst, inl, inr, ℕ, ◌<◌, length, get_or, Option, Some, None}
use Rattle.std.proofs.lemmas.List.{get_or_default}
use Rattle.irr_space.specs.PhaseTable.{PhaseTable}
use Rattle.irr_cyc.specs.declared.scalars.Scalar.{Ghosts}
use Rattle.irr_report.specs.declared.report.RepText.{RepText}
use Rattle.irr_rep.specs.Twisted.{phase_table, place_count}
use Rattle.irr_check.specs.declared.fault.Fault.{Fault}
use Rattle.irr_check.specs.Faults.{IsFirstFault, IsSound}
use Rattle.irr_report.specs.Limits.{IsChecked}
use Rattle.irr_check.specs.Listed.{IsFirstFaulty}
use Rattle.irr_check.proofs.RowDifferences.{before_or_at}
use Rattle.irr_check.proofs.families.first_faulty.Goals as goal

-- nothing is wrong
no_fault : {S : Type 0} {G : Ghosts S} {h : ℕ} (T : PhaseTable h) (t : RepText S G) (r : Option Fault) → r ≡ None → IsFirstFault T t r → IsSound T t
unfolding IsFirstFault
no_fault T t r e p = subst (IsFirstFault T t) e p

pub first_fault-requires-clause-checked : goal.first_fault-requires-clause-checked
first_fault-requires-clause-checked g c =
    let l : c.loop-rep.rep < length c.args.reps.now = search rules in
    subst (IsChecked (phase_table c.args.t.now).order (place_count c.args.t.now)) (sym c.index-reps-rep.is)
    (c.requires.checked c.loop-rep.rep c.index-reps-rep.result l)

pub returns-in-Some : goal.returns-in-Some
unfolding IsFirstFaulty
returns-in-Some g c =
    let l : c.loop-rep.rep < length c.args.reps.now = search rules in
    let T = phase_table c.args.t.now in (
      l,
      λ e. subst (λ u. IsFirstFault T u (Some c.in-Some.fault)) (c.index-reps-rep.is ∙ get_or_default c.args.reps.now c.loop-rep.rep c.index-reps-rep.result e l)
          (subst (IsFirstFault T c.index-reps-rep.result) c.in-Some.is c.in_ok-fault.ensures),
      c.loop-rep.invariant,
    )

pub loop-rep-preserved : goal.loop-rep-preserved
loop-rep-preserved g c k e below =
    let l : c.loop-rep.rep < length c.args.reps.now = search rules in
    let T = phase_table c.args.t.now in
    elim (before_or_at k c.loop-rep.rep below) [
      | inl less ↦ c.loop-rep.invariant k e less
      | inr at ↦ subst (λ n. IsSound T (get_or c.args.reps.now n e)) (sym at)
          (subst (IsSound T) (c.index-reps-rep.is ∙ get_or_default c.args.reps.now c.loop-rep.rep c.index-reps-rep.result e l)
          (no_fault T c.index-reps-rep.result c.in_ok-fault.field-0 c.in_default.is c.in_ok-fault.ensures))
    ]

pub returns : goal.returns
unfolding IsFirstFaulty
returns g c =
    let done : c.loop-rep.rep ≡ length c.args.reps.now = search rules in
    λ k d l. c.loop-rep.invariant k d (subst (λ n. k < n) (sym done) l)
