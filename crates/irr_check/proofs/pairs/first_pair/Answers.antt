-- The first pair that some matrix other than 0 intertwines.
use Rattle.std.proofs.Common.{rules, ◌≡◌, sym, subst, inl, inr, ℕ, ◌<◌, length, List, Option, None}
use Rattle.irr_space.specs.PhaseTable.{PhaseTable}
use Rattle.irr_cyc.specs.declared.scalars.Scalar.{Ghosts}
use Rattle.irr_report.specs.declared.report.RepText.{RepText}
use Rattle.irr_rep.specs.Twisted.{phase_table}
use Rattle.irr_check.specs.Pairs.{AreApartBelow, IsFirstBehind, IsFirstPair}
use Rattle.irr_check.proofs.RowDifferences.{before_or_at}
use Rattle.irr_check.proofs.pairs.first_pair.Goals as goal

-- none behind is not apart
none_behind : {S : Type 0} {G : Ghosts S} {h : ℕ} (T : PhaseTable h) (reps : List (RepText S G)) (a : ℕ) (r : Option ℕ) → r ≡ None
    → IsFirstBehind T reps a r → AreApartBelow T reps a (length reps)
unfolding IsFirstBehind
none_behind T reps a r e p = subst (IsFirstBehind T reps a) e p

pub returns-in-Some : goal.returns-in-Some
unfolding IsFirstPair
returns-in-Some g c = (
  subst (IsFirstBehind (phase_table c.args.t.now) c.args.reps.now c.loop-first.first) c.in-Some.is c.in_ok-second.ensures,
  c.loop-first.invariant,
)

pub loop-first-preserved : goal.loop-first-preserved
loop-first-preserved g c a below = elim (before_or_at a c.loop-first.first below) [
  | inl less ↦ c.loop-first.invariant a less
  | inr at ↦ subst (λ k. AreApartBelow (phase_table c.args.t.now) c.args.reps.now k (length c.args.reps.now)) (sym at)
      (none_behind (phase_table c.args.t.now) c.args.reps.now c.loop-first.first c.in_ok-second.field-0 c.in_default.is c.in_ok-second.ensures)
]

pub returns : goal.returns
unfolding IsFirstPair
returns g c =
    let done : c.loop-first.first ≡ length c.args.reps.now = search rules in
    λ a l. c.loop-first.invariant a (subst (λ k. a < k) (sym done) l)
