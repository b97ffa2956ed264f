-- The verdict on families.
use Rattle.std.proofs.Common.{rules, ◌≡◌, sym, subst, ℕ, ◌<◌, ◌≤◌, ◌*◌, length, All, sum_by, Some, List, arith}
use Rattle.irr_space.specs.PhaseTable.{PhaseTable}
use Rattle.irr_cyc.specs.declared.scalars.Scalar.{Ghosts}
use Rattle.irr_report.specs.declared.report.RepText.{RepText}
use Rattle.irr_rep.specs.Twisted.{phase_table, place_count}
use Rattle.irr_check.specs.declared.pairs.Pair.{Pair}
use Rattle.irr_report.specs.Limits.{IsChecked}
use Rattle.irr_check.specs.Listed.{IsFirstFaulty, families_of}
use Rattle.irr_check.specs.Pairs.{IsFirstBehind, IsFirstPair}
use Rattle.irr_check.specs.Trials.Reading.{dimensions}
use Rattle.irr_check.specs.Verdict.{IsFamiliesVerdict}
use Rattle.irr_check.proofs.ListedFamilies.{all_sound, faulty_inside, faulty_small, faulty_verdict_is, missing_verdict_is, pair_verdict_is, yes_verdict_is}
use Rattle.irr_check.proofs.families.families_verdict.Goals as goal

-- the pair is in the list
pair_inside : {S : Type 0} {G : Ghosts S} {h : ℕ} (T : PhaseTable h) (reps : List (RepText S G)) (p : Pair) → IsFirstPair T reps (Some p)
    → (p.first < p.second) × (p.second < length reps)
unfolding IsFirstPair IsFirstBehind
pair_inside T reps p q = (q.0.0, q.0.1)

-- the representations have at most 48 rows
few_rows : {S : Type 0} {G : Ghosts S} (n h : ℕ) (reps : List (RepText S G)) → All (IsChecked n h) reps → All (λ t. t.family.dim ≤ 48) reps
few_rows n h reps checked k d l = (checked k d l).family.few

pub verdict-verdict-requires-clause-rep : goal.verdict-verdict-requires-clause-rep
verdict-verdict-requires-clause-rep g c =
    let T = phase_table c.args.t.now in
    let i = faulty_inside T c.args.reps.now c.in-Some.faulty (subst (IsFirstFaulty T c.args.reps.now) c.in-Some.is c.in_ok-faulty.ensures) in
    let few = c.requires.few in
    omega (arith, i, few)

pub verdict-verdict-requires-clause-fault : goal.verdict-verdict-requires-clause-fault
verdict-verdict-requires-clause-fault g c =
    let T = phase_table c.args.t.now in
    faulty_small T c.args.reps.now c.in-Some.faulty c.args.t.now.places_within (subst (IsFirstFaulty T c.args.reps.now) c.in-Some.is c.in_ok-faulty.ensures)

pub returns-in-Some : goal.returns-in-Some
returns-in-Some g c =
    let T = phase_table c.args.t.now in
    subst (IsFamiliesVerdict dimensions T (families_of T c.args.reps.now)) (sym c.verdict-verdict.ensures)
    (faulty_verdict_is T c.args.reps.now c.in-Some.faulty (subst (IsFirstFaulty T c.args.reps.now) c.in-Some.is c.in_ok-faulty.ensures))

pub first_pair-requires-clause-sound : goal.first_pair-requires-clause-sound
first_pair-requires-clause-sound g c =
    let T = phase_table c.args.t.now in
    all_sound T c.args.reps.now (subst (IsFirstFaulty T c.args.reps.now) c.in_default.is c.in_ok-faulty.ensures)

pub overflow_add-result : goal.overflow_add-result
overflow_add-result g c =
    let T = phase_table c.args.t.now in
    let i = pair_inside T c.args.reps.now c.in-Some-2.pair (subst (IsFirstPair T c.args.reps.now) c.in-Some-2.is c.in_ok-pair.ensures) in
    let few = c.requires.few in
    let a = i.0 in
    let b = i.1 in
    let l : c.in-Some-2.pair.first < 48 = omega (arith, a, b, few) in
    search rules

pub overflow_add-result-in-Some-2 : goal.overflow_add-result-in-Some-2
overflow_add-result-in-Some-2 g c =
    let T = phase_table c.args.t.now in
    let i = pair_inside T c.args.reps.now c.in-Some-2.pair (subst (IsFirstPair T c.args.reps.now) c.in-Some-2.is c.in_ok-pair.ensures) in
    let few = c.requires.few in
    let b = i.1 in
    let l : c.in-Some-2.pair.second < 48 = omega (arith, b, few) in
    search rules

pub returns-in-Some-2 : goal.returns-in-Some-2
returns-in-Some-2 g c =
    let T = phase_table c.args.t.now in
    let reps = c.args.reps.now in
    let sound = all_sound T reps (subst (IsFirstFaulty T reps) c.in_default.is c.in_ok-faulty.ensures) in
    pair_verdict_is T reps sound c.in-Some-2.pair (subst (IsFirstPair T reps) c.in-Some-2.is c.in_ok-pair.ensures)

pub sum_of_squares-requires-clause-small : goal.sum_of_squares-requires-clause-small
sum_of_squares-requires-clause-small g c =
    few_rows (phase_table c.args.t.now).order (place_count c.args.t.now) c.args.reps.now c.requires.checked

pub returns-then-sum_of_squares-len : goal.returns-then-sum_of_squares-len
returns-then-sum_of_squares-len g c =
    let T = phase_table c.args.t.now in
    let reps = c.args.reps.now in
    let sound = all_sound T reps (subst (IsFirstFaulty T reps) c.in_default.is c.in_ok-faulty.ensures) in
    let none = subst (IsFirstPair T reps) c.in_default-2.is c.in_ok-pair.ensures in
    let other : ¬ (sum_by (λ t. t.family.dim * t.family.dim) reps ≡ place_count c.args.t.now) = search rules in
    missing_verdict_is T reps sound none other

pub returns : goal.returns
returns g c =
    let T = phase_table c.args.t.now in
    let reps = c.args.reps.now in
    let sound = all_sound T reps (subst (IsFirstFaulty T reps) c.in_default.is c.in_ok-faulty.ensures) in
    let none = subst (IsFirstPair T reps) c.in_default-2.is c.in_ok-pair.ensures in
    let e : sum_by (λ t. t.family.dim * t.family.dim) reps ≡ place_count c.args.t.now = search rules in
    yes_verdict_is T reps sound none e
