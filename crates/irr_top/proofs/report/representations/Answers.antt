-- One representation more.
use Rattle.std.proofs.Common.{◌≡◌, sym, refl, ◌∙◌, ap, subst, ℕ, [], ◌∷◌, ◌++◌, List, length, map, arith}
use Rattle.std.specs.List.{All}
use Rattle.std.proofs.lemmas.List.Elements.{All-head, All-tail, All-push}
use Rattle.irr_rep.specs.declared.family.Family.{Family}
use Rattle.irr_rep.specs.Twisted.{phase_table, place_count}
use Rattle.irr_report.specs.declared.report.RepText.{RepText}
use Rattle.irr_top.specs.Members.{HasTraces, IsMember}
use Rattle.irr_top.proofs.Members.{moved, all_moved}
use Rattle.irr_top.proofs.report.representations.Goals as goal

none_left : {A : Type 0} (xs : List A) (n : ℕ) → n ≡ length xs → n ≡ 0 → xs ≡ []
none_left [] n e z = refl
none_left (x ∷ xs) n e z = absurd (omega (arith, e, z))

pub loop-family-init : goal.loop-family-init
loop-family-init g c =
    let gives = c.into_iter-family-iterator.ensures.into_iter_gives.0 in
    let none = c.new-reps.ensures.items in
    let rest = c.into_iter-family-iterator.result.rest.items in
    record {
      families = ap (λ (rs : List (RepText g.row.S.Denot g.S.Scalar)).
          map (λ (r : RepText g.row.S.Denot g.S.Scalar). r.family) rs ++ rest) none ∙ gives;
      members = subst (All (IsMember {G = g.S.Scalar} (phase_table c.args.t.now).order (place_count c.args.t.now))) (sym gives) c.requires.members;
      traces = subst (All (HasTraces {G = g.S.Scalar} (phase_table c.args.t.now).order (place_count c.args.t.now))) (sym none)
          (λ k d l. absurd (omega arith));
    }

pub representation-requires-clause-member : goal.representation-requires-clause-member
representation-requires-clause-member g c =
    let P : Family g.row.S.Denot g.S.Scalar → Type 0 = IsMember (phase_table c.args.t.now).order (place_count c.args.t.now) in
    All-head P c.in-Some.family c.next.new.self.rest.items (subst (All P) c.in-Some.ensures.steps.0 c.loop-family.invariant.members)

pub loop-family-preserved : goal.loop-family-preserved
loop-family-preserved g c =
    let P : Family g.row.S.Denot g.S.Scalar → Type 0 = IsMember (phase_table c.args.t.now).order (place_count c.args.t.now) in
    let Q : RepText g.row.S.Denot g.S.Scalar → Type 0 = HasTraces (phase_table c.args.t.now).order (place_count c.args.t.now) in
    let items = c.in_ok-push.ensures.items in
    record {
      families = moved (λ (r : RepText g.row.S.Denot g.S.Scalar). r.family) c.loop-family.reps.items c.push.new.self.items c.in_ok-rep.rep
          c.loop-family.family-iterator.rest.items c.next.new.self.rest.items c.args.families.items c.in-Some.family items c.in_ok-rep.ensures.family
          c.in-Some.ensures.steps.0 c.loop-family.invariant.families;
      members = All-tail P c.in-Some.family c.next.new.self.rest.items (subst (All P) c.in-Some.ensures.steps.0 c.loop-family.invariant.members);
      traces = subst (All Q) (sym items) (All-push Q c.loop-family.reps.items c.in_ok-rep.rep
          c.loop-family.invariant.traces c.in_ok-rep.ensures.traces);
    }

pub returns-clause-families : goal.returns-clause-families
returns-clause-families g c =
    let rest = c.loop-family.family-iterator.rest in
    all_moved (λ (r : RepText g.row.S.Denot g.S.Scalar). r.family) c.loop-family.reps.items rest.items c.args.families.items
    (none_left rest.items rest.len rest.ok.0 c.in-None.ensures.steps.0) c.loop-family.invariant.families

pub returns-clause-traces : goal.returns-clause-traces
returns-clause-traces g c = c.loop-family.invariant.traces
