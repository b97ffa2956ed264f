-- One place more.
use Rattle.std.proofs.Common.{◌≡◌, ◌<◌, ◌≤◌, ◌∷◌, [], ◌++◌, ◌+◌, true, false, length, replicate, All, sym, ◌∙◌, subst, rules, set}
use Rattle.std.proofs.lemmas.List.{get_or_default}
use Rattle.std.proofs.lemmas.List.Elements.{All-push}
use Rattle.irr_rep.specs.Generators.{Grows}
use Rattle.irr_rep.specs.Twisted.{phase_table, place_count}
use Rattle.irr_rep.proofs.Markings.{Generating, generating-end, generating-skip, generating-start, generating-step, written}
use Rattle.irr_rep.proofs.generators.generators.Goals as goal

pub loop-i-init : goal.loop-i-init
loop-i-init c =
    let T = phase_table c.args.t.now in
    let h = place_count c.args.t.now in
    let marks = c.in_ok-marks.marks.items in
    let same : marks ≡ replicate h false = search rules in
    let size : length marks ≡ h = search rules in
    record {
      below = search rules;
      generating = subst (λ v. Generating T v marks 1) (sym c.new-generators.ensures.items) (generating-start T marks same size);
    }

pub loop-i-preserved-then-index : goal.loop-i-preserved-then-index
loop-i-preserved-then-index c =
    let marks = c.loop-i.marks.items in
    let i = c.loop-i.i in
    let l : i < length marks =
    subst (λ k. i < k) (c.len-i-end.ensures.count ∙ sym c.loop-i.invariant.generating.count) c.loop-i-test.true in
    record {
      below = c.loop-i.invariant.below;
      generating = generating-skip (phase_table c.args.t.now) c.loop-i.generators.items marks i c.loop-i.invariant.generating
          (get_or_default marks i false c.index.result.now l ∙ sym c.index.ensures ∙ c.if-index.true);
    }

pub loop-i-preserved : goal.loop-i-preserved
loop-i-preserved c =
    let T = phase_table c.args.t.now in
    let h = place_count c.args.t.now in
    let places = c.loop-i.generators.items in
    let marks = c.loop-i.marks.items in
    let new = c.close.new.marks in
    let i = c.loop-i.i in
    let items : c.push.new.self.items ≡ places ++ i ∷ [] = c.in_ok-push.ensures.items in
    let slice : c.as_slice.result.now ≡ places ++ i ∷ [] = c.as_slice.ensures.value ∙ items in
    let first : c.deref_mut.result.now ≡ set marks i true = c.deref_mut.ensures.value in
    let size : c.loop-i.marks.len ≡ length new = search rules in
    let within : i < h = subst (λ k. i < k) c.len-i-end.ensures.count c.loop-i-test.true in
    let grows : Grows T (places ++ i ∷ []) (set marks i true) new =
    subst (λ v. Grows T v (set marks i true) new) slice (subst (λ v. Grows T c.as_slice.result.now v new) first c.close.ensures) in
    record {
      below = subst (All (λ k. k < h)) (sym items) (All-push (λ k. k < h) places i c.loop-i.invariant.below within);
      generating = subst (λ v. Generating T c.push.new.self.items v (i + 1)) (sym (written c.loop-i.marks.len new (set marks i true) size))
          (subst (λ v. Generating T v new (i + 1)) (sym items)
          (generating-step T places marks new i c.loop-i.invariant.generating within grows));
    }

pub returns-clause-generate : goal.returns-clause-generate
returns-clause-generate c =
    generating-end (phase_table c.args.t.now) c.loop-i.generators.items c.loop-i.marks.items c.loop-i.i c.loop-i.invariant.generating
    (subst (λ k. k ≤ c.loop-i.i) c.len-i-end.ensures.count c.loop-i-test.false)
