-- The tables, positions and splits of a level are its step.
use Rattle.std.proofs.Common.{◌≡◌, ◌<◌, sym, ◌∙◌, ap, subst, refl, ℕ, length, slice_index, Contains}
use Rattle.irr_rep.specs.Subgroup.{IsRestriction}
use Rattle.irr_rep.specs.Twisted.{phase_table, place_count}
use Rattle.irr_climb.specs.Splits.{HasSplit, IsSplit}
use Rattle.irr_climb.proofs.StepOf.{ArePlaced, level_inside, level_splits, step_of}
use Rattle.irr_climb.proofs.step.Step.new.Goals as goal

pub positions-requires-clause-inside : goal.positions-requires-clause-inside
positions-requires-clause-inside c =
    subst (λ xs. (a : ℕ) → a < length xs → Contains c.args.outer.now (slice_index xs a)) (sym c.as_slice-2.ensures.value)
    (level_inside (phase_table c.args.t.now) c.args.level.now c.args.outer.now c.requires)

pub split_all-requires-clause-exist : goal.split_all-requires-clause-exist
split_all-requires-clause-exist c =
    let T = phase_table c.args.t.now in
    let level = c.args.level.now in
    let outer = c.args.outer.now in
    let members = c.in_ok-members.members.items in
    let S = phase_table c.in_ok-inner.inner in
    let U = phase_table c.in_ok-large.large in
    let low : IsRestriction T level.members.items S = subst (λ xs. IsRestriction T xs S) c.as_slice.ensures.value c.in_ok-inner.ensures.table in
    let placed : ArePlaced level outer members c.position-generator.result = record {
      count = c.in_ok-members.ensures.count ∙ ap length c.as_slice-2.ensures.value;
      within = subst (λ xs. (a : ℕ) → a < length xs → slice_index members a < length outer) c.as_slice-2.ensures.value c.in_ok-members.ensures.within;
      values = subst (λ xs. (a : ℕ) → a < length xs → slice_index outer (slice_index members a) ≡ slice_index xs a) c.as_slice-2.ensures.value
          c.in_ok-members.ensures.values;
      generator_within = c.position-generator.ensures.within;
      generator_value = c.position-generator.ensures.value;
    } in
    subst (λ xs. (x : ℕ) → x < place_count c.in_ok-large.large → HasSplit U xs c.position-generator.result level.p x) (sym c.as_slice-3.ensures.value)
    (level_splits T level outer c.requires S U low c.in_ok-large.ensures.table members c.position-generator.result placed)

pub returns : goal.returns
returns c M divides positive =
    let T = phase_table c.args.t.now in
    let level = c.args.level.now in
    let outer = c.args.outer.now in
    let members = c.in_ok-members.members.items in
    let g = c.position-generator.result in
    let S = phase_table c.in_ok-inner.inner in
    let U = phase_table c.in_ok-large.large in
    let low : IsRestriction T level.members.items S = subst (λ xs. IsRestriction T xs S) c.as_slice.ensures.value c.in_ok-inner.ensures.table in
    let placed : ArePlaced level outer members g = record {
      count = c.in_ok-members.ensures.count ∙ ap length c.as_slice-2.ensures.value;
      within = subst (λ xs. (a : ℕ) → a < length xs → slice_index members a < length outer) c.as_slice-2.ensures.value c.in_ok-members.ensures.within;
      values = subst (λ xs. (a : ℕ) → a < length xs → slice_index outer (slice_index members a) ≡ slice_index xs a) c.as_slice-2.ensures.value
          c.in_ok-members.ensures.values;
      generator_within = c.position-generator.ensures.within;
      generator_value = c.position-generator.ensures.value;
    } in
    let splits = c.in_ok-splits.splits in
    step_of T level outer c.requires _ low c.in_ok-large.ensures.table placed refl c.in_ok-splits.ensures.exponents c.in_ok-splits.ensures.parts
    (subst (λ xs. (x : ℕ) → x < place_count c.in_ok-large.large → IsSplit U xs g level.p x (slice_index splits.exponents.items x)
    (slice_index splits.parts.items x))
    c.as_slice-3.ensures.value c.in_ok-splits.ensures.splits) M divides positive
