use Rattle.std.proofs.Common.{◌≡◌, ◌↔◌, sym, ◌∙◌, subst, true, List, length, rules}
use Rattle.std.specs.List.{All, HoldsAt}
use Rattle.irr_algebra.specs.Matrix.{◌·◌}
use Rattle.irr_space.specs.SpaceGroup.{Generated}
use Rattle.irr_rat.specs.declared.vec3.Vec3.{Vec3}
use Rattle.irr_seitz.specs.OperationMeaning.{operation}
use Rattle.irr_seitz.specs.declared.op.Op.{Op}
use Rattle.irr_close.specs.Limits.{operations}
use Rattle.irr_close.specs.Closing.{IsKept, HasProducts, HasRotation, AreSeeds}
use Rattle.irr_close.specs.Centring.{IsSettled}
use Rattle.irr_close.specs.Standing.{StandFor}
use Rattle.irr_close.specs.Canonical.{IsClosing}
use Rattle.irr_close.specs.Bare.{AreBare}
use Rattle.irr_close.specs.StandsFor.{stands_for, IsRefusal}
use Rattle.irr_close.proofs.Rotating.{seeds_numbers, seeds_small, kept_all, kept_generators}
use Rattle.irr_close.proofs.Bareness.{bare_numbers, bare_small, bare_refused, bare_few, seeds_refusal, centrings_refusal, group_stands, is_closing, accepted}
use Rattle.irr_close.proofs.Unimodular.{are_invertible}
use Rattle.irr_close.proofs.generation.close_distinct.Goals as goal

settled_at : (gs seeds others kept ops : List Op) (cs : List Vec3) → seeds ≡ others → kept ≡ ops → IsSettled gs seeds kept cs (length cs)
    → IsSettled gs others ops cs (length cs)
settled_at gs seeds others kept ops cs e f h = subst (λ xs. IsSettled gs others xs cs (length cs)) f
    (subst (λ xs. IsSettled gs xs kept cs (length cs)) e h)

pub close_centrings-requires-clause-invertible : goal.close_centrings-requires-clause-invertible
close_centrings-requires-clause-invertible c = are_invertible c.args.generators.now c.requires.unimodular

pub close_rotations-requires-clause-generators : goal.close_rotations-requires-clause-generators
close_rotations-requires-clause-generators c = bare_numbers c.deref.result.now c.deref-then-not-have_small_denominator.result.now
    (subst (λ xs. AreBare c.deref.result.now xs (length c.deref.result.now)) (sym c.deref-then-not-have_small_denominator.ensures.value)
    c.in_ok-bare.ensures.bare)
    (seeds_numbers c.args.generators.now c.deref.result.now
    (subst (λ xs. AreSeeds c.args.generators.now xs (length c.args.generators.now)) (sym c.deref.ensures.value) c.in_ok-seeds.ensures.seeds).from_list
    c.requires.generators)

pub close_rotations-requires-clause-denominator : goal.close_rotations-requires-clause-denominator
close_rotations-requires-clause-denominator c = bare_small c.deref.result.now c.deref-then-not-have_small_denominator.result.now
    (length c.deref.result.now)
    (subst (λ xs. AreBare c.deref.result.now xs (length c.deref.result.now)) (sym c.deref-then-not-have_small_denominator.ensures.value)
    c.in_ok-bare.ensures.bare)

pub returns-in_err-_ops-clause-refused : goal.returns-in_err-_ops-clause-refused
returns-in_err-_ops-clause-refused c =
    let r : IsRefusal c.args.generators.now c.in_err-_ops.field-0.0 = bare_refused c.args.generators.now c.deref.result.now
    c.deref-then-not-have_small_denominator.result.now c.in_err-_ops.field-0.0
    (subst (λ xs. AreBare c.deref.result.now xs (length c.deref.result.now)) (sym c.deref-then-not-have_small_denominator.ensures.value)
    c.in_ok-bare.ensures.bare) (subst (λ xs. AreSeeds c.args.generators.now xs (length c.args.generators.now)) (sym c.deref.ensures.value)
    c.in_ok-seeds.ensures.seeds).from_list c.in_err-_ops.ensures.refused in
    search rules

pub returns-then-not-have_small_denominator-clause-refused : goal.returns-then-not-have_small_denominator-clause-refused
returns-then-not-have_small_denominator-clause-refused c = (
  bare_few c.args.generators.now c.deref.result.now c.deref-then-not-have_small_denominator.result.now c.in_ok-_ops._ops.items
      (are_invertible c.args.generators.now c.requires.unimodular)
      (subst (λ xs. AreSeeds c.args.generators.now xs (length c.args.generators.now)) (sym c.deref.ensures.value) c.in_ok-seeds.ensures.seeds)
      (subst (λ xs. AreBare c.deref.result.now xs (length c.deref.result.now)) (sym c.deref-then-not-have_small_denominator.ensures.value)
      c.in_ok-bare.ensures.bare) c.in_ok-_ops.ensures.partial c.in_ok-_ops.ensures.products,
  λ h. let t : c.have_small_denominator.result ≡ true = c.have_small_denominator.ensures.1 h in absurd (cc),
)

pub close_rotations-requires-2-clause-generators : goal.close_rotations-requires-2-clause-generators
close_rotations-requires-2-clause-generators c =
    seeds_numbers c.args.generators.now c.deref-2.result.now
    (subst (λ xs. AreSeeds c.args.generators.now xs (length c.args.generators.now)) (sym c.deref-2.ensures.value)
    c.in_ok-seeds.ensures.seeds).from_list c.requires.generators

pub close_rotations-requires-2-clause-denominator : goal.close_rotations-requires-2-clause-denominator
close_rotations-requires-2-clause-denominator c =
    seeds_small c.args.generators.now c.deref-2.result.now
    (subst (λ xs. AreSeeds c.args.generators.now xs (length c.args.generators.now)) (sym c.deref-2.ensures.value)
    c.in_ok-seeds.ensures.seeds).from_list
    (c.have_small_denominator.ensures.0 (let t : c.have_small_denominator.result ≡ true = c.if-not-have_small_denominator.false in t))

pub returns-in_err-ops-clause-refused : goal.returns-in_err-ops-clause-refused
returns-in_err-ops-clause-refused c =
    let r : IsRefusal c.args.generators.now c.in_err-ops.field-0.0 = seeds_refusal c.args.generators.now c.deref-2.result.now c.in_err-ops.field-0.0
    (subst (λ xs. AreSeeds c.args.generators.now xs (length c.args.generators.now)) (sym c.deref-2.ensures.value)
    c.in_ok-seeds.ensures.seeds).from_list c.in_err-ops.ensures.refused in
    search rules

pub close_centrings-requires-clause-kept : goal.close_centrings-requires-clause-kept
close_centrings-requires-clause-kept c = subst (All (IsKept c.args.generators.now)) (sym c.deref-4.ensures.value)
    (kept_all c.args.generators.now c.deref-2.result.now c.in_ok-ops.ops.items (are_invertible c.args.generators.now c.requires.unimodular)
    (subst (λ xs. AreSeeds c.args.generators.now xs (length c.args.generators.now)) (sym c.deref-2.ensures.value) c.in_ok-seeds.ensures.seeds)
    c.in_ok-ops.ensures.partial c.in_ok-ops.ensures.products)

pub close_centrings-requires-clause-rotations : goal.close_centrings-requires-clause-rotations
close_centrings-requires-clause-rotations c =
    subst (λ xs. HoldsAt (λ g. All (λ s. HasRotation xs ((operation g).rotation · (operation s).rotation)) c.args.generators.now) xs 0)
    (sym c.deref-4.ensures.value)
    (kept_generators c.args.generators.now c.deref-2.result.now c.in_ok-ops.ops.items (are_invertible c.args.generators.now c.requires.unimodular)
    (subst (λ xs. AreSeeds c.args.generators.now xs (length c.args.generators.now)) (sym c.deref-2.ensures.value) c.in_ok-seeds.ensures.seeds)
    c.in_ok-ops.ensures.partial c.in_ok-ops.ensures.products)

pub close_centrings-requires-clause-seeds : goal.close_centrings-requires-clause-seeds
close_centrings-requires-clause-seeds c = (subst (λ xs. AreSeeds c.args.generators.now xs (length c.args.generators.now)) (sym c.deref-3.ensures.value)
    c.in_ok-seeds.ensures.seeds).from_list

pub close_centrings-requires-clause-products : goal.close_centrings-requires-clause-products
close_centrings-requires-clause-products c = let seeds_are : c.deref-3.result.now ≡ c.deref-2.result.now = c.deref-3.ensures.value ∙ sym c.deref-2.ensures.value in
    subst (λ xs. All (λ g. HasProducts c.deref-4.result.now (operation g).rotation xs (length xs)) c.deref-4.result.now) (sym seeds_are)
    (subst (λ xs. All (λ g. HasProducts xs (operation g).rotation c.deref-2.result.now (length c.deref-2.result.now)) xs) (sym c.deref-4.ensures.value)
    c.in_ok-ops.ensures.products)

pub returns-in_err-centrings-clause-refused : goal.returns-in_err-centrings-clause-refused
returns-in_err-centrings-clause-refused c =
    let r : IsRefusal c.args.generators.now c.in_err-centrings.field-0.0 = centrings_refusal c.args.generators.now c.deref-2.result.now
    c.in_ok-ops.ops.items c.in_err-centrings.field-0.0 (are_invertible c.args.generators.now c.requires.unimodular)
    (subst (λ xs. AreSeeds c.args.generators.now xs (length c.args.generators.now)) (sym c.deref-2.ensures.value) c.in_ok-seeds.ensures.seeds)
    c.in_ok-ops.ensures.partial c.in_ok-ops.ensures.products
    (c.have_small_denominator.ensures.0 (let t : c.have_small_denominator.result ≡ true = c.if-not-have_small_denominator.false in t))
    c.in_err-centrings.ensures.refused in
    search rules

pub new-requires-clause-closing : goal.new-requires-clause-closing
new-requires-clause-closing c = subst (λ xs. IsClosing xs c.in_ok-centrings.centrings.items) (sym c.as_slice.ensures.value)
    (is_closing c.args.generators.now c.deref-2.result.now c.in_ok-ops.ops.items c.in_ok-centrings.centrings.items
    (are_invertible c.args.generators.now c.requires.unimodular)
    (subst (λ xs. AreSeeds c.args.generators.now xs (length c.args.generators.now)) (sym c.deref-2.ensures.value) c.in_ok-seeds.ensures.seeds)
    c.in_ok-ops.ensures.partial c.in_ok-ops.ensures.products c.in_ok-centrings.ensures.lattice
    (settled_at c.args.generators.now c.deref-3.result.now c.deref-2.result.now c.deref-4.result.now c.in_ok-ops.ops.items
    c.in_ok-centrings.centrings.items (c.deref-3.ensures.value ∙ sym c.deref-2.ensures.value) c.deref-4.ensures.value c.in_ok-centrings.ensures.settled)
    (c.have_small_denominator.ensures.0 (let t : c.have_small_denominator.result ≡ true = c.if-not-have_small_denominator.false in t)))

pub new-requires-clause-generated : goal.new-requires-clause-generated
new-requires-clause-generated c = record {
  generators = operations c.args.generators.now;
  same = λ g. subst (λ xs. StandFor xs c.in_ok-centrings.centrings.items g ↔ Generated (operations c.args.generators.now) g)
      (sym c.as_slice.ensures.value)
      (group_stands c.args.generators.now c.deref-2.result.now c.in_ok-ops.ops.items c.in_ok-centrings.centrings.items
      (are_invertible c.args.generators.now c.requires.unimodular)
      (subst (λ xs. AreSeeds c.args.generators.now xs (length c.args.generators.now)) (sym c.deref-2.ensures.value) c.in_ok-seeds.ensures.seeds)
      c.in_ok-ops.ensures.partial c.in_ok-ops.ensures.products c.in_ok-centrings.ensures.lattice
      (settled_at c.args.generators.now c.deref-3.result.now c.deref-2.result.now c.deref-4.result.now c.in_ok-ops.ops.items
      c.in_ok-centrings.centrings.items (c.deref-3.ensures.value ∙ sym c.deref-2.ensures.value) c.deref-4.ensures.value c.in_ok-centrings.ensures.settled) g);
}

pub returns-clause-group : goal.returns-clause-group
returns-clause-group c = λ g.
    let stands = group_stands c.args.generators.now c.deref-2.result.now c.in_ok-ops.ops.items c.in_ok-centrings.centrings.items
    (are_invertible c.args.generators.now c.requires.unimodular)
    (subst (λ xs. AreSeeds c.args.generators.now xs (length c.args.generators.now)) (sym c.deref-2.ensures.value) c.in_ok-seeds.ensures.seeds)
    c.in_ok-ops.ensures.partial c.in_ok-ops.ensures.products c.in_ok-centrings.ensures.lattice
    (settled_at c.args.generators.now c.deref-3.result.now c.deref-2.result.now c.deref-4.result.now c.in_ok-ops.ops.items
    c.in_ok-centrings.centrings.items (c.deref-3.ensures.value ∙ sym c.deref-2.ensures.value) c.deref-4.ensures.value c.in_ok-centrings.ensures.settled) g in
    let made = subst (λ xs. stands_for c.in_ok-group.group g ↔ StandFor xs c.in_ok-centrings.centrings.items g) c.as_slice.ensures.value
    (c.in_ok-group.ensures.group g) in
    (λ h. stands.0 (made.0 h), λ h. made.1 (stands.1 h))

pub returns-clause-accepted : goal.returns-clause-accepted
returns-clause-accepted c = accepted c.args.generators.now c.deref-2.result.now c.in_ok-ops.ops.items c.in_ok-centrings.centrings.items
    (are_invertible c.args.generators.now c.requires.unimodular)
    (subst (λ xs. AreSeeds c.args.generators.now xs (length c.args.generators.now)) (sym c.deref-2.ensures.value) c.in_ok-seeds.ensures.seeds)
    c.in_ok-ops.ensures.partial c.in_ok-ops.ensures.products c.in_ok-centrings.ensures.lattice
    (settled_at c.args.generators.now c.deref-3.result.now c.deref-2.result.now c.deref-4.result.now c.in_ok-ops.ops.items
    c.in_ok-centrings.centrings.items (c.deref-3.ensures.value ∙ sym c.deref-2.ensures.value) c.deref-4.ensures.value c.in_ok-centrings.ensures.settled)
    (c.have_small_denominator.ensures.0 (let t : c.have_small_denominator.result ≡ true = c.if-not-have_small_denominator.false in t))
