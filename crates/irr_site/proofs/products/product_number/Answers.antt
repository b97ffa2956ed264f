-- The product of the bare operations.
use Rattle.std.proofs.Common.{◌≡◌, sym, ◌∙◌, ap, ap₂, subst, refl, ℕ, List, Bool, true, false, ◌<◌, ◌≤◌, ◌^◌, length, get_or, IfSome, is_some, arith}
use native.Mathlib.Nat as Nat
use Rattle.std.specs.List.{HoldsAt}
use Rattle.std.specs.Int.{◌∣◌}
use Rattle.irr_algebra.specs.Matrix.{◌·◌}
use Rattle.irr_space.specs.Operation.{Operation, ◌⊙◌}
use Rattle.irr_cocycle.proofs.Operations.{rotation-op}
use Rattle.irr_rat.specs.Lcm.{IsLcm}
use Rattle.irr_seitz.specs.Rotation.{IsWithin, rotation_of}
use Rattle.irr_seitz.specs.OperationMeaning.{operation}
use Rattle.irr_seitz.specs.declared.op.Op.{Op}
use Rattle.irr_close.specs.StandsFor.{stands_for}
use Rattle.irr_close.proofs.SpaceGroups.{space_group}
use Rattle.irr_little.proofs.Shifts.{entries_at}
use Rattle.irr_little.proofs.Spaces.{canonical_at}
use Rattle.irr_site.proofs.OperationLists.{in_length, read_at}
use Rattle.irr_site.proofs.products.product_number.Goals as goal

some_of : (b : Bool) → (b ≡ false → ⊥) → b ≡ true
some_of true h = refl
some_of false h = absurd (h refl)

one_over_one : (b d m : ℕ) → b ≡ 1 → d ≡ 1 → IsLcm b d m → m ≤ 100000
one_over_one b d m p q l =
    let e : m ∣ 1 = l.2 1 (subst (λ n. n ∣ 1) (sym p) (Nat.dvd_refl 1)) (subst (λ n. n ∣ 1) (sym q) (Nat.dvd_refl 1)) in
    let f : m ≤ 1 = Nat.le_of_dvd (omega arith) e in
    omega (arith, f)

within : (c : goal.After-compose-arg-2-1) → IsWithin 9 (operation c.index-ops-i.result).rotation
within c = entries_at c.ops-ops.result.now c.args.group.now.centrings.items c.ops-ops.ensures.canonical c.args.i c.index-ops-i.result
    (in_length c.ops-ops.result.now c.args.group.now.ops.items c.ops-ops.ensures.list c.args.i c.requires.left) c.index-ops-i.is

other_within : (c : goal.After-compose-arg-2-1) → IsWithin 9 (operation c.index-ops-j.result).rotation
other_within c = entries_at c.ops-ops.result.now c.args.group.now.centrings.items c.ops-ops.ensures.canonical c.args.j c.index-ops-j.result
    (in_length c.ops-ops.result.now c.args.group.now.ops.items c.ops-ops.ensures.list c.args.j c.requires.right) c.index-ops-j.is

pub compose-both-requires-clause-entries : goal.compose-both-requires-clause-entries
compose-both-requires-clause-entries c = subst (IsWithin 9) (sym c.bare.ensures.rotation) (within c)

pub compose-both-requires-clause-other_entries : goal.compose-both-requires-clause-other_entries
compose-both-requires-clause-other_entries c = subst (IsWithin 9) (sym c.bare-2.ensures.rotation) (other_within c)

pub compose-both-requires-clause-denominator : goal.compose-both-requires-clause-denominator
compose-both-requires-clause-denominator c m l = one_over_one c.bare.result.den c.bare-2.result.den m c.bare.ensures.denominator c.bare-2.ensures.denominator l

pub compose-both-requires-clause-numerators : goal.compose-both-requires-clause-numerators
compose-both-requires-clause-numerators c i = Nat.le_trans (c.bare.ensures.numerators i) (omega arith)

pub compose-both-requires-clause-other_numerators : goal.compose-both-requires-clause-other_numerators
compose-both-requires-clause-other_numerators c i = Nat.le_trans (c.bare-2.ensures.numerators i) (omega arith)

-- the rotation of what was composed
both : (c : goal.After-canonical) → rotation_of c.compose-both.result.rot
    ≡ (operation c.index-ops-i.result).rotation · (operation c.index-ops-j.result).rotation
both c = ap (λ (g : Operation). g.rotation) c.compose-both.ensures ∙ rotation-op (operation c.bare.result) (operation c.bare-2.result)
    ∙ ap₂ (λ R S. R · S) c.bare.ensures.rotation c.bare-2.ensures.rotation

pub unwrap-requires : goal.unwrap-requires
unwrap-requires c =
    let group = c.args.group.now in
    let g = c.index-ops-i.result in
    let h = c.index-ops-j.result in
    some_of (is_some c.canonical.result) (λ e. c.canonical.ensures.none.0 e (operation g ⊙ operation h)
    ((space_group group).is_group.has_product (operation g) (operation h)
    (subst (λ (o : Op). stands_for group (operation o))
    (sym (read_at c.ops-ops.result.now group.ops.items c.ops-ops.ensures.list c.args.i g g c.requires.left c.index-ops-i.is))
    (canonical_at group g c.args.i c.requires.left).member)
    (subst (λ (o : Op). stands_for group (operation o))
    (sym (read_at c.ops-ops.result.now group.ops.items c.ops-ops.ensures.list c.args.j h h c.requires.right c.index-ops-j.is))
    (canonical_at group h c.args.j c.requires.right).member))
    (rotation-op (operation g) (operation h) ∙ sym (both c)))

pub returns : goal.returns
returns c =
    let group = c.args.group.now in record {
      below = subst (λ r. IfSome r (λ k. k < length group.ops.items)) c.unwrap.ensures c.canonical.ensures.within;
      is = λ d. subst (λ r. IfSome r (λ k. HoldsAt (λ (o : Op). (operation o).rotation ≡ rotation_of c.compose-both.result.rot) group.ops.items k))
          c.unwrap.ensures c.canonical.ensures.found d
          ∙ ap (λ (o : Operation). o.rotation) c.compose-both.ensures ∙ rotation-op (operation c.bare.result) (operation c.bare-2.result)
          ∙ ap₂ (λ R S. R · S) c.bare.ensures.rotation c.bare-2.ensures.rotation
          ∙ ap₂ (λ (o p : Op). (operation o).rotation · (operation p).rotation)
          (read_at c.ops-ops.result.now group.ops.items c.ops-ops.ensures.list c.args.i c.index-ops-i.result d c.requires.left c.index-ops-i.is)
          (read_at c.ops-ops.result.now group.ops.items c.ops-ops.ensures.list c.args.j c.index-ops-j.result d c.requires.right c.index-ops-j.is);
    }
