use Rattle.std.proofs.Common.{◌≡◌, sym, ◌∙◌, ap, ap₂, subst, refl, ℕ, List, Bool, true, false, ◌<◌, length, get_or}
use Rattle.std.proofs.Common.{IfSome, is_some}
use Rattle.std.proofs.lemmas.List.{get_or_default}
use Rattle.std.specs.List.{HoldsAt}
use Rattle.irr_algebra.specs.Matrix.{◌⊖◌}
use Rattle.irr_space.specs.Operation.{◌⊙◌, translation}
use Rattle.irr_seitz.specs.Rotation.{rotation_of}
use Rattle.irr_seitz.specs.OperationMeaning.{operation}
use Rattle.irr_seitz.specs.declared.op.Op.{Op}
use Rattle.irr_cocycle.proofs.Operations.{translation_between}
use Rattle.irr_close.specs.StandsFor.{stands_for}
use Rattle.irr_little.proofs.Spaces.{canonical_at}
use Rattle.irr_little.proofs.Shifts.{small_pair, numbers_at, fits_shift, small_shift}
use Rattle.irr_close.proofs.SpaceGroups.{space_group}
use Rattle.irr_real.proofs.squares.doubled.Goals as goal

some_of : (b : Bool) → (b ≡ false → ⊥) → b ≡ true
some_of true h = refl
some_of false h = absurd (h refl)

-- an operation of a list, as that of an equal list
in_list : (xs ys : List Op) → xs ≡ ys → (i : ℕ) (g : Op) → g ≡ get_or xs i g → g ≡ get_or ys i g
in_list xs ys e i g h = h ∙ ap (λ (zs : List Op). get_or zs i g) e

in_length : (xs ys : List Op) → xs ≡ ys → (i : ℕ) → i < length ys → i < length xs
in_length xs ys e i l = subst (λ (zs : List Op). i < length zs) (sym e) l

pub compose-both-requires-clause-denominator : goal.compose-both-requires-clause-denominator
compose-both-requires-clause-denominator c = λ m h. small_pair c.ops-ops.result.now c.args.group.now.centrings.items
    c.ops-ops.ensures.canonical
    c.args.i c.index-ops-i.result
    (in_length c.ops-ops.result.now c.args.group.now.ops.items c.ops-ops.ensures.list c.args.i c.requires)
    c.index-ops-i.is c.args.i
    c.index-ops-i-2.result
    (in_length c.ops-ops.result.now c.args.group.now.ops.items c.ops-ops.ensures.list c.args.i c.requires)
    c.index-ops-i-2.is m h

pub compose-both-requires-clause-numerators : goal.compose-both-requires-clause-numerators
compose-both-requires-clause-numerators c = numbers_at c.ops-ops.result.now c.args.group.now.centrings.items
    c.ops-ops.ensures.canonical c.args.i
    c.index-ops-i.result
    (in_length c.ops-ops.result.now c.args.group.now.ops.items c.ops-ops.ensures.list c.args.i c.requires)
    c.index-ops-i.is

pub compose-both-requires-clause-other_numerators : goal.compose-both-requires-clause-other_numerators
compose-both-requires-clause-other_numerators c = numbers_at c.ops-ops.result.now c.args.group.now.centrings.items
    c.ops-ops.ensures.canonical
    c.args.i c.index-ops-i-2.result
    (in_length c.ops-ops.result.now c.args.group.now.ops.items c.ops-ops.ensures.list c.args.i c.requires)
    c.index-ops-i-2.is

pub unwrap-op-requires : goal.unwrap-op-requires
unwrap-op-requires c = some_of (is_some c.canonical.result) (λ e. c.canonical.ensures.none.0 e
    (operation c.compose-both.result)
    (subst (stands_for c.args.group.now) (sym c.compose-both.ensures)
    ((space_group c.args.group.now).is_group.has_product (operation c.index-ops-i.result)
    (operation c.index-ops-i-2.result)
    (subst (λ (g : Op). stands_for c.args.group.now (operation g)) (sym
    (in_list c.ops-ops.result.now c.args.group.now.ops.items c.ops-ops.ensures.list c.args.i c.index-ops-i.result
    c.index-ops-i.is))
    (canonical_at c.args.group.now c.index-ops-i.result c.args.i c.requires).member)
    (subst (λ (g : Op). stands_for c.args.group.now (operation g)) (sym
    (in_list c.ops-ops.result.now c.args.group.now.ops.items c.ops-ops.ensures.list c.args.i c.index-ops-i-2.result
    c.index-ops-i-2.is))
    (canonical_at c.args.group.now c.index-ops-i-2.result c.args.i c.requires).member))) refl)

pub difference-shift-requires : goal.difference-shift-requires
difference-shift-requires c = fits_shift c.ops-ops.result.now c.args.group.now.centrings.items
    c.ops-ops.ensures.canonical c.args.i
    c.index-ops-i.result
    (in_length c.ops-ops.result.now c.args.group.now.ops.items c.ops-ops.ensures.list c.args.i c.requires)
    c.index-ops-i.is c.args.i
    c.index-ops-i-2.result
    (in_length c.ops-ops.result.now c.args.group.now.ops.items c.ops-ops.ensures.list c.args.i c.requires)
    c.index-ops-i-2.is
    c.compose-both.result c.compose-both.ensures c.unwrap-op.result c.index-ops-place.result
    (in_length c.ops-ops.result.now c.args.group.now.ops.items c.ops-ops.ensures.list c.unwrap-op.result
    (subst (λ r. IfSome r (λ k. k < length c.args.group.now.ops.items)) c.unwrap-op.ensures
    c.canonical.ensures.within)) c.index-ops-place.is

pub returns-clause-small : goal.returns-clause-small
returns-clause-small c = small_shift c.ops-ops.result.now c.args.group.now.centrings.items c.ops-ops.ensures.canonical
    c.args.i c.index-ops-i.result
    (in_length c.ops-ops.result.now c.args.group.now.ops.items c.ops-ops.ensures.list c.args.i c.requires)
    c.index-ops-i.is c.args.i
    c.index-ops-i-2.result
    (in_length c.ops-ops.result.now c.args.group.now.ops.items c.ops-ops.ensures.list c.args.i c.requires)
    c.index-ops-i-2.is
    c.compose-both.result c.compose-both.ensures c.unwrap-op.result c.index-ops-place.result
    (in_length c.ops-ops.result.now c.args.group.now.ops.items c.ops-ops.ensures.list c.unwrap-op.result
    (subst (λ r. IfSome r (λ k. k < length c.args.group.now.ops.items)) c.unwrap-op.ensures
    c.canonical.ensures.within)) c.index-ops-place.is
    c.difference-shift.result c.difference-shift.ensures

pub returns-clause-product : goal.returns-clause-product
returns-clause-product c = record {
  below = within;
  is = λ d. ap₂ (λ (g h : Op). operation g ⊙ operation h) (sym
      (at c.args.i c.index-ops-i.result d c.requires c.index-ops-i.is)) (sym
      (at c.args.i c.index-ops-i-2.result d c.requires c.index-ops-i-2.is))
      ∙ sym c.compose-both.ensures
      ∙ translation_between (operation c.compose-both.result)
      (operation (get_or c.args.group.now.ops.items c.unwrap-op.result d))
      (sym (subst (λ r. IfSome r (λ k. HoldsAt (λ g.
      (operation g).rotation ≡ rotation_of c.compose-both.result.rot) c.args.group.now.ops.items k)) c.unwrap-op.ensures
      c.canonical.ensures.found d))
      ∙ ap (λ t. translation t ⊙ operation (get_or c.args.group.now.ops.items c.unwrap-op.result d))
      (sym (c.difference-shift.ensures ∙ ap (λ (g : Op). (operation c.compose-both.result).vector ⊖
      (operation g).vector)
      (at c.unwrap-op.result c.index-ops-place.result d within c.index-ops-place.is)));
}
  where
    within : c.unwrap-op.result < length c.args.group.now.ops.items
    within = subst (λ r. IfSome r (λ k. k < length c.args.group.now.ops.items)) c.unwrap-op.ensures
        c.canonical.ensures.within

    at : (i : ℕ) (g d : Op) → i < length c.args.group.now.ops.items → g ≡ get_or c.ops-ops.result.now i g → g
        ≡ get_or c.args.group.now.ops.items i d
    at i g d l e = in_list c.ops-ops.result.now c.args.group.now.ops.items c.ops-ops.ensures.list i g e
        ∙ get_or_default c.args.group.now.ops.items i g d l
