-- The families of the list are induced on the star of its table.
use Rattle.std.proofs.Common.{sym, subst, refl, List}
use Rattle.std.specs.List.{All}
use Rattle.irr_kvec.specs.WaveMeaning.{wave_vector}
use Rattle.irr_rep.specs.Twisted.{phase_table}
use Rattle.irr_rep.specs.declared.family.Family.{Family}
use Rattle.irr_star.proofs.WaveLimits.{arms_limited}
use Rattle.irr_mult.proofs.StarFacts.{steps_here}
use Rattle.irr_side.specs.Sides.{AreInducedFrom, IsInducible}
use Rattle.irr_side.proofs.SideLists.{inducible, side_of_list}
use native.Mathlib.Nat as Nat
use Rattle.irr_side.proofs.sides.side_of.Goals as goal

pub small_list-requires-clause-steps : goal.small_list-requires-clause-steps
small_list-requires-clause-steps g c = let r = c.requires.order in
    steps_here c.args.group.now c.args.wave.now c.in_ok-table.table c.in_ok-table.ensures.table r.0 r.0 r.1 (Nat.dvd_refl r.0)

pub induced-requires-clause-families : goal.induced-requires-clause-families
induced-requires-clause-families g c = subst (λ (fs : List (Family _ _)). All (IsInducible c.args.group.now c.in_ok-star.star.arms.items c.in_ok-table.table) fs)
    (sym c.deref.ensures.value)
    (inducible c.args.group.now c.args.wave.now c.in_ok-star.star.arms.items c.in_ok-table.table c.in_ok-star.ensures
    c.in_ok-table.ensures.table c.in_ok-families.families.items c.in_ok-families.ensures.list c.in_ok-families.ensures.sizes)

pub induced-requires-clause-limits : goal.induced-requires-clause-limits
induced-requires-clause-limits g c = arms_limited c.args.group.now c.args.wave.now c.in_ok-star.star.arms.items c.requires.limits c.in_ok-star.ensures

pub returns : goal.returns
returns g c =
    let arms = c.in_ok-star.star.arms.items in
    let t = c.in_ok-table.table in
    side_of_list c.args.group.now c.args.wave.now arms t c.in_ok-star.ensures c.in_ok-table.ensures.table
    c.in_ok-families.families.items c.in_ok-families.ensures.list c.in_ok-families.ensures.sizes
    (record { star = c.in_ok-star.star; fulls = c.in_ok-fulls.fulls }) refl
    (arms_limited c.args.group.now c.args.wave.now arms c.requires.limits c.in_ok-star.ensures)
    (subst (λ (xs : List (Family _ _)). AreInducedFrom c.args.group.now arms t xs c.in_ok-fulls.fulls.items) c.deref.ensures.value c.in_ok-fulls.ensures)
