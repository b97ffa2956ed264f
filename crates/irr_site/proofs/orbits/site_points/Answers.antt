-- One point more.
use Rattle.std.proofs.Common.{◌≡◌, sym, ◌∙◌, ap, subst, ℕ, [], ◌∷◌, ◌+◌, ◌≤◌, ◌⊎◌, length, length-append, get_or, slice_index}
use native.Mathlib.Nat as Nat
use Rattle.irr_algebra.specs.Matrix.{◌⊖◌}
use Rattle.irr_rational.specs.Rational.{IsWhole}
use Rattle.irr_space.specs.Operation.{Vector, component}
use Rattle.irr_rat.specs.VectorMeaning.{vector}
use Rattle.irr_rat.specs.declared.vec3.Vec3.{Vec3}
use Rattle.irr_seitz.specs.OperationMeaning.{operation}
use Rattle.irr_seitz.specs.declared.op.Op.{Op}
use Rattle.irr_close.proofs.Denominators.{small_numerators}
use Rattle.irr_little.proofs.Shifts.{cell_of, denominator_at}
use Rattle.irr_mult.proofs.StarFacts.{pushed}
use Rattle.irr_orbit.specs.Site.{image}
use Rattle.irr_site.specs.Orbits.{IsBroughtIn}
use Rattle.irr_site.proofs.OperationLists.{in_length, read_at}
use Rattle.irr_site.proofs.orbits.site_points.Goals as goal

pub image_of-requires-clause-denominator : goal.image_of-requires-clause-denominator
image_of-requires-clause-denominator c =
    let group = c.args.group.now in
    let p = slice_index c.args.sites.now c.loop-site.site-index in
    denominator_at c.ops-ops.result.now group.centrings.items c.ops-ops.ensures.canonical p c.index-ops-site.result
    (in_length c.ops-ops.result.now group.ops.items c.ops-ops.ensures.list p (c.requires.sites c.loop-site.site-index 0 c.loop-site-test.true))
    c.index-ops-site.is

pub image_of-requires-clause-numerators : goal.image_of-requires-clause-numerators
image_of-requires-clause-numerators c i =
    let group = c.args.group.now in
    let p = slice_index c.args.sites.now c.loop-site.site-index in
    let g = c.index-ops-site.result in
    let l = in_length c.ops-ops.result.now group.ops.items c.ops-ops.ensures.list p (c.requires.sites c.loop-site.site-index 0 c.loop-site-test.true) in
    Nat.le_trans (small_numerators g.num g.den g.lowest.positive
    (cell_of c.ops-ops.result.now group.centrings.items c.ops-ops.ensures.canonical p g l c.index-ops-site.is) i)
    (denominator_at c.ops-ops.result.now group.centrings.items c.ops-ops.ensures.canonical p g l c.index-ops-site.is)

pub loop-site-preserved : goal.loop-site-preserved
loop-site-preserved c =
    let group = c.args.group.now in
    let x = vector c.args.x.now in
    let k = c.loop-site.site-index in
    let p = slice_index c.args.sites.now k in (
      ap length c.in_ok-push.ensures.items ∙ length-append c.loop-site.points.items (c.reduce.result ∷ [])
          ∙ ap (λ n. n + 1) c.loop-site.invariant.0,
      λ i e d l. pushed (λ j (v : Vec3). IsBroughtIn (image (operation (get_or group.ops.items (slice_index c.args.sites.now j) d)) x) (vector v))
          c.loop-site.points.items c.push.new.self.items c.reduce.result k c.loop-site.invariant.0 c.in_ok-push.ensures.items
          (λ j f m. c.loop-site.invariant.1 j f d m)
          (record {
            in_cell = c.reduce.ensures.in_cell;
            whole = λ a. subst (λ (v : Vector). IsWhole (component (v ⊖ vector c.reduce.result) a))
                (c.image_of.ensures ∙ ap (λ (g : Op). image (operation g) x)
                (read_at c.ops-ops.result.now group.ops.items c.ops-ops.ensures.list p c.index-ops-site.result d
                (c.requires.sites k 0 c.loop-site-test.true) c.index-ops-site.is)) (c.reduce.ensures.whole a);
          })
          i e l,
    )
