-- What the full representation keeps.
use Rattle.std.proofs.Common.{sym, ◌∙◌, subst, ◌<◌, List}
use Rattle.std.specs.List.{All}
use Rattle.irr_space.specs.Operation.{WaveVector}
use Rattle.irr_seitz.specs.PhaseMeaning.{sign_of}
use Rattle.irr_kvec.specs.Centrings.{IsWithinLimits}
use Rattle.irr_close.specs.StandsFor.{stands_for}
use Rattle.irr_little.specs.declared.arms.Arm.{Arm}
use Rattle.irr_full.specs.Star.{Star}
use Rattle.irr_algebra.proofs.Indices.{to_nat-lt}
use Rattle.irr_star.specs.Stars.{AreArmsOf, IsStarOf}
use Rattle.irr_star.proofs.FamilyItems.{family_item}
use Rattle.irr_star.proofs.induction.induce.Goals as goal

pub products-requires : goal.products-requires
products-requires g c =
    let r = c.requires.small in
    record {
      star = subst (λ (arms : List Arm). (k : WaveVector) × (U : Star (sign_of c.args.group.now.phase)
          (stands_for c.args.group.now) k)
          × IsStarOf c.args.group.now arms c.args.t.now U) (sym c.deref.ensures.value) (r.0, r.1, r.6);
    }

pub returns : goal.returns
returns g c k U M v d D star is =
    let first = U.table.start in
    let below = subst (λ n. 0 < n) (sym is.shape.count) (subst (λ n. n < U.places) U.table.start_first
    (to_nat-lt U.table.start)) in
    let unit = family_item M D.at c.args.f.now is 0 c.index.result.now below c.index.ensures first U.table.start_first
    in
    let same = c.in_ok-arms.ensures.items ∙ c.deref-2.ensures.value in
    record {
      same = c.in_ok-group.ensures;
      order = c.in_ok-order.ensures ∙ c.order.ensures ∙ c.at.ensures.order ∙ unit.order;
      arms = subst (λ (arms : List Arm). AreArmsOf c.args.group.now arms U) (sym same) star.are_arms;
      limits = subst (All (λ a. IsWithinLimits a.wave)) (sym same) c.requires.limits;
      products = c.in_ok-products.ensures k U (subst (λ (arms : List Arm). IsStarOf c.args.group.now arms c.args.t.now
          U) (sym c.deref.ensures.value) star);
      family = c.in_ok-family.ensures M U.places d D.at is;
    }
