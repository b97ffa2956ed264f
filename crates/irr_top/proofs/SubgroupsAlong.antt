-- What holds of a group of operations holds of each with the same operations.
--   none_along, gives_along       the subgroup that a section gives, or why it gives none
--   subgroup_along                subgroups in a setting
--   content_along                 what stands in the text of restrictions
use Rattle.std.proofs.Common.{◌↔◌, ℕ, List}
use Rattle.irr_algebra.specs.Matrix.{Matrix}
use Rattle.irr_number.specs.Number.{numbers}
use Rattle.irr_rational.specs.Rational.{rationals}
use Rattle.irr_space.specs.Operation.{Operation, Vector, WaveVector}
use Rattle.irr_space.specs.Reciprocal.{Sign}
use Rattle.irr_check.proofs.Along.{order_along}
use Rattle.irr_full.specs.Restriction.{IsSubgroup}
use Rattle.irr_full_text.proofs.Along.{full_along, reduced_along, star_along}
use Rattle.irr_input.specs.Stages.{SubContent}
use Rattle.irr_subduce.specs.Restrictions.{AreRestrictions, IsRestrictionOf, RepContent}
use Rattle.irr_subduce.specs.SubduceText.{IsSubduceContent, SubduceContent}
use Rattle.irr_top.specs.SubgroupOf.{GivesNone, GivesSubgroup, HasImage, IsFirstOutside, IsInside}
use Rattle.irr_top.specs.SubgroupOf.GivesNone.{singular, columns_outside, generator_outside, limit}
use Rattle.irr_top.specs.declared.status.Status.{Status}
use Rattle.irr_top.proofs.ProductsAlong.{parts_along}

module _ (G H : Operation → Type 0) (same : (g : Operation) → G g ↔ H g) (S : SubContent) where
  image_along : (g : Operation) → HasImage G S g → HasImage H S g
  image_along g h = record { image = h.image; is_image = h.is_image; member = (same h.image).0 h.member }

module _ (G H : Operation → Type 0) (same : (g : Operation) → G g ↔ H g) (S : SubContent) where
  back : (g : Operation) → H g ↔ G g
  back g = ((same g).1, (same g).0)

  first_along : {n : ℕ} → IsFirstOutside G S n → IsFirstOutside H S n
  first_along f = record {
    place = f.place;
    inside = f.inside;
    line = f.line;
    outside = λ d h. f.outside d (image_along H G back S _ h);
    before = λ j l d. image_along G H same S _ (f.before j l d);
  }

  inside_along : IsInside G S → IsInside H S
  inside_along i = record {
    regular = i.regular;
    columns = λ j. (same _).0 (i.columns j);
    images = λ k d l. image_along G H same S _ (i.images k d l);
  }

  pub gives_along : GivesSubgroup G S → GivesSubgroup H S
  gives_along g = record { inside = inside_along g.inside; no_limit = g.no_limit }

  pub none_along : {s : Status} → GivesNone G S s → GivesNone H S s
  none_along (singular p) = singular p
  none_along (columns_outside r c) = columns_outside r (λ h. c (λ j. (same _).1 (h j)))
  none_along (generator_outside r c f) = generator_outside r (λ j. (same _).0 (c j)) (first_along f)
  none_along (limit e q i l) = limit e q (inside_along i) l

-- a subgroup H of G, and one with the same operations of a group with the same operations
module _ (G K H L : Operation → Type 0) (same : (g : Operation) → G g ↔ K g) (inner : (g : Operation) → H g ↔ L g) where
  pub subgroup_along : (P : Matrix rationals 3 3) (p : Vector) (image : Operation → Operation) → IsSubgroup P p H G image → IsSubgroup P p L K image
  subgroup_along P p image s = record {
    inverse = s.inverse;
    basis-inverse = s.basis-inverse;
    is_image = λ g m. s.is_image g ((inner g).1 m);
    member = λ g m. (same (image g)).0 (s.member g ((inner g).1 m));
  }

  restriction_along : (s : Sign) (image : Operation → Operation) {M d : ℕ} (m : ℕ) (F : Operation → Matrix (numbers M) d d) (r : RepContent)
      → IsRestrictionOf s H image M m F r → IsRestrictionOf s L image M m F r
  restriction_along s image m F r is = record {
    label = is.label;
    dim = is.dim;
    parts = λ positive. parts_along H L inner s positive _ _ (is.parts positive);
    adds_up = is.adds_up;
  }

  restrictions_along : (s : Sign) (image : Operation → Operation) (k : WaveVector) (M : ℕ) (rs : List RepContent)
      → AreRestrictions s G H image k M rs → AreRestrictions s K L image k M rs
  restrictions_along s image k M rs are = record {
    star = star_along G K same are.star;
    list = are.list;
    complete = are.complete;
    ordered = are.ordered;
    divides = are.divides;
    full = are.full;
    is_full = λ m. full_along G K same are.star M are.divides _ (are.full m) (are.is_full m);
    count = are.count;
    restriction = λ m none. restriction_along s image _ (are.full m) _ (are.restriction m none);
  }

  pub content_along : (s : Sign) (image : Operation → Operation) (k : WaveVector) (c : SubduceContent)
      → IsSubduceContent s G H image k c → IsSubduceContent s K L image k c
  content_along s image k c is = record {
    wave = reduced_along G K same k c.wave is.wave;
    is_order = order_along G K same c.wave c.order is.is_order;
    restrictions = restrictions_along s image c.wave c.order c.reps is.restrictions;
  }
