-- The text of full representations, from a list of small ones on the table of the little group of a reduced wave vector.
--   reduced_self, reduced_through     reduced wave vectors
--   small_family           a member of the list as a small family
--   inducible              the families of the list can be induced
--   printed, fulls_of      the star and the full representations are those of a text
--   full_text_at           the text is that of full representations
--   full_reply_of          the text is the reply for the group of generators
use Rattle.std.proofs.Common.{sym, ◌∙◌, ap, subst, refl, ℕ, ◌<◌, ◌≤◌, List, length, get_or, arith}
use Rattle.std.specs.Int.{◌∣◌}
use Rattle.std.specs.List.{All}
use Rattle.std.proofs.lemmas.List.{get_or_default}
use Rattle.std.proofs.lemmas.Nat.Gcd.{le_of_dvd}
use native.Mathlib.Nat as Nat
use Rattle.irr_algebra.specs.Fin.{Fin, to_nat}
use Rattle.irr_algebra.specs.Pair.{times}
use Rattle.irr_algebra.proofs.Indices.{from_nat, to_nat-from_nat, to_nat-lt}
use Rattle.irr_theory.specs.FactorSystem.{Representation}
use Rattle.irr_space.specs.Operation.{Operation, WaveVector}
use Rattle.irr_space.specs.Reciprocal.{Sign, IsOrder, IsReduced}
use Rattle.irr_space.specs.Reciprocal.Sign.{minus}
use Rattle.irr_space.specs.PhaseTable.{PhaseTable, phases_at, phases_over}
use Rattle.irr_space.specs.CompleteList.{over}
use Rattle.irr_seitz.specs.OperationMeaning.{operation}
use Rattle.irr_seitz.specs.PhaseMeaning.{sign_of}
use Rattle.irr_seitz.specs.declared.op.Op.{Op}
use Rattle.irr_cyc.specs.declared.scalars.Scalar.{Ghosts}
use Rattle.irr_mat.specs.Size.{IsWithin}
use Rattle.irr_rep.specs.Family.{matrix_at}
use Rattle.irr_rep.specs.Twisted.{phase_table, place_count, operation_places}
use Rattle.irr_rep.specs.declared.family.Family.{Family}
use Rattle.irr_rep.specs.declared.table.Twisted.{Twisted}
use Rattle.irr_rep.proofs.Families.{at_own_order-over}
use Rattle.irr_climb.specs.Families.{IsRead}
use Rattle.irr_climb.specs.Lists.{IsSmallList}
use Rattle.irr_climb.specs.Sizes.{HasSharpSizes}
use Rattle.irr_cocycle.proofs.Reciprocals.{equivalent_sym, equivalent_trans}
use Rattle.irr_close.specs.StandsFor.{stands_for}
use Rattle.irr_close.specs.declared.group.Group.{Group}
use Rattle.irr_close.proofs.SpaceGroups.{space_group}
use Rattle.irr_little.specs.Arms.{AreArms}
use Rattle.irr_little.specs.Table.{IsLittleTable}
use Rattle.irr_little.specs.declared.arms.Arm.{Arm}
use Rattle.irr_little.proofs.Spaces.{has_canonical, numbering_of}
use Rattle.irr_full.specs.Star.{Star}
use Rattle.irr_star.specs.Sizes.{IsSmallFamily}
use Rattle.irr_star.specs.Stars.{IsStarOf, star_of}
use Rattle.irr_star.specs.declared.full.Full.{Full}
use Rattle.irr_star.proofs.StarLists.{star_of_lists}
use Rattle.irr_full_text.specs.FullText.{FullContent, IsFullContent, full_content}
use Rattle.irr_full_text.specs.Printed.{Matrices, IsPrintedStar, AreFullsOf, IsTextAt}
use Rattle.irr_full_text.proofs.Along.{content_along, reduced_along}
use Rattle.irr_full_text.proofs.CompleteContents.{complete_content, full_of_list, full_of_list-is}
use Rattle.irr_top.specs.Answer.{AreWithin, order_limit}
use Rattle.irr_top.specs.FullCommand.{IsFullReply, IsFullText}
use Rattle.irr_top.specs.FullFamilies.{AreInducedFrom, IsInducible}
use Rattle.irr_top.specs.GroupOf.{IsGroupOf, group_of}
use Rattle.irr_top.specs.Question.Question.{full}
use Rattle.irr_top.specs.declared.status.Status.TheVariants.{Done}
use Rattle.irr_top.proofs.Members.{some_item}
use Rattle.irr_top.proofs.Orders.{one_within}
use Rattle.irr_top.proofs.StarTexts.{other_arm, other_operation}

module _ (G : Operation → Type 0) where
  pub reduced_self : (k r : WaveVector) → IsReduced G k r → IsReduced G r r
  reduced_self k r e = record {
    equivalent = equivalent_trans G r k r e.equivalent (equivalent_sym G r k e.equivalent);
    no_negative = e.no_negative;
    least = λ w f m. e.least w (equivalent_trans G w r k f e.equivalent) m;
  }

  pub reduced_through : (k r w : WaveVector) → IsReduced G k r → IsReduced G r w → IsReduced G k w
  reduced_through k r w p q = record {
    equivalent = equivalent_trans G w r k q.equivalent p.equivalent;
    no_negative = q.no_negative;
    least = λ u f m. q.least u (equivalent_trans G u k r f (equivalent_sym G r k p.equivalent)) m;
  }

  -- what stands at a reduced wave vector stands at each that it is the reduced one of
  content_through : (s : Sign) (k r : WaveVector) (c : FullContent) → IsReduced G k r → IsFullContent s G r c → IsFullContent s G k c
  content_through s k r c p q = record {
    wave = q.wave;
    reduced = reduced_through k r q.wave p q.reduced;
    star = q.star;
    list = q.list;
    complete = q.complete;
    in_order = q.in_order;
    full = q.full;
    is_full = q.is_full;
    irreducible = q.irreducible;
    generators = q.generators;
    are_generators = q.are_generators;
    content = q.content;
  }

-- a member of a list on a table
module _ {X : Type 0} {V : Ghosts X} {h : ℕ} (T : PhaseTable h) (places : h ≤ 48) (v : T.order ∣ T.order) (fs : List (Family X V))
    (s : IsSmallList T fs) (sizes : All (HasSharpSizes T.order h) fs) (m : Fin s.list.count) where
  inside : to_nat m < length fs
  inside = subst (λ n. to_nat m < n) (sym s.read.count) (to_nat-lt m)

  module _ (other : Family X V) where
    abbrev family : Family X V
    family = get_or fs (to_nat m) other

    is_read : IsRead T.order (phases_at T) (s.list.member m) family
    is_read = s.read.read m other

    sharp : HasSharpSizes T.order h family
    sharp = sizes (to_nat m) other inside

    few : s.list.size m ≤ 48
    few = subst (λ d. d ≤ 48) is_read.size (Nat.le_trans (le_of_dvd some_places (s.sized (to_nat m) other inside).sharp.divides) places)
      where
        some_places : 0 < h
        some_places = let l = to_nat-lt T.start in omega (arith, l)

    pub small_family : IsSmallFamily T.order (over T T.order v (s.list.member m)).at family
    small_family = record {
      size = is_read.size;
      shape = is_read.shape;
      matrices = λ i. is_read.matrices i ∙ sym (at_own_order-over T v (s.list.member m) i);
      few = few;
      denominator = sharp.denominator;
      small = sharp.small;
      entries = λ i. subst (IsWithin T.order 13824 sharp.denominator) (is_read.matrices i ∙ sym (at_own_order-over T v (s.list.member m) i))
          (subst (λ d. IsWithin T.order 13824 sharp.denominator (matrix_at T.order d family.mats.items i)) is_read.size (sharp.entries i));
    }

-- the star and the list
module _ (group : Group) (w : WaveVector) (arms : List Arm) (t : Twisted) (are : AreArms group w arms)
    (table : IsLittleTable group w (operation_places t) (phase_table t)) where
  abbrev pub star : Star (sign_of group.phase) (stands_for group) w
  star = star_of group w arms t (other_operation group) (other_arm group) (numbering_of group (other_operation group)) are table

  is_star : IsStarOf group arms t star
  is_star = star_of_lists group w arms t (other_operation group) (other_arm group) (numbering_of group (other_operation group)) are table

  pub printed : IsReduced (stands_for group) w w → IsPrintedStar group arms t star
  printed reduced = record {
    reduced = reduced;
    star = is_star;
    order = refl;
    count = refl;
    canonical = λ i e. ap operation (get_or_default group.ops.items (to_nat i) e (other_operation group) (to_nat-lt i));
  }

  module _ {X : Type 0} {V : Ghosts X} (fs : List (Family X V)) (s : IsSmallList (phase_table t) fs)
      (sizes : All (HasSharpSizes (phase_table t).order (place_count t)) fs) where
    pub itself : (phase_table t).order ∣ (phase_table t).order
    itself = Nat.dvd_refl (phase_table t).order

    places : place_count t ≤ 48
    places = t.places_within

    abbrev pub member : (m : Fin s.list.count)
        → Representation (phases_over (phase_table t) (phase_table t).order itself) (s.list.size m)
    member m = over (phase_table t) (phase_table t).order itself (s.list.member m)

    small_member : (m : Fin s.list.count) (other : Family X V)
        → IsSmallFamily (phase_table t).order (member m).at (get_or fs (to_nat m) other)
    small_member = small_family (phase_table t) places itself fs s sizes

    pub inducible : All (IsInducible group arms t) fs
    inducible k f l =
        let below : k < s.list.count = subst (λ n. k < n) s.read.count l in
        let m : Fin s.list.count = from_nat s.list.count k below in (
          w,
          star,
          (phase_table t).order,
          itself,
          s.list.size m,
          member m,
          is_star,
          subst (λ n. IsSmallFamily (phase_table t).order (member m).at (get_or fs n f)) (to_nat-from_nat s.list.count k below)
              (small_member m f),
        )

    pub matrices : Matrices group star s.list
    matrices = full_of_list (stands_for group) (space_group group).is_group (has_canonical group) star s.list

    pub fulls_of : (fulls : List (Full X V)) → AreInducedFrom group arms t fs fulls
        → AreFullsOf group star itself s.list matrices fulls
    unfolding matrices
    fulls_of fulls are_induced = record {
      count = are_induced.count ∙ s.read.count;
      induced = λ m g.
          let l = inside (phase_table t) places itself fs s sizes m in
          let e : Family X V = some_item fs (to_nat m) l in
          (are_induced.each (to_nat m) e g l).induced w star (phase_table t).order itself (s.list.size m) (member m) is_star
          (small_member m e);
      is_full = λ m. full_of_list-is (stands_for group) (space_group group).is_group (has_canonical group) star s.list itself m;
    }

    pub full_text_at : (reduced : IsReduced (stands_for group) w w) (fulls : List (Full X V))
        (are_induced : AreInducedFrom group arms t fs fulls)
        (text : List ℕ) → IsTextAt group star s.list matrices text → IsFullText (sign_of group.phase) (stands_for group) w text
    full_text_at reduced fulls are_induced text is = record {
      content = full_content w star is.generators (λ m. times star.arms (s.list.size m)) matrices;
      is_content = complete_content (stands_for group) (space_group group).is_group (has_canonical group) star s.list s.complete
          s.ordered reduced
          matrices itself (fulls_of fulls are_induced).is_full is.generators is.are_generators;
      is_text = is.is_text;
    }

-- at a wave vector of the group of generators
module _ (group : Group) (gens : List Op) (is : IsGroupOf group gens) (k w : WaveVector) (reduced : IsReduced (group_of gens) k w) where
  pub reduced_there : IsReduced (stands_for group) w w
  reduced_there = reduced_along (group_of gens) (stands_for group) (λ g. ((is.stands g).1, (is.stands g).0)) w w
      (reduced_self (group_of gens) k w reduced)

  text_of : (text : List ℕ) → IsFullText (sign_of group.phase) (stands_for group) w text → IsFullText minus (group_of gens) k text
  text_of text t = record {
    content = t.content;
    is_content = content_through (group_of gens) minus k w t.content reduced
        (subst (λ s. IsFullContent s (group_of gens) w t.content) (ap sign_of is.phase)
        (content_along (stands_for group) (group_of gens) is.stands (sign_of group.phase) w t.content t.is_content));
    is_text = t.is_text;
  }

  pub full_reply_of : (n : ℕ) → IsOrder (group_of gens) k n → n ≤ order_limit → (text : List ℕ)
      → IsFullText (sign_of group.phase) (stands_for group) w text
      → AreWithin (full k) (group_of gens) × IsFullReply (group_of gens) k Done text
  full_reply_of n order within text t = (one_within (group_of gens) k n order within, (refl, text_of text t))
