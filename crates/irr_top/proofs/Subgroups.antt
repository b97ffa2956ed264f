-- The subgroup of the program, as that which a section gives.
--   gives_of, sub_of    the section gives it
--   outside_of, limit_of     why it gives none
--   number_within       the number of a generator
use Rattle.std.proofs.Common.{◌≡◌, refl, sym, ◌∙◌, ap, subst, ℕ, ◌+◌, ◌<◌, ◌≤◌, inl, inr, Some, List, [], ◌∷◌, map, length, get_or, arith}
use Rattle.std.specs.List.{All, HoldsAt}
use Rattle.std.proofs.lemmas.List.{get_or-map, length-map}
use Rattle.std.proofs.lemmas.List.Elements.{All-map}
use Rattle.irr_algebra.specs.Fin.{Fin}
use Rattle.irr_algebra.specs.Matrix.{Matrix, column}
use Rattle.irr_rational.specs.Rational.{rationals}
use Rattle.irr_space.specs.Operation.{Operation}
use Rattle.irr_space.specs.SpaceGroup.{IsTranslation}
use Rattle.irr_seitz.specs.OperationMeaning.{operation}
use Rattle.irr_seitz.specs.declared.op.Op.{Op}
use Rattle.irr_close.specs.Limits.{operations}
use Rattle.irr_close.specs.StandsFor.{IsRefusal, stands_for}
use Rattle.irr_close.specs.declared.CloseError.{CloseError}
use Rattle.irr_close.specs.declared.group.Group.{Group}
use Rattle.irr_full.specs.Restriction.{IsImage}
use Rattle.irr_input.specs.Stages.{Placed, SubContent}
use Rattle.irr_input.specs.InputLines.{content_of_sub, placed}
use Rattle.irr_input.specs.declared.input.GenLine.{GenLine}
use Rattle.irr_input.specs.declared.input.SubSpec.{SubSpec}
use Rattle.irr_input.specs.declared.input.Reason.TheVariants.{NotInGroup}
use Rattle.irr_setting.specs.Determinant.{determinant_in}
use Rattle.irr_setting.specs.Setting.{basis, origin}
use Rattle.irr_subduce.specs.Subgroup.{HasImage as HasGroupImage, IsFirstOutside as IsFirstGenerator, IsInside as IsInsideGroup, IsOutside, IsSub}
use Rattle.irr_subduce.specs.declared.sub.Sub.{Sub}
use Rattle.irr_top.specs.Asked.{operations_of}
use Rattle.irr_top.specs.PassedLimit.{passed_limit}
use Rattle.irr_top.specs.Sections.{IsSubOf}
use Rattle.irr_top.specs.SubgroupOf.{GivesNone, GivesSubgroup, HasImage, IsFirstOutside, IsInside}
use Rattle.irr_top.specs.SubgroupOf.GivesNone.{columns_outside, generator_outside, limit}
use Rattle.irr_top.specs.declared.status.Status.TheVariants.{BadInput, TooLarge}
use Rattle.irr_top.specs.declared.status.Kind.{Kind}
use Rattle.irr_top.proofs.Members.{some_item}

same_lists : (lines : List GenLine) → map operation (operations_of lines) ≡ map (λ (p : Placed). p.operation) (placed lines)
same_lists [] = refl
same_lists (g ∷ lines) = ap (λ os. operation g.op ∷ os) (same_lists lines)

-- what holds of the operations of one list holds of those of another
all_through : (Q : Operation → Type 0) (gens : List Op) (ps : List Placed) → map operation gens ≡ map (λ (p : Placed). p.operation) ps
    → All (λ g. Q (operation g)) gens → All (λ (p : Placed). Q p.operation) ps
all_through Q gens ps e all = λ k d l.
    let every : All Q (map (λ (p : Placed). p.operation) ps) = subst (All Q) e (All-map Q operation gens all) in
    let inside : k < length (map (λ (p : Placed). p.operation) ps) = subst (λ n. k < n) (sym (length-map ps (λ (p : Placed). p.operation))) l in
    subst Q (get_or-map (λ (p : Placed). p.operation) ps k d d.operation l) (every k d.operation inside)

module _ (group : Group) (S : SubContent) (sub : Sub) (of : IsSubOf group S sub) where
  inside_group : IsInsideGroup group sub.setting of.gens
  inside_group = of.is_sub.inside

  image_there : (g : Operation) → HasGroupImage group sub.setting g → HasImage (stands_for group) S g
  image_there g h = record {
    image = h.image;
    is_image = subst (λ P. IsImage P S.origin g h.image) of.is_basis (subst (λ p. IsImage (basis sub.setting) p g h.image) of.is_origin h.is_image);
    member = h.member;
  }

  pub gives_of : GivesSubgroup (stands_for group) S
  gives_of = record {
    inside = record {
      regular = λ p. inside_group.regular (subst (λ P. determinant_in rationals P ≡ rationals.zero) (sym of.is_basis) p);
      columns = subst (λ (P : Matrix rationals 3 3). (j : Fin 3) → IsTranslation (stands_for group) (column P j)) of.is_basis inside_group.columns;
      images = all_through (HasImage (stands_for group) S) of.gens S.gens of.are
          (λ k d l. image_there _ (inside_group.images k d l));
    };
    no_limit = record { gens = of.gens; are = of.are; accepted = of.is_sub.accepted };
  }

-- the generators on the lines of a section
module _ (lines : List GenLine) (j : ℕ) (l : j < length lines) where
  op_at : (Q : Op → Type 0) → HoldsAt Q (operations_of lines) j → (d : GenLine) → Q (get_or lines j d).op
  op_at Q h d = subst Q (get_or-map (λ (g : GenLine). g.op) lines j d d.op l) (h d.op)

  placed_at : (Q : Placed → Type 0) → ((d : GenLine) → Q (record { line = (get_or lines j d).line; operation = operation (get_or lines j d).op }))
      → HoldsAt Q (placed lines) j
  placed_at Q h e = let d = some_item lines j l in
      subst Q (sym (get_or-map (λ (g : GenLine). record { line = g.line; operation = operation g.op }) lines j d e l)) (h d)

module _ (group : Group) (sub : SubSpec) where
  abbrev ops : List Op
  ops = operations_of sub.gens.items

  image_of : (g : Operation) → HasGroupImage group sub.setting g → HasImage (stands_for group) (content_of_sub sub) g
  image_of g h = record { image = h.image; is_image = h.is_image; member = h.member }

  image_back : (g : Operation) → HasImage (stands_for group) (content_of_sub sub) g → HasGroupImage group sub.setting g
  image_back g h = record { image = h.image; is_image = h.is_image; member = h.member }

  few : {j : ℕ} → j < length ops → j < length sub.gens.items
  few {j} l = subst (λ n. j < n) (length-map sub.gens.items (λ (g : GenLine). g.op)) l

  many : length (placed sub.gens.items) ≡ length sub.gens.items
  many = length-map sub.gens.items (λ (g : GenLine). record { line = g.line; operation = operation g.op })

  inside_of : IsInsideGroup group sub.setting ops → IsInside (stands_for group) (content_of_sub sub)
  inside_of i = record {
    regular = i.regular;
    columns = i.columns;
    images = λ k d l. placed_at sub.gens.items k (subst (λ n. k < n) many l) (λ (p : Placed). HasImage (stands_for group) (content_of_sub sub) p.operation)
        (λ e. image_of _ (op_at sub.gens.items k (subst (λ n. k < n) many l) (λ (g : Op). HasGroupImage group sub.setting (operation g))
        (λ c. i.images k c (subst (λ n. k < n) (sym (length-map sub.gens.items (λ (g : GenLine). g.op))) (subst (λ n. k < n) many l))) e)) d;
  }

  first_of : (n i : ℕ) → ((j : ℕ) → i ≡ j + 1 → HoldsAt (λ (g : GenLine). n ≡ g.line) sub.gens.items j) → IsFirstGenerator group sub.setting ops i
      → IsFirstOutside (stands_for group) (content_of_sub sub) n
  first_of n i at f = record {
    place = f.before;
    inside = subst (λ m. f.before < m) (sym many) (few f.place);
    line = placed_at sub.gens.items f.before (few f.place) (λ (p : Placed). n ≡ p.line) (λ d. at f.before f.is d);
    outside = placed_at sub.gens.items f.before (few f.place) (λ (p : Placed). ¬ (HasImage (stands_for group) (content_of_sub sub) p.operation))
        (λ d h. op_at sub.gens.items f.before (few f.place) (λ (g : Op). ¬ (HasGroupImage group sub.setting (operation g))) f.outside d (image_back _ h));
    before = λ j l. let inside = within j l in
        placed_at sub.gens.items j inside (λ (p : Placed). HasImage (stands_for group) (content_of_sub sub) p.operation)
        (λ d. image_of _ (op_at sub.gens.items j inside (λ (g : Op). HasGroupImage group sub.setting (operation g)) (f.inside j l) d));
  }
    where
      within : (j : ℕ) → j < f.before → j < length sub.gens.items
      within j l = let m = few f.place in omega (arith, l, m)

  pub number_within : (i : ℕ) → IsOutside group sub.setting ops i → i ≤ length sub.gens.items
  number_within i (inl (none_before, outside)) = omega (arith, none_before)
  number_within i (inr (columns, f)) = let e = f.is in let l = few f.place in omega (arith, e, l)

  pub outside_of : (n i : ℕ) → (i ≡ 0 → n ≡ sub.line) → ((j : ℕ) → i ≡ j + 1 → HoldsAt (λ (g : GenLine). n ≡ g.line) sub.gens.items j)
      → ¬ (determinant_in rationals (basis sub.setting) ≡ rationals.zero) → IsOutside group sub.setting ops i
      → GivesNone (stands_for group) (content_of_sub sub) (BadInput n NotInGroup)
  outside_of n i at_basis at r (inl (none_before, outside)) = subst (λ m. GivesNone (stands_for group) (content_of_sub sub) (BadInput m NotInGroup))
      (sym (at_basis none_before)) (columns_outside r outside)
  outside_of n i at_basis at r (inr (columns, f)) = generator_outside r columns (first_of n i at f)

  pub limit_of : (e : CloseError) {kind : Kind} → passed_limit e ≡ Some kind → IsInsideGroup group sub.setting ops → IsRefusal ops e
      → GivesNone (stands_for group) (content_of_sub sub) (TooLarge kind)
  limit_of e p i r = limit e p (inside_of i) record { gens = ops; are = same; refusal = r }
    where
      same : map operation ops ≡ map (λ (p : Placed). p.operation) (placed sub.gens.items)
      same = same_lists sub.gens.items

pub sub_of : (group : Group) (section : SubSpec) (gens : List Op) (sub : Sub) → gens ≡ operations_of section.gens.items
    → IsSub group section.setting gens sub → IsSubOf group (content_of_sub section) sub
sub_of group section gens sub e is = record {
  gens = gens;
  is_sub = subst (λ s. IsSub group s gens sub) (sym is.setting) is;
  are = ap operations e ∙ same_lists section.gens.items;
  is_basis = ap basis is.setting;
  is_origin = ap origin is.setting;
}
