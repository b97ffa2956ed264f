-- The table of a site group, from its lists.
--   place_of_product              the product of two operations of the site group has a listed number
--   some_place, few_places        the unit; at most 48
--   listed_theory                 the lists of products and of exponents 0 are those of the theory's table
--   table_of_lists                a table with these lists is that of the site group
use Rattle.std.proofs.Common.{◌≡◌, sym, ◌∙◌, ap, ap₂, subst, refl, ℕ, zero, suc, ◌<◌, ◌≤◌, List, length, get_or, slice_index, Contains, arith}
use Rattle.std.specs.Int.{◌∣◌}
use Rattle.std.proofs.lemmas.List.{get_or_default}
use Rattle.std.proofs.lemmas.List.Elements.{Contains-get_or}
use Rattle.irr_algebra.specs.Fin.{Fin, to_nat}
use Rattle.irr_algebra.specs.Matrix.{◌·◌}
use Rattle.irr_algebra.proofs.Indices.{from_nat, to_nat-from_nat, to_nat-lt, to_nat_inj}
use Rattle.irr_space.specs.Operation.{Operation, Vector, ◌⊙◌}
use Rattle.irr_space.specs.SpaceGroup.{IsExponent}
use Rattle.irr_space.specs.PhaseTable.{PhaseTable}
use Rattle.irr_cocycle.proofs.Operations.{rotation-op}
use Rattle.irr_seitz.specs.OperationMeaning.{operation}
use Rattle.irr_seitz.specs.declared.op.Op.{Op}
use Rattle.irr_rep.specs.Table.{AreEntries, HasInverses, IsFactorSystem, IsListed, entry, IsGroup as ProductGroup}
use Rattle.irr_rep.proofs.Listed.{listed-factors, listed-group, listed-inverses}
use Rattle.irr_close.specs.StandsFor.{stands_for}
use Rattle.irr_close.specs.declared.group.Group.{Group}
use Rattle.irr_close.proofs.SpaceGroups.{space_group}
use Rattle.irr_little.specs.Places.{AreListed}
use Rattle.irr_little.proofs.Spaces.{form_of}
use Rattle.irr_orbit.specs.SiteTable.{IsSiteTable}
use Rattle.irr_orbit.proofs.SiteTables.{site_identity, site_product, site_table, site_table-is}
use Rattle.irr_orbit.proofs.Sites.{site_rotation_distinct}
use Rattle.irr_site.specs.Orbits.{fixing_at}
use Rattle.irr_site.specs.Points.{AreSitePlaces, IsSitePlace, fixing}
use Rattle.irr_site.specs.Products.{IsRotationProduct}
use Rattle.irr_site.specs.Tables.{IsPlaceProduct}
use Rattle.irr_site.proofs.Cosets.{same_rotation, some_op}
use Rattle.irr_site.proofs.SiteGroups.{fixing-rotation, fixing_member, get_same, listed_below, site_numbering, site_place}

-- an increasing list of numbers below n is not longer than n
increasing_above : (xs : List ℕ) → ((a b : ℕ) → a < b → b < length xs → slice_index xs a < slice_index xs b) → (a : ℕ)
    → a < length xs → a ≤ slice_index xs a
increasing_above xs rising zero l = omega arith
increasing_above xs rising (suc a) l =
    let h : a ≤ slice_index xs a = increasing_above xs rising a (omega arith) in
    let r : slice_index xs a < slice_index xs (suc a) = rising a (suc a) (omega arith) l in
    omega arith

pub few_listed : (P : ℕ → Type 0) (n : ℕ) (xs : List ℕ) → AreListed P n xs → length xs ≤ n
few_listed P n xs so = at (length xs) refl
  where
    at : (h : ℕ) → length xs ≡ h → length xs ≤ n
    at zero e = omega arith
    at (suc h) e =
        let l : h < length xs = omega arith in
        let a : h ≤ slice_index xs h = increasing_above xs so.increasing h l in
        let b : slice_index xs h < n = so.below (slice_index xs h) (Contains-get_or xs h 0 l) in
        omega arith

module _ (group : Group) (x : Vector) (xs : List ℕ) (places : AreSitePlaces group x xs) where
  abbrev G : Operation → Type 0
  G = stands_for group

  -- R_i R_j = R_l for rotations of the site group: so is R_l
  pub place_of_product : (i j l : ℕ) → Contains xs i → Contains xs j → IsRotationProduct group i j l → Contains xs l
  place_of_product i j l p q product =
      let d = some_op group in
      let g = fixing (operation (get_or group.ops.items i d)) x in
      let h = fixing (operation (get_or group.ops.items j d)) x in
      let m = site_product G (space_group group).is_group x g h (fixing_member group x xs places i d p)
      (fixing_member group x xs places j d q) in
      let t = site_place group x xs places (g ⊙ h) m d in
      subst (Contains xs) (same_rotation group d t.0 l t.1 product.below
      (sym (fixing-rotation (operation (get_or group.ops.items t.0 d)) x) ∙ ap (λ (f : Operation). f.rotation) t.3
      ∙ rotation-op g h ∙ ap₂ (λ R S. R · S) (fixing-rotation (operation (get_or group.ops.items i d)) x)
      (fixing-rotation (operation (get_or group.ops.items j d)) x) ∙ sym (product.is d))) t.2

  pub some_place : 0 < length xs
  some_place = let c = (site_place group x xs places _ (site_identity G (space_group group).is_group x) (some_op group)).2 in
      let l : c.0 < length xs = c.1 in omega (arith, l)

  pub few_places : length xs ≤ 48
  few_places = let a = few_listed (IsSitePlace group x) (length group.ops.items) xs places in
      let b = (form_of group).few in omega (arith, a, b)

  module _ (h : ℕ) (count : h ≡ length xs) (d : Op) (e n : ℕ) (exponent : IsExponent (stands_for group) e) (divides : e ∣ n)
      (positive : 0 < n) where
    abbrev ops : Fin h → Operation
    ops = fixing_at group x xs d

    abbrev theory : PhaseTable h
    theory = site_table G (space_group group).is_group x (fixing_at group x {h = h} xs d) (site_numbering group x xs places h count d)
        e n exponent divides positive

    theory_is : IsSiteTable n (fixing_at group x {h = h} xs d) theory
    theory_is = site_table-is G (space_group group).is_group x (fixing_at group x {h = h} xs d)
        (site_numbering group x xs places h count d) e n exponent divides positive

    within : (i : Fin h) → to_nat i < length xs
    within i = subst (λ m. to_nat i < m) count (to_nat-lt i)

    same_place : (i j : Fin h) (l : ℕ) (b : l < h) → IsRotationProduct group (slice_index xs (to_nat i)) (slice_index xs (to_nat j))
        (slice_index xs l) → theory.product i j ≡ from_nat h l b
    same_place i j l b p = site_rotation_distinct G x (fixing_at group x {h = h} xs d) (site_numbering group x xs places h count d)
        (theory.product i j) (from_nat h l b)
        (ap (λ (g : Operation). g.rotation) (sym (theory_is.products i j))
        ∙ rotation-op (fixing_at group x xs d i) (fixing_at group x xs d j)
        ∙ ap₂ (λ R S. R · S) (fixing-rotation (operation (get_or group.ops.items (slice_index xs (to_nat i)) d)) x)
        (fixing-rotation (operation (get_or group.ops.items (slice_index xs (to_nat j)) d)) x)
        ∙ sym (p.is d) ∙ sym (fixing-rotation (operation (get_or group.ops.items (slice_index xs l) d)) x)
        ∙ ap (λ m. (fixing (operation (get_or group.ops.items (slice_index xs m) d)) x).rotation) (sym (to_nat-from_nat h l b)))

    module _ (products exponents : List ℕ) (ps : AreEntries (length xs) (IsPlaceProduct group xs) products)
        (es : AreEntries (length xs) (λ a b y. y ≡ 0) exponents) where
      pub listed_theory : IsListed theory n products exponents
      listed_theory = record {
        same_order = theory_is.is_order;
        product-entry = λ i j.
            let q = ps (to_nat i) (to_nat j) (within i) (within j) in
            let y = entry (length xs) products (to_nat i) (to_nat j) in
            let b : y < h = subst (λ m. y < m) (sym count) q.0 in
            ap to_nat (same_place i j y b q.1) ∙ to_nat-from_nat h y b
            ∙ ap (λ m. entry m products (to_nat i) (to_nat j)) (sym count);
        exponent-entry = λ i j. theory_is.exponents i j ∙ sym (es (to_nat i) (to_nat j) (within i) (within j))
            ∙ ap (λ m. entry m exponents (to_nat i) (to_nat j)) (sym count);
      }

      pub lists_group : ProductGroup h (entry h products)
      lists_group = listed-group theory n products exponents listed_theory

      pub lists_inverses : HasInverses h (entry h products)
      lists_inverses = listed-inverses theory n products exponents listed_theory

      pub lists_factors : IsFactorSystem n h (entry h products) (entry h exponents)
      lists_factors = listed-factors theory n products exponents listed_theory

      pub table_of_lists : (U : PhaseTable h) → IsListed U n products exponents → IsSiteTable n (fixing_at group x {h = h} xs d) U
      table_of_lists U listed = record {
        is_order = listed.same_order;
        products = λ i j. theory_is.products i j ∙ ap (fixing_at group x {h = h} xs d)
            (to_nat_inj (theory.product i j) (U.product i j) (listed_theory.product-entry i j ∙ sym (listed.product-entry i j)));
        exponents = λ i j. listed.exponent-entry i j ∙ sym (listed_theory.exponent-entry i j) ∙ theory_is.exponents i j;
      }
