-- The operations that carry a point to its sites, one after another.
--   IsFirst                        no earlier operation carries the point there, modulo translations
--   SearchSoFar                    those among the first j, and that the others come back to them
--   search_none, search_push, search_skip
--   search_all                     all of them
use Rattle.std.proofs.Common.{◌≡◌, sym, ◌∙◌, ap, subst, subst₂, inl, inr, ℕ, ◌+◌, ◌<◌, ◌≤◌, List, [], ◌∷◌, ◌++◌, length, get_or, slice_index, Contains, arith}
use Rattle.std.proofs.lemmas.Bool.{cases_lt}
use Rattle.std.proofs.lemmas.List.{get_or_default}
use Rattle.std.proofs.lemmas.List.Elements.{Contains-append_left, Contains-push, Contains-get_or}
use Rattle.irr_algebra.specs.Fin.{Fin, to_nat}
use Rattle.irr_algebra.proofs.Indices.{from_nat, to_nat-from_nat, to_nat-lt}
use Rattle.irr_space.specs.Operation.{Operation, Vector}
use Rattle.irr_seitz.specs.OperationMeaning.{operation}
use Rattle.irr_seitz.specs.declared.op.Op.{Op}
use Rattle.irr_close.specs.StandsFor.{stands_for}
use Rattle.irr_close.specs.declared.group.Group.{Group}
use Rattle.irr_close.proofs.SpaceGroups.{space_group}
use Rattle.irr_little.specs.Places.{AreListed}
use Rattle.irr_little.proofs.Listing.{listed-none, listed-push, listed-skip}
use Rattle.irr_orbit.specs.Site.{AreSites, AreTogether, image}
use Rattle.irr_orbit.proofs.Sites.{together_refl, together_trans}
use Rattle.irr_site.specs.Orbits.{AreSiteNumbers}
use Rattle.irr_site.proofs.Cosets.{some_op}

pub below_or_last : (P : ℕ → Type 0) (i j : ℕ) → i < j + 1 → (i < j → P i) → P j → P i
below_or_last P i j l before last = elim (cases_lt i j) [
  | inl m ↦ before m
  | inr m ↦ (let e : j ≡ i = omega (arith, l, m) in subst P e last)
]

module _ (group : Group) (x : Vector) where
  abbrev G : Operation → Type 0
  G = stands_for group

  abbrev pub carried : Op → ℕ → Vector
  carried d p = image (operation (get_or group.ops.items p d)) x

  abbrev pub IsFirst : ℕ → Type 0
  IsFirst j = (d : Op) (i : ℕ) → i < j → AreTogether (stands_for group) (image (operation (get_or group.ops.items j d)) x)
      (image (operation (get_or group.ops.items i d)) x) → ⊥

  pub record SearchSoFar (j : ℕ) (xs : List ℕ) : Type 0 where
    pub listed : AreListed IsFirst j xs
    pub reach : (d : Op) (i : ℕ) → i < j → (p : ℕ) × Contains xs p × (p ≤ i)
        × AreTogether (stands_for group) (image (operation (get_or group.ops.items i d)) x)
        (image (operation (get_or group.ops.items p d)) x)

  pub search_none : SearchSoFar 0 []
  search_none = record { listed = listed-none IsFirst; reach = λ d i l. absurd (omega (arith, l)) }

  pub search_push : (j : ℕ) (xs : List ℕ) → SearchSoFar j xs → IsFirst j → SearchSoFar (j + 1) (xs ++ j ∷ [])
  search_push j xs so first = record {
    listed = listed-push IsFirst xs j so.listed first;
    reach = λ d i l. below_or_last (λ n. (p : ℕ) × Contains (xs ++ j ∷ []) p × (p ≤ n)
        × AreTogether (stands_for group) (image (operation (get_or group.ops.items n d)) x)
        (image (operation (get_or group.ops.items p d)) x)) i j l
        (λ m. let r = so.reach d i m in (r.0, Contains-append_left xs (j ∷ []) r.0 r.1, r.2, r.3))
        (j, Contains-push xs j, omega arith, together_refl (stands_for group) (space_group group).is_group (carried d j));
  }

  -- an earlier one carries the point there too
  abbrev pub ComesBack : ℕ → Type 0
  ComesBack j = (i : ℕ) × (i < j) × ((d : Op) → AreTogether (stands_for group) (image (operation (get_or group.ops.items j d)) x)
      (image (operation (get_or group.ops.items i d)) x))

  pub search_skip : (j : ℕ) (xs : List ℕ) → SearchSoFar j xs → ComesBack j → SearchSoFar (j + 1) xs
  search_skip j xs so back = record {
    listed = listed-skip IsFirst xs j so.listed (λ f. let d = some_op group in f d back.0 back.1 (back.2 d));
    reach = λ d i l. below_or_last (λ n. (p : ℕ) × Contains xs p × (p ≤ n)
        × AreTogether (stands_for group) (image (operation (get_or group.ops.items n d)) x)
        (image (operation (get_or group.ops.items p d)) x)) i j l
        (so.reach d i)
        (let r = so.reach d back.0 back.1 in (
          r.0,
          r.1,
          (let a : r.0 ≤ back.0 = r.2 in let b : back.0 < j = back.1 in omega (arith, a, b)),
          together_trans (stands_for group) (space_group group).is_group (carried d j) (carried d back.0) (carried d r.0)
              (back.2 d) r.3,
        ));
  }

  pub search_all : (xs : List ℕ) → SearchSoFar (length group.ops.items) xs → AreSiteNumbers group x xs
  search_all xs so = record {
    number = number;
    number_is = number-is;
    are_sites = λ d. record {
      ordered = λ a b l. subst₂ (λ m n. m < n) (sym (number-is a)) (sym (number-is b))
          (so.listed.increasing (to_nat a) (to_nat b) l (to_nat-lt b));
      apart = λ a b l t. so.listed.holds (at b) (in_list b) d (at a)
          (so.listed.increasing (to_nat a) (to_nat b) l (to_nat-lt b))
          (subst₂ (λ m n. AreTogether G (carried d m) (carried d n)) (number-is b) (number-is a) t);
      all = λ i. found d i (so.reach d (to_nat i) (to_nat-lt i));
    };
  }
    where
      at : Fin (length xs) → ℕ
      at a = slice_index xs (to_nat a)

      in_list : (a : Fin (length xs)) → Contains xs (slice_index xs (to_nat a))
      in_list a = Contains-get_or xs (to_nat a) 0 (to_nat-lt a)

      inside : (a : Fin (length xs)) → slice_index xs (to_nat a) < length group.ops.items
      inside a = so.listed.below (slice_index xs (to_nat a)) (in_list a)

      number : Fin (length xs) → Fin (length group.ops.items)
      number a = from_nat (length group.ops.items) (slice_index xs (to_nat a)) (inside a)

      number-is : (a : Fin (length xs)) → to_nat (number a) ≡ slice_index xs (to_nat a)
      number-is a = to_nat-from_nat (length group.ops.items) (slice_index xs (to_nat a)) (inside a)

      found : (d : Op) (i : Fin (length group.ops.items)) → (p : ℕ) × Contains xs p × (p ≤ to_nat i)
          × AreTogether G (carried d (to_nat i)) (carried d p)
          → (a : Fin (length xs)) × (to_nat (number a) ≤ to_nat i) × AreTogether G (carried d (to_nat i)) (carried d (to_nat (number a)))
      found d i (p, c, l, t) =
          let a = from_nat (length xs) c.0 c.1 in
          let e : p ≡ to_nat (number a) = sym (number-is a ∙ ap (slice_index xs) (to_nat-from_nat (length xs) c.0 c.1)
          ∙ get_or_default xs c.0 0 p c.1 ∙ c.2) in (
            a,
            subst (λ n. n ≤ to_nat i) e l,
            subst (λ n. AreTogether G (carried d (to_nat i)) (carried d n)) e t,
          )
