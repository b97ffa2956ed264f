-- Generators with the same rotations, and the kept operations of a closing of seeds.
--   few_along              generators with the rotations of generated operations generate few rotations
--   kept_of_seeds          what may be kept by the seeds may be kept by the generators
--   seeds_small            the seeds have a small common denominator where the generators do
--   seeds_numbers          and small numbers
--   seeded_all             each generator has a seed
--   kept_rotations         their rotations are a group
--   kept_generators, kept_products   the kept operations have the products with the generators and with each other
use Rattle.irr_close.proofs.Lattice.{invertible_generated, invertible_operations, inverse_operation}
use Rattle.irr_close.specs.Canonical.{IsRotationGroup}
use Rattle.std.proofs.Common.{◌≡◌, sym, ◌∙◌, ap, subst, refl, ℕ, List, length, get_or, ◌<◌}
use Rattle.std.specs.List.{All, Contains, HoldsAt}
use Rattle.std.specs.Int.{◌∣◌}
use Rattle.irr_algebra.specs.Matrix.{◌·◌, ◌⊖◌, unit, null}
use Rattle.irr_number.specs.Integers.{integers}
use Rattle.irr_rational.specs.Integer.{whole_matrix}
use Rattle.irr_rational.specs.Rational.{rationals}
use Rattle.irr_space.specs.Operation.{Operation, Rotation, ◌⊙◌, identity}
use Rattle.irr_space.specs.SpaceGroup.{Generated}
use Rattle.irr_space.specs.SpaceGroup.Generated.{one, generator, unit_translation, product, inverse}
use Rattle.irr_seitz.proofs.Adjugate.{adjoint-mul}
use Rattle.irr_seitz.proofs.Inverses.{inverse_of}
use Rattle.irr_seitz.specs.Rotation.{IsWithin}
use Rattle.irr_seitz.specs.OperationMeaning.{operation}
use Rattle.irr_seitz.specs.declared.op.Op.{Op}
use Rattle.irr_close.specs.Limits.{operations, HasFewRotations, HasSmallDenominator}
use Rattle.irr_close.specs.Closing.{IsGenerator, IsKept, IsPartial, HasRotation, HasProducts, IsOneOf, AreSeeds}
use Rattle.irr_close.specs.Centring.{AreInvertible}
use Rattle.irr_close.proofs.Keeping.{generated_at, product-rotation}
use Rattle.irr_close.proofs.Standing.{rotation_of_generated}
use Rattle.irr_close.proofs.Seeds.{generated_by_seeds}

-- an operation of a group with a rotation
abbrev pub HasGeneratedRotation : List Operation → Rotation → Type 0
HasGeneratedRotation gens R = (t : Operation) × Generated gens t × (t.rotation ≡ R)

along_rotation : (gens more : List Operation) → ((s : Operation) → Contains gens s → HasGeneratedRotation more s.rotation) → {g : Operation}
    → Generated gens g → HasGeneratedRotation more g.rotation
unfolding identity
along_rotation gens more all one = (identity, one, refl)
along_rotation gens more all (generator {g} m) = all g m
along_rotation gens more all (unit_translation i) = (_, unit_translation i, refl)
along_rotation gens more all (product {g} {h} p q) = let a = along_rotation gens more all p in let b = along_rotation gens more all q in (
  a.0 ⊙ b.0,
  product a.1 b.1,
  product-rotation a.0 b.0 ∙ ap (λ (R : Rotation). R · b.0.rotation) a.2 ∙ ap (λ (R : Rotation). g.rotation · R) b.2
      ∙ sym (product-rotation g h),
)
along_rotation gens more all (inverse {g} {h} e p) = let a = along_rotation gens more all p in inverted a.0 a.1 a.2
  where
    right : (t : Operation) → t.rotation ≡ g.rotation → t.rotation · h.rotation ≡ unit integers 3
    right t f = ap (λ (R : Rotation). R · h.rotation) f ∙ sym (product-rotation g h) ∙ ap (λ (x : Operation). x.rotation) e.right

    inverted : (t : Operation) → Generated more t → t.rotation ≡ g.rotation → HasGeneratedRotation more h.rotation
    inverted t q f = (
      record { rotation = h.rotation; vector = null ⊖ (whole_matrix rationals h.rotation · t.vector) },
      inverse (inverse_of t (record { rotation = h.rotation; vector = null ⊖ (whole_matrix rationals h.rotation · t.vector) }) (right t f)
          (adjoint-mul t.rotation h.rotation (right t f)) refl) q,
      refl,
    )

pub few_along : (gens more : List Operation) → ((s : Operation) → Contains gens s → HasGeneratedRotation more s.rotation) → HasFewRotations more
    → HasFewRotations gens
few_along gens more all few = record {
  rotations = few.rotations;
  few = few.few;
  all = λ g h. let t = along_rotation gens more all h in subst (Contains few.rotations) t.2 (few.all t.0 t.1);
  within = λ g h. let t = along_rotation gens more all h in subst (IsWithin 9) t.2 (few.within t.0 t.1);
}

seeds_divide : (gs seeds : List Op) (D : ℕ) → All (IsOneOf gs) seeds → All (λ s. s.den ∣ D) gs → All (λ s. s.den ∣ D) seeds
seeds_divide gs seeds D from all k d l = let h = from k d l in subst (λ (x : Op). x.den ∣ D) (h.2 d) (all h.0 d h.1)

pub kept_of_seeds : (gs seeds : List Op) (g : Op) → All (IsOneOf gs) seeds → IsKept seeds g → IsKept gs g
kept_of_seeds gs seeds g from k = record {
  generated = generated_by_seeds gs seeds from k.generated;
  within = k.within;
  in_cell = k.in_cell;
  divides = λ D p all. k.divides D p (seeds_divide gs seeds D from all);
}

pub seeds_small : (gs seeds : List Op) → All (IsOneOf gs) seeds → HasSmallDenominator gs → HasSmallDenominator seeds
seeds_small gs seeds from c =
    record { common = c.common; positive = c.positive; small = c.small; multiple = seeds_divide gs seeds c.common from c.multiple }

pub seeds_numbers : (gs seeds : List Op) → All (IsOneOf gs) seeds → All IsGenerator gs → All IsGenerator seeds
seeds_numbers gs seeds from all k d l = let h = from k d l in subst IsGenerator (h.2 d) (all h.0 d h.1)

pub seeded_all : (gs seeds : List Op) → AreSeeds gs seeds (length gs) → All (λ s. HasRotation seeds (operation s).rotation) gs
seeded_all gs seeds s k d l = s.seeded k l d

identity_rotation : identity.rotation ≡ unit integers 3
unfolding identity
identity_rotation = refl

module _ (gs seeds kept : List Op) (inv : AreInvertible gs) (s : AreSeeds gs seeds (length gs)) (partial : IsPartial seeds kept)
    (products : All (λ g. HasProducts kept (operation g).rotation seeds (length seeds)) kept) where
  pub kept_all : All (IsKept gs) kept
  kept_all k d l = kept_of_seeds gs seeds (get_or kept k d) s.from_list (partial.kept k d l)

  has_product : (d : Op) (g h : Operation) → Generated (operations gs) g → Generated (operations gs) h → HasRotation kept (g.rotation · h.rotation)
  has_product d g h p q = subst (HasRotation kept) (product-rotation g h)
      (rotation_of_generated gs seeds kept inv (seeded_all gs seeds s) partial products d (g ⊙ h) (product p q))

  pub kept_generators : HoldsAt (λ g. All (λ s. HasRotation kept ((operation g).rotation · (operation s).rotation)) gs) kept 0
  kept_generators d k f l = has_product d (operation (get_or kept 0 d)) (operation (get_or gs k f)) (kept_all 0 d partial.nonempty).generated
      (generated_at gs k f l)

  pub kept_products : All (λ g. All (λ h. HasRotation kept ((operation g).rotation · (operation h).rotation)) kept) kept
  kept_products j d l k f m = has_product d (operation (get_or kept j d)) (operation (get_or kept k f)) (kept_all j d l).generated
      (kept_all k f m).generated

  kept_inverse : (d : Op) (g : Operation) → Generated (operations gs) g
      → (k : ℕ) × (k < length kept) × HoldsAt (λ h. g.rotation · (operation h).rotation ≡ unit integers 3) kept k
  kept_inverse d g p =
      let a = invertible_generated (operations gs) (invertible_operations gs inv) p in
      let t = inverse_operation g a.0 a.1 in
      let r = rotation_of_generated gs seeds kept inv (seeded_all gs seeds s) partial products d t.0 (inverse t.1 p) in (
        r.0,
        r.1,
        λ f. ap (λ (R : Rotation). g.rotation · R) (r.2 f) ∙ sym (product-rotation g t.0) ∙ ap (λ (h : Operation). h.rotation) t.1.right
            ∙ identity_rotation,
      )

  pub kept_rotations : IsRotationGroup kept
  kept_rotations = record {
    has_unit = (0, partial.nonempty, λ f. ap (λ (g : Operation). g.rotation) (partial.identity_first f) ∙ identity_rotation);
    products = kept_products;
    inverses = λ k d l. kept_inverse d (operation (get_or kept k d)) (kept_all k d l).generated;
  }
