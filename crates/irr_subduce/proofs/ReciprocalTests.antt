-- Whether a wave vector is in the reciprocal lattice T* of a group of the program is decided.
--   decide_listed         whether each item of a list has a property
--   decide_reciprocal     whether a wave vector is in T*
use Rattle.std.proofs.Common.{subst, ◌⊎◌, inl, inr, ◌∙◌, List, length, get_or, ◌<◌}
use Rattle.std.specs.List.{Contains}
use Rattle.std.proofs.lemmas.List.{get_or_default}
use Rattle.std.proofs.lemmas.List.Elements.{Contains-get_or}
use Rattle.irr_algebra.specs.Fin.{to_nat}
use Rattle.irr_algebra.proofs.Indices.{all_or_one, from_nat, to_nat-from_nat, to_nat-lt}
use Rattle.irr_rational.specs.Rational.{IsWhole}
use Rattle.irr_rational.proofs.WholeNumbers.{whole_decide}
use Rattle.irr_space.specs.Operation.{WaveVector, dot, wave_component}
use Rattle.irr_space.specs.Reciprocal.{IsReciprocal}
use Rattle.irr_rat.specs.VectorMeaning.{vector}
use Rattle.irr_rat.specs.declared.vec3.Vec3.{Vec3}
use Rattle.irr_kvec.proofs.Lattices.{reciprocal_whole, reciprocal_centring, reciprocal_from}
use Rattle.irr_close.specs.StandsFor.{stands_for}
use Rattle.irr_close.specs.declared.group.Group.{Group}
use Rattle.irr_close.proofs.Bareness.{first_of}
use Rattle.irr_close.proofs.SpaceGroups.{space_group}
use Rattle.irr_little.proofs.Spaces.{form_of, same_reciprocal}

-- whether each item has a property
pub decide_listed : {X : Type 0} (P : X → Type 0) (xs : List X) → 0 < length xs → ((x : X) → P x ⊎ (P x → ⊥))
    → ((x : X) → Contains xs x → P x) ⊎ ((x : X) × Contains xs x × (P x → ⊥))
decide_listed {X} P xs some decide = let d = first_of xs some in
    elim (all_or_one (length xs) (λ i. P (get_or xs (to_nat i) d)) (λ i. P (get_or xs (to_nat i) d) → ⊥)
    (λ i. decide (get_or xs (to_nat i) d))) [
      | inl all ↦ inl (λ x m. subst P (get_or_default xs m.0 d x m.1 ∙ m.2)
          (subst (λ n. P (get_or xs n d)) (to_nat-from_nat (length xs) m.0 m.1) (all (from_nat (length xs) m.0 m.1))))
      | inr one ↦ inr (get_or xs (to_nat one.0) d, Contains-get_or xs (to_nat one.0) d (to_nat-lt one.0), one.1)
    ]

pub decide_reciprocal : (group : Group) (k : WaveVector) → IsReciprocal (stands_for group) k
    ⊎ (IsReciprocal (stands_for group) k → ⊥)
decide_reciprocal group k = elim
    (all_or_one 3 (λ i. IsWhole (wave_component k i)) (λ i. IsWhole (wave_component k i) → ⊥)
    (λ i. whole_decide (wave_component k i))) [
      | inr one ↦ inr (λ r. one.1 (reciprocal_whole group.centrings.items (space_group group).centrings.zero k
          ((same_reciprocal group k).0 r) one.0))
      | inl components ↦ (elim (decide_listed (λ (c : Vec3). IsWhole (dot k (vector c))) group.centrings.items
          (form_of group).has_centring (λ c. whole_decide (dot k (vector c)))) [
            | inl along ↦ inl ((same_reciprocal group k).1
                (reciprocal_from group.centrings.items (space_group group).centrings.zero k components along))
            | inr one ↦ inr (λ r. one.2 (reciprocal_centring group.centrings.items (space_group group).centrings.zero k
                ((same_reciprocal group k).0 r) one.0 one.1))
          ])
    ]
