-- The reciprocal lattice of a group of operations, and the equivalence of wave vectors.
--   equivalent_refl, equivalent_sym, equivalent_trans
--   reciprocal-turned, equivalent-turned    operations of the group keep both
--   little_product, little_inverse          the little group is closed
use Rattle.std.proofs.Common.{◌≡◌, sym, ◌∙◌, ap, subst}
use Rattle.irr_algebra.specs.Matrix.{◌·◌, ◌⊖◌}
use Rattle.irr_algebra.proofs.Rings.{ring_laws}
use Rattle.irr_rational.specs.Rational.{Rational, rationals, IsWhole}
use Rattle.irr_rational.proofs.WholeNumbers.{whole-add, whole-neg}
use Rattle.irr_lattice.proofs.Vectors.{whole_zero}
use Rattle.irr_space.specs.Operation.{Operation, Vector, WaveVector, ◌⊙◌, identity, translation, IsInverse, dot, turned}
use Rattle.irr_space.specs.SpaceGroup.{IsTranslation}
use Rattle.irr_space.specs.Reciprocal.{IsReciprocal, AreEquivalent}
use Rattle.irr_space.specs.Star.{IsInLittleGroup}
use Rattle.irr_cocycle.specs.SpaceGroupLaws.{IsGroup}
use Rattle.irr_cocycle.proofs.Operations.{wide, dot-sub, dot-turned, turned-op, turned-sub, turned-identity, turned-rotation, conjugate-translation}

module _ (G : Operation → Type 0) where
  -- by the products with each translation
  whole_of : (a b : WaveVector) → AreEquivalent G a b → (t : Vector) → IsTranslation G t → IsWhole (rationals.add (dot a t) (rationals.neg (dot b t)))
  whole_of a b h t m = subst IsWhole (dot-sub a b t) (h.is_whole t m)

  of_whole : (a b : WaveVector) → ((t : Vector) → IsTranslation G t → IsWhole (rationals.add (dot a t) (rationals.neg (dot b t)))) → AreEquivalent G a b
  of_whole a b h = record { is_whole = λ t m. subst IsWhole (sym (dot-sub a b t)) (h t m) }

  pub equivalent_refl : (a : WaveVector) → AreEquivalent G a a
  equivalent_refl a = of_whole a a (λ t m. subst IsWhole (sym (rationals.add-neg (dot a t))) whole_zero)

  flip : (x y : Rational) → rationals.neg (rationals.add x (rationals.neg y)) ≡ rationals.add y (rationals.neg x)
  flip x y = simp (ring_laws, rationals)

  pub equivalent_sym : (a b : WaveVector) → AreEquivalent G a b → AreEquivalent G b a
  equivalent_sym a b h = of_whole b a (λ t m. subst IsWhole (flip (dot a t) (dot b t)) (whole-neg (rationals.add (dot a t) (rationals.neg (dot b t))) (whole_of a b h t m)))

  chain : (x y z : Rational) → rationals.add (rationals.add x (rationals.neg y)) (rationals.add y (rationals.neg z)) ≡ rationals.add x (rationals.neg z)
  chain x y z = rationals.add_assoc x (rationals.neg y) (rationals.add y (rationals.neg z)) ∙ ap (rationals.add x) (sym (rationals.add_assoc (rationals.neg y) y (rationals.neg z))
      ∙ ap (λ w. rationals.add w (rationals.neg z)) (rationals.add_comm (rationals.neg y) y ∙ rationals.add-neg y) ∙ rationals.add_comm rationals.zero (rationals.neg z) ∙ rationals.add-zero (rationals.neg z))

  pub equivalent_trans : (a b c : WaveVector) → AreEquivalent G a b → AreEquivalent G b c → AreEquivalent G a c
  equivalent_trans a b c h k = of_whole a c (λ t m. subst IsWhole (chain (dot a t) (dot b t) (dot c t))
      (whole-add (rationals.add (dot a t) (rationals.neg (dot b t))) (rationals.add (dot b t) (rationals.neg (dot c t))) (whole_of a b h t m) (whole_of b c k t m)))

  module _ (group : IsGroup G) where
    -- an operation of the group takes translations to translations
    pub translation-turned : (g : Operation) (t : Vector) → G g → IsTranslation G t → IsTranslation G (wide g · t)
    translation-turned g t m h = let i = group.has_inverse g m in
        subst G (sym (conjugate-translation g i.0 t i.2)) (group.has_product (g ⊙ translation t) i.0 (group.has_product g (translation t) m h) i.1)

    pub reciprocal-turned : (k : WaveVector) (g : Operation) → G g → IsReciprocal G k → IsReciprocal G (turned k g)
    reciprocal-turned k g m h = record { is_whole = λ t s. subst IsWhole (dot-turned k g t) (h.is_whole (wide g · t) (translation-turned g t m s)) }

    pub equivalent-turned : (a b : WaveVector) (g : Operation) → G g → AreEquivalent G a b → AreEquivalent G (turned a g) (turned b g)
    equivalent-turned a b g m h = subst (IsReciprocal G) (turned-sub a b g) (reciprocal-turned (a ⊖ b) g m h)

    pub little_identity : (k : WaveVector) → IsInLittleGroup G k identity
    little_identity k = record { member = group.has_identity; keeps = subst (λ w. AreEquivalent G w k) (sym (turned-identity k)) (equivalent_refl k) }

    pub little_product : (k : WaveVector) (g h : Operation) → IsInLittleGroup G k g → IsInLittleGroup G k h → IsInLittleGroup G k (g ⊙ h)
    little_product k g h p q = record {
      member = group.has_product g h p.member q.member;
      keeps = subst (λ w. AreEquivalent G w k) (sym (turned-op k g h)) (equivalent_trans (turned (turned k g) h) (turned k h) k (equivalent-turned (turned k g) k h q.member p.keeps) q.keeps);
    }

    pub little_inverse : (k : WaveVector) (g h : Operation) → IsInLittleGroup G k g → G h → IsInverse g h → IsInLittleGroup G k h
    little_inverse k g h p m i = record {
      member = m;
      keeps = equivalent_sym k (turned k h) (subst (λ w. AreEquivalent G w (turned k h)) (sym (turned-op k g h) ∙ ap (turned k) i.right ∙ turned-identity k) (equivalent-turned (turned k g) k h m p.keeps));
    }

    -- it depends on the rotation alone
    pub little_rotation : (k : WaveVector) (g h : Operation) → IsInLittleGroup G k g → G h → h.rotation ≡ g.rotation → IsInLittleGroup G k h
    little_rotation k g h p m e = record { member = m; keeps = subst (λ w. AreEquivalent G w k) (sym (turned-rotation k h g e)) p.keeps }
