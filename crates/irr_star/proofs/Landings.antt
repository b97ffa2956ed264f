-- Where an operation takes an arm: by the product h_i g_p with its rotation, up to a translation.
--   found            an arm and a place whose product has the rotation of g h_j
--   landed           g h_j = h_i (1|t) g_p, where t is the translation turned back
--   turned_phase     the phase of the translation at the arm is that of t
--   phase_whole      M times the product of the arm and the translation is whole
use Rattle.std.proofs.Common.{◌≡◌, sym, ◌∙◌, ap, subst, refl, ℕ, ◌<◌, pos, ◌*ℤ◌, ◌+ℤ◌}
use Rattle.std.specs.Int.{◌∣◌}
use Rattle.irr_algebra.specs.Fin.{Fin}
use Rattle.irr_algebra.specs.Matrix.{◌·◌, ◌⊖◌}
use Rattle.irr_algebra.proofs.Rings.{one-mul}
use Rattle.irr_rational.specs.Integer.{integer}
use Rattle.irr_rational.specs.Rational.{rationals, IsWhole}
use Rattle.irr_rational.proofs.Integers.{integer-mul, integer-one}
use Rattle.irr_space.specs.Operation.{Operation, Vector, WaveVector, ◌⊙◌, translation, turned, dot}
use Rattle.irr_space.specs.SpaceGroup.{IsTranslation}
use Rattle.irr_space.specs.Reciprocal.{Sign, IsPhase, AreEquivalent, sign_number}
use Rattle.irr_space.specs.Reciprocal.Sign.{minus, plus}
use Rattle.irr_space.specs.Star.{IsInLittleGroup}
use Rattle.irr_cocycle.specs.SpaceGroupLaws.{IsGroup, HasCanonical}
use Rattle.irr_cocycle.proofs.Operations.{wide, op-assoc, dot-turned, rotation-translation-op, translation_between}
use Rattle.irr_cocycle.proofs.Reciprocals.{equivalent_sym, little_rotation}
use Rattle.irr_little.proofs.SubgroupTables.{product_translation}
use Rattle.irr_full.specs.Star.{Star, carrier}
use Rattle.irr_full.proofs.StarLaws.{back, back_member, back_inverse, carrier_member, image-back, move, undone}
use Rattle.irr_full.proofs.LittleMatrices.{little_place, passes_back, phase_exists, split_translation}
use Rattle.irr_full.proofs.PhaseLaws.{phase_by_dot, phase_equivalent}

sign_square : (s : Sign) → sign_number s *ℤ sign_number s ≡ pos 1
unfolding sign_number
sign_square minus = refl
sign_square plus = refl

-- where a vector has a phase, M times the product is whole
whole_of_phase : (s : Sign) (M : ℕ) (k : WaveVector) (t : Vector) (x : ℕ) → IsPhase s M k t x → IsWhole
    (rationals.mul (integer rationals (pos M)) (dot k t))
whole_of_phase s M k t x p =
    let q = rationals.mul (integer rationals (pos M)) (dot k t) in
    let y = pos x +ℤ (p.turns *ℤ pos M) in
    record {
      number = sign_number s *ℤ y;
      is = sym (one-mul rationals q)
          ∙ ap (λ a. rationals.mul a q) (sym (integer-one rationals) ∙ ap (integer rationals) (sym (sign_square s))
          ∙ integer-mul rationals (sign_number s) (sign_number s))
          ∙ rationals.mul_assoc (integer rationals (sign_number s)) (integer rationals (sign_number s)) q
          ∙ ap (rationals.mul (integer rationals (sign_number s)))
          (sym (rationals.mul_assoc (integer rationals (sign_number s)) (integer rationals (pos M)) (dot k t))
          ∙ ap (λ a. rationals.mul a (dot k t)) (sym (integer-mul rationals (sign_number s) (pos M))) ∙ p.congruent)
          ∙ sym (integer-mul rationals (sign_number s) y);
    }

rotation-op : (g h : Operation) → (g ⊙ h).rotation ≡ g.rotation · h.rotation
unfolding ◌⊙◌
rotation-op g h = refl

module _ (G : Operation → Type 0) (group : IsGroup G) (chosen : HasCanonical G) {s : Sign} {k : WaveVector}
    (S : Star s G k) (M : ℕ) (positive : 0 < M)
    (v : S.table.order ∣ M) where
  pub found : (g : Operation) → G g → (j : Fin S.arms)
      → (i : Fin S.arms) × (p : Fin S.places) × ((g ⊙ carrier S j).rotation ≡ (carrier S i ⊙ S.operation p).rotation)
  found g m j = from_move (move G group chosen S g m j)
    where
      from_move : (i : Fin S.arms) × (n : Operation) × IsInLittleGroup G k n × (g ⊙ carrier S j ≡ carrier S i ⊙ n)
          → (i : Fin S.arms) × (p : Fin S.places) × ((g ⊙ carrier S j).rotation ≡
          (carrier S i ⊙ S.operation p).rotation)
      from_move (i, n, in_n, e) = let q = little_place G group chosen S M positive v n in_n in (
        i,
        q.0,
        ap (λ (f : Operation). f.rotation) e ∙ rotation-op (carrier S i) n
            ∙ ap (λ r. (carrier S i).rotation · r) (ap (λ (f : Operation). f.rotation) q.2 ∙ rotation-translation-op q.1
            (S.operation q.0))
            ∙ sym (rotation-op (carrier S i) (S.operation q.0)),
      )

  module _ (g : Operation) (m : G g) (i j : Fin S.arms) (p : Fin S.places)
      (same : (g ⊙ carrier S j).rotation ≡ (carrier S i ⊙ S.operation p).rotation) where
    -- between g h_j and h_i g_p
    abbrev pub between : Vector
    between = (g ⊙ carrier S j).vector ⊖ (carrier S i ⊙ S.operation p).vector

    -- before h_i
    abbrev pub before : Vector
    before = wide (back G group chosen S i) · between

    apart : g ⊙ carrier S j ≡ translation between ⊙ (carrier S i ⊙ S.operation p)
    apart = translation_between (g ⊙ carrier S j) (carrier S i ⊙ S.operation p) same

    pub landed : g ⊙ carrier S j ≡ carrier S i ⊙ (translation before ⊙ S.operation p)
    landed = apart ∙ sym (op-assoc (translation between) (carrier S i) (S.operation p))
        ∙ ap (λ x. x ⊙ S.operation p) (passes_back (carrier S i) (back G group chosen S i) between
        (back_inverse G group chosen S i))
        ∙ op-assoc (carrier S i) (translation before) (S.operation p)

    member : G (translation before ⊙ S.operation p)
    member = subst G
        (ap (λ x. back G group chosen S i ⊙ x) landed
        ∙ undone (carrier S i) (back G group chosen S i) (translation before ⊙ S.operation p)
        (back_inverse G group chosen S i))
        (group.has_product (back G group chosen S i) (g ⊙ carrier S j) (back_member G group chosen S i)
        (group.has_product g (carrier S j) m (carrier_member G group chosen S j)))

    pub landed-little : IsInLittleGroup G k (translation before ⊙ S.operation p)
    landed-little = little_rotation G group k (S.operation p) (translation before ⊙ S.operation p)
        (S.numbering.member p) member
        (rotation-translation-op before (S.operation p))

    translation_before : IsTranslation G before
    translation_before = split_translation G group chosen S M positive v
        (translation before ⊙ S.operation p) member before p refl

    translation_between_them : IsTranslation G between
    translation_between_them = product_translation G group g (carrier S j) (carrier S i ⊙ S.operation p) between m
        (carrier_member G group chosen S j)
        (group.has_product (carrier S i) (S.operation p) (carrier_member G group chosen S i)
        (S.numbering.member p).member) apart

    near : AreEquivalent G (S.arm i) (turned k (back G group chosen S i))
    near = subst (λ w. AreEquivalent G (S.arm i) w) (image-back G group chosen S i) (S.are_arms.carries i).equivalent

    pub turned_phase : (x : ℕ) → IsPhase s M (S.arm i) between x → IsPhase s M k before x
    turned_phase x h = phase_by_dot s M (turned k (back G group chosen S i)) k between before x
        (sym (dot-turned k (back G group chosen S i) between))
        (phase_equivalent s M G (S.arm i) (turned k (back G group chosen S i)) between x
        (equivalent_sym G (S.arm i) (turned k (back G group chosen S i)) near) translation_between_them h)

    pub phase_whole : IsWhole (rationals.mul (integer rationals (pos M)) (dot (S.arm i) between))
    phase_whole = let x = phase_exists G group chosen S M positive v before translation_before in
        whole_of_phase s M (S.arm i) between x.0
        (phase_equivalent s M G (turned k (back G group chosen S i)) (S.arm i) between x.0 near translation_between_them
        (phase_by_dot s M k (turned k (back G group chosen S i)) before between x.0
        (dot-turned k (back G group chosen S i) between) x.1))
