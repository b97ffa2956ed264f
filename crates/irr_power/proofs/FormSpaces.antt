-- The tensors of a form as a representation of the group, all of whose diagonal places have the phases of the wave vector 0.
--   few_components        at most 81
--   form_space            the representation
--   origin_order          the exponent of the group is the order at 0
--   form_classes          one class
--   same_form             operations with one rotation have one matrix
--   zero_is, near_origin  the wave vector 0, and its star
--   within_nine           the rotations of a group have entries of at most 9
--   form_row_at           the row at a star is that of the part there
use Rattle.std.proofs.Common.{◌≡◌, sym, ◌∙◌, ap, ap₂, subst, refl, ℕ, zero, suc, pos, ◌<◌, ◌≤◌, ◌*ℤ◌, List, [], ◌∷◌, length, get_or, map, arith}
use Rattle.std.proofs.lemmas.Int.{ints}
use Rattle.std.specs.Int.{◌∣◌}
use lib.IntN.{zero-*ℤ}
use native.Mathlib.Nat as Nat
use Rattle.irr_algebra.specs.Ring.{Ring, whole}
use Rattle.irr_algebra.specs.Fin.{Fin, to_nat}
use Rattle.irr_algebra.specs.Fin.Fin.{first, next}
use Rattle.irr_algebra.specs.Matrix.{Matrix, null, trace, unit}
use Rattle.irr_algebra.specs.Pair.{kron}
use Rattle.irr_algebra.specs.Sum.{delta, sum}
use Rattle.irr_algebra.proofs.Indices.{from_nat, to_nat-from_nat, to_nat-lt}
use Rattle.irr_algebra.proofs.Matrices.{matrix-ext, null-mul, scale-null, unit-at}
use Rattle.irr_algebra.proofs.Rings.{mul-zero, one-mul}
use Rattle.irr_algebra.proofs.Sums.{delta-eq, sum-ext}
use Rattle.irr_number.specs.Number.{Number, numbers, root_power}
use Rattle.irr_number.proofs.RootPowers.{root_power-zero}
use Rattle.irr_rational.specs.Integer.{integer, whole_matrix}
use Rattle.irr_rational.specs.Rational.{rationals}
use Rattle.irr_rational.specs.Ratio.{ratios}
use Rattle.irr_rational.proofs.Integers.{integer-zero}
use Rattle.irr_rational.proofs.Orders.{ratio-zero}
use Rattle.irr_space.specs.Operation.{Operation, Vector, WaveVector, dot, identity, translation, turned}
use Rattle.irr_space.specs.SpaceGroup.{IsExponent}
use Rattle.irr_space.specs.Reciprocal.{AreEquivalent, IsOrder, IsPeriod, IsPhase, IsReciprocal, Sign, sign_number}
use Rattle.irr_space.specs.Star.{IsInStar}
use Rattle.irr_cocycle.specs.SpaceGroupLaws.{IsGroup}
use Rattle.irr_cocycle.proofs.Operations.{rotation-identity, rotation-translation, turned-identity, turned-op}
use Rattle.irr_cocycle.proofs.Phases.{phase_unique}
use Rattle.irr_seitz.specs.OperationMeaning.{operation}
use Rattle.irr_seitz.specs.PhaseMeaning.{sign_of}
use Rattle.irr_seitz.specs.Rotation.{IsWithin}
use Rattle.irr_kvec.specs.WaveMeaning.{wave_of, wave_vector}
use Rattle.irr_close.specs.StandsFor.{stands_for}
use Rattle.irr_close.specs.declared.group.Group.{Group}
use Rattle.irr_little.proofs.Spaces.{form_of, has_canonical, numbering_of}
use Rattle.irr_char.specs.Characters.{IsRowOf}
use Rattle.irr_full.specs.GroupRepresentation.{HasDiagonal, IsRepresentation}
use Rattle.irr_full.specs.Part.{HasPhase}
use Rattle.irr_forms.specs.Square.{skew_square, symmetric_square}
use Rattle.irr_reality.specs.Tensors.{tensors, vector_representation}
use Rattle.irr_reality.proofs.SquaresOfGroups.{skew-has_diagonal, skew-representation, symmetric-has_diagonal, symmetric-representation}
use Rattle.irr_reality.proofs.Tensors.{tensors-diagonal, tensors-representation, vector-diagonal, vector-representation}
use Rattle.irr_mult.specs.Classes.{AreClassesAt, Classes, IsRowAt, class_trace, part_trace}
use Rattle.irr_mult.specs.Listing.{item}
use Rattle.irr_mult.specs.Traced.{AreStarCharacters, SpaceRepresentation, star_on}
use Rattle.irr_mult.specs.declared.star.StarCharacters.{StarCharacters}
use Rattle.irr_mult.proofs.StarFacts.{some_operation}
use Rattle.irr_side.proofs.LittleOperations.{same_count, same_operations}
use Rattle.irr_power.specs.FormTraces.{IsStarRow}
use Rattle.irr_power.specs.Tensors.{form_matrix, form_size, origin}
use Rattle.irr_input.specs.declared.form.Form.{Form}
use Rattle.irr_input.specs.declared.form.Form.TheVariants.{Rank1, Rank2, Rank3, Rank4, Sym2, Anti2}

pub few_components : (f : Form) → form_size f ≤ 2304
few_components Rank1 = omega arith
few_components Rank2 = omega arith
few_components Rank3 = omega arith
few_components Rank4 = omega arith
few_components Sym2 = omega arith
few_components Anti2 = omega arith

module _ (G : Operation → Type 0) (R : Ring) where
  pub form_is : (f : Form) → IsRepresentation G (form_matrix R f)
  form_is Rank1 = tensors-representation G R 0
  form_is Rank2 = tensors-representation G R 1
  form_is Rank3 = tensors-representation G R 2
  form_is Rank4 = tensors-representation G R 3
  form_is Sym2 = symmetric-representation G (vector_representation R) (vector-representation G R)
  form_is Anti2 = skew-representation G (vector_representation R) (vector-representation G R)

  pub form_diagonal : (f : Form) → HasDiagonal G (form_matrix R f)
  form_diagonal Rank1 = tensors-diagonal G R 0
  form_diagonal Rank2 = tensors-diagonal G R 1
  form_diagonal Rank3 = tensors-diagonal G R 2
  form_diagonal Rank4 = tensors-diagonal G R 3
  form_diagonal Sym2 = symmetric-has_diagonal G (vector_representation R) (vector-diagonal G R)
  form_diagonal Anti2 = skew-has_diagonal G (vector_representation R) (vector-diagonal G R)

module _ (R : Ring) (g h : Operation) (e : g.rotation ≡ h.rotation) where
  same_tensors : (n : ℕ) → tensors R n g ≡ tensors R n h
  same_tensors zero = ap (whole_matrix R) e
  same_tensors (suc n) = ap₂ (λ a b. kron a b) (same_tensors n) (ap (whole_matrix R) e)

  pub same_form : (f : Form) → form_matrix R f g ≡ form_matrix R f h
  same_form Rank1 = same_tensors 0
  same_form Rank2 = same_tensors 1
  same_form Rank3 = same_tensors 2
  same_form Rank4 = same_tensors 3
  same_form Sym2 = ap (λ (a : Matrix R 3 3). symmetric_square a) (ap (whole_matrix R) e)
  same_form Anti2 = ap (λ (a : Matrix R 3 3). skew_square a) (ap (whole_matrix R) e)

at_translation : (R : Ring) (f : Form) (t : Vector) → form_matrix R f (translation t) ≡ unit R (form_size f)
at_translation R f t = same_form R (translation t) identity (rotation-translation t ∙ sym rotation-identity) f
    ∙ (form_is (λ g. Unit {0}) R f).at-identity

abbrev pub form_space : Group → (M : ℕ) → 0 < M → Form → SpaceRepresentation
form_space group M positive f = record {
  group = group;
  order = M;
  positive = positive;
  size = form_size f;
  at = form_matrix (numbers M) f;
  is_representation = form_is (stands_for group) (numbers M) f;
  has_diagonal = form_diagonal (stands_for group) (numbers M) f;
}

-- the wave vector 0 has no phases, and the period 1
dot-origin : (t : Vector) → dot origin t ≡ rationals.zero
unfolding dot numbers null
dot-origin t = ap (λ (m : Matrix rationals 1 1). m.at first first) (null-mul t)

turned-origin : (g : Operation) → turned origin g ≡ origin
unfolding turned
turned-origin g = null-mul (whole_matrix rationals g.rotation)

origin_phase : (s : Sign) (n : ℕ) → 0 < n → (t : Vector) → IsPhase s n origin t 0
origin_phase s n positive t = record {
  below = positive;
  turns = pos 0;
  congruent = ap (rationals.mul (integer rationals (sign_number s *ℤ pos n))) (dot-origin t)
      ∙ mul-zero rationals (integer rationals (sign_number s *ℤ pos n)) ∙ sym (integer-zero rationals)
      ∙ ap (integer rationals) (let e : pos 0 *ℤ pos n ≡ pos 0 = zero-*ℤ (pos n) in omega (arith, ints));
}

origin_reciprocal : (G : Operation → Type 0) → IsReciprocal G origin
origin_reciprocal G = record { is_whole = λ t m. record { number = pos 0; is = dot-origin t ∙ sym (integer-zero rationals) } }

origin_period : (G : Operation → Type 0) → IsPeriod G origin 1
origin_period G = record {
  positive = omega arith;
  reciprocal = subst (IsReciprocal G) (sym (scale-null rationals (whole rationals 1))) (origin_reciprocal G);
  least = λ n l r. omega (arith, l);
}

pub origin_order : (G : Operation → Type 0) (e : ℕ) → IsExponent G e → IsOrder G origin e
origin_order G e is = record {
  exponent = e;
  period = 1;
  is_exponent = is;
  is_period = origin_period G;
  is_product = sym (Nat.mul-one e);
}

module _ (group : Group) (M : ℕ) (positive : 0 < M) (f : Form) where
  pub origin_has_phase : (j : Fin (form_size f)) → HasPhase (sign_of group.phase) (stands_for group) origin M (form_matrix (numbers M) f) j
  origin_has_phase j t x m is =
      ap (λ (a : Matrix (numbers M) (form_size f) (form_size f)). a.at j j) (at_translation (numbers M) f t)
      ∙ unit-at (numbers M) j j ∙ delta-eq (numbers M) j j refl ∙ sym (root_power-zero M)
      ∙ ap (root_power M) (phase_unique (sign_of group.phase) M origin t 0 x (origin_phase (sign_of group.phase) M positive t) is)

  module _ (n : ℕ) (order : IsOrder (stands_for group) origin n) (divides : n ∣ M) where
    abbrev pub form_classes : Classes (form_space group M positive f)
    form_classes = record {
      count = 1;
      class = λ j. first;
      wave = λ c. origin;
      has_order = λ c. (n, order, divides);
      has_phase = origin_has_phase;
    }

    whole_class : (g : Operation) → class_trace form_classes first g ≡ trace (form_matrix (numbers M) f g)
    unfolding class_trace trace
    whole_class g = sum-ext (numbers M) (form_size f)
        (λ j. (numbers M).mul (delta (numbers M) {n = 1} first first) ((form_matrix (numbers M) f g).at j j)) (λ j. (form_matrix (numbers M) f g).at j j)
        (λ j. ap (λ x. (numbers M).mul x ((form_matrix (numbers M) f g).at j j)) (delta-eq (numbers M) {n = 1} first first refl)
        ∙ one-mul (numbers M) ((form_matrix (numbers M) f g).at j j))

    module _ (k : WaveVector) (near : AreEquivalent (stands_for group) k origin) where
      pub is_zero : (t : Fin 1) → item (0 ∷ []) t ≡ to_nat {n = 1} first
      unfolding item to_nat
      is_zero first = refl
      is_zero (next t) = elim t [ ]

      pub only : (c : Fin 1) → first ≡ c
      only first = refl
      only (next c) = elim c [ ]

      abbrev pub one_class : AreClassesAt form_classes k (0 ∷ [])
      one_class = record {
        index = λ t. first;
        is = is_zero;
        holds = λ t. near;
        all = λ c h. (first, only c);
        ordered = λ t u l. absurd (let a = to_nat-lt t in let b = to_nat-lt u in omega (arith, a, b, l));
      }

      whole_part : (g : Operation) → part_trace form_classes k one_class g ≡ trace (form_matrix (numbers M) f g)
      unfolding part_trace sum
      whole_part g = (numbers M).add-zero (class_trace form_classes first g) ∙ whole_class g

    -- a row at equally many places
    row_moved : {S : Type 0} (order : S → ℕ) (value : (n : ℕ) → S → Number n) {a b : ℕ} → a ≡ b → (x : Fin a → Number M) (y : Fin b → Number M)
        → ((i : Fin a) (j : Fin b) → to_nat i ≡ to_nat j → x i ≡ y j) → (row : List S) → IsRowOf {h = a} order value M x row
        → IsRowOf {h = b} order value M y row
    row_moved order value {a} {b} e x y same row r = record {
      count = r.count ∙ e;
      orders = r.orders;
      numbers_at = λ j.
          let inside = subst (λ n. to_nat j < n) (sym e) (to_nat-lt j) in
          let i = from_nat a (to_nat j) inside in
          let at = to_nat-from_nat a (to_nat j) inside in
          ap (λ n. get_or (map (value M) row) n (numbers M).zero) (sym at) ∙ r.numbers_at i ∙ same i j at;
    }

    pub form_row_at : {S : Type 0} (order : S → ℕ) (value : (n : ℕ) → S → Number n) (c : StarCharacters S)
        → AreStarCharacters order value group M c → AreEquivalent (stands_for group) (wave_vector c.wave) origin
        → (row : List S) → IsStarRow order value M group f c.wave row → IsRowAt order value form_classes c (0 ∷ []) row
    form_row_at order value c has near row r = record {
      has = has;
      at = one_class (wave_vector c.wave) near;
      traces = row_moved order value (same_count group (star_on has.star) (λ (p : Fin (length r.ops)). operation (item r.ops p)) r.numbering)
          (λ p. trace (form_matrix (numbers M) f (operation (item r.ops p))))
          (λ p. part_trace form_classes (wave_vector c.wave) (one_class (wave_vector c.wave) near) (has.star.operation p))
          (λ i j e. ap (λ g. trace (form_matrix (numbers M) f g)) (same_operations group (star_on has.star)
          (λ (p : Fin (length r.ops)). operation (item r.ops p)) r.numbering i j e)
          ∙ sym (whole_part (wave_vector c.wave) near (has.star.operation j))) row r.is_row;
    }

-- what is in the star of 0 is equivalent to it
pub near_origin : (G : Operation → Type 0) → IsGroup G → (k w : WaveVector) → k ≡ origin → IsInStar G k w → AreEquivalent G w origin
near_origin G is_group k w e star =
    let g = star.operation in
    let inverse = is_group.has_inverse g star.member in
    let image = star.carries.image in
    subst (AreEquivalent G w)
    (sym (turned-identity image) ∙ ap (turned image) (sym inverse.2.right) ∙ turned-op image g inverse.0
    ∙ ap (λ v. turned v inverse.0) (star.carries.turned_back ∙ e) ∙ turned-origin inverse.0) star.carries.equivalent

-- the rotations of a group have small entries
pub within_nine : (group : Group) (x : Operation) → stands_for group x → IsWithin 9 x.rotation
within_nine group x in_x =
    let c = has_canonical group x in_x in
    let j = (numbering_of group (some_operation group)).all c.0 c.1 tt in
    subst (IsWithin 9) (ap (λ (y : Operation). y.rotation) j.1 ∙ c.2)
    ((form_of group).within (to_nat j.0) (some_operation group) (to_nat-lt j.0))

-- three zeros over 1
pub zero_is : wave_of (pos 0 ∷ pos 0 ∷ pos 0 ∷ []) 1 ≡ origin
unfolding wave_of ratios to_nat numbers null
zero_is = matrix-ext each
  where
    each : (j : Fin 1) (i : Fin 3) → (wave_of (pos 0 ∷ pos 0 ∷ pos 0 ∷ []) 1).at j i ≡ origin.at j i
    each j first = ratio-zero 1 (omega arith)
    each j (next first) = ratio-zero 1 (omega arith)
    each j (next (next first)) = ratio-zero 1 (omega arith)
    each j (next (next (next i))) = elim i [ ]
