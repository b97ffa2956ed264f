-- The little groups of the group of no generators: of one operation modulo translations, with the table of one place.
--   one_table n          the table of one place, of order n
--   one_numbering        the identity is the one canonical operation
--   one_table-is_table   the table is that of the little group of a wave vector of order n
use Rattle.std.proofs.Common.{◌≡◌, sym, ◌∙◌, ap, subst, refl, ℕ, pos, ◌<◌, ◌≤◌, [], arith, ◌+ℤ◌, ◌*ℤ◌}
use Rattle.std.proofs.lemmas.Int.{ints}
use Rattle.std.specs.Int.{◌∣◌}
use native.Mathlib.Nat as Nat
use lib.IntN.{zero-*ℤ}
use Rattle.irr_algebra.specs.Fin.{Fin, to_nat}
use Rattle.irr_algebra.specs.Fin.Fin.{first}
use Rattle.irr_algebra.specs.Matrix.{Matrix, ◌·◌, null}
use Rattle.irr_algebra.proofs.Indices.{only_first}
use Rattle.irr_algebra.proofs.Rings.{ring_laws}
use Rattle.irr_algebra.proofs.Matrices.{mul-unit, mul-null}
use Rattle.irr_rational.specs.Integer.{integer}
use Rattle.irr_rational.specs.Rational.{Rational, rationals, IsWhole}
use Rattle.irr_rational.specs.Order.{◌≤ℚ◌, ◌<ℚ◌}
use Rattle.irr_rational.proofs.Integers.{integer-zero, integer-one, whole_matrix-unit}
use Rattle.irr_rational.proofs.Orders.{le_refl, le_antisymm, integer-lt}
use Rattle.irr_rational.proofs.Lexicographic.{at_most_of_each}
use Rattle.irr_space.specs.Operation.{Operation, WaveVector, ◌⊙◌, identity, translation, component, wave_component, dot, turned}
use Rattle.irr_space.specs.SpaceGroup.{Generated}
use Rattle.irr_space.specs.SpaceGroup.Generated.{one}
use Rattle.irr_space.specs.Reciprocal.{Sign, sign_number, IsOrder}
use Rattle.irr_space.specs.CanonicalOperation.{IsInCell, IsCanonicalOperation, IsNumbering}
use Rattle.irr_space.specs.Star.{IsInLittleGroup}
use Rattle.irr_space.specs.PhaseTable.{PhaseTable, IsPlaceOrder, IsTableOf, place_power}
use Rattle.irr_lattice.proofs.Vectors.{vector-ext, component-null, whole_zero}
use Rattle.irr_lattice.proofs.Translations.{generated_unit, generated_whole, operation-ext, translation-null}
use Rattle.irr_lattice.proofs.Reciprocals.{least_in_cell, whole-equivalent}

-- the table of one place
pub one_place_order : (m : ℕ) → IsPlaceOrder {h = 1} first (λ i j. first) first m → m ≡ 1
unfolding place_power
one_place_order m o = let l : m ≤ 1 = o.least 1 (omega arith) refl in let p : 0 < m = o.positive in omega arith

module _ (n : ℕ) (positive : 0 < n) where
  pub order_is_one : (i : Fin 1) (m : ℕ) → IsPlaceOrder {h = 1} first (λ i j. first) i m → m ≡ 1
  order_is_one i m o = one_place_order m (subst (λ j. IsPlaceOrder {h = 1} first (λ i j. first) j m) (sym (only_first i)) o)

  pub one_divides : (m k : ℕ) → m ≡ 1 → m ∣ k
  one_divides m k e = subst (λ d. d ∣ k) (sym e) (Nat.one-dvd k)

  pub start_first : to_nat (first {n = 0}) ≡ 0
  unfolding to_nat
  start_first = refl

  abbrev pub one_table : PhaseTable 1
  one_table = record {
    order = n;
    order_positive = positive;
    start = first;
    start_first = start_first;
    product = λ i j. first;
    opposite = λ i. first;
    exponent = λ i j. 0;
    start-product = only_first;
    product-start = only_first;
    product_assoc = λ i j k. refl;
    opposite-product = λ i. refl;
    product-opposite = λ i. refl;
    exponent_below = λ i j. positive;
    exponent-start = λ i. refl;
    start-exponent = λ i. refl;
    exponent_assoc = λ i j k. refl;
    order_divides = λ i m o. one_divides m n (order_is_one i m o);
    exponents_divided = λ i m o. one_divides m _ (order_is_one i m o);
  }

no_pair : (i j : Fin 1) → to_nat i < to_nat j → ⊥
no_pair i j h = let e : to_nat i ≡ to_nat j = ap to_nat (sym (only_first i) ∙ only_first j) in omega arith

-- a whole number in [0,1) is 0
pub zero_of_whole_in_cell : (x : Rational) → IsWhole x → rationals.zero ≤ℚ x → x <ℚ rationals.one → x ≡ rationals.zero
zero_of_whole_in_cell x w l u = le_antisymm x rationals.zero (least_in_cell x rationals.zero u (le_refl rationals.zero) (subst IsWhole (sym (opposite x)) (Rattle.irr_rational.proofs.WholeNumbers.whole-neg x w))) l
  where
    opposite : (x : Rational) → rationals.add rationals.zero (rationals.neg x) ≡ rationals.neg x
    opposite x = rationals.add_comm rationals.zero (rationals.neg x) ∙ rationals.add-zero (rationals.neg x)

zero_below_one : rationals.zero <ℚ rationals.one
zero_below_one = subst (λ x. x <ℚ rationals.one) (integer-zero rationals) (subst (λ y. integer rationals (pos 0) <ℚ y) (integer-one rationals) (integer-lt (pos 0) (pos 1) (omega (arith, ints))))

identity_component : (i : Fin 3) → component identity.vector i ≡ rationals.zero
unfolding identity
identity_component i = component-null i

pub identity_in_cell : IsInCell identity.vector
identity_in_cell i = (subst (λ x. rationals.zero ≤ℚ x) (sym (identity_component i)) (le_refl rationals.zero), subst (λ x. x <ℚ rationals.one) (sym (identity_component i)) zero_below_one)

-- the identity is the canonical operation of the unit rotation, and the only one in the group of no generators
pub identity_canonical : IsCanonicalOperation (Generated []) identity
identity_canonical = record {
  member = one;
  in_cell = identity_in_cell;
  least = λ h g e c. at_most_of_each 3 (component identity.vector) (component h.vector) (λ i. subst (λ x. x ≤ℚ component h.vector i) (sym (identity_component i)) (c i).0);
}

pub canonical_identity : (g : Operation) → IsCanonicalOperation (Generated []) g → identity ≡ g
unfolding identity
canonical_identity g h = sym (operation-ext g identity (generated_unit h.member) (vector-ext g.vector null (λ i.
    zero_of_whole_in_cell (component g.vector i) (generated_whole h.member i) (h.in_cell i).0 (h.in_cell i).1 ∙ sym (component-null i))))

-- it keeps each wave vector
turned-identity : (k : WaveVector) → turned k identity ≡ k
unfolding turned identity
turned-identity k = ap (λ (m : Matrix rationals 3 3). k · m) (whole_matrix-unit rationals 3) ∙ mul-unit k

pub identity_in_little_group : (k : WaveVector) → IsInLittleGroup (Generated []) k identity
identity_in_little_group k = record {
  member = one;
  keeps = whole-equivalent (turned k identity) k (λ i. subst IsWhole (sym (ap (λ w. rationals.add (wave_component w i) (rationals.neg (wave_component k i))) (turned-identity k) ∙ rationals.add-neg (wave_component k i))) whole_zero);
}

pub one_numbering : (k : WaveVector) → IsNumbering (Generated []) (IsInLittleGroup (Generated []) k) {h = 1} (λ i. identity)
one_numbering k = record {
  canonical = λ i. identity_canonical;
  member = λ i. identity_in_little_group k;
  all = λ g c m. (first, canonical_identity g c);
  ordered = λ i j h. absurd (no_pair i j h);
}

-- the table of the little group of a wave vector of order n
module _ (s : Sign) (k : WaveVector) (n : ℕ) (is_order : IsOrder (Generated []) k n) (positive : 0 < n) where
  products : identity ⊙ identity ≡ translation null ⊙ identity
  unfolding identity translation
  products = refl

  dot-null : dot k null ≡ rationals.zero
  unfolding dot null
  dot-null = ap (λ (m : Matrix rationals 1 1). m.at first first) (mul-null k)

  no_turn : rationals.mul (integer rationals (sign_number s *ℤ pos n)) (dot k null) ≡ integer rationals (pos 0 +ℤ (pos 0 *ℤ pos n))
  no_turn = ap (rationals.mul (integer rationals (sign_number s *ℤ pos n))) dot-null ∙ times_zero (integer rationals (sign_number s *ℤ pos n)) ∙ sym (integer-zero rationals)
      ∙ ap (integer rationals) (let e : pos 0 *ℤ pos n ≡ pos 0 = zero-*ℤ (pos n) in omega (arith, ints))
    where
      times_zero : (x : Rational) → rationals.mul x rationals.zero ≡ rationals.zero
      times_zero x = simp (ring_laws, rationals)

  pub one_table-is_table : IsTableOf s (Generated []) k {h = 1} (λ i. identity) (one_table n positive)
  one_table-is_table = record {
    is_order = is_order;
    quotient = λ i j. null;
    is_translation = λ i j. subst (Generated []) (sym translation-null) one;
    products = λ i j. products;
    phases = λ i j. record { below = positive; turns = pos 0; congruent = no_turn };
  }
