-- When kept operations and a lattice stand for the group that generators generate.
--   IsClosed            what the kept operations and the lattice have to meet
--   IsStoodFor          an operation that they stand for
--   generated_of_stood  such operations are generated
--   stood_of_generated  and generated operations are such
use Rattle.std.proofs.Common.{◌≡◌, sym, ◌∙◌, ap, ap₂, subst, ℕ, zero, suc, List}
use Rattle.std.specs.List.{Contains}
use Rattle.irr_algebra.specs.Fin.{Fin}
use Rattle.irr_algebra.specs.Fin.Fin.{first, next}
use Rattle.irr_algebra.specs.Sum.{sum}
use Rattle.irr_algebra.specs.Matrix.{Matrix, ◌·◌, ◌⊕◌, ◌⊖◌, unit, null, column}
use Rattle.irr_algebra.specs.Ring.{Ring}
use Rattle.irr_algebra.proofs.Rings.{ring_laws, neg-add, neg-add_self, neg-add_left, apart_one}
use Rattle.irr_algebra.proofs.Matrices.{matrix-ext, mul_assoc, unit-mul, mul-unit, mul-add, mul-null, add-null, null-add, sub_self}
use Rattle.irr_number.specs.Integers.{integers}
use Rattle.irr_rational.specs.Integer.{integer, whole_matrix}
use Rattle.irr_rational.specs.Rational.{Rational, rationals, IsWhole}
use Rattle.irr_rational.proofs.Integers.{whole_matrix-unit, whole_matrix-mul}
use Rattle.irr_rational.proofs.WholeNumbers.{whole-neg, whole-integer, whole-add, whole-mul}
use Rattle.irr_space.specs.Operation.{Operation, Vector, Rotation, ◌⊙◌, identity, translation, component}
use Rattle.irr_space.specs.SpaceGroup.{Generated}
use Rattle.irr_space.specs.SpaceGroup.Generated.{one, generator, unit_translation, product, inverse}
use Rattle.irr_lattice.proofs.Vectors.{whole_zero, whole-delta, component-null, component-unit}
use Rattle.irr_lattice.proofs.Translations.{operation-ext}
use Rattle.irr_close.specs.Whole.{IsWholeVector}
use Rattle.irr_close.proofs.Pigeons.{onto}

add_assoc : (a b c : Vector) → (a ⊕ b) ⊕ c ≡ a ⊕ (b ⊕ c)
unfolding ◌⊕◌
add_assoc a b c = matrix-ext (λ i j. rationals.add_assoc (a.at i j) (b.at i j) (c.at i j))

-- products of operations are associative
pub product_assoc : (g h k : Operation) → (g ⊙ h) ⊙ k ≡ g ⊙ (h ⊙ k)
unfolding ◌⊙◌
product_assoc g h k = operation-ext ((g ⊙ h) ⊙ k) (g ⊙ (h ⊙ k)) (mul_assoc g.rotation h.rotation k.rotation)
    (ap (λ (m : Matrix rationals 3 3). (g.vector ⊕ (whole_matrix rationals g.rotation · h.vector)) ⊕ (m · k.vector))
    (whole_matrix-mul rationals g.rotation h.rotation)
    ∙ ap (λ (v : Vector). (g.vector ⊕ (whole_matrix rationals g.rotation · h.vector)) ⊕ v)
    (mul_assoc (whole_matrix rationals g.rotation) (whole_matrix rationals h.rotation) k.vector)
    ∙ add_assoc g.vector (whole_matrix rationals g.rotation · h.vector)
    (whole_matrix rationals g.rotation · (whole_matrix rationals h.rotation · k.vector))
    ∙ ap (λ (v : Vector). g.vector ⊕ v) (sym (mul-add (whole_matrix rationals g.rotation) h.vector (whole_matrix rationals h.rotation · k.vector))))

pub product-identity : (g : Operation) → g ⊙ identity ≡ g
unfolding ◌⊙◌ identity
product-identity g = operation-ext (g ⊙ identity) g (mul-unit g.rotation)
    (ap (λ (v : Vector). g.vector ⊕ v) (mul-null (whole_matrix rationals g.rotation)) ∙ add-null g.vector)

pub identity-product : (g : Operation) → identity ⊙ g ≡ g
unfolding ◌⊙◌ identity
identity-product g = operation-ext (identity ⊙ g) g (unit-mul g.rotation)
    (null-add (whole_matrix rationals (unit integers 3) · g.vector) ∙ ap (λ (m : Matrix rationals 3 3). m · g.vector) (whole_matrix-unit rationals 3)
    ∙ unit-mul g.vector)

-- sums and differences of vectors
pub sum_as_difference : (a b : Vector) → a ⊖ (null ⊖ b) ≡ a ⊕ b
unfolding ◌⊕◌ ◌⊖◌ null
sum_as_difference a b = matrix-ext (λ i j. entry rationals (a.at i j) (b.at i j))
  where
    entry : (R : Ring) (x y : R.Carrier) → R.add x (R.neg (R.add R.zero (R.neg y))) ≡ R.add x y
    entry R x y = simp (ring_laws, R)

split_difference : (a b t d : Vector) → (a ⊖ b) ⊕ ((b ⊕ t) ⊖ d) ≡ (a ⊕ t) ⊖ d
unfolding ◌⊕◌ ◌⊖◌
split_difference a b t d = matrix-ext (λ i j. entry rationals (a.at i j) (b.at i j) (t.at i j) (d.at i j))
  where
    entry : (R : Ring) (x y z w : R.Carrier) → R.add (R.add x (R.neg y)) (R.add (R.add y z) (R.neg w)) ≡ R.add (R.add x z) (R.neg w)
    entry R x y z w = R.add_assoc x (R.neg y) (R.add (R.add y z) (R.neg w))
        ∙ ap (R.add x) (ap (R.add (R.neg y)) (R.add_assoc y z (R.neg w)) ∙ neg-add_left R y (R.add z (R.neg w)))
        ∙ sym (R.add_assoc x z (R.neg w))

shared_difference : (a b t d : Vector) → ((a ⊕ t) ⊖ d) ⊖ ((b ⊕ t) ⊖ d) ≡ a ⊖ b
unfolding ◌⊕◌ ◌⊖◌
shared_difference a b t d = matrix-ext (λ i j. entry rationals (a.at i j) (b.at i j) (t.at i j) (d.at i j))
  where
    entry : (R : Ring) (x y z w : R.Carrier) → R.add (R.add (R.add x z) (R.neg w)) (R.neg (R.add (R.add y z) (R.neg w))) ≡ R.add x (R.neg y)
    entry R x y z w = ap₂ R.add (R.add_assoc x z (R.neg w)) (ap R.neg (R.add_assoc y z (R.neg w)) ∙ neg-add R y (R.add z (R.neg w)))
        ∙ R.add_assoc x (R.add z (R.neg w)) (R.add (R.neg y) (R.neg (R.add z (R.neg w))))
        ∙ ap (R.add x) (apart_one R (R.add z (R.neg w)) (R.neg y))

later_difference : (a t d : Vector) → (a ⊖ d) ⊕ t ≡ (a ⊕ t) ⊖ d
unfolding ◌⊕◌ ◌⊖◌
later_difference a t d = matrix-ext (λ i j. entry rationals (a.at i j) (t.at i j) (d.at i j))
  where
    entry : (R : Ring) (x y z : R.Carrier) → R.add (R.add x (R.neg z)) y ≡ R.add (R.add x y) (R.neg z)
    entry R x y z = R.add_assoc x (R.neg z) y ∙ ap (R.add x) (R.add_comm (R.neg z) y) ∙ sym (R.add_assoc x y (R.neg z))

taken_again : (a t d : Vector) → ((a ⊕ t) ⊖ d) ⊖ t ≡ a ⊖ d
unfolding ◌⊕◌ ◌⊖◌
taken_again a t d = matrix-ext (λ i j. entry rationals (a.at i j) (t.at i j) (d.at i j))
  where
    entry : (R : Ring) (x y z : R.Carrier) → R.add (R.add (R.add x y) (R.neg z)) (R.neg y) ≡ R.add x (R.neg z)
    entry R x y z = simp (ring_laws, R)

back_again : (a b : Vector) → (a ⊖ b) ⊕ b ≡ a
unfolding ◌⊕◌ ◌⊖◌
back_again a b = matrix-ext (λ i j. entry rationals (a.at i j) (b.at i j))
  where
    entry : (R : Ring) (x y : R.Carrier) → R.add (R.add x (R.neg y)) y ≡ x
    entry R x y = R.add_assoc x (R.neg y) y ∙ ap (R.add x) (neg-add_self R y) ∙ R.add-zero x

-- a rotation turns a unit vector into a whole one
whole_sum : (n : ℕ) (f : Fin n → Rational) → ((i : Fin n) → IsWhole (f i)) → IsWhole (sum rationals n f)
unfolding sum
whole_sum zero f h = whole_zero
whole_sum (suc n) f h = whole-add (f first) (sum rationals n (λ i. f (next i))) (h first) (whole_sum n (λ i. f (next i)) (λ i. h (next i)))

pub turned_whole : (R : Rotation) (v : Vector) → IsWholeVector v → IsWholeVector (whole_matrix rationals R · v)
unfolding component ◌·◌ whole_matrix
turned_whole R v h i = whole_sum 3 (λ j. rationals.mul (integer rationals (R.at i j)) (v.at j first))
    (λ j. whole-mul (integer rationals (R.at i j)) (v.at j first) (whole-integer (R.at i j)) (h j))

pub whole_flipped : (v w : Vector) → IsWholeVector (v ⊖ w) → IsWholeVector (w ⊖ v)
unfolding component ◌⊖◌
whole_flipped v w h i = subst IsWhole (entry rationals (v.at i first) (w.at i first))
    (whole-neg (rationals.add (v.at i first) (rationals.neg (w.at i first))) (h i))
  where
    entry : (R : Ring) (x y : R.Carrier) → R.neg (R.add x (R.neg y)) ≡ R.add y (R.neg x)
    entry R x y = simp (ring_laws, R)

unit_whole : (i : Fin 3) → IsWholeVector (column (unit rationals 3) i)
unit_whole i j = subst IsWhole (sym (component-unit i j)) (whole-delta j i)

pub null_whole : IsWholeVector null
null_whole i = subst IsWhole (sym (component-null i)) whole_zero

-- an operation is a translation after one with its rotation
pub by_translation : (g h : Operation) → h.rotation ≡ g.rotation → translation (h.vector ⊖ g.vector) ⊙ g ≡ h
unfolding ◌⊙◌ translation
by_translation g h e = operation-ext (translation (h.vector ⊖ g.vector) ⊙ g) h (unit-mul g.rotation ∙ sym e)
    (ap (λ (v : Vector). (h.vector ⊖ g.vector) ⊕ v) (ap (λ (m : Matrix rationals 3 3). m · g.vector) (whole_matrix-unit rationals 3)
    ∙ unit-mul g.vector)
    ∙ back_again h.vector g.vector)

-- what the kept operations and the lattice have to meet
pub record IsClosed (generators : List Operation) (n : ℕ) (kept : Fin n → Operation) (L : Vector → Type 0) : Type 0 where
  pub whole : (v : Vector) → IsWholeVector v → L v
  pub difference : (a b : Vector) → L a → L b → L (a ⊖ b)
  pub unit_place : Fin n
  pub unit_kept : kept unit_place ≡ identity
  pub distinct : (i j : Fin n) → (kept i).rotation ≡ (kept j).rotation → i ≡ j
  pub next_place : (i : Fin n) (s : Operation) → Contains generators s → Fin n
  pub next_rotation : (i : Fin n) (s : Operation) (m : Contains generators s) → (kept i).rotation · s.rotation ≡ (kept (next_place i s m)).rotation
  pub next_vector : (i : Fin n) (s : Operation) (m : Contains generators s) → L ((kept i ⊙ s).vector ⊖ (kept (next_place i s m)).vector)
  pub invertible : (s : Operation) → Contains generators s → (S : Rotation) × (s.rotation · S ≡ unit integers 3)

-- the operations that they stand for
pub record IsStoodFor {n : ℕ} (kept : Fin n → Operation) (L : Vector → Type 0) (g : Operation) : Type 0 where
  pub place : Fin n
  pub same_rotation : g.rotation ≡ (kept place).rotation
  pub in_lattice : L (g.vector ⊖ (kept place).vector)

-- right multiplication by x keeps the set S, and the operations outside of it
record IsKeptBy (S : Operation → Type 0) (x : Operation) : Type 0 where
  forth : (m : Operation) → S m → S (m ⊙ x)
  back : (m : Operation) → S (m ⊙ x) → S m

-- a set that the generators and the unit translations keep, so does each operation that they generate
kept_by_generated : (generators : List Operation) (S : Operation → Type 0) → ((s : Operation) → Contains generators s → IsKeptBy S s)
    → ((i : Fin 3) → IsKeptBy S (translation (column (unit rationals 3) i))) → {g : Operation} → Generated generators g → IsKeptBy S g
kept_by_generated gens S k t one = record { forth = λ m h. subst S (sym (product-identity m)) h; back = λ m h. subst S (product-identity m) h }
kept_by_generated gens S k t (generator {g} m) = k g m
kept_by_generated gens S k t (unit_translation i) = t i
kept_by_generated gens S k t (product {g} {h} p q) = let a = kept_by_generated gens S k t p in let b = kept_by_generated gens S k t q in record {
  forth = λ m x. subst S (product_assoc m g h) (b.forth (m ⊙ g) (a.forth m x));
  back = λ m x. a.back m (b.back (m ⊙ g) (subst S (sym (product_assoc m g h)) x));
}
kept_by_generated gens S k t (inverse {g} {h} e p) = let a = kept_by_generated gens S k t p in record {
  forth = λ m x. a.back (m ⊙ h) (subst S (sym (product_assoc m h g ∙ ap (λ (y : Operation). m ⊙ y) e.left ∙ product-identity m)) x);
  back = λ m x. subst S (product_assoc m h g ∙ ap (λ (y : Operation). m ⊙ y) e.left ∙ product-identity m) (a.forth (m ⊙ h) x);
}

-- where the kept operations and the translations are generated, so is what they stand for
pub generated_of_stood : (generators : List Operation) (n : ℕ) (kept : Fin n → Operation) (L : Vector → Type 0)
    → ((i : Fin n) → Generated generators (kept i)) → ((v : Vector) → L v → Generated generators (translation v))
    → (g : Operation) → IsStoodFor kept L g → Generated generators g
generated_of_stood generators n kept L kept_generated lattice_generated g s = subst (Generated generators)
    (by_translation (kept s.place) g s.same_rotation)
    (product (lattice_generated (g.vector ⊖ (kept s.place).vector) s.in_lattice) (kept_generated s.place))

module _ (generators : List Operation) (n : ℕ) (kept : Fin n → Operation) (L : Vector → Type 0) (closed : IsClosed generators n kept L) where
  sum_in_lattice : (a b : Vector) → L a → L b → L (a ⊕ b)
  sum_in_lattice a b p q = subst L (sum_as_difference a b)
      (closed.difference a (null ⊖ b) p (closed.difference null b (closed.whole null null_whole) q))

  -- one more generator
  forth_by_generator : (s : Operation) → Contains generators s → (m : Operation) → IsStoodFor kept L m → IsStoodFor kept L (m ⊙ s)
  unfolding ◌⊙◌
  forth_by_generator s c m h = record {
    place = closed.next_place h.place s c;
    same_rotation = ap (λ (R : Rotation). R · s.rotation) h.same_rotation ∙ closed.next_rotation h.place s c;
    in_lattice = subst L (ap
        (λ (R : Rotation). (m.vector ⊖ (kept h.place).vector) ⊕
        (((kept h.place).vector ⊕ (whole_matrix rationals R · s.vector)) ⊖ (kept (closed.next_place h.place s c)).vector)) (sym h.same_rotation)
        ∙ split_difference m.vector (kept h.place).vector (whole_matrix rationals m.rotation · s.vector)
        (kept (closed.next_place h.place s c)).vector)
        (sum_in_lattice (m.vector ⊖ (kept h.place).vector) ((kept h.place ⊙ s).vector ⊖ (kept (closed.next_place h.place s c)).vector) h.in_lattice
        (closed.next_vector h.place s c));
  }

  -- a rotation cancels
  cancelled : (R T S U : Rotation) → S · U ≡ unit integers 3 → R · S ≡ T · S → R ≡ T
  cancelled R T S U e h = sym (mul-unit R) ∙ ap (λ (M : Rotation). R · M) (sym e) ∙ sym (mul_assoc R S U) ∙ ap (λ (M : Rotation). M · U) h
      ∙ mul_assoc T S U ∙ ap (λ (M : Rotation). T · M) e ∙ mul-unit T

  -- and one less
  back_by_generator : (s : Operation) → Contains generators s → (m : Operation) → IsStoodFor kept L (m ⊙ s) → IsStoodFor kept L m
  unfolding ◌⊙◌
  back_by_generator s c m h = from_source (onto (λ i. closed.next_place i s c) one_source h.place)
    where
      one_source : (i j : Fin n) → closed.next_place i s c ≡ closed.next_place j s c → i ≡ j
      one_source i j e = closed.distinct i j
          (cancelled (kept i).rotation (kept j).rotation s.rotation (closed.invertible s c).0 (closed.invertible s c).1
          (closed.next_rotation i s c ∙ ap (λ k. (kept k).rotation) e ∙ sym (closed.next_rotation j s c)))

      from_source : (i : Fin n) × (closed.next_place i s c ≡ h.place) → IsStoodFor kept L m
      from_source t = record {
        place = t.0;
        same_rotation = same;
        in_lattice = subst L (ap
            (λ (R : Rotation). ((m.vector ⊕ (whole_matrix rationals m.rotation · s.vector)) ⊖ (kept h.place).vector)
            ⊖ (((kept t.0).vector ⊕ (whole_matrix rationals R · s.vector)) ⊖ (kept h.place).vector)) (sym same)
            ∙ shared_difference m.vector (kept t.0).vector (whole_matrix rationals m.rotation · s.vector) (kept h.place).vector)
            (closed.difference ((m ⊙ s).vector ⊖ (kept h.place).vector) ((kept t.0 ⊙ s).vector ⊖ (kept h.place).vector) h.in_lattice
            (subst (λ k. L ((kept t.0 ⊙ s).vector ⊖ (kept k).vector)) t.1 (closed.next_vector t.0 s c)));
      }
        where
          same : m.rotation ≡ (kept t.0).rotation
          same = cancelled m.rotation (kept t.0).rotation s.rotation (closed.invertible s c).0 (closed.invertible s c).1
              (h.same_rotation ∙ ap (λ k. (kept k).rotation) (sym t.1) ∙ sym (closed.next_rotation t.0 s c))

  -- a whole translation
  by_whole : (t : Vector) → IsWholeVector t → IsKeptBy (IsStoodFor kept L) (translation t)
  unfolding ◌⊙◌ translation
  by_whole t w = record {
    forth = λ m h. record {
      place = h.place;
      same_rotation = mul-unit m.rotation ∙ h.same_rotation;
      in_lattice = subst L (later_difference m.vector (whole_matrix rationals m.rotation · t) (kept h.place).vector)
          (sum_in_lattice (m.vector ⊖ (kept h.place).vector) (whole_matrix rationals m.rotation · t) h.in_lattice
          (closed.whole (whole_matrix rationals m.rotation · t) (turned_whole m.rotation t w)));
    };
    back = λ m h. record {
      place = h.place;
      same_rotation = sym (mul-unit m.rotation) ∙ h.same_rotation;
      in_lattice = subst L (taken_again m.vector (whole_matrix rationals m.rotation · t) (kept h.place).vector)
          (closed.difference ((m.vector ⊕ (whole_matrix rationals m.rotation · t)) ⊖ (kept h.place).vector) (whole_matrix rationals m.rotation · t)
          h.in_lattice
          (closed.whole (whole_matrix rationals m.rotation · t) (turned_whole m.rotation t w)));
    };
  }

  pub stood_of_generated : (g : Operation) → Generated generators g → IsStoodFor kept L g
  stood_of_generated g h = subst (IsStoodFor kept L) (identity-product g)
      ((kept_by_generated generators (IsStoodFor kept L) (λ s c. record { forth = forth_by_generator s c; back = back_by_generator s c })
      (λ i. by_whole (column (unit rationals 3) i) (unit_whole i)) h).forth identity
      (record {
        place = closed.unit_place;
        same_rotation = ap (λ (k : Operation). k.rotation) (sym closed.unit_kept);
        in_lattice = subst L
            (sym (ap (λ (k : Operation). identity.vector ⊖ k.vector) closed.unit_kept ∙ sub_self identity.vector)) (closed.whole null null_whole);
      }))
