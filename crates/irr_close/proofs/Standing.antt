-- The kept operations and translations of a closing stand for exactly the generated operations.
--   rotation_of_generated      each generated rotation is kept
--   whole_in, difference_in    the translations have the whole vectors and the differences
--   stands_for_generated       the kept operations and translations stand for the generated operations, and for no other
use Rattle.std.proofs.Common.{◌≡◌, sym, ◌∙◌, ap, subst, refl, ℕ, ◌<◌, ◌↔◌, inl, inr, List, length, get_or, arith}
use Rattle.std.specs.List.{All, AllPairs, Contains}
use Rattle.std.proofs.lemmas.List.{length-map, get_or-map, get_or_default}
use Rattle.std.proofs.lemmas.Bool.{cases_lt}
use Rattle.irr_algebra.specs.Fin.{Fin, to_nat}
use Rattle.irr_algebra.specs.Fin.Fin.{first}
use Rattle.irr_algebra.specs.Ring.{Ring}
use Rattle.irr_algebra.specs.Matrix.{◌·◌, ◌⊕◌, ◌⊖◌, null}
use Rattle.irr_algebra.proofs.Indices.{from_nat, to_nat-from_nat, to_nat-lt, to_nat_inj}
use Rattle.irr_algebra.proofs.Rings.{ring_laws}
use Rattle.irr_algebra.proofs.Matrices.{matrix-ext, mul-sub, mul-unit, sub-null}
use Rattle.irr_rational.specs.Integer.{whole_matrix}
use Rattle.irr_rational.specs.Rational.{rationals, IsWhole}
use Rattle.irr_rational.proofs.WholeNumbers.{whole-add, whole-neg}
use Rattle.irr_space.specs.Operation.{Operation, Rotation, Vector, ◌⊙◌, identity, translation, component}
use Rattle.irr_space.specs.SpaceGroup.{Generated}
use Rattle.irr_rat.specs.VectorMeaning.{vector}
use Rattle.irr_rat.specs.declared.vec3.Vec3.{Vec3}
use Rattle.irr_seitz.specs.OperationMeaning.{operation}
use Rattle.irr_seitz.specs.declared.op.Op.{Op}
use Rattle.irr_close.specs.Whole.{IsWholeVector}
use Rattle.irr_close.specs.Limits.{operations}
use Rattle.irr_close.specs.Closing.{IsOneOf, IsPartial, HasRotation, HasProducts}
use Rattle.irr_close.specs.Centring.{AreInvertible, HasTranslation, HasQuotient, IsPartialLattice, IsSettled}
use Rattle.irr_close.specs.Standing.{StandFor}
use Rattle.irr_close.proofs.Closure.{IsClosed, IsStoodFor, stood_of_generated, generated_of_stood, turned_whole, whole_flipped, sum_as_difference, null_whole, identity-product}
use Rattle.irr_rat.proofs.Vectors.{component-sub}
use Rattle.irr_close.proofs.Keeping.{product-rotation}
use Rattle.irr_close.proofs.Lattice.{invertible_operations, translation_modulo}

-- a generator by its place
pub contained_place : (gs : List Op) (s : Operation) (d : Op) (m : Contains (operations gs) s) → (m.0 < length gs) × (operation (get_or gs m.0 d) ≡ s)
contained_place gs s d m = let l : m.0 < length gs = subst (λ n. m.0 < n) (length-map gs operation) m.1 in
    (l, sym (get_or-map operation gs m.0 d s l) ∙ m.2)

-- the kept operations by index, where d stands past the end of the list
abbrev pub indexed : (ops : List Op) → Op → Fin (length ops) → Operation
indexed ops d i = operation (get_or ops (to_nat i) d)

pub indexed-from_nat : (ops : List Op) (d : Op) (k : ℕ) (l : k < length ops) → indexed ops d (from_nat (length ops) k l) ≡ operation (get_or ops k d)
indexed-from_nat ops d k l = ap (λ n. operation (get_or ops n d)) (to_nat-from_nat (length ops) k l)

indexed_distinct : (ops : List Op) (d : Op) → AllPairs (λ g h. ¬ ((operation g).rotation ≡ (operation h).rotation)) ops → (i j : Fin (length ops))
    → (indexed ops d i).rotation ≡ (indexed ops d j).rotation → i ≡ j
indexed_distinct ops d apart i j e = elim (cases_lt (to_nat i) (to_nat j)) [
  | inl less ↦ absurd (apart (to_nat i) (to_nat j) d less (to_nat-lt j) e)
  | inr more ↦ elim (cases_lt (to_nat j) (to_nat i)) [
    | inl less ↦ absurd (apart (to_nat j) (to_nat i) d less (to_nat-lt i) (sym e))
    | inr same ↦ to_nat_inj i j (omega arith)
  ]
]

-- the rotations of the generators are among those of the seeds, and the kept operations have the products with these
module _ (gs seeds kept : List Op) (inv : AreInvertible gs) (seeded : All (λ s. HasRotation seeds (operation s).rotation) gs)
    (partial : IsPartial seeds kept)
    (products : All (λ g. HasProducts kept (operation g).rotation seeds (length seeds)) kept) (d : Op) where
  -- the product of a kept operation and a generator has a kept rotation
  product_kept : (i : Fin (length kept)) (s : Operation) → Contains (operations gs) s → HasRotation kept ((indexed kept d i).rotation · s.rotation)
  product_kept i s m = let p = contained_place gs s d m in let h = seeded m.0 d p.0 in
      subst (λ (R : Rotation). HasRotation kept ((indexed kept d i).rotation · R)) (h.2 d ∙ ap (λ (g : Operation). g.rotation) p.1)
      (products (to_nat i) d (to_nat-lt i) h.0 h.1 d)

  rotations_closed : IsClosed (operations gs) (length kept) (indexed kept d) (λ v. Unit {0})
  rotations_closed = record {
    whole = λ v h. tt;
    difference = λ a b p q. tt;
    unit_place = from_nat (length kept) 0 partial.nonempty;
    unit_kept = indexed-from_nat kept d 0 partial.nonempty ∙ partial.identity_first d;
    distinct = indexed_distinct kept d partial.distinct;
    next_place = λ i s m. let h = product_kept i s m in from_nat (length kept) h.0 h.1;
    next_rotation = λ i s m. let h = product_kept i s m in sym (ap (λ (g : Operation). g.rotation) (indexed-from_nat kept d h.0 h.1) ∙ h.2 d);
    next_vector = λ i s m. tt;
    invertible = invertible_operations gs inv;
  }

  -- each generated rotation is kept
  pub rotation_of_generated : (g : Operation) → Generated (operations gs) g → HasRotation kept g.rotation
  rotation_of_generated g h = let t = stood_of_generated (operations gs) (length kept) (indexed kept d) (λ v. Unit {0}) rotations_closed g h in (
    to_nat t.place,
    to_nat-lt t.place,
    λ f. ap (λ (x : Op). (operation x).rotation) (get_or_default kept (to_nat t.place) f d (to_nat-lt t.place))
        ∙ sym t.same_rotation,
  )

-- differences of vectors up to translations of a list
regrouped : (a b c e f : Vector) → IsWholeVector (a ⊖ c) → IsWholeVector (b ⊖ e) → IsWholeVector ((c ⊖ e) ⊖ f) → IsWholeVector ((a ⊖ b) ⊖ f)
unfolding component ◌⊖◌
regrouped a b c e f p q r i = subst IsWhole (entry rationals (a.at i first) (b.at i first) (c.at i first) (e.at i first) (f.at i first))
    (whole-add _ _ (p i) (whole-add _ _ (whole-neg _ (q i)) (r i)))
  where
    entry : (R : Ring) (x y z w u : R.Carrier)
        → R.add (R.add x (R.neg z)) (R.add (R.neg (R.add y (R.neg w))) (R.add (R.add z (R.neg w)) (R.neg u))) ≡ R.add (R.add x (R.neg y)) (R.neg u)
    entry R x y z w u = simp (ring_laws, R)

-- a list of translations with 0 and with its differences
module _ (gs seeds kept : List Op) (cs : List Vec3) (lattice : IsPartialLattice gs cs) (settled : IsSettled gs seeds kept cs (length cs)) (e : Vec3) where
  pub whole_in : (v : Vector) → IsWholeVector v → HasTranslation cs v
  whole_in v h = (0, lattice.nonempty, λ f. subst IsWholeVector (sym (ap (λ (w : Vector). v ⊖ w) (lattice.zero_first f) ∙ sub-null v)) h)

  listed_difference : (i j : ℕ) → i < length cs → j < length cs → HasTranslation cs (vector (get_or cs i e) ⊖ vector (get_or cs j e))
  listed_difference i j l m = elim (cases_lt i j) [
    | inl less ↦ (settled.differences j m e i (omega arith) e).1
    | inr more ↦ (settled.differences i l e j more e).0
  ]

  pub difference_in : (a b : Vector) → HasTranslation cs a → HasTranslation cs b → HasTranslation cs (a ⊖ b)
  difference_in a b p q = let t = listed_difference p.0 q.0 p.1 q.1 in
      (t.0, t.1, λ f. regrouped a b (vector (get_or cs p.0 e)) (vector (get_or cs q.0 e)) (vector (get_or cs t.0 f)) (p.2 e) (q.2 e) (t.2 f))

shifted : (cs : List Vec3) (a b : Vector) → IsWholeVector (b ⊖ a) → HasTranslation cs a → HasTranslation cs b
shifted cs a b w h = (h.0, h.1, λ f. joined b a (vector (get_or cs h.0 f)) w (h.2 f))
  where
    entry : (R : Ring) (x y z : R.Carrier) → R.add (R.add x (R.neg y)) (R.add y (R.neg z)) ≡ R.add x (R.neg z)
    entry R x y z = simp (ring_laws, R)

    joined : (a b c : Vector) → IsWholeVector (a ⊖ b) → IsWholeVector (b ⊖ c) → IsWholeVector (a ⊖ c)
    joined a b c p q i = subst IsWhole (sym (component-sub a c i)) (subst IsWhole (entry rationals (component a i) (component b i) (component c i))
        (whole-add _ _ (subst IsWhole (component-sub a b i) (p i)) (subst IsWhole (component-sub b c i) (q i))))

cancelled_first : (a t : Vector) → (a ⊕ t) ⊖ a ≡ t
unfolding ◌⊕◌ ◌⊖◌
cancelled_first a t = matrix-ext (λ i j. entry rationals (a.at i j) (t.at i j))
  where
    entry : (R : Ring) (x y : R.Carrier) → R.add (R.add x y) (R.neg x) ≡ y
    entry R x y = simp (ring_laws, R)

by_way_of : (a r s v : Vector) → ((a ⊕ r) ⊖ v) ⊕ (s ⊖ r) ≡ (a ⊕ s) ⊖ v
unfolding ◌⊕◌ ◌⊖◌
by_way_of a r s v = matrix-ext (λ i j. entry rationals (a.at i j) (r.at i j) (s.at i j) (v.at i j))
  where
    entry : (R : Ring) (x y z w : R.Carrier) → R.add (R.add (R.add x y) (R.neg w)) (R.add z (R.neg y)) ≡ R.add (R.add x z) (R.neg w)
    entry R x y z w = simp (ring_laws, R)

apart_from : (a b c : Vector) → (a ⊖ c) ⊖ (b ⊖ c) ≡ a ⊖ b
unfolding ◌⊖◌
apart_from a b c = matrix-ext (λ i j. entry rationals (a.at i j) (b.at i j) (c.at i j))
  where
    entry : (R : Ring) (x y z : R.Carrier) → R.add (R.add x (R.neg z)) (R.neg (R.add y (R.neg z))) ≡ R.add x (R.neg y)
    entry R x y z = simp (ring_laws, R)

pub same_index : (ops : List Op) (d : Op) → AllPairs (λ g h. ¬ ((operation g).rotation ≡ (operation h).rotation)) ops → (i j : ℕ) → i < length ops
    → j < length ops
    → (operation (get_or ops i d)).rotation ≡ (operation (get_or ops j d)).rotation → i ≡ j
same_index ops d apart i j l m e = elim (cases_lt i j) [
  | inl less ↦ absurd (apart i j d less m e)
  | inr more ↦ elim (cases_lt j i) [ inl less ↦ absurd (apart j i d less l (sym e)) | inr same ↦ omega arith ]
]

turned-vector : (g : Operation) (c : Vector) → (g ⊙ translation c).vector ≡ g.vector ⊕ (whole_matrix rationals g.rotation · c)
unfolding ◌⊙◌ translation
turned-vector g c = refl

turned-rotation : (g : Operation) (c : Vector) → g.rotation · (translation c).rotation ≡ g.rotation
unfolding translation
turned-rotation g c = mul-unit g.rotation

product-vector : (g h : Operation) → (g ⊙ h).vector ≡ g.vector ⊕ (whole_matrix rationals g.rotation · h.vector)
unfolding ◌⊙◌
product-vector g h = refl

-- a listed operation as one of the operations
listed : (gs : List Op) (g : Op) → IsOneOf gs g → Contains (operations gs) (operation g)
listed gs g h = (
  h.0,
  subst (λ n. h.0 < n) (sym (length-map gs operation)) h.1,
  get_or-map operation gs h.0 g (operation g) h.1 ∙ ap operation (h.2 g),
)

-- the kept operations with the identity first and no rotation twice, and a settled list of translations; a seed has each generator's rotation
module _ (gs seeds kept : List Op) (cs : List Vec3) (inv : AreInvertible gs) (seeded : All (λ s. HasRotation seeds (operation s).rotation) gs)
    (from : All (IsOneOf gs) seeds) (partial : IsPartial seeds kept) (lattice : IsPartialLattice gs cs)
    (settled : IsSettled gs seeds kept cs (length cs)) (d : Op) (e : Vec3) where
  sum_in : (a b : Vector) → HasTranslation cs a → HasTranslation cs b → HasTranslation cs (a ⊕ b)
  sum_in a b p q = subst (HasTranslation cs) (sum_as_difference a b)
      (difference_in gs seeds kept cs lattice settled e a (null ⊖ b) p
      (difference_in gs seeds kept cs lattice settled e null b (whole_in gs seeds kept cs lattice settled e null null_whole) q))

  -- a translation of the list, turned by a kept rotation
  turned_listed : (i k : ℕ) → i < length kept → k < length cs
      → HasTranslation cs (whole_matrix rationals (operation (get_or kept i d)).rotation · vector (get_or cs k e))
  turned_listed i k l m = subst (HasTranslation cs)
      (ap (λ (v : Vector). v ⊖ (operation (get_or kept i d)).vector) (turned-vector (operation (get_or kept i d)) (vector (get_or cs k e)))
      ∙ cancelled_first (operation (get_or kept i d)).vector
      (whole_matrix rationals (operation (get_or kept i d)).rotation · vector (get_or cs k e)))
      (subst (λ n. HasTranslation cs
      ((operation (get_or kept i d) ⊙ translation (vector (get_or cs k e))).vector ⊖ (operation (get_or kept n d)).vector)) here (q.2 d).1)
    where
      q : HasQuotient kept cs (operation (get_or kept i d)) (translation (vector (get_or cs k e)))
      q = settled.turned k m e i d l

      here : q.0 ≡ i
      here = same_index kept d partial.distinct q.0 i q.1 l ((q.2 d).0 ∙ turned-rotation (operation (get_or kept i d)) (vector (get_or cs k e)))

  turned_in : (i : ℕ) (v : Vector) → i < length kept → HasTranslation cs v
      → HasTranslation cs (whole_matrix rationals (operation (get_or kept i d)).rotation · v)
  turned_in i v l h = shifted cs (whole_matrix rationals (operation (get_or kept i d)).rotation · vector (get_or cs h.0 e))
      (whole_matrix rationals (operation (get_or kept i d)).rotation · v)
      (subst IsWholeVector (mul-sub (whole_matrix rationals (operation (get_or kept i d)).rotation) v (vector (get_or cs h.0 e)))
      (turned_whole (operation (get_or kept i d)).rotation (v ⊖ vector (get_or cs h.0 e)) (h.2 e)))
      (turned_listed i h.0 l h.1)

  -- a generator is a kept operation after a translation of the list
  kept_of_generator : (s : Operation) → Contains (operations gs) s
      → (k : ℕ) × (k < length kept) × ((operation (get_or kept k d)).rotation ≡ s.rotation)
      × HasTranslation cs (s.vector ⊖ (operation (get_or kept k d)).vector)
  kept_of_generator s m = (
    q.0,
    q.1,
    (q.2 d).0 ∙ sym (product-rotation identity s) ∙ ap (λ (g : Operation). g.rotation) (identity-product s),
    subst (λ (g : Operation). HasTranslation cs (g.vector ⊖ (operation (get_or kept q.0 d)).vector)) (identity-product s) (q.2 d).1,
  )
    where
      p : (m.0 < length gs) × (operation (get_or gs m.0 d) ≡ s)
      p = contained_place gs s d m

      q : HasQuotient kept cs identity s
      q = subst (λ (g : Operation). HasQuotient kept cs g s) (partial.identity_first d)
          (subst (HasQuotient kept cs (operation (get_or kept 0 d))) p.1 (settled.gathered.generators_in d m.0 d p.0))

  -- a generator is a seed after a translation of the list
  seed_of_generator : (s : Operation) → Contains (operations gs) s
      → (k : ℕ) × (k < length seeds) × ((operation (get_or seeds k d)).rotation ≡ s.rotation)
      × HasTranslation cs (s.vector ⊖ (operation (get_or seeds k d)).vector)
  seed_of_generator s m = (
    h.0,
    h.1,
    h.2 d,
    subst (HasTranslation cs) (apart_from s.vector (operation (get_or seeds h.0 d)).vector (operation (get_or kept t.0 d)).vector)
        (difference_in gs seeds kept cs lattice settled e (s.vector ⊖ (operation (get_or kept t.0 d)).vector)
        ((operation (get_or seeds h.0 d)).vector ⊖ (operation (get_or kept t.0 d)).vector) t.3
        (subst (λ n. HasTranslation cs ((operation (get_or seeds h.0 d)).vector ⊖ (operation (get_or kept n d)).vector)) same u.3)),
  )
    where
      h : HasRotation seeds s.rotation
      h = let p = contained_place gs s d m in subst (λ (g : Operation). HasRotation seeds g.rotation) p.1 (seeded m.0 d p.0)

      t : (k : ℕ) × (k < length kept) × ((operation (get_or kept k d)).rotation ≡ s.rotation)
          × HasTranslation cs (s.vector ⊖ (operation (get_or kept k d)).vector)
      t = kept_of_generator s m

      u : (k : ℕ) × (k < length kept) × ((operation (get_or kept k d)).rotation ≡ (operation (get_or seeds h.0 d)).rotation)
          × HasTranslation cs ((operation (get_or seeds h.0 d)).vector ⊖ (operation (get_or kept k d)).vector)
      u = kept_of_generator (operation (get_or seeds h.0 d)) (listed gs (get_or seeds h.0 d) (from h.0 d h.1))

      same : u.0 ≡ t.0
      same = same_index kept d partial.distinct u.0 t.0 u.1 t.1 (u.2 ∙ h.2 d ∙ sym t.2)

  -- so is the product of a kept operation and a generator a kept one after a translation of the list
  next_kept : (i : ℕ) (s : Operation) → i < length kept → Contains (operations gs) s
      → (k : ℕ) × (k < length kept) × ((operation (get_or kept k d)).rotation ≡ (operation (get_or kept i d)).rotation · s.rotation)
      × HasTranslation cs ((operation (get_or kept i d) ⊙ s).vector ⊖ (operation (get_or kept k d)).vector)
  next_kept i s l m = (
    q.0,
    q.1,
    (q.2 d).0 ∙ ap (λ (R : Rotation). (operation (get_or kept i d)).rotation · R) t.2,
    subst (HasTranslation cs) all
        (sum_in ((operation (get_or kept i d) ⊙ operation (get_or seeds t.0 d)).vector ⊖ (operation (get_or kept q.0 d)).vector)
        (whole_matrix rationals (operation (get_or kept i d)).rotation · (s.vector ⊖ (operation (get_or seeds t.0 d)).vector))
        (q.2 d).1 (turned_in i (s.vector ⊖ (operation (get_or seeds t.0 d)).vector) l t.3)),
  )
    where
      t : (k : ℕ) × (k < length seeds) × ((operation (get_or seeds k d)).rotation ≡ s.rotation)
          × HasTranslation cs (s.vector ⊖ (operation (get_or seeds k d)).vector)
      t = seed_of_generator s m

      q : HasQuotient kept cs (operation (get_or kept i d)) (operation (get_or seeds t.0 d))
      q = settled.gathered.products_in i l d t.0 d t.1

      all : ((operation (get_or kept i d) ⊙ operation (get_or seeds t.0 d)).vector ⊖ (operation (get_or kept q.0 d)).vector) ⊕
          (whole_matrix rationals (operation (get_or kept i d)).rotation · (s.vector ⊖ (operation (get_or seeds t.0 d)).vector))
          ≡ (operation (get_or kept i d) ⊙ s).vector ⊖ (operation (get_or kept q.0 d)).vector
      all = ap (λ (v : Vector). ((operation (get_or kept i d) ⊙ operation (get_or seeds t.0 d)).vector ⊖ (operation (get_or kept q.0 d)).vector) ⊕ v)
          (mul-sub (whole_matrix rationals (operation (get_or kept i d)).rotation) s.vector (operation (get_or seeds t.0 d)).vector)
          ∙ ap (λ (v : Vector). (v ⊖ (operation (get_or kept q.0 d)).vector) ⊕
          ((whole_matrix rationals (operation (get_or kept i d)).rotation · s.vector) ⊖ (whole_matrix rationals
          (operation (get_or kept i d)).rotation · (operation (get_or seeds t.0 d)).vector)))
          (product-vector (operation (get_or kept i d)) (operation (get_or seeds t.0 d)))
          ∙ by_way_of (operation (get_or kept i d)).vector
          (whole_matrix rationals (operation (get_or kept i d)).rotation · (operation (get_or seeds t.0 d)).vector)
          (whole_matrix rationals (operation (get_or kept i d)).rotation · s.vector) (operation (get_or kept q.0 d)).vector
          ∙ ap (λ (v : Vector). v ⊖ (operation (get_or kept q.0 d)).vector) (sym (product-vector (operation (get_or kept i d)) s))

  closed : IsClosed (operations gs) (length kept) (indexed kept d) (HasTranslation cs)
  closed = record {
    whole = whole_in gs seeds kept cs lattice settled e;
    difference = difference_in gs seeds kept cs lattice settled e;
    unit_place = from_nat (length kept) 0 partial.nonempty;
    unit_kept = indexed-from_nat kept d 0 partial.nonempty ∙ partial.identity_first d;
    distinct = indexed_distinct kept d partial.distinct;
    next_place = λ i s m. let h = next_kept (to_nat i) s (to_nat-lt i) m in from_nat (length kept) h.0 h.1;
    next_rotation = λ i s m. let h = next_kept (to_nat i) s (to_nat-lt i)
        m in sym (ap (λ (g : Operation). g.rotation) (indexed-from_nat kept d h.0 h.1) ∙ h.2);
    next_vector = λ i s m. let h = next_kept (to_nat i) s (to_nat-lt i) m in
        subst (λ (g : Operation). HasTranslation cs ((indexed kept d i ⊙ s).vector ⊖ g.vector)) (sym (indexed-from_nat kept d h.0 h.1)) h.3;
    invertible = invertible_operations gs inv;
  }

  lattice_generated : (v : Vector) → HasTranslation cs v → Generated (operations gs) (translation v)
  lattice_generated v h = translation_modulo (operations gs) (vector (get_or cs h.0 e)) v (whole_flipped v (vector (get_or cs h.0 e)) (h.2 e))
      (lattice.centrings h.0 e h.1).generated

  -- the kept operations and translations stand for exactly the generated operations
  pub stands_for_generated : All (λ g. Generated (operations gs) (operation g)) kept → (g : Operation)
      → StandFor kept cs g ↔ Generated (operations gs) g
  stands_for_generated kept_generated g = (
    λ h. generated_of_stood (operations gs) (length kept) (indexed kept d) (HasTranslation cs) (λ i. kept_generated (to_nat i) d (to_nat-lt i))
        lattice_generated g (stood h),
    λ h. back (stood_of_generated (operations gs) (length kept) (indexed kept d) (HasTranslation cs) closed g h),
  )
    where
      stood : StandFor kept cs g → IsStoodFor (indexed kept d) (HasTranslation cs) g
      stood h = record {
        place = from_nat (length kept) h.0 h.1;
        same_rotation = (h.2 d).0 ∙ sym (ap (λ (x : Operation). x.rotation) (indexed-from_nat kept d h.0 h.1));
        in_lattice = subst (λ (x : Operation). HasTranslation cs (g.vector ⊖ x.vector)) (sym (indexed-from_nat kept d h.0 h.1)) (h.2 d).1;
      }

      back : IsStoodFor (indexed kept d) (HasTranslation cs) g → StandFor kept cs g
      back t = (
        to_nat t.place,
        to_nat-lt t.place,
        λ f. let same = ap operation (get_or_default kept (to_nat t.place) d f (to_nat-lt t.place)) in (
          t.same_rotation ∙ ap (λ (x : Operation). x.rotation) same,
          subst (λ (x : Operation). HasTranslation cs (g.vector ⊖ x.vector)) same
              t.in_lattice,
        ),
      )
