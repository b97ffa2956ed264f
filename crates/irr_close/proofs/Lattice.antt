-- Lists of translations as one more is looked at.
--   invertible_generated        generated rotations have inverses where the generators' have
--   inverse_operation           an operation whose rotation has an inverse has one
--   translation_between         the translation between two generated operations with one rotation is generated
--   divisor_small, lcm_small    numbers that divide a small one, and their least common multiple
--   quotient_whole              differences by whole vectors, one after the other
--   centring_of_quotient        the translation after a kept operation in a product
--   with_centring-longer, -partial, -has   the list with one more translation
--   has_quotient_longer, quotient_has      quotients are in longer lists, and in the list with one more
--   refused_centring            where nothing more is kept, the translations are too many
use Rattle.std.proofs.Common.{◌≡◌, sym, ◌∙◌, ap, subst, refl, ℕ, ◌<◌, ◌≤◌, ◌+◌, inl, inr, List, [], ◌∷◌, ◌++◌, length, get_or, map, arith}
use Rattle.std.specs.List.{All, Contains, HoldsAt}
use Rattle.std.specs.Int.{◌∣◌}
use Rattle.std.proofs.lemmas.List.{length-map, get_or-map, length_push, get_or_append_left, get_or_default, get_or_push}
use Rattle.std.proofs.lemmas.List.Elements.{All-push, All-cons, All-nil}
use Rattle.std.proofs.lemmas.Bool.{cases_lt}
use native.Mathlib.Nat as Nat
use Rattle.irr_algebra.specs.Fin.{Fin, to_nat}
use Rattle.irr_algebra.specs.Fin.Fin.{first, next}
use Rattle.irr_algebra.specs.Ring.{Ring}
use Rattle.irr_algebra.specs.Matrix.{◌·◌, ◌⊖◌, unit, null}
use Rattle.irr_algebra.proofs.Indices.{to_nat-lt, to_nat_inj}
use Rattle.irr_algebra.proofs.Rings.{ring_laws}
use Rattle.irr_algebra.proofs.Matrices.{mul_assoc, unit-mul}
use Rattle.irr_number.specs.Integers.{integers}
use Rattle.irr_rational.specs.Integer.{whole_matrix}
use Rattle.irr_rational.specs.Rational.{rationals, IsWhole}
use Rattle.irr_rational.proofs.Orders.{le_antisymm}
use Rattle.irr_rational.proofs.WholeNumbers.{whole-add, whole-neg}
use Rattle.irr_space.specs.Operation.{Operation, Rotation, Vector, ◌⊙◌, identity, translation, component, IsInverse}
use Rattle.irr_space.specs.SpaceGroup.{Generated}
use Rattle.irr_space.specs.SpaceGroup.Generated.{one, generator, unit_translation, product, inverse}
use Rattle.irr_space.specs.CanonicalOperation.{IsInCell}
use Rattle.irr_lattice.proofs.Reciprocals.{least_in_cell}
use Rattle.irr_rat.specs.Lcm.{IsLcm}
use Rattle.irr_rat.specs.VectorMeaning.{vector}
use Rattle.irr_rat.specs.declared.vec3.Vec3.{Vec3}
use Rattle.irr_rat.proofs.Vectors.{vector-ext, component-sub}
use Rattle.irr_seitz.proofs.Adjugate.{adjoint-mul}
use Rattle.irr_seitz.proofs.Inverses.{inverse_of}
use Rattle.irr_seitz.specs.OperationMeaning.{operation}
use Rattle.irr_seitz.specs.declared.op.Op.{Op}
use Rattle.irr_close.specs.declared.CloseError.{CloseError}
use Rattle.irr_close.specs.declared.CloseError.TheVariants.{Rotations, Denominator, Centrings, Memory}
use Rattle.irr_close.specs.Whole.{IsWholeVector}
use Rattle.irr_close.specs.Limits.{operations, HasFewCentrings}
use Rattle.irr_close.specs.Closing.{IsLonger}
use Rattle.irr_close.specs.Centring.{AreInvertible, AreOver, AreFrom, IsFactor, IsQuotient, IsCentring, HasTranslation, HasVector, HasQuotient, IsPartialLattice, IsWithCentring, IsAddRefusal, IsLatticeRefusal}
use Rattle.irr_close.proofs.Pigeons.{crowded}
use Rattle.irr_close.proofs.Closure.{product_assoc, product-identity, by_translation, whole_flipped}
use Rattle.irr_close.proofs.Keeping.{product-rotation, generated_modulo, kept_longer, longer_refl}

-- generated rotations have inverses where the generators' have
pub invertible_generated : (gens : List Operation) → ((s : Operation) → Contains gens s → (S : Rotation) × (s.rotation · S ≡ unit integers 3))
    → {g : Operation} → Generated gens g → (S : Rotation) × (g.rotation · S ≡ unit integers 3)
unfolding identity translation ◌⊙◌
invertible_generated gens inv one = (unit integers 3, unit-mul (unit integers 3))
invertible_generated gens inv (generator {g} m) = inv g m
invertible_generated gens inv (unit_translation i) = (unit integers 3, unit-mul (unit integers 3))
invertible_generated gens inv (product {g} {h} p q) = let a = invertible_generated gens inv p in let b = invertible_generated gens inv q in (
  b.0 · a.0,
  mul_assoc g.rotation h.rotation (b.0 · a.0)
      ∙ ap (λ (R : Rotation). g.rotation · R) (sym (mul_assoc h.rotation b.0 a.0) ∙ ap (λ (R : Rotation). R · a.0) b.1 ∙ unit-mul a.0) ∙ a.1,
)
invertible_generated gens inv (inverse {g} {h} e p) = (g.rotation, ap (λ (k : Operation). k.rotation) e.left)

pub invertible_operations : (gs : List Op) → AreInvertible gs → (s : Operation) → Contains (operations gs) s
    → (S : Rotation) × (s.rotation · S ≡ unit integers 3)
invertible_operations gs inv s m = some gs inv m.0 (subst (λ n. m.0 < n) (length-map gs operation) m.1) m.2
  where
    some : (gs : List Op) → AreInvertible gs → (k : ℕ) → k < length gs → get_or (map operation gs) k s ≡ s
        → (S : Rotation) × (s.rotation · S ≡ unit integers 3)
    some [] inv k l e = absurd (let h : k < 0 = l in omega arith)
    some (x ∷ xs) inv k l e = subst (λ (g : Operation). (S : Rotation) × (g.rotation · S ≡ unit integers 3))
        (sym (get_or-map operation (x ∷ xs) k x s l) ∙ e) (inv k x l)

-- an operation whose rotation has an inverse has one
pub inverse_operation : (g : Operation) (S : Rotation) → g.rotation · S ≡ unit integers 3 → (h : Operation) × IsInverse g h
inverse_operation g S e = (
  record { rotation = S; vector = null ⊖ (whole_matrix rationals S · g.vector) },
  inverse_of g
      (record { rotation = S; vector = null ⊖ (whole_matrix rationals S · g.vector) }) e (adjoint-mul g.rotation S e) refl,
)

pub translation_between : (gs : List Op) → AreInvertible gs → (g m : Operation) → m.rotation ≡ g.rotation → Generated (operations gs) g
    → Generated (operations gs) m → Generated (operations gs) (translation (g.vector ⊖ m.vector))
translation_between gs inv g m e p q = let a = invertible_generated (operations gs) (invertible_operations gs inv) q in
    at_inverse (inverse_operation m a.0 a.1)
  where
    at_inverse : (h : Operation) × IsInverse m h → Generated (operations gs) (translation (g.vector ⊖ m.vector))
    at_inverse t = subst (Generated (operations gs))
        (ap (λ (x : Operation). x ⊙ t.0) (sym (by_translation m g (sym e))) ∙ product_assoc (translation (g.vector ⊖ m.vector)) m t.0
        ∙ ap (λ (x : Operation). translation (g.vector ⊖ m.vector) ⊙ x) t.1.right ∙ product-identity (translation (g.vector ⊖ m.vector)))
        (product p (inverse t.1 q))

pub divisor_small : (d D : ℕ) → 0 < D → D ≤ 100000 → d ∣ D → d ≤ 100000
divisor_small d D p s h = let l : d ≤ D = Nat.le_of_dvd p h in omega arith

pub lcm_small : (a b D m : ℕ) → 0 < D → D ≤ 100000 → a ∣ D → b ∣ D → IsLcm a b m → m ≤ 100000
lcm_small a b D m p s h k l = divisor_small m D p s (l.2 D h k)

-- differences by whole vectors, one after the other
pub quotient_whole : (a b c d : Vector) → IsWholeVector (a ⊖ b) → IsWholeVector ((b ⊖ c) ⊖ d) → IsWholeVector ((a ⊖ c) ⊖ d)
unfolding component ◌⊖◌
quotient_whole a b c d h k i = subst IsWhole (entry rationals (a.at i first) (b.at i first) (c.at i first) (d.at i first)) (whole-add _ _ (h i) (k i))
  where
    entry : (R : Ring) (x y z w : R.Carrier) → R.add (R.add x (R.neg y)) (R.add (R.add y (R.neg z)) (R.neg w)) ≡ R.add (R.add x (R.neg z)) (R.neg w)
    entry R x y z w = simp (ring_laws, R)

pub near_one : (a b c : Vector) → IsWholeVector (a ⊖ c) → IsWholeVector (b ⊖ c) → IsWholeVector (a ⊖ b)
unfolding component ◌⊖◌
near_one a b c h j i = subst IsWhole (entry rationals (a.at i first) (b.at i first) (c.at i first)) (whole-add _ _ (h i) (whole-neg _ (j i)))
  where
    entry : (R : Ring) (x y z : R.Carrier) → R.add (R.add x (R.neg z)) (R.neg (R.add y (R.neg z))) ≡ R.add x (R.neg y)
    entry R x y z = simp (ring_laws, R)

pub translation-rotation : (a b : Vector) → (translation a).rotation ≡ (translation b).rotation
unfolding translation
translation-rotation a b = refl

translation-vector : (a b : Vector) → IsWholeVector (a ⊖ b) → IsWholeVector ((translation a).vector ⊖ (translation b).vector)
unfolding translation
translation-vector a b h = h

pub translation_modulo : (gens : List Operation) (a b : Vector) → IsWholeVector (a ⊖ b) → Generated gens (translation a)
    → Generated gens (translation b)
translation_modulo gens a b h p = generated_modulo gens (translation a) (translation b) (translation-rotation b a)
    (translation-vector b a (whole_flipped a b h)) p

-- the translation after a kept operation in a product
pub centring_of_quotient : (gs kept : List Op) (op : Op) (factors : List Op) (s : Op) (j : ℕ) (t : Vec3) → AreFrom gs kept op factors
    → j < length factors → s ≡ get_or factors j s
    → IsQuotient kept (operation op) (operation s) (vector t) → IsInCell (vector t)
    → ((D : ℕ) → 0 < D → All (λ g. g.den ∣ D) kept → op.den ∣ D → s.den ∣ D → t.den ∣ D) → IsCentring gs t
centring_of_quotient gs kept op factors s j t from l e quotient cell divides = record {
  generated = translation_modulo (operations gs) ((operation op ⊙ operation s).vector ⊖ (operation member).vector) (vector t) (quotient.2 s).1
      (translation_between gs from.invertible (operation op ⊙ operation s) (operation member) ((quotient.2 s).0
      ∙ sym (product-rotation (operation op) (operation s)))
      (product from.op_from.generated factor.generated) (from.kept_from quotient.0 s quotient.1).generated);
  in_cell = cell;
  divides = λ D p all. divides D p (λ k d m. (from.kept_from k d m).divides D p all) (from.op_from.divides D p all) (factor.divides D p all);
}
  where
    member : Op
    member = get_or kept quotient.0 s

    factor : IsFactor gs s
    factor = subst (IsFactor gs) (sym e) (from.factors_from j s l)

pub with_centring-longer : (old : List Vec3) (v : Vec3) (new : List Vec3) → IsWithCentring old v new → IsLonger old new
with_centring-longer old v new (inl h) = subst (IsLonger old) (sym h.1) (longer_refl old)
with_centring-longer old v new (inr h) = record { more = v ∷ []; is = h.2 }

with_centring-vector : (old : List Vec3) (v : Vec3) (new : List Vec3) → IsWithCentring old v new → HasVector new (vector v)
with_centring-vector old v new (inl h) = subst (λ cs. HasVector cs (vector v)) (sym h.1) h.0
with_centring-vector old v new (inr h) = subst (λ cs. HasVector cs (vector v)) (sym h.2) (
  length old,
  (let a : length (old ++ v ∷ []) ≡ length old + 1 = length_push old v in omega arith),
  λ d. ap vector
      (get_or_push old v d (length old) refl),
)

pub with_centring-has : (old : List Vec3) (v : Vec3) (new : List Vec3) (t : Vector) → IsWithCentring old v new → IsWholeVector (t ⊖ vector v)
    → HasTranslation new t
with_centring-has old v new t w h = let m = with_centring-vector old v new w in
    (m.0, m.1, λ d. subst (λ (u : Vector). IsWholeVector (t ⊖ u)) (sym (m.2 d)) h)

pub translation_longer : (old new : List Vec3) (t : Vector) → IsLonger old new → HasTranslation old t → HasTranslation new t
translation_longer old new t l h = kept_longer (λ c. IsWholeVector (t ⊖ vector c)) old new l h

pub has_quotient_longer : (kept : List Op) (old new : List Vec3) (g h : Operation) → IsLonger old new → HasQuotient kept old g h
    → HasQuotient kept new g h
has_quotient_longer kept old new g h l q =
    (q.0, q.1, λ d. ((q.2 d).0, translation_longer old new ((g ⊙ h).vector ⊖ (operation (get_or kept q.0 d)).vector) l (q.2 d).1))

pub quotient_has : (kept : List Op) (old : List Vec3) (t : Vec3) (new : List Vec3) (g h : Operation) → IsQuotient kept g h (vector t)
    → IsWithCentring old t new → HasQuotient kept new g h
quotient_has kept old t new g h q w =
    (q.0, q.1, λ d. ((q.2 d).0, with_centring-has old t new ((g ⊙ h).vector ⊖ (operation (get_or kept q.0 d)).vector) w (q.2 d).1))

-- two vectors of the cell that differ by a whole one are the same
pub same_in_cell : (v w : Vector) → IsInCell v → IsInCell w → IsWholeVector (v ⊖ w) → v ≡ w
same_in_cell v w p q h = vector-ext v w (λ i. le_antisymm (component v i) (component w i)
    (least_in_cell (component v i) (component w i) (p i).1 (q i).0 (subst IsWhole (component-sub w v i) (whole_flipped v w h i)))
    (least_in_cell (component w i) (component v i) (q i).1 (p i).0 (subst IsWhole (component-sub v w i) (h i))))

pub with_centring-partial : (gs : List Op) (old : List Vec3) (v : Vec3) (new : List Vec3) → IsPartialLattice gs old → IsCentring gs v
    → IsWithCentring old v new → IsPartialLattice gs new
with_centring-partial gs old v new p k (inl h) = subst (IsPartialLattice gs) (sym h.1) p
with_centring-partial gs old v new p k (inr h) = subst (IsPartialLattice gs) (sym h.2) (record {
  nonempty = (let a : length (old ++ v ∷ []) ≡ length old + 1 = length_push old v in omega arith);
  zero_first = λ d. ap vector (get_or_append_left old (v ∷ []) d 0 p.nonempty) ∙ p.zero_first d;
  few = (let a : length (old ++ v ∷ []) ≡ length old + 1 = length_push old v in let b = h.1 in omega arith);
  centrings = All-push (IsCentring gs) old v p.centrings k;
  distinct = λ i j d l m. different i j d l
      (let a : length (old ++ v ∷ []) ≡ length old + 1 = length_push old v in let b : j < length (old ++ v ∷ []) = m in omega arith);
})
  where
    different : (i j : ℕ) (d : Vec3) → i < j → j < length old + 1 → ¬ (vector (get_or (old ++ v ∷ []) i d) ≡ vector (get_or (old ++ v ∷ []) j d))
    different i j d l m e = elim (cases_lt j (length old)) [
      | inl below ↦ p.distinct i j d l below (let b : i < length old = omega arith in
          sym (ap vector (get_or_append_left old (v ∷ []) d i b)) ∙ e ∙ ap vector (get_or_append_left old (v ∷ []) d j below))
      | inr last ↦ (let b : i < length old = omega arith in let q : length old ≡ j = omega arith in
          h.0 (
            i,
            b,
            λ f. ap vector (get_or_default old i f d b) ∙ sym (ap vector (get_or_append_left old (v ∷ []) d i b)) ∙ e
                ∙ ap vector (get_or_push old v d j q),
          ))
    ]

-- the new translation first, then those that are kept
abbrev with_first : Vec3 → List Vec3 → Fin 33 → Vec3
with_first v old first = v
with_first v old (next i) = get_or old (to_nat i) v

too_many : (gs : List Op) (old : List Vec3) (v : Vec3) → IsPartialLattice gs old → IsCentring gs v → ¬ (HasVector old (vector v)) → 32 ≤ length old
    → ¬ (HasFewCentrings (operations gs))
too_many gs old v p k none l few = let t = crowded 32 few.centrings few.few (λ i. (nearest i).0) (λ i. (nearest i).1) in
    apart t.0 t.1 t.2 (same_in_cell (vector (with_first v old t.0)) (vector (with_first v old t.1)) (centring t.0).in_cell (centring t.1).in_cell
    (near_one (vector (with_first v old t.0)) (vector (with_first v old t.1)) (nearest t.1).0
    (subst (λ (c : Vector). IsWholeVector (vector (with_first v old t.0) ⊖ c)) t.3 (nearest t.0).2) (nearest t.1).2))
  where
    below : (i : Fin 32) → to_nat i < length old
    below i = let h = to_nat-lt i in omega arith

    centring : (i : Fin 33) → IsCentring gs (with_first v old i)
    centring first = k
    centring (next i) = p.centrings (to_nat i) v (below i)

    nearest : (i : Fin 33) → (c : Vector) × Contains few.centrings c × IsWholeVector (vector (with_first v old i) ⊖ c)
    nearest i = few.all (vector (with_first v old i)) (centring i).generated

    met : (i : Fin 32) → vector (get_or old (to_nat i) v) ≡ vector v → ⊥
    met i e = none (to_nat i, below i, λ d. ap vector (get_or_default old (to_nat i) d v (below i)) ∙ e)

    apart : (i j : Fin 33) → (i ≡ j → ⊥) → vector (with_first v old i) ≡ vector (with_first v old j) → ⊥
    apart first first d e = d refl
    apart first (next j) d e = met j (sym e)
    apart (next i) first d e = met i e
    apart (next i) (next j) d e = elim (cases_lt (to_nat i) (to_nat j)) [
      | inl less ↦ p.distinct (to_nat i) (to_nat j) v less (below j) e
      | inr more ↦ elim (cases_lt (to_nat j) (to_nat i)) [
        | inl less ↦ p.distinct (to_nat j) (to_nat i) v less (below i) (sym e)
        | inr same ↦ d (ap next (to_nat_inj i j (omega arith)))
      ]
    ]

pub refused_centring : (gs : List Op) (old : List Vec3) (v : Vec3) (e : CloseError) → IsPartialLattice gs old → IsCentring gs v → IsAddRefusal old v e
    → IsLatticeRefusal gs e
refused_centring gs old v Rotations p k h = h
refused_centring gs old v Denominator p k h = h
refused_centring gs old v Centrings p k (none, l) = too_many gs old v p k none l
refused_centring gs old v Memory p k h = h

pub one_factor : (kept : List Op) (op : Op) (factors : List Op) (s : Op) (j : ℕ) → AreOver kept op factors → j < length factors
    → s ≡ get_or factors j s → AreOver kept op (s ∷ [])
one_factor kept op factors s j o l e = record {
  common = o.common;
  positive = o.positive;
  small = o.small;
  kept_divide = o.kept_divide;
  op_divides = o.op_divides;
  factors_divide = All-cons (λ g. g.den ∣ o.common) s [] (subst (λ (g : Op). g.den ∣ o.common) (sym e) (o.factors_divide j s l))
      (All-nil (λ g. g.den ∣ o.common));
}

pub more_quotients : (kept : List Op) (old new : List Vec3) (op : Op) (factors : List Op) (s : Op) (t : Vec3) (n : ℕ) → s ≡ get_or factors n s
    → n < length factors
    → IsQuotient kept (operation op) (operation s) (vector t) → IsWithCentring old t new
    → ((j : ℕ) → j < n → HoldsAt (λ s. HasQuotient kept old (operation op) (operation s)) factors j)
    → (j : ℕ) → j < n + 1 → HoldsAt (λ s. HasQuotient kept new (operation op) (operation s)) factors j
more_quotients kept old new op factors s t n e l q w have j m d = elim (cases_lt j n) [
  | inl less ↦ has_quotient_longer kept old new (operation op) (operation (get_or factors j d)) (with_centring-longer old t new w) (have j less d)
  | inr last ↦ (let p : n ≡ j = omega arith in subst (λ (x : Op). HasQuotient kept new (operation op) (operation x))
      (e ∙ get_or_default factors n s d l ∙ ap (λ k. get_or factors k d) p) (quotient_has kept old t new (operation op) (operation s) q w))
]
