-- The canonical form of a closing: it stands for the same operations, and is numbered and ordered as is asked.
--   forth_translation, back_translation     the sorted translations are the same
--   by_way, flipped                         sums and opposites of translations
--   one_canonical                           a rotation has one canonical operation
--   centred, translated                     a translation of the list
--   canonical_stands                        the numbered operations and the sorted translations stand for the same
--   are_canonical                           and are the canonical form of what they stand for
use Rattle.std.proofs.Common.{◌≡◌, refl, sym, ◌∙◌, ap, subst, subst₂, ℕ, ◌<◌, ◌↔◌, List, length, get_or, arith}
use Rattle.std.specs.List.{All, AllPairs, HoldsAt}
use Rattle.std.specs.Int.{◌∣◌}
use Rattle.std.proofs.lemmas.List.{get_or_default}
use Rattle.std.proofs.lemmas.List.Sorted.{All-permutation, IsPermutation-sym, length_permutation}
use Rattle.irr_algebra.specs.Fin.{to_nat}
use Rattle.irr_algebra.specs.Ring.{Ring}
use Rattle.irr_number.specs.Integers.{integers}
use Rattle.irr_algebra.specs.Matrix.{◌·◌, unit, ◌⊕◌, ◌⊖◌, null}
use Rattle.irr_algebra.proofs.Indices.{from_nat, to_nat-from_nat, to_nat-lt}
use Rattle.irr_algebra.proofs.Rings.{ring_laws}
use Rattle.irr_algebra.proofs.Matrices.{matrix-ext, sub-null, sub_self}
use Rattle.irr_rational.specs.Rational.{rationals}
use Rattle.irr_rational.specs.Order.{IsAtMost, IsBelow}
use Rattle.irr_rational.proofs.Lexicographic.{at_most_antisymm}
use Rattle.irr_space.specs.Operation.{Operation, Vector, component, identity, translation, Rotation}
use Rattle.irr_space.specs.CanonicalOperation.{IsInCell, IsCanonicalOperation, IsNumbering, IsNumberedBefore}
use Rattle.irr_rat.specs.VectorMeaning.{vector}
use Rattle.irr_rat.specs.declared.vec3.Vec3.{Vec3}
use Rattle.irr_rat.proofs.Vectors.{vector-ext}
use Rattle.irr_seitz.specs.Rotation.{IsWithin}
use Rattle.irr_seitz.specs.OperationMeaning.{operation}
use Rattle.irr_seitz.specs.declared.op.Op.{Op}
use Rattle.irr_seitz.proofs.Vectors.{operation-ext}
use Rattle.irr_kvec.specs.Centrings.{AreCentrings, IsCentred}
use Rattle.irr_close.specs.Whole.{IsWholeVector}
use Rattle.irr_close.specs.Closing.{HasRotation}
use Rattle.irr_close.specs.Centring.{HasTranslation, AreOverOne}
use Rattle.irr_close.specs.Standing.{StandFor}
use Rattle.irr_close.specs.Canonical.{IsCanonicalOf, IsNumberedFrom, IsSortedFrom, IsLattice, IsRotationGroup, IsClosing, AreCanonical, numbered}
use Rattle.irr_close.proofs.Sorting.{exists_permuted}
use Rattle.irr_close.proofs.Closure.{null_whole, sum_as_difference}
use Rattle.irr_close.proofs.Standing.{same_index}

pub forth_translation : (old new : List Vec3) (t : Vector) → IsSortedFrom old new → HasTranslation old t → HasTranslation new t
forth_translation old new t s h = exists_permuted (λ (c : Vec3). IsWholeVector (t ⊖ vector c)) old new s.permuted h.0 h.1 h.2

pub back_translation : (old new : List Vec3) (t : Vector) → IsSortedFrom old new → HasTranslation new t → HasTranslation old t
back_translation old new t s h = exists_permuted (λ (c : Vec3). IsWholeVector (t ⊖ vector c)) new old (IsPermutation-sym old new s.permuted) h.0 h.1
    h.2

through : (a b c : Vector) → (a ⊖ b) ⊕ (b ⊖ c) ≡ a ⊖ c
unfolding ◌⊕◌ ◌⊖◌
through a b c = matrix-ext (λ i j. entry rationals (a.at i j) (b.at i j) (c.at i j))
  where
    entry : (R : Ring) (x y z : R.Carrier) → R.add (R.add x (R.neg y)) (R.add y (R.neg z)) ≡ R.add x (R.neg z)
    entry R x y z = simp (ring_laws, R)

less_both : (a b c : Vector) → (a ⊖ c) ⊖ (b ⊖ c) ≡ a ⊖ b
unfolding ◌⊖◌
less_both a b c = matrix-ext (λ i j. entry rationals (a.at i j) (b.at i j) (c.at i j))
  where
    entry : (R : Ring) (x y z : R.Carrier) → R.add (R.add x (R.neg z)) (R.neg (R.add y (R.neg z))) ≡ R.add x (R.neg y)
    entry R x y z = simp (ring_laws, R)

turned_round : (a b : Vector) → null ⊖ (a ⊖ b) ≡ b ⊖ a
unfolding ◌⊖◌ null
turned_round a b = matrix-ext (λ i j. entry rationals (a.at i j) (b.at i j))
  where
    entry : (R : Ring) (x y : R.Carrier) → R.add R.zero (R.neg (R.add x (R.neg y))) ≡ R.add y (R.neg x)
    entry R x y = simp (ring_laws, R)

module _ (cs : List Vec3) (lattice : IsLattice cs) where
  null_in : HasTranslation cs null
  null_in = lattice.whole null null_whole

  pub by_way : (a b c : Vector) → HasTranslation cs (a ⊖ b) → HasTranslation cs (b ⊖ c) → HasTranslation cs (a ⊖ c)
  by_way a b c p q = subst (HasTranslation cs) (sum_as_difference (a ⊖ b) (b ⊖ c) ∙ through a b c)
      (lattice.difference (a ⊖ b) (null ⊖ (b ⊖ c)) p (lattice.difference null (b ⊖ c) null_in q))

  pub flipped : (a b : Vector) → HasTranslation cs (a ⊖ b) → HasTranslation cs (b ⊖ a)
  flipped a b p = subst (HasTranslation cs) (turned_round a b) (lattice.difference null (a ⊖ b) null_in p)

translation_rotation : (t : Vector) → (translation t).rotation ≡ identity.rotation
unfolding translation identity
translation_rotation t = refl

translation_shift : (t : Vector) → (translation t).vector ⊖ identity.vector ≡ t
unfolding translation identity
translation_shift t = sub-null t

-- a rotation has one canonical operation
pub one_canonical : (G : Operation → Type 0) (g h : Operation) → IsCanonicalOperation G g → IsCanonicalOperation G h → g.rotation ≡ h.rotation → g ≡ h
one_canonical G g h p q r =
    operation-ext g h r (vector-ext g.vector h.vector
    (at_most_antisymm (component g.vector) (component h.vector) (p.least h q.member (sym r) q.in_cell) (q.least g p.member r p.in_cell)))

-- a vector of the list, as it is known to the theory of wave vectors
pub centred : (cs : List Vec3) (e : Vec3) (t : Vector) → HasTranslation cs t → IsCentred cs t
centred cs e t h = record { centring = get_or cs h.0 e; member = (h.0, h.1, get_or_default cs h.0 (get_or cs h.0 e) e h.1); is_whole = h.2 e }

pub translated : (cs : List Vec3) (t : Vector) → IsCentred cs t → HasTranslation cs t
translated cs t c = (
  c.member.0,
  c.member.1,
  λ f. subst (λ (x : Vec3). IsWholeVector (t ⊖ vector x)) (sym c.member.2
      ∙ get_or_default cs c.member.0 c.centring f c.member.1) c.is_whole,
)

module _ (kept : List Op) (cs : List Vec3) (closing : IsClosing kept cs) (ops : List Op) (new : List Vec3) (from : IsNumberedFrom cs kept ops)
    (sorted : IsSortedFrom cs new) (d : Op) (e : Vec3) where
  long : length ops ≡ length kept
  long = length_permutation from.made ops from.permuted ∙ from.canonical.long

  -- the numbered operation of a kept one
  number_of : (j : ℕ) → j < length kept → (k : ℕ) × (k < length ops) × HoldsAt (IsCanonicalOf cs (get_or kept j d)) ops k
  number_of j l = exists_permuted (IsCanonicalOf cs (get_or kept j d)) from.made ops from.permuted j (let a = from.canonical.long in omega arith)
      (from.canonical.each j l d)

  -- the kept operation of a numbered one
  kept_of : All (λ h. (j : ℕ) × (j < length kept) × IsCanonicalOf cs (get_or kept j d) h) ops
  kept_of = All-permutation (λ h. (j : ℕ) × (j < length kept) × IsCanonicalOf cs (get_or kept j d) h) from.made ops from.permuted
      (λ k f l. let m : k < length kept = (let a = from.canonical.long in omega arith) in (k, m, from.canonical.each k m d f))

  forth : (g : Operation) → StandFor kept cs g → StandFor ops new g
  forth g h = let n = number_of h.0 h.1 in let s = h.2 d in (
    n.0,
    n.1,
    λ f. let c = n.2 f in (
      s.0 ∙ sym c.rotation,
      forth_translation cs new (g.vector ⊖ (operation (get_or ops n.0 f)).vector) sorted
          (by_way cs closing.lattice g.vector (operation (get_or kept h.0 d)).vector (operation (get_or ops n.0 f)).vector s.1 c.vector.shared),
    ),
  )

  back : (g : Operation) → StandFor ops new g → StandFor kept cs g
  back g h = let n = kept_of h.0 d h.1 in let s = h.2 d in (
    n.0,
    n.1,
    λ f. subst (λ (x : Op). (g.rotation ≡ (operation x).rotation) × HasTranslation cs (g.vector ⊖ (operation x).vector))
        (get_or_default kept n.0 d f n.1) (
          s.0 ∙ n.2.rotation,
          by_way cs closing.lattice g.vector (operation (get_or ops h.0 d)).vector (operation (get_or kept n.0 d)).vector
              (back_translation cs new (g.vector ⊖ (operation (get_or ops h.0 d)).vector) sorted s.1)
              (flipped cs closing.lattice (operation (get_or kept n.0 d)).vector (operation (get_or ops h.0 d)).vector n.2.vector.shared),
        ),
  )

  pub canonical_stands : (g : Operation) → StandFor ops new g ↔ StandFor kept cs g
  canonical_stands g = (back g, forth g)

  place_member : (k : ℕ) → k < length ops → StandFor ops new (operation (get_or ops k d))
  place_member k l = (
    k,
    l,
    λ f. subst (λ (x : Op). ((operation (get_or ops k d)).rotation ≡ (operation x).rotation)
        × HasTranslation new ((operation (get_or ops k d)).vector ⊖ (operation x).vector)) (get_or_default ops k d f l) (
          refl,
          subst (HasTranslation new) (sym (sub_self (operation (get_or ops k d)).vector))
              (forth_translation cs new null sorted (null_in cs closing.lattice)),
        ),
  )

  canonical_at : (k : ℕ) → k < length ops → IsCanonicalOperation (StandFor ops new) (operation (get_or ops k d))
  canonical_at k l = record {
    member = place_member k l;
    in_cell = (kept_of k d l).2.vector.in_cell;
    least = least;
  }
    where
      least : (h : Operation) → StandFor ops new h → h.rotation ≡ (operation (get_or ops k d)).rotation → IsInCell h.vector
          → IsAtMost (component (operation (get_or ops k d)).vector) (component h.vector)
      least h m r cell =
          let n = kept_of k d l in
          let s = back h m in
          let t = s.2 d in
          let here : s.0 ≡ n.0 = same_index kept d closing.distinct s.0 n.0 s.1 n.1 (sym t.0 ∙ r ∙ n.2.rotation) in
          n.2.vector.least h.vector cell
          (flipped cs closing.lattice h.vector (operation (get_or kept n.0 d)).vector
          (subst (λ i. HasTranslation cs (h.vector ⊖ (operation (get_or kept i d)).vector)) here t.1))

  ordered_ops : AllPairs (λ g h. IsNumberedBefore (operation g).rotation (operation h).rotation) ops
  ordered_ops = from.ordered closing.distinct

  numbering : (f : Op) → IsNumbering (StandFor ops new) (λ _. Unit {0}) (numbered ops f)
  numbering f = record {
    canonical = λ i. subst (λ (x : Op). IsCanonicalOperation (StandFor ops new) (operation x)) (get_or_default ops (to_nat i) d f (to_nat-lt i))
        (canonical_at (to_nat i) (to_nat-lt i));
    member = λ i. tt;
    all = λ g c p. (
      from_nat (length ops) c.member.0 c.member.1,
      ap (λ n. operation (get_or ops n f)) (to_nat-from_nat (length ops) c.member.0 c.member.1)
          ∙ ap operation (get_or_default ops c.member.0 f d c.member.1)
          ∙ one_canonical (StandFor ops new) (operation (get_or ops c.member.0 d)) g (canonical_at c.member.0 c.member.1) c (sym (c.member.2 d).0),
    );
    ordered = λ i j l. ordered_ops (to_nat i) (to_nat j) f l (to_nat-lt j);
  }

  -- the translations are those of the list
  translation_kept : (t : Vector) → HasTranslation cs t → StandFor kept cs (translation t)
  translation_kept t h = (
    0,
    closing.nonempty,
    λ f. (
      translation_rotation t ∙ ap (λ (g : Operation). g.rotation) (sym (closing.identity_first f)),
      subst (HasTranslation cs) (sym (ap (λ (g : Operation). (translation t).vector ⊖ g.vector) (closing.identity_first f) ∙ translation_shift t)) h,
    ),
  )

  kept_translation : (t : Vector) → StandFor kept cs (translation t) → HasTranslation cs t
  kept_translation t q =
      let first : q.0 ≡ 0 = same_index kept d closing.distinct q.0 0 q.1 closing.nonempty (sym (q.2 d).0 ∙ translation_rotation t
      ∙ ap (λ (g : Operation). g.rotation) (sym (closing.identity_first d))) in
      subst (HasTranslation cs) (ap (λ n. (translation t).vector ⊖ (operation (get_or kept n d)).vector) first
      ∙ ap (λ (g : Operation). (translation t).vector ⊖ g.vector) (closing.identity_first d) ∙ translation_shift t) (q.2 d).1

  in_cells : All (λ c. IsInCell (vector c)) new
  in_cells = All-permutation (λ c. IsInCell (vector c)) cs new sorted.permuted closing.in_cell

  pub centrings : AreCentrings (StandFor ops new) new
  centrings = record {
    translations = λ t. (
      λ h. centred new e t (forth_translation cs new t sorted (kept_translation t (back (translation t) h))),
      λ c. forth
          (translation t) (translation_kept t (back_translation cs new t sorted (translated new t c))),
    );
    in_cell = λ c m. subst (λ (x : Vec3). IsInCell (vector x)) m.2 (in_cells m.0 c m.1);
    ordered = λ i j a b l m. subst (λ (x : Vec3). IsBelow (component (vector (get_or new i a))) (component (vector x))) (get_or_default new j a b m)
        (sorted.ordered closing.distinct_centrings i j a l m);
  }

  over : AreOverOne ops new
  over = record {
    common = closing.denominator.common;
    positive = closing.denominator.positive;
    small = closing.denominator.small;
    kept_divide = λ k f l. let n = kept_of k f l in n.2.divides closing.denominator.common closing.denominator.positive
        (closing.denominator.kept_divide n.0 d n.1) closing.denominator.divide;
    divide = All-permutation (λ c. c.den ∣ closing.denominator.common) cs new sorted.permuted closing.denominator.divide;
  }

  lattice : IsLattice new
  lattice = record {
    whole = λ v h. forth_translation cs new v sorted (closing.lattice.whole v h);
    difference = λ a b p q. forth_translation cs new (a ⊖ b) sorted
        (closing.lattice.difference a b (back_translation cs new a sorted p) (back_translation cs new b sorted q));
  }

  -- the rotations are those of the kept operations
  rotation_forth : (R : Rotation) → HasRotation kept R → HasRotation ops R
  rotation_forth R h = let n = number_of h.0 h.1 in (n.0, n.1, λ f. (n.2 f).rotation ∙ h.2 d)

  rotations : IsRotationGroup ops
  rotations = record {
    has_unit = rotation_forth (unit integers 3) closing.rotations.has_unit;
    products = λ k f l j b m. let n = kept_of k f l in let p = kept_of j b m in
        subst₂ (λ (R S : Rotation). HasRotation ops (R · S)) (sym n.2.rotation) (sym p.2.rotation)
        (rotation_forth ((operation (get_or kept n.0 d)).rotation · (operation (get_or kept p.0 d)).rotation)
        (closing.rotations.products n.0 d n.1 p.0 d p.1));
    inverses = λ k f l. let n = kept_of k f l in let t = closing.rotations.inverses n.0 d n.1 in let o = number_of t.0 t.1 in
        (o.0, o.1, λ b. subst₂ (λ (R S : Rotation). R · S ≡ unit integers 3) (sym n.2.rotation) (sym (o.2 b).rotation) (t.2 d));
  }

  pub are_canonical : AreCanonical ops new
  are_canonical = record {
    nonempty = (let a = long in let b = closing.nonempty in omega arith);
    few = (let a = long in let b = closing.few in omega arith);
    numbering = numbering;
    has_centring = (let a : length new ≡ length cs = length_permutation cs new sorted.permuted in let b = closing.has_centring in omega arith);
    few_centrings = (let a : length new ≡ length cs = length_permutation cs new sorted.permuted in let b = closing.few_centrings in omega arith);
    centrings = centrings;
    within = λ k f l. let n = kept_of k f l in subst (IsWithin 9) (sym n.2.rotation) (closing.reduced n.0 d n.1).within;
    denominator = ∣ over ∣₁;
    lattice = lattice;
    rotations = rotations;
  }
