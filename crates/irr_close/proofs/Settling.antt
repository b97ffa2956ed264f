-- Differences and turned translations of a list, as the list grows.
--   same_start                    what stands in the shorter list
--   cell_small, cell_lcm          denominators of the list are small, and so are their common ones
--   difference_centring           the difference of two translations of the list
--   more_differences, all_differences   differences with one more of the list, and with all
--   translation_generator, turn_over, turn_rotations, turn_from   what turning a translation asks for
--   more_turned                   a translation turned by one more rotation
use Rattle.std.proofs.Common.{◌≡◌, sym, ◌∙◌, ap, subst, ℕ, ◌<◌, ◌≤◌, ◌+◌, inl, inr, List, [], ◌∷◌, length, get_or, unsigned_abs, arith}
use Rattle.std.specs.List.{All, HoldsAt}
use Rattle.std.specs.Int.{◌∣◌}
use Rattle.std.proofs.lemmas.List.{get_or_default}
use Rattle.std.proofs.lemmas.List.Elements.{All-cons, All-nil}
use Rattle.std.proofs.lemmas.Bool.{cases_lt}
use Rattle.irr_algebra.specs.Matrix.{◌·◌, ◌⊖◌}
use Rattle.irr_algebra.proofs.Matrices.{mul-unit}
use Rattle.irr_rational.specs.Ratio.{entry}
use Rattle.irr_space.specs.Operation.{Operation, Rotation, Vector, translation}
use Rattle.irr_space.specs.SpaceGroup.{Generated}
use Rattle.irr_space.specs.CanonicalOperation.{IsInCell}
use Rattle.irr_rat.specs.Lcm.{IsLcm}
use Rattle.irr_rat.specs.VectorMeaning.{vector}
use Rattle.irr_rat.specs.declared.vec3.Vec3.{Vec3}
use Rattle.irr_seitz.specs.Rotation.{IsWithin}
use Rattle.irr_seitz.specs.OperationMeaning.{operation}
use Rattle.irr_seitz.specs.declared.op.Op.{Op}
use Rattle.irr_close.specs.Whole.{IsWholeVector}
use Rattle.irr_close.specs.Limits.{operations}
use Rattle.irr_close.specs.Closing.{IsGenerator, IsKept, HasRotation, IsLonger}
use Rattle.irr_close.specs.Centring.{AreInvertible, AreInCell, AreOver, AreOverOne, AreFrom, IsFactor, IsCentring, HasQuotient, HasBothDifferences, IsPartialLattice, IsWithCentring}
use Rattle.irr_close.proofs.Denominators.{small_numerators}
use Rattle.irr_close.proofs.Identity.{unit_small}
use Rattle.irr_close.proofs.Keeping.{longer-at}
use Rattle.irr_close.proofs.Lattice.{divisor_small, lcm_small, translation_between, translation_modulo, translation-rotation, translation_longer, has_quotient_longer, with_centring-has, with_centring-longer}

pub same_start : {X : Type 0} (old new : List X) (b : X) (j : ℕ) → IsLonger old new → j < length old → b ≡ get_or new j b → b ≡ get_or old j b
same_start old new b j t l e = e ∙ sym (longer-at old new t j b l)

cell_divides : (old : List Vec3) (a : Vec3) (i : ℕ) (h : AreInCell old) → i < length old → a ≡ get_or old i a → a.den ∣ h.common
cell_divides old a i h l e = subst (λ (c : Vec3). c.den ∣ h.common) (sym e) (h.divide i a l)

pub cell_small : (old : List Vec3) (a : Vec3) (i : ℕ) → AreInCell old → i < length old → a ≡ get_or old i a → a.den ≤ 100000
cell_small old a i h l e = divisor_small a.den h.common h.positive h.small (cell_divides old a i h l e)

pub cell_in : (old : List Vec3) (a : Vec3) (i : ℕ) → AreInCell old → i < length old → a ≡ get_or old i a → IsInCell (vector a)
cell_in old a i h l e = subst (λ (c : Vec3). IsInCell (vector c)) (sym e) (h.in_cell i a l)

pub cell_lcm : (old : List Vec3) (a b : Vec3) (i j m : ℕ) → AreInCell old → i < length old → a ≡ get_or old i a → j < length old → b ≡ get_or old j b
    → IsLcm a.den b.den m → m ≤ 100000
cell_lcm old a b i j m h l e k f g = lcm_small a.den b.den h.common m h.positive h.small (cell_divides old a i h l e) (cell_divides old b j h k f) g

centring_at : (gs : List Op) (old : List Vec3) (a : Vec3) (i : ℕ) → IsPartialLattice gs old → i < length old → a ≡ get_or old i a → IsCentring gs a
centring_at gs old a i p l e = subst (IsCentring gs) (sym e) (p.centrings i a l)

translation_difference : (gs : List Op) → AreInvertible gs → (a b : Vector) → Generated (operations gs) (translation a)
    → Generated (operations gs) (translation b) → Generated (operations gs) (translation (a ⊖ b))
unfolding translation
translation_difference gs inv a b p q = translation_between gs inv (translation a) (translation b) (translation-rotation b a) p q

pub difference_centring : (gs : List Op) (old : List Vec3) (a b t : Vec3) (i j : ℕ) → AreInvertible gs → IsPartialLattice gs old → i < length old
    → a ≡ get_or old i a → j < length old → b ≡ get_or old j b
    → IsInCell (vector t) → ((D : ℕ) → 0 < D → a.den ∣ D → b.den ∣ D → t.den ∣ D) → IsWholeVector ((vector a ⊖ vector b) ⊖ vector t) → IsCentring gs t
difference_centring gs old a b t i j inv p l e m f cell divides w =
    let x = centring_at gs old a i p l e in
    let y = centring_at gs old b j p m f in
    record {
      generated = translation_modulo (operations gs) (vector a ⊖ vector b) (vector t) w
          (translation_difference gs inv (vector a) (vector b) x.generated y.generated);
      in_cell = cell;
      divides = λ D q all. divides D q (x.divides D q all) (y.divides D q all);
    }

pub more_differences : (old now mid new : List Vec3) (a b t u : Vec3) (j : ℕ) → j < length old → b ≡ get_or old j b
    → ((k : ℕ) → k < j → HoldsAt (λ b. HasBothDifferences now a b) old k)
    → IsWithCentring now t mid → IsWithCentring mid u new → IsWholeVector ((vector a ⊖ vector b) ⊖ vector t)
    → IsWholeVector ((vector b ⊖ vector a) ⊖ vector u)
    → (k : ℕ) → k < j + 1 → HoldsAt (λ b. HasBothDifferences new a b) old k
more_differences old now mid new a b t u j l e have v w x y k m d = elim (cases_lt k j) [
  | inl less ↦ (let h = have k less d in (
    translation_longer mid new (vector a ⊖ vector (get_or old k d)) (with_centring-longer mid u new w)
        (translation_longer now mid (vector a ⊖ vector (get_or old k d)) (with_centring-longer now t mid v) h.0),
    translation_longer mid new (vector (get_or old k d) ⊖ vector a) (with_centring-longer mid u new w)
        (translation_longer now mid (vector (get_or old k d) ⊖ vector a) (with_centring-longer now t mid v) h.1),
  ))
  | inr last ↦ (let q : j ≡ k = omega arith in subst (λ (c : Vec3). HasBothDifferences new a c) (e ∙ get_or_default old j b d l
      ∙ ap (λ n. get_or old n d) q) (
        translation_longer mid new (vector a ⊖ vector b) (with_centring-longer mid u new w) (with_centring-has now t mid (vector a ⊖ vector b) v x),
        with_centring-has mid u new (vector b ⊖ vector a) w y,
      ))
]

pub all_differences : (old new : List Vec3) (a : Vec3) (i n : ℕ) (d : Vec3) → i < length old → a ≡ get_or old i a → i < n
    → ((k : ℕ) → k < n → HoldsAt (λ b. HasBothDifferences new a b) old k)
    → (j : ℕ) → j ≤ i → HoldsAt (λ b. HasBothDifferences new (get_or old i d) b) old j
all_differences old new a i n d l e r have j m f = subst (λ (c : Vec3). HasBothDifferences new c (get_or old j f)) (e ∙ get_or_default old i a d l)
    (have j (omega arith) f)

translation_small : (v : Vector) → IsWithin 9 (translation v).rotation
unfolding translation
translation_small v = unit_small

translation-cell : (v : Vector) → IsInCell v → IsInCell (translation v).vector
unfolding translation
translation-cell v h = h

pub translation_generator : (s : Op) (c : Vec3) → operation s ≡ translation (vector c) → s.den ≡ c.den → IsInCell (vector c) → c.den ≤ 100000
    → IsGenerator s
translation_generator s c e f h l = record {
  within = subst (λ (g : Operation). IsWithin 9 g.rotation) (sym e) (translation_small (vector c));
  numerators = λ i. (let a : unsigned_abs (entry s.num i) ≤ s.den = small_numerators s.num s.den s.lowest.positive
      (subst (λ (g : Operation). IsInCell g.vector) (sym e) (translation-cell (vector c) h)) i in omega (arith, f));
}

pub one_generator : (s : Op) → IsGenerator s → All IsGenerator (s ∷ [])
one_generator s h = All-cons IsGenerator s [] h (All-nil IsGenerator)

pub turn_over : (kept : List Op) (cs : List Vec3) (op s : Op) (c : Vec3) (i k : ℕ) → AreOverOne kept cs → i < length cs → c ≡ get_or cs i c
    → k < length kept → op ≡ get_or kept k op → s.den ≡ c.den → AreOver kept op (s ∷ [])
turn_over kept cs op s c i k o l e m f g = record {
  common = o.common;
  positive = o.positive;
  small = o.small;
  kept_divide = o.kept_divide;
  op_divides = subst (λ (h : Op). h.den ∣ o.common) (sym f) (o.kept_divide k op m);
  factors_divide = All-cons (λ h. h.den ∣ o.common) s [] (subst (λ n. n ∣ o.common) (sym (g ∙ ap (λ (h : Vec3). h.den) e)) (o.divide i c l))
      (All-nil (λ h. h.den ∣ o.common));
}

times_translation : (R : Rotation) (v : Vector) → R · (translation v).rotation ≡ R
unfolding translation
times_translation R v = mul-unit R

pub turn_rotations : (kept : List Op) (op s : Op) (v : Vector) (k : ℕ) → k < length kept → op ≡ get_or kept k op → operation s ≡ translation v
    → All (λ s. HasRotation kept ((operation op).rotation · (operation s).rotation)) (s ∷ [])
turn_rotations kept op s v k l e f = All-cons (λ s. HasRotation kept ((operation op).rotation · (operation s).rotation)) s [] (
  k,
  l,
  λ d. ap (λ (h : Op). (operation h).rotation) (get_or_default kept k d op l ∙ sym e)
      ∙ sym (ap (λ (g : Operation). (operation op).rotation · g.rotation) f ∙ times_translation (operation op).rotation v),
)
    (All-nil (λ s. HasRotation kept ((operation op).rotation · (operation s).rotation)))

pub turn_from : (gs kept : List Op) (cs : List Vec3) (op s : Op) (c : Vec3) (i k : ℕ) → AreInvertible gs → All (IsKept gs) kept
    → IsPartialLattice gs cs → i < length cs → c ≡ get_or cs i c → k < length kept → op ≡ get_or kept k op
    → operation s ≡ translation (vector c) → s.den ≡ c.den → IsGenerator s → AreFrom gs kept op (s ∷ [])
turn_from gs kept cs op s c i k inv all p l e m f g h numbers = let x = centring_at gs cs c i p l e in record {
  invertible = inv;
  kept_from = all;
  op_from = subst (IsKept gs) (sym f) (all k op m);
  factors_from = All-cons (IsFactor gs) s [] (record {
    generated = subst (Generated (operations gs)) (sym g) x.generated;
    numbers = numbers;
    divides = λ D q den. subst (λ n. n ∣ D) (sym h) (x.divides D q den);
  }) (All-nil (IsFactor gs));
}

pub more_turned : (kept : List Op) (start old new : List Vec3) (op s : Op) (c : Vec3) (i n : ℕ) → n < length kept → op ≡ get_or kept n op
    → i < length start → c ≡ get_or start i c → operation s ≡ translation (vector c) → IsLonger old new
    → All (λ s. HasQuotient kept new (operation op) (operation s)) (s ∷ [])
    → ((j : ℕ) → j < n → HoldsAt (λ g. HoldsAt (λ c. HasQuotient kept old (operation g) (translation (vector c))) start i) kept j)
    → (j : ℕ) → j < n + 1 → HoldsAt (λ g. HoldsAt (λ c. HasQuotient kept new (operation g) (translation (vector c))) start i) kept j
more_turned kept start old new op s c i n l e m f g t q have j r d b = elim (cases_lt j n) [
  | inl less ↦ has_quotient_longer kept old new (operation (get_or kept j d)) (translation (vector (get_or start i b))) t (have j less d b)
  | inr last ↦ (let p : n ≡ j = omega arith in
      subst (λ (x : Op). HasQuotient kept new (operation x) (translation (vector (get_or start i b)))) (e ∙ get_or_default kept n op d l
      ∙ ap (λ k. get_or kept k d) p)
      (subst (λ (v : Vec3). HasQuotient kept new (operation op) (translation (vector v))) (f ∙ get_or_default start i c b m)
      (subst (HasQuotient kept new (operation op)) g (q 0 s (omega arith)))))
]
