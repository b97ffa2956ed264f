-- Stars, arm by arm.
--   ArmsSoFar group k n arms      the arms to which the first n operations carry k
--   arms-none, arms-push, arms-skip     none, and one step of the list
--   arms_are                      the arms of the star
--   reduced_arm                   a reduced wave vector is its own reduced form
use Rattle.std.proofs.Common.{◌≡◌, sym, ◌∙◌, ap, subst, inl, inr, ℕ, ◌+◌, ◌<◌, ◌≤◌, List, [], ◌∷◌, ◌++◌, length, get_or, length-append, arith}
use Rattle.std.specs.List.{All, AllPairs, HoldsAt}
use Rattle.std.proofs.lemmas.Bool.{cases_lt}
use Rattle.std.proofs.Math.ListN.{get_or-append}
use Rattle.std.proofs.Math.Seq.{get_or-append_seam}
use Rattle.std.proofs.lemmas.List.{get_or_default}
use Rattle.irr_algebra.specs.Fin.{Fin, to_nat}
use Rattle.irr_algebra.proofs.Indices.{from_nat, to_nat-from_nat, to_nat-lt}
use Rattle.irr_algebra.specs.Matrix.{◌⊖◌}
use Rattle.irr_rat.specs.declared.vec3.Vec3.{Vec3}
use Rattle.irr_number.specs.SumLaws.{same_or_not}
use Rattle.irr_space.specs.Operation.{Operation, WaveVector}
use Rattle.irr_space.specs.Reciprocal.{AreEquivalent, IsReduced}
use Rattle.irr_space.specs.Star.{Carries, IsInStar}
use Rattle.irr_seitz.specs.OperationMeaning.{operation}
use Rattle.irr_seitz.specs.declared.op.Op.{Op}
use Rattle.irr_kvec.specs.WaveMeaning.{wave_vector}
use Rattle.irr_kvec.specs.Centrings.{LatticeOf, IsWithinLimits}
use Rattle.irr_cocycle.proofs.Operations.{turned-rotation}
use Rattle.irr_cocycle.proofs.Reciprocals.{equivalent_refl, equivalent_trans}
use Rattle.irr_close.specs.StandsFor.{stands_for}
use Rattle.irr_close.specs.declared.group.Group.{Group}
use Rattle.irr_close.proofs.Bareness.{first_of}
use Rattle.irr_close.specs.SpaceGroup.{IsSpaceGroup}
use Rattle.irr_little.specs.Arms.{AreArms}
use Rattle.irr_little.specs.declared.arms.Arm.{Arm}
use Rattle.irr_little.proofs.Spaces.{same_reciprocal, canonical_at, place_of, carried_same, carried_to}

pub reduced_arm : (G : Operation → Type 0) (k r : WaveVector) → IsReduced G k r → IsReduced G r r
reduced_arm G k r red = record {
  equivalent = equivalent_refl G r;
  no_negative = red.no_negative;
  least = λ w e m. red.least w (equivalent_trans G w r k e red.equivalent) m;
}

-- the operation with the number j carries k to the wave vector of an arm
abbrev pub CarriesTo : Group → WaveVector → ℕ → Arm → Type 0
CarriesTo group k j arm = HoldsAt (λ g. Carries (stands_for group) (operation g) k (wave_vector arm.wave)) group.ops.items j

pub record ArmsSoFar (group : Group) (k : WaveVector) (n : ℕ) (arms : List Arm) : Type 0 where
  pub limits : All (λ arm. IsWithinLimits arm.wave) arms
  pub below : All (λ arm. arm.op < n) arms
  pub ordered : AllPairs (λ a b. a.op < b.op) arms
  pub reduced : All (λ arm. IsReduced (stands_for group) (wave_vector arm.wave) (wave_vector arm.wave)) arms
  pub carries : All (λ arm. CarriesTo group k arm.op arm) arms
  pub is_first : All (λ arm. (j : ℕ) → j < length group.ops.items → CarriesTo group k j arm → arm.op ≤ j) arms
  pub all : (j : ℕ) → j < n → (i : ℕ) × (i < length arms) × HoldsAt (CarriesTo group k j) arms i

-- what holds of each of a list and of one more
all_push : {X : Type 0} (P : X → Type 0) (xs : List X) (x : X) → All P xs → P x → All P (xs ++ x ∷ [])
all_push P xs x h p i d l = elim (cases_lt i (length xs)) [
  | inl inside ↦ subst P (sym (get_or-append xs (x ∷ []) d i inside)) (h i d inside)
  | inr last ↦ (
      let size : length (xs ++ x ∷ []) ≡ length xs + 1 = length-append xs (x ∷ []) in
      let end : length xs ≡ i = omega arith in
      subst (λ n. P (get_or (xs ++ x ∷ []) n d)) end (subst P (sym (get_or-append_seam xs x [] d)) p))
]

pairs_push : {X : Type 0} (R : X → X → Type 0) (xs : List X) (x : X) → AllPairs R xs → All (λ y. R y x) xs → AllPairs R (xs ++ x ∷ [])
pairs_push R xs x h p i j d l m = elim (cases_lt j (length xs)) [
  | inl inside ↦ (
      let first : i < length xs = omega arith in
      subst (λ v. R v (get_or (xs ++ x ∷ []) j d)) (sym (get_or-append xs (x ∷ []) d i first))
      (subst (R (get_or xs i d)) (sym (get_or-append xs (x ∷ []) d j inside)) (h i j d l inside)))
  | inr last ↦ (
      let size : length (xs ++ x ∷ []) ≡ length xs + 1 = length-append xs (x ∷ []) in
      let end : length xs ≡ j = omega arith in
      let first : i < length xs = omega arith in
      subst (λ v. R v (get_or (xs ++ x ∷ []) j d)) (sym (get_or-append xs (x ∷ []) d i first))
      (subst (λ n. R (get_or xs i d) (get_or (xs ++ x ∷ []) n d)) end (subst (R (get_or xs i d)) (sym (get_or-append_seam xs x [] d)) (p i d first))))
]

one_push : {X : Type 0} (P : X → Type 0) (xs : List X) (x : X) → (i : ℕ) × (i < length xs) × HoldsAt P xs i → (i : ℕ) × (i < length
    (xs ++ x ∷ [])) × HoldsAt P (xs ++ x ∷ []) i
one_push P xs x t = (
  t.0,
  (let size : length (xs ++ x ∷ []) ≡ length xs + 1 = length-append xs (x ∷ []) in let l : t.0 < length xs = t.1 in omega arith),
  λ d. subst P (sym (get_or-append xs (x ∷ []) d t.0 t.1)) (t.2 d),
)

last_push : {X : Type 0} (P : X → Type 0) (xs : List X) (x : X) → P x → (i : ℕ) × (i < length (xs ++ x ∷ [])) × HoldsAt P (xs ++ x ∷ []) i
last_push P xs x p = (
  length xs,
  (let size : length (xs ++ x ∷ []) ≡ length xs + 1 = length-append xs (x ∷ []) in omega arith),
  λ d. subst P (sym (get_or-append_seam xs x [] d)) p,
)

module _ (group : Group) (space : IsSpaceGroup group) (k : WaveVector) where
  pub arms-none : ArmsSoFar group k 0 []
  arms-none = record {
    limits = λ i d l. absurd (omega arith);
    below = λ i d l. absurd (omega arith);
    ordered = λ i j d l m. absurd (omega arith);
    reduced = λ i d l. absurd (omega arith);
    carries = λ i d l. absurd (omega arith);
    is_first = λ i d l. absurd (omega arith);
    all = λ j l. absurd (omega arith);
  }

  -- two wave vectors to which one operation carries k are equivalent
  same_image : (j : ℕ) (v w : WaveVector) → j < length group.ops.items → (d : Op) → Carries (stands_for group) (operation
      (get_or group.ops.items j d)) k v
      → Carries (stands_for group) (operation (get_or group.ops.items j d)) k w → AreEquivalent (stands_for group) v w
  same_image j v w l d = carried_same (stands_for group) space.is_group (operation (get_or group.ops.items j d))
      (canonical_at group d j l).member k v w

  pub arms-push : (n : ℕ) (arms : List Arm) (arm : Arm) → ArmsSoFar group k n arms → n < length group.ops.items → arm.op ≡ n → IsWithinLimits arm.wave
      → IsReduced (stands_for group) (wave_vector arm.wave) (wave_vector arm.wave) → CarriesTo group k n arm
      → All (λ a. ¬ (AreEquivalent (stands_for group) (wave_vector a.wave) (wave_vector arm.wave))) arms → ArmsSoFar group k (n + 1)
      (arms ++ arm ∷ [])
  arms-push n arms arm so inside number limits red carried fresh = record {
    limits = all_push (λ a. IsWithinLimits a.wave) arms arm so.limits limits;
    below = all_push (λ a. a.op < n + 1) arms arm (λ i d l. let b : (get_or arms i d).op < n = so.below i d l in omega arith) (omega arith);
    ordered = pairs_push (λ a b. a.op < b.op) arms arm so.ordered (λ i d l. let b : (get_or arms i d).op < n = so.below i d l in omega arith);
    reduced = all_push (λ a. IsReduced (stands_for group) (wave_vector a.wave) (wave_vector a.wave)) arms arm so.reduced red;
    carries = all_push (λ a. CarriesTo group k a.op a) arms arm so.carries (subst (λ m. CarriesTo group k m arm) (sym number) carried);
    is_first = all_push (λ a. (j : ℕ) → j < length group.ops.items → CarriesTo group k j a → a.op ≤ j) arms arm so.is_first first_here;
    all = λ j l. elim (same_or_not n j) [
      | inl e ↦ last_push (CarriesTo group k j) arms arm (subst (λ m. CarriesTo group k m arm) e carried)
      | inr f ↦ one_push (CarriesTo group k j) arms arm (so.all j (omega (arith, f)))
    ];
  }
    where
      first_here : (j : ℕ) → j < length group.ops.items → CarriesTo group k j arm → arm.op ≤ j
      first_here j l h = elim (cases_lt j n) [
        | inr above ↦ omega arith
        | inl under ↦ (
            let t = so.all j under in
            let d : Op = first_of group.ops.items (omega arith) in
            absurd (fresh t.0 arm t.1 (same_image j (wave_vector (get_or arms t.0 arm).wave) (wave_vector arm.wave) l d (t.2 arm d) (h d))))
      ]

  pub arms-skip : (n : ℕ) (arms : List Arm) (w : WaveVector) → ArmsSoFar group k n arms → n < length group.ops.items
      → HoldsAt (λ g. Carries (stands_for group) (operation g) k w) group.ops.items n
      → (i : ℕ) × (i < length arms) × HoldsAt (λ a. AreEquivalent (stands_for group) (wave_vector a.wave) w) arms i → ArmsSoFar group k (n + 1) arms
  arms-skip n arms w so inside carried t = record {
    limits = so.limits;
    below = λ i d l. (let b : (get_or arms i d).op < n = so.below i d l in omega arith);
    ordered = so.ordered;
    reduced = so.reduced;
    carries = so.carries;
    is_first = so.is_first;
    all = λ j l. elim (same_or_not n j) [
      | inl e ↦ (
        t.0,
        t.1,
        λ a f. subst (λ m. Carries (stands_for group) (operation (get_or group.ops.items m f)) k (wave_vector (get_or arms t.0 a).wave)) e
            (carried_to (stands_for group) (operation (get_or group.ops.items n f)) k w (wave_vector (get_or arms t.0 a).wave) (carried f) (t.2 a)),
      )
      | inr f ↦ so.all j (omega (arith, f))
    ];
  }

  pub arms_are : (arms : List Arm) → ArmsSoFar group k (length group.ops.items) arms → AreArms group k arms
  arms_are arms so = record {
    number = number;
    number_is = number_is;
    star = λ d a. record {
      reduced = λ i. so.reduced (to_nat i) a (to_nat-lt i);
      carries = λ i. subst (λ n. Carries (stands_for group) (operation (get_or group.ops.items n d)) k (wave_vector (get_or arms
          (to_nat i) a).wave)) (sym (number_is i a))
          (so.carries (to_nat i) a (to_nat-lt i) d);
      is_first = λ i j c. subst (λ n. n ≤ to_nat j) (sym (number_is i a)) (so.is_first (to_nat i) a (to_nat-lt i) (to_nat j) (to_nat-lt j)
          (λ f. subst (λ (g : Op). Carries (stands_for group) (operation g) k (wave_vector (get_or arms (to_nat i) a).wave))
          (get_or_default group.ops.items (to_nat j) d f (to_nat-lt j)) c));
      all = λ w s. in_star w a d s (place_of group d s.operation s.member);
      ordered = λ i j l. subst (λ n. n < to_nat (number j)) (sym (number_is i a)) (subst (λ n. (get_or arms (to_nat i) a).op < n) (sym
          (number_is j a))
          (so.ordered (to_nat i) (to_nat j) a l (to_nat-lt j)));
    };
  }
    where
      some_arm : Fin (length arms) → Arm
      some_arm i = first_of arms (let l : to_nat i < length arms = to_nat-lt i in omega arith)

      number : Fin (length arms) → Fin (length group.ops.items)
      number i = from_nat (length group.ops.items) (get_or arms (to_nat i) (some_arm i)).op (so.below (to_nat i) (some_arm i) (to_nat-lt i))

      number_is : (i : Fin (length arms)) (a : Arm) → to_nat (number i) ≡ (get_or arms (to_nat i) a).op
      number_is i a = to_nat-from_nat (length group.ops.items) (get_or arms (to_nat i) (some_arm i)).op (so.below (to_nat i) (some_arm i)
          (to_nat-lt i))
          ∙ ap (λ (x : Arm). x.op) (get_or_default arms (to_nat i) (some_arm i) a (to_nat-lt i))

      in_star : (w : WaveVector) (a : Arm) (d : Op) (s : IsInStar (stands_for group) k w)
          → (p : ℕ) × (p < length group.ops.items) × ((operation (get_or group.ops.items p d)).rotation ≡ s.operation.rotation)
          → (i : Fin (length arms)) × AreEquivalent (stands_for group) w (wave_vector (get_or arms (to_nat i) a).wave)
      in_star w a d s t = at (so.all t.0 t.1)
        where
          carried : Carries (stands_for group) (operation (get_or group.ops.items t.0 d)) k w
          carried = record {
            image = s.carries.image;
            turned_back = turned-rotation s.carries.image (operation (get_or group.ops.items t.0 d)) s.operation t.2 ∙ s.carries.turned_back;
            equivalent = s.carries.equivalent;
          }

          at : (i : ℕ) × (i < length arms) × HoldsAt (CarriesTo group k t.0) arms i
              → (i : Fin (length arms)) × AreEquivalent (stands_for group) w (wave_vector (get_or arms (to_nat i) a).wave)
          at u = (
            from_nat (length arms) u.0 u.1,
            subst (λ n. AreEquivalent (stands_for group) w (wave_vector (get_or arms n a).wave)) (sym (to_nat-from_nat (length arms) u.0 u.1))
                (same_image t.0 w (wave_vector (get_or arms u.0 a).wave) t.1 d carried (u.2 a d)),
          )

-- what the program finds of the arms, by the lattice of the centrings
pub fresh_in : (group : Group) (cs : List Vec3) → cs ≡ group.centrings.items → (xs ys : List Arm) → xs ≡ ys → (w : WaveVector)
    → All (λ arm. ¬ (AreEquivalent (LatticeOf cs) (wave_vector arm.wave) w)) xs → All (λ arm. ¬ (AreEquivalent (stands_for group)
    (wave_vector arm.wave) w)) ys
fresh_in group cs e xs ys f w h i d l equivalent = subst (λ (zs : List Arm). All (λ arm. ¬ (AreEquivalent (LatticeOf cs)
    (wave_vector arm.wave) w)) zs) f h i d l
    (subst (λ (zs : List Vec3). AreEquivalent (LatticeOf zs) (wave_vector (get_or ys i d).wave) w) (sym e) ((same_reciprocal group (wave_vector
    (get_or ys i d).wave ⊖ w)).0 equivalent))

pub known_in : (group : Group) (cs : List Vec3) → cs ≡ group.centrings.items → (xs ys : List Arm) → xs ≡ ys → (w : WaveVector)
    → (i : ℕ) × (i < length xs) × HoldsAt (λ arm. AreEquivalent (LatticeOf cs) (wave_vector arm.wave) w) xs i
    → (i : ℕ) × (i < length ys) × HoldsAt (λ arm. AreEquivalent (stands_for group) (wave_vector arm.wave) w) ys i
known_in group cs e xs ys f w t = subst (λ (zs : List Arm). (i : ℕ) × (i < length zs) × HoldsAt (λ arm. AreEquivalent (stands_for group)
    (wave_vector arm.wave) w) zs i) f (
      t.0,
      t.1,
      λ d. (same_reciprocal group (wave_vector (get_or xs t.0 d).wave ⊖ w)).1 (subst (λ (zs : List Vec3). AreEquivalent (LatticeOf zs)
          (wave_vector (get_or xs t.0 d).wave) w) e (t.2 d)),
    )
