-- What is known to hold of a group is given as data: each part of it is decided.
--   translation_or_not, stand_or_not     membership is decided
--   untruncated                          the canonical form of a group, from the knowledge that it is one
use Rattle.std.specs.List.{HoldsAt}
use Rattle.std.proofs.Common.{◌≡◌, sym, ◌∙◌, ap, subst, ℕ, zero, suc, ◌<◌, ◌≤◌, ◌⊎◌, inl, inr, List, length, get_or, arith, unsigned_abs}
use Rattle.std.proofs.Math.Logic.{∥∥₁_elim}
use Rattle.std.proofs.lemmas.Bool.{cases_lt}
use Rattle.std.proofs.lemmas.List.{get_or_default}
use Rattle.irr_algebra.specs.Fin.{Fin}
use Rattle.irr_algebra.specs.Fin.Fin.{first, next}
use Rattle.irr_number.specs.Integers.{integers}
use Rattle.irr_algebra.specs.Matrix.{◌·◌, unit, ◌⊖◌}
use Rattle.irr_algebra.proofs.Indices.{from_nat, to_nat-from_nat}
use Rattle.irr_rational.specs.Rational.{Rational, rationals, IsWhole}
use Rattle.irr_rational.specs.Order.{◌≤ℚ◌, ◌<ℚ◌, IsAtMost, IsBelow}
use Rattle.irr_rational.proofs.WholeNumbers.{whole_decide}
use Rattle.irr_rational.proofs.Orders.{le_or_lt, not_le_of_lt}
use Rattle.irr_rational.proofs.Lexicographic.{at_most_or_above, not_below_of_at_most}
use Rattle.irr_space.specs.Operation.{Operation, Rotation, Vector, component, translation}
use Rattle.irr_space.specs.CanonicalOperation.{IsInCell, IsCanonicalOperation, IsNumbering, IsNumberedBefore}
use Rattle.irr_rat.specs.VectorMeaning.{vector}
use Rattle.irr_rat.specs.declared.vec3.Vec3.{Vec3}
use Rattle.irr_rat.proofs.Vectors.{each_of_three}
use Rattle.irr_seitz.specs.OperationMeaning.{operation}
use Rattle.irr_seitz.specs.declared.op.Op.{Op}
use Rattle.irr_seitz.proofs.RotationOrder.{below_irrefl}
use Rattle.irr_kvec.specs.Centrings.{AreCentrings}
use Rattle.irr_close.specs.Whole.{IsWholeVector}
use Rattle.irr_close.specs.Closing.{HasRotation}
use Rattle.irr_close.specs.Centring.{HasTranslation}
use Rattle.irr_close.specs.Standing.{StandFor}
use Rattle.irr_close.specs.Canonical.{AreCanonical, numbered}
use Rattle.irr_close.proofs.Numbering.{rotation_cases, numbered_irrefl, numbered_chain, numbered_cases, vector_irrefl, vector_chain, vector_cases}
use Rattle.irr_close.proofs.Bareness.{first_of}
use Rattle.irr_close.proofs.CanonicalForm.{one_canonical, centred, translated}

stable_lt : (m n : ℕ) → ¬ (¬ (m < n)) → m < n
stable_lt m n h = elim (cases_lt m n) [ inl l ↦ l | inr k ↦ absurd (h (λ l. let less : m < n = l in absurd (omega arith))) ]

pub stable_le : (m n : ℕ) → ¬ (¬ (m ≤ n)) → m ≤ n
stable_le m n h = elim (cases_lt n m) [ inl k ↦ absurd (h (λ l. let less : m ≤ n = l in absurd (omega arith))) | inr l ↦ l ]

stable_fraction_le : (x y : Rational) → ¬ (¬ (x ≤ℚ y)) → x ≤ℚ y
stable_fraction_le x y h = elim (le_or_lt x y) [ inl l ↦ l | inr k ↦ absurd (h (λ l. not_le_of_lt y x k l)) ]

stable_fraction_lt : (x y : Rational) → ¬ (¬ (x <ℚ y)) → x <ℚ y
stable_fraction_lt x y h = elim (le_or_lt y x) [ inl l ↦ absurd (h (λ k. not_le_of_lt x y k l)) | inr k ↦ k ]

stable_cell : (v : Vector) → ¬ (¬ (IsInCell v)) → IsInCell v
stable_cell v h i = (
  stable_fraction_le rationals.zero (component v i) (λ n. h (λ c. n (c i).0)),
  stable_fraction_lt (component v i) rationals.one
      (λ n. h (λ c. n (c i).1)),
)

stable_at_most : (v w : Vector) → ¬ (¬ (IsAtMost (component v) (component w))) → IsAtMost (component v) (component w)
stable_at_most v w h =
    elim (at_most_or_above 3 (component v) (component w)) [
      | inl l ↦ l
      | inr k ↦ absurd (h (λ l. not_below_of_at_most (component v) (component w) l k))
    ]

-- a search below n
pub search_below : (P : ℕ → Type 0) → ((k : ℕ) → P k ⊎ ¬ (P k)) → (n : ℕ) → ((k : ℕ) × (k < n) × P k) ⊎ ((k : ℕ) → k < n → ¬ (P k))
search_below P decide zero = inr (λ k l. absurd (omega arith))
search_below P decide (suc n) = elim (decide n) [
  | inl p ↦ inl (n, omega arith, p)
  | inr denied ↦ elim (search_below P decide n) [
    | inl s ↦ (let l : s.0 < n = s.1 in inl (s.0, omega arith, s.2))
    | inr none ↦ inr (λ k l p. elim (cases_lt k n) [ inl m ↦ none k m p | inr m ↦ denied (let e : k ≡ n = omega arith in subst P e p) ])
  ]
]

whole_or_not : (v : Vector) → IsWholeVector v ⊎ ¬ (IsWholeVector v)
whole_or_not v = elim (whole_decide (component v first)) [
  | inr denied ↦ inr (λ h. denied (h first))
  | inl x ↦ elim (whole_decide (component v (next first))) [
    | inr denied ↦ inr (λ h. denied (h (next first)))
    | inl y ↦ elim (whole_decide (component v (next (next first)))) [
      | inr denied ↦ inr (λ h. denied (h (next (next first))))
      | inl z ↦ inl (each_of_three (λ i. IsWhole (component v i)) x y z)
    ]
  ]
]

pub translation_or_not : (cs : List Vec3) (e : Vec3) (t : Vector) → HasTranslation cs t ⊎ ¬ (HasTranslation cs t)
translation_or_not cs e t =
    elim (search_below (λ k. IsWholeVector (t ⊖ vector (get_or cs k e))) (λ k. whole_or_not (t ⊖ vector (get_or cs k e))) (length cs)) [
      | inl s ↦ inl (s.0, s.1, λ f. subst (λ (x : Vec3). IsWholeVector (t ⊖ vector x)) (get_or_default cs s.0 e f s.1) s.2)
      | inr none ↦ inr (λ h. none h.0 h.1 (h.2 e))
    ]

pub same_or_not : (R S : Rotation) → (R ≡ S) ⊎ ¬ (R ≡ S)
same_or_not R S = elim (rotation_cases R S) [
  | inl b ↦ inr (λ u. below_irrefl R S u b)
  | inr c ↦ elim c [ inl e ↦ inl e | inr b ↦ inr (λ u. below_irrefl S R (sym u) b) ]
]

pub stand_or_not : (ops : List Op) (cs : List Vec3) (d : Op) (e : Vec3) (g : Operation) → StandFor ops cs g ⊎ ¬ (StandFor ops cs g)
stand_or_not ops cs d e g = elim (search_below P decide (length ops)) [
  | inl s ↦ inl (
    s.0,
    s.1,
    λ f. subst (λ (x : Op). (g.rotation ≡ (operation x).rotation) × HasTranslation cs (g.vector ⊖ (operation x).vector))
        (get_or_default ops s.0 d f s.1) s.2,
  )
  | inr none ↦ inr (λ h. none h.0 h.1 (h.2 d))
]
  where
    P : ℕ → Type 0
    P k = (g.rotation ≡ (operation (get_or ops k d)).rotation) × HasTranslation cs (g.vector ⊖ (operation (get_or ops k d)).vector)

    decide : (k : ℕ) → P k ⊎ ¬ (P k)
    decide k = elim (same_or_not g.rotation (operation (get_or ops k d)).rotation) [
      | inr denied ↦ inr (λ h. denied h.0)
      | inl same ↦ elim (translation_or_not cs e (g.vector ⊖ (operation (get_or ops k d)).vector))
          [ inl t ↦ inl (same, t) | inr denied ↦ inr (λ h. denied h.1) ]
    ]

rotation_or_not : (ops : List Op) (d : Op) (R : Rotation) → HasRotation ops R ⊎ ¬ (HasRotation ops R)
rotation_or_not ops d R =
    elim (search_below (λ k. (operation (get_or ops k d)).rotation ≡ R) (λ k. same_or_not (operation (get_or ops k d)).rotation R) (length ops)) [
      | inl s ↦ inl (s.0, s.1, λ f. subst (λ (x : Op). (operation x).rotation ≡ R) (get_or_default ops s.0 d f s.1) s.2)
      | inr none ↦ inr (λ h. none h.0 h.1 (h.2 d))
    ]

inverse_or_not : (ops : List Op) (d : Op) (R : Rotation)
    → ((k : ℕ) × (k < length ops) × HoldsAt (λ h. R · (operation h).rotation ≡ unit integers 3) ops k)
    ⊎ ¬ ((k : ℕ) × (k < length ops) × HoldsAt (λ h. R · (operation h).rotation ≡ unit integers 3) ops k)
inverse_or_not ops d R =
    elim (search_below (λ k. R · (operation (get_or ops k d)).rotation ≡ unit integers 3)
    (λ k. same_or_not (R · (operation (get_or ops k d)).rotation) (unit integers 3)) (length ops)) [
      | inl s ↦ inl (s.0, s.1, λ f. subst (λ (x : Op). R · (operation x).rotation ≡ unit integers 3) (get_or_default ops s.0 d f s.1) s.2)
      | inr none ↦ inr (λ h. none h.0 h.1 (h.2 d))
    ]

pub stable : {A : Type 0} → A ⊎ ¬ A → ¬ (¬ A) → A
stable (inl a) h = a
stable (inr denied) h = absurd (h denied)

module _ (ops : List Op) (cs : List Vec3) (form : ∥ AreCanonical ops cs ∥₁) where
  know : {A : Type 0} → (AreCanonical ops cs → A) → ¬ (¬ A)
  know f denied = ∥∥₁_elim form (λ a b. absurd a) (λ t. denied (f t))

  nonempty : 0 < length ops
  nonempty = stable_lt 0 (length ops) (know (λ t. t.nonempty))

  has_centring : 0 < length cs
  has_centring = stable_lt 0 (length cs) (know (λ t. t.has_centring))

  in_list : (t : Vector) → ¬ (¬ (HasTranslation cs t)) → HasTranslation cs t
  in_list t h = stable (translation_or_not cs (first_of cs has_centring) t) h

  in_group : (g : Operation) → ¬ (¬ (StandFor ops cs g)) → StandFor ops cs g
  in_group g h = stable (stand_or_not ops cs (first_of ops nonempty) (first_of cs has_centring) g) h

  canonical : (f : Op) (i : Fin (length ops)) → IsCanonicalOperation (StandFor ops cs) (numbered ops f i)
  canonical f i = record {
    member = in_group (numbered ops f i) (know (λ t. ((t.numbering f).canonical i).member));
    in_cell = stable_cell (numbered ops f i).vector (know (λ t. ((t.numbering f).canonical i).in_cell));
    least = λ h m r cell. stable_at_most (numbered ops f i).vector h.vector (know (λ t. ((t.numbering f).canonical i).least h m r cell));
  }

  numbering : (f : Op) → IsNumbering (StandFor ops cs) (λ _. Unit {0}) (numbered ops f)
  numbering f = record {
    canonical = canonical f;
    member = λ i. tt;
    all = λ g c p. let i = from_nat (length ops) c.member.0 c.member.1 in (
      i,
      one_canonical (StandFor ops cs) (numbered ops f i) g (canonical f i) c
          (ap (λ n. (operation (get_or ops n f)).rotation) (to_nat-from_nat (length ops) c.member.0 c.member.1) ∙ sym (c.member.2 f).0),
    );
    ordered = λ i j l. elim (numbered_cases (numbered ops f i).rotation (numbered ops f j).rotation) [
      | inl b ↦ b
      | inr c ↦ absurd (know (λ t. (t.numbering f).ordered i j l) (λ b. elim c [
        | inl e ↦ numbered_irrefl (numbered ops f i).rotation (subst (λ R. IsNumberedBefore (numbered ops f i).rotation R) (sym e) b)
        | inr a ↦ numbered_irrefl (numbered ops f i).rotation
            (numbered_chain (numbered ops f i).rotation (numbered ops f j).rotation (numbered ops f i).rotation b a)
      ]))
    ];
  }

  centrings : AreCentrings (StandFor ops cs) cs
  centrings = record {
    translations = λ t. (
      λ h. centred cs (first_of cs has_centring) t (in_list t (know (λ k. translated cs t ((k.centrings.translations t).0 h)))),
      λ c. in_group (translation t) (know (λ k. (k.centrings.translations t).1 c)),
    );
    in_cell = λ c m. stable_cell (vector c) (know (λ t. t.centrings.in_cell c m));
    ordered = λ i j a b l m. elim (vector_cases (vector (get_or cs i a)) (vector (get_or cs j b))) [
      | inl h ↦ h
      | inr c ↦ absurd (know (λ t. t.centrings.ordered i j a b l m) (λ h. elim c [
        | inl e ↦ vector_irrefl (vector (get_or cs i a)) (subst (λ (v : Vector). IsBelow (component (vector (get_or cs i a))) (component v)) (sym e)
            h)
        | inr k ↦ vector_irrefl (vector (get_or cs i a)) (vector_chain (vector (get_or cs i a)) (vector (get_or cs j b)) (vector (get_or cs i a)) h k)
      ]))
    ];
  }

  pub untruncated : AreCanonical ops cs
  untruncated = record {
    nonempty = nonempty;
    few = stable_le (length ops) 48 (know (λ t. t.few));
    numbering = numbering;
    has_centring = has_centring;
    few_centrings = stable_le (length cs) 32 (know (λ t. t.few_centrings));
    centrings = centrings;
    within = λ k f l i j. stable_le (unsigned_abs ((operation (get_or ops k f)).rotation.at i j)) 9 (know (λ t. t.within k f l i j));
    denominator = ∥∥₁_elim form squash₁ (λ t. t.denominator);
    rotations = record {
      has_unit = stable (rotation_or_not ops (first_of ops nonempty) (unit integers 3)) (know (λ t. t.rotations.has_unit));
      products = λ k f l j b m. stable (rotation_or_not ops f ((operation (get_or ops k f)).rotation · (operation (get_or ops j b)).rotation))
          (know (λ t. t.rotations.products k f l j b m));
      inverses = λ k f l. stable (inverse_or_not ops f (operation (get_or ops k f)).rotation) (know (λ t. t.rotations.inverses k f l));
    };
    lattice = record {
      whole = λ v h. in_list v (know (λ t. t.lattice.whole v h));
      difference = λ a b p q. in_list (a ⊖ b) (know (λ t. t.lattice.difference a b p q));
    };
  }
