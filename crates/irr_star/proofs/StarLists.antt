-- Stars, by the numbers of their arms and places.
--   few_numbers                    an increasing list of numbers below n is not longer than n
--   star_of_lists                  arms and a table are those of their star
--   arm_below, place_below         the numbers of their operations
--   carrier_at, operation_at       their operations
--   ProductsSoFar, none, push, row, all      products, one after another
use Rattle.std.proofs.Common.{◌≡◌, sym, ◌∙◌, ap, subst, refl, ℕ, zero, suc, ◌+◌, ◌<◌, ◌≤◌, ◌⊎◌, inl, inr, List, [], ◌∷◌}
use Rattle.std.proofs.Common.{◌++◌, length, get_or, slice_index, Contains, arith}
use Rattle.std.proofs.lemmas.Bool.{cases_lt}
use Rattle.std.proofs.lemmas.List.{get_or_default}
use Rattle.std.proofs.lemmas.List.Elements.{Contains-append_left, Contains-push, Contains-push_cases, Contains-get_or}
use native.Mathlib.Nat as Nat
use Rattle.irr_algebra.specs.Fin.{Fin, to_nat}
use Rattle.irr_algebra.proofs.Indices.{from_nat, to_nat-from_nat, to_nat-lt, to_nat_inj}
use Rattle.irr_space.specs.Operation.{WaveVector, ◌⊙◌}
use Rattle.irr_space.specs.CanonicalOperation.{IsNumbering}
use Rattle.irr_seitz.specs.OperationMeaning.{operation}
use Rattle.irr_seitz.specs.PhaseMeaning.{sign_of}
use Rattle.irr_seitz.specs.declared.op.Op.{Op}
use Rattle.irr_kvec.specs.WaveMeaning.{wave_vector}
use Rattle.irr_rep.specs.Twisted.{operation_places, phase_table, place_count}
use Rattle.irr_rep.specs.declared.table.Twisted.{Twisted}
use Rattle.irr_close.specs.Canonical.{numbered}
use Rattle.irr_close.specs.StandsFor.{stands_for}
use Rattle.irr_close.specs.declared.group.Group.{Group}
use Rattle.irr_little.specs.Arms.{AreArms}
use Rattle.irr_little.specs.Table.{IsLittleTable}
use Rattle.irr_little.specs.declared.arms.Arm.{Arm}
use Rattle.irr_little.proofs.Spaces.{form_of}
use Rattle.irr_full.specs.Star.{Star, carrier}
use Rattle.irr_star.specs.declared.lists.Product.{Product}
use Rattle.irr_star.specs.Stars.{AreArmsOf, IsStarOf, star_of}
use Rattle.irr_star.specs.Products.{AreProducts, IsProductOf}

module _ (a n : ℕ) (f : Fin a → Fin n) (rising : (i j : Fin a) → to_nat i < to_nat j → to_nat (f i) < to_nat (f j))
  where
    above : (k : ℕ) (l : k < a) → k ≤ to_nat (f (from_nat a k l))
    above zero l = omega arith
    above (suc k) l =
        let m : k < a = omega (arith, l) in
        let x = to_nat-from_nat a k m in
        let y = to_nat-from_nat a (suc k) l in
        let up = rising (from_nat a k m) (from_nat a (suc k) l) (omega (arith, x, y)) in
        let before = above k m in
        omega (arith, up, before)

    pub few_numbers : a ≤ n
    few_numbers = elim (cases_lt n a) [
      | inl l ↦ (let h = above n l in let m = to_nat-lt (f (from_nat a n l)) in absurd (omega (arith, h, m)))
      | inr l ↦ l
    ]

pub star_of_lists : (group : Group) (k : WaveVector) (arms : List Arm) (t : Twisted) (d : Op) (a : Arm)
    (canonical : IsNumbering (stands_for group) (λ _. Unit {0}) (numbered group.ops.items d))
    (are_arms : AreArms group k arms) (little : IsLittleTable group k (operation_places t) (phase_table t))
    → IsStarOf group arms t (star_of group k arms t d a canonical are_arms little)
star_of_lists group k arms t d a canonical are_arms little = record {
  are_arms = record {
    count = refl;
    few = Nat.le_trans (few_numbers (length arms) (length group.ops.items) are_arms.number (are_arms.star d a).ordered)
        (form_of group).few;
    wave = λ i b. ap (λ (x : Arm). wave_vector x.wave) (get_or_default arms (to_nat i) b a (to_nat-lt i));
    below = λ i b. subst (λ n. n < length group.ops.items) (are_arms.number_is i b) (to_nat-lt (are_arms.number i));
    carriers = λ i b e. ap (λ n. operation (get_or group.ops.items n e)) (sym (are_arms.number_is i b))
        ∙ ap operation (get_or_default group.ops.items (to_nat (are_arms.number i)) e d
        (to_nat-lt (are_arms.number i)));
  };
  count = refl;
  below = inside;
  operations = λ p e. ap operation (get_or_default group.ops.items (slice_index (operation_places t) (to_nat p)) e d
      (inside p));
}
  where
    inside : (p : Fin (place_count t)) → slice_index (operation_places t) (to_nat p) < length group.ops.items
    inside p = little.places.below (slice_index (operation_places t) (to_nat p))
        (Contains-get_or (operation_places t) (to_nat p) 0 (subst (λ n. to_nat p < n) little.count (to_nat-lt p)))

-- by numbers
module _ (group : Group) (arms : List Arm) {k : WaveVector} (S : Star (sign_of group.phase) (stands_for group) k)
    (is : AreArmsOf group arms S) where
  pub arm_index : (i : ℕ) → i < length arms → (p : Fin S.arms) × (to_nat p ≡ i)
  arm_index i l = let m = subst (λ n. i < n) is.count l in (from_nat S.arms i m, to_nat-from_nat S.arms i m)

  pub arm_below : (i : ℕ) → i < length arms → (a : Arm) → (get_or arms i a).op < length group.ops.items
  arm_below i l a = let p = arm_index i l in subst (λ n. (get_or arms n a).op < length group.ops.items) p.1
      (is.below p.0 a)

  pub carrier_at : (i : ℕ) (a : Arm) (ops : List Op) (o : Op) → ops ≡ group.ops.items → o ≡ get_or ops
      (get_or arms i a).op o
      → (p : Fin S.arms) → to_nat p ≡ i → operation o ≡ carrier S p
  carrier_at i a ops o same at p e = ap operation (at ∙ ap (λ (xs : List Op). get_or xs (get_or arms i a).op o) same)
      ∙ ap (λ n. operation (get_or group.ops.items (get_or arms n a).op o)) (sym e) ∙ is.carriers p a o

module _ (group : Group) (arms : List Arm) (t : Twisted) {k : WaveVector}
    (S : Star (sign_of group.phase) (stands_for group) k) (is : IsStarOf group arms t S) where
  pub place_index : (i : ℕ) → i < place_count t → (p : Fin S.places) × (to_nat p ≡ i)
  place_index i l = let m = subst (λ n. i < n) is.count l in (from_nat S.places i m, to_nat-from_nat S.places i m)

  pub place_below : (i : ℕ) → i < place_count t → slice_index (operation_places t) i < length group.ops.items
  place_below i l = let p = place_index i l in subst (λ n. slice_index (operation_places t) n < length group.ops.items)
      p.1 (is.below p.0)

  pub operation_at : (i n : ℕ) (ops : List Op) (o : Op) → n ≡ slice_index (operation_places t) i → ops ≡ group.ops.items
      → o ≡ get_or ops n o
      → (p : Fin S.places) → to_nat p ≡ i → operation o ≡ S.operation p
  operation_at i n ops o number same at p e = ap operation (at ∙ ap (λ (xs : List Op). get_or xs n o) same)
      ∙ ap (λ m. operation (get_or group.ops.items m o)) (number ∙ ap (slice_index (operation_places t)) (sym e))
      ∙ is.operations p o

-- the products of the arms below i with all places, and of the arm i with the first p
pub record ProductsSoFar (group : Group) (arms : List Arm) (t : Twisted) (i p : ℕ) (ps : List Product) : Type 0 where
  pub each : (k : WaveVector) (S : Star (sign_of group.phase) (stands_for group) k) → IsStarOf group arms t S →
      (q : Product) → Contains ps q → IsProductOf S q
  pub reached : (a b : ℕ) → (a < i) ⊎ ((a ≡ i) × (b < p)) → b < place_count t → (q : Product) × Contains ps q ×
      (q.arm ≡ a) × (q.place ≡ b)

module _ (group : Group) (arms : List Arm) (t : Twisted) where
  pub products_none : (ps : List Product) → ps ≡ [] → ProductsSoFar group arms t 0 0 ps
  products_none ps e = record {
    each = λ k S is q c. absurd (let l : c.0 < length ps = c.1 in let n : length ps ≡ 0 = ap length e in omega
        (arith, l, n));
    reached = λ a b l m. elim l [
      | inl u ↦ absurd (omega (arith, u))
      | inr u ↦ absurd
          (let w = u.1 in omega (arith, w))
    ];
  }

  pub products_push : (i p : ℕ) (ps after : List Product) (q : Product) → ProductsSoFar group arms t i p ps
      → after ≡ ps ++ q ∷ []
      → q.arm ≡ i → q.place ≡ p
      → ((k : WaveVector) (S : Star (sign_of group.phase) (stands_for group) k) → IsStarOf group arms t S
      → IsProductOf S q)
      → ProductsSoFar group arms t i (p + 1) after
  products_push i p ps after q so e row inner is = subst (ProductsSoFar group arms t i (p + 1)) (sym e) (record {
    each = λ k S star r c. elim (Contains-push_cases ps q r c) [
      | inl old ↦ so.each k S star r old
      | inr new ↦ subst (IsProductOf S) new (is k S star)
    ];
    reached = λ a b l m. at a b l m;
  })
    where
      kept : (a b : ℕ) → (r : Product) × Contains ps r × (r.arm ≡ a) × (r.place ≡ b) → (r : Product) × Contains
          (ps ++ q ∷ []) r × (r.arm ≡ a) × (r.place ≡ b)
      kept a b (r, c, f, g) = (r, Contains-append_left ps (q ∷ []) r c, f, g)

      at : (a b : ℕ) → (a < i) ⊎ ((a ≡ i) × (b < p + 1)) → b < place_count t → (r : Product) × Contains (ps ++ q ∷ []) r
          × (r.arm ≡ a) × (r.place ≡ b)
      at a b (inl l) m = kept a b (so.reached a b (inl l) m)
      at a b (inr (f, l)) m = elim (cases_lt b p) [
        | inl u ↦ kept a b (so.reached a b (inr (f, u)) m)
        | inr u ↦ (let g : b ≡ p = omega (arith, l, u) in (q, Contains-push ps q, row ∙ sym f, inner ∙ sym g))
      ]

  pub products_row : (i p : ℕ) (ps : List Product) → ProductsSoFar group arms t i p ps → place_count t ≤ p
      → ProductsSoFar group arms t (i + 1) 0 ps
  products_row i p ps so end = record {
    each = so.each;
    reached = λ a b l m. at a b l m;
  }
    where
      at : (a b : ℕ) → (a < i + 1) ⊎ ((a ≡ i + 1) × (b < 0)) → b < place_count t → (r : Product) × Contains ps r ×
          (r.arm ≡ a) × (r.place ≡ b)
      at a b (inl l) m = elim (cases_lt a i) [
        | inl u ↦ so.reached a b (inl u) m
        | inr u ↦ so.reached a b (inr (let f : a ≡ i = omega (arith, l, u) in f, omega (arith, m, end))) m
      ]
      at a b (inr (f, l)) m = absurd (omega (arith, l))

  pub products_all : (i : ℕ) (ps : List Product) → ProductsSoFar group arms t i 0 ps → length arms ≤ i
      → (k : WaveVector) (S : Star (sign_of group.phase) (stands_for group) k) → IsStarOf group arms t S
      → AreProducts S ps
  products_all i ps so end k S is = record {
    each = λ q c. so.each k S is q c;
    all = λ a p. named a p (so.reached (to_nat a) (to_nat p)
        (inl (let l = subst (λ n. to_nat a < n) (sym is.are_arms.count) (to_nat-lt a) in omega (arith, l, end)))
        (subst (λ n. to_nat p < n) (sym is.count) (to_nat-lt p)));
  }
    where
      named : (a : Fin S.arms) (p : Fin S.places) → (q : Product) × Contains ps q × (q.arm ≡ to_nat a) ×
          (q.place ≡ to_nat p)
          → (q : Product) × Contains ps q × (operation q.op ≡ carrier S a ⊙ S.operation p)
      named a p (q, c, f, g) =
          let made = so.each k S is q c in
          let row : made.row ≡ a = to_nat_inj made.row a (made.row-number ∙ f) in
          let inner : made.inner ≡ p = to_nat_inj made.inner p (made.inner-number ∙ g) in (
            q,
            c,
            made.is ∙ ap (λ x. carrier S x ⊙ S.operation made.inner) row ∙ ap
                (λ x. carrier S a ⊙ S.operation x) inner,
          )
