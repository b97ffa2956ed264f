-- From marks to the levels of a chain.
--   contains_or_not          whether a number is in a list
--   subgroup_closed          the members of a subgroup, as a set of places
--   listed_subgroup          the list of marks that are a subgroup
--   generated_quotient       the subgroup of the powers and the commutators
--   no_normal                where it is the whole, there is no normal subgroup of that index
--   wider_quotient           with one more element
--   level_normal, level_generated    a largest such subgroup is a level
use Rattle.std.specs.Prelude.{ℕ, zero, suc, ◌≡◌, ◌<◌, ◌⊎◌, ◌↔◌, List, [], ◌∷◌, length, slice_index, Contains, Bool, slice_index_or}
use Rattle.std.proofs.Common.{sym, ◌∙◌, ap, subst, refl, inl, inr, arith}
use Rattle.std.proofs.lemmas.Bool.{cases_lt}
use Rattle.std.proofs.lemmas.List.{get_or_default}
use Rattle.irr_number.specs.SumLaws.{same_or_not}
use Rattle.irr_algebra.specs.Fin.{Fin, to_nat}
use Rattle.irr_algebra.proofs.Indices.{from_nat, to_nat-from_nat}
use Rattle.irr_space.specs.PhaseTable.{PhaseTable, place_power}
use Rattle.irr_rep.specs.Subgroup.{IsSubgroup}
use Rattle.irr_chain.specs.NormalSubgroup.{In, HasNormal, IsGenerated, IsNormalOfIndex}
use Rattle.irr_chain.specs.Quotient.{Cover, HasQuotient, IsClosed, commutator, power}
use Rattle.irr_chain.specs.Marks.{Generators, Grows, IsMarked, Marked}
use Rattle.irr_chain.specs.Series.{IsIncreasing}
use Rattle.irr_chain.proofs.GroupLaws.{closed_powers}
use Rattle.irr_chain.proofs.Cosets.{commutators_inside, not_whole, powers_inside}
use Rattle.irr_chain.proofs.Quotients.{cover_has, cover_own, cover_quotient, cover_within, quotient_index, quotient_normal}
use Rattle.irr_chain.proofs.Markings.{marked-within}

pub contains_or_not : (xs : List ℕ) (k : ℕ) → Contains xs k ⊎ (Contains xs k → ⊥)
contains_or_not [] k = inr (λ c. let l : c.0 < 0 = c.1 in omega arith)
contains_or_not (x ∷ xs) k = elim (same_or_not x k) [
  | inl e ↦ inl (0, omega arith, e)
  | inr f ↦ (elim (contains_or_not xs k) [
    | inl c ↦ inl (suc c.0, (let l : c.0 < length xs = c.1 in omega arith), c.2)
    | inr g ↦ inr (λ c. apart f g c.0 c.1 c.2)
  ])
]
  where
    apart : (x ≡ k → ⊥) → (Contains xs k → ⊥) → (a : ℕ) → a < length (x ∷ xs) → slice_index_or (x ∷ xs) a k ≡ k → ⊥
    apart f g zero l e = f e
    apart f g (suc a) l e = g (a, omega arith, e)

pub same_quotient : {h : ℕ} (T : PhaseTable h) (K L H : Fin h → Type 0) (p : ℕ) → ((i : Fin h) → K i → L i) → ((i : Fin h) → L i → K i)
    → HasQuotient T K H p → HasQuotient T L H p
same_quotient T K L H p f g q = record {
  closed = record {
    unit = f T.start q.closed.unit;
    products = λ i j a b. f (T.product i j) (q.closed.products i j (g i a) (g j b));
    opposites = λ i a. f (T.opposite i) (q.closed.opposites i (g i a));
  };
  within = λ i a. q.within i (g i a);
  powers = λ i a. f (power T i p) (q.powers i a);
  commutators = λ i j a b. f (commutator T i j) (q.commutators i j a b);
}

unit_power : {h : ℕ} (T : PhaseTable h) (n : ℕ) → power T T.start n ≡ T.start
unfolding place_power
unit_power T zero = refl
unit_power T (suc n) = T.start-product (power T T.start n) ∙ unit_power T n

-- what a call saw of the marks
pub covers_at : {h : ℕ} (T : PhaseTable h) (p g : ℕ) (seen inner wider : List Bool) → seen ≡ inner
    → ((a i : Fin h) → to_nat a ≡ g → Marked wider i ↔ Cover T (Marked seen) p a i)
    → (a i : Fin h) → to_nat a ≡ g → Marked wider i ↔ Cover T (Marked inner) p a i
covers_at {h} T p g seen inner wider e covers a i s = subst (λ v. Marked wider i ↔ Cover T (Marked v) p a i) e (covers a i s)

pub prime_above : (p : ℕ) → (p ≡ 2) ⊎ (p ≡ 3) → 1 < p
prime_above p (inl e) = omega arith
prime_above p (inr e) = omega arith

module _ {h : ℕ} (T : PhaseTable h) where
  pub unit_in : (members : List ℕ) → IsSubgroup T members → In members T.start
  unit_in members subgroup =
      (0, subgroup.not_empty, get_or_default members 0 (to_nat T.start) 0 subgroup.not_empty ∙ subgroup.unit_first ∙ sym T.start_first)

  pub subgroup_closed : (members : List ℕ) → IsSubgroup T members → IsClosed T (In members)
  subgroup_closed members subgroup = record {
    unit = unit_in members subgroup;
    products = subgroup.products_inside;
    opposites = subgroup.opposites_inside;
  }

  -- a member is the number of a place
  pub contained-below : (members : List ℕ) → IsSubgroup T members → (k : ℕ) → Contains members k → k < h
  contained-below members subgroup k (a, l, e) =
      subst (λ v. v < h) (sym (get_or_default members a k 0 l) ∙ e) (subgroup.below a l)

  module _ (marks : List Bool) (size : length marks ≡ h) (closed : IsClosed T (Marked marks)) (members : List ℕ) (increasing : IsIncreasing members)
      (same : (k : ℕ) → Contains members k ↔ IsMarked marks k) where
    member_marked : (a : ℕ) → a < length members → IsMarked marks (slice_index members a)
    member_marked a l = (same (slice_index members a)).0 (a, l, get_or_default members a (slice_index members a) 0 l)

    has_zero : Contains members 0
    has_zero = (same 0).1 (subst (IsMarked marks) T.start_first closed.unit)

    first_zero : (k : ℕ) → k < length members → slice_index members k ≡ 0 → slice_index members 0 ≡ 0
    first_zero zero l e = e
    first_zero (suc k) l e = absurd (let m : slice_index members 0 < slice_index members (suc k) = increasing 0 (suc k) (omega arith) l in omega arith)

    apart : (a b : ℕ) → a < length members → b < length members → slice_index members a ≡ slice_index members b → a ≡ b
    apart a b l m e = elim (same_or_not a b) [
      | inl d ↦ d
      | inr f ↦ (elim (cases_lt a b) [
        | inl r ↦ absurd (let s : slice_index members a < slice_index members b = increasing a b r m in omega arith)
        | inr r ↦ absurd (let t : b < a = omega (arith, f) in let s : slice_index members b < slice_index members a = increasing b a t l in omega arith)
      ])
    ]

    pub listed_subgroup : IsSubgroup T members
    listed_subgroup = record {
      below = λ a l. (let m : slice_index members a < length marks = marked-within marks (slice_index members a) (member_marked a l) in omega arith);
      distinct = apart;
      not_empty = (let m : has_zero.0 < length members = has_zero.1 in omega arith);
      unit_first = first_zero has_zero.0 has_zero.1 (sym (get_or_default members has_zero.0 0 0 has_zero.1) ∙ has_zero.2);
      products_inside = λ i j a b. (same (to_nat (T.product i j))).1 (closed.products i j ((same (to_nat i)).0 a) ((same (to_nat j)).0 b));
      opposites_inside = λ i a. (same (to_nat (T.opposite i))).1 (closed.opposites i ((same (to_nat i)).0 a));
    }

  module _ (members : List ℕ) (subgroup : IsSubgroup T members) (p : ℕ) where
    -- the powers and the commutators of a subgroup are in it
    generators_in : (marks : List Bool) → Generators T (In members) p marks → (i : Fin h) → Marked marks i → In members i
    generators_in marks given i m = elim (given.only i m) [
      | inl q ↦ subst (In members) (sym q.2) (closed_powers T (In members) (subgroup_closed members subgroup) q.0 p q.1)
      | inr q ↦ subst (In members) (sym q.4) (subgroup.products_inside (T.product q.0 q.1) (T.product (T.opposite q.0) (T.opposite q.1))
          (subgroup.products_inside q.0 q.1 q.2 q.3)
          (subgroup.products_inside (T.opposite q.0) (T.opposite q.1) (subgroup.opposites_inside q.0 q.2) (subgroup.opposites_inside q.1 q.3)))
    ]

    pub generators_unit : (marks : List Bool) → Generators T (In members) p marks → IsMarked marks 0
    generators_unit marks given = subst (IsMarked marks) (ap to_nat (unit_power T p) ∙ T.start_first) (given.powers T.start (unit_in members subgroup))

    pub generated_quotient : (marks new : List Bool) → Generators T (In members) p marks → IsClosed T (Marked new) → Grows T marks new
        → HasQuotient T (Marked new) (In members) p
    generated_quotient marks new given closed grows = record {
      closed = closed;
      within = grows.within members subgroup (generators_in marks given);
      powers = λ i a. grows.kept (power T i p) (given.powers i a);
      commutators = λ i j a b. grows.kept (commutator T i j) (given.commutators i j a b);
    }

    pub no_normal : (marks new : List Bool) → (p ≡ 2) ⊎ (p ≡ 3) → Generators T (In members) p marks → Grows T marks new
        → ((k : ℕ) → Contains members k → IsMarked new k) → HasNormal T members p → ⊥
    no_normal marks new prime given grows all (inner, normal) =
        let closed = subgroup_closed inner normal.subgroup in
        let outer = subgroup_closed members subgroup in
        not_whole T (In inner) (In members) closed outer normal.normal (λ i. contains_or_not inner (to_nat i)) p (prime_above p prime) normal.index
        (λ i a. grows.within inner normal.subgroup (λ k m. generator k (given.only k m)) i (all (to_nat i) a))
      where
        generator : (k : Fin h)
            → ((i : Fin h) × In members i × (k ≡ power T i p)) ⊎ ((i : Fin h) × (j : Fin h) × In members i × In members j × (k ≡ commutator T i j))
            → In inner k
        generator k (inl q) = subst (In inner) (sym q.2) (powers_inside T (In inner) (In members) (subgroup_closed inner normal.subgroup)
            (subgroup_closed members subgroup) normal.normal (λ i. contains_or_not inner (to_nat i)) p prime normal.index q.0 q.1)
        generator k (inr q) = subst (In inner) (sym q.4) (commutators_inside T (In inner) (In members) (subgroup_closed inner normal.subgroup)
            (subgroup_closed members subgroup) normal.normal (λ i. contains_or_not inner (to_nat i)) p prime normal.index q.0 q.1 q.2 q.3)

    module _ (inner : List Bool) (size : length inner ≡ h) (quotient : HasQuotient T (Marked inner) (In members) p) (g : ℕ) (own : Contains members g)
        (prime : (p ≡ 2) ⊎ (p ≡ 3)) where
      -- g as a place
      place : Fin h
      place = from_nat h g (contained-below members subgroup g own)

      place-number : to_nat place ≡ g
      unfolding place
      place-number = to_nat-from_nat h g (contained-below members subgroup g own)

      place-in : In members place
      place-in = subst (Contains members) (sym place-number) own

      positive : 0 < p
      positive = let l : 1 < p = prime_above p prime in omega arith

      module _ (wider : List Bool) (covers : (a i : Fin h) → to_nat a ≡ g → Marked wider i ↔ Cover T (Marked inner) p a i) where
        pub wider_quotient : HasQuotient T (Marked wider) (In members) p
        wider_quotient = same_quotient T (Cover T (Marked inner) p place) (Marked wider) (In members) p
            (λ i. (covers place i place-number).1) (λ i. (covers place i place-number).0)
            (cover_quotient T (Marked inner) (In members) p (subgroup_closed members subgroup) quotient place place-in positive)

        pub wider_has : (k : ℕ) → IsMarked inner k → IsMarked wider k
        wider_has k m =
            let l : k < h = subst (λ n. k < n) size (marked-within inner k m) in
            let i : Fin h = from_nat h k l in
            let e : to_nat i ≡ k = to_nat-from_nat h k l in
            subst (IsMarked wider) e ((covers place i place-number).1 (cover_has T (Marked inner) p place positive i (subst (IsMarked inner) (sym e) m)))

        pub wider_own : IsMarked wider g
        wider_own = subst (IsMarked wider) place-number
            ((covers place place place-number).1 (cover_own T (Marked inner) p place (prime_above p prime) quotient.closed))

        module _ (out : IsMarked inner g → ⊥) (all : (k : ℕ) → Contains members k → IsMarked wider k) (list : List ℕ) (increasing : IsIncreasing list)
            (same : (k : ℕ) → Contains list k ↔ IsMarked inner k) where
          covered_all : (i : Fin h) → In members i → Cover T (Marked inner) p place i
          covered_all i a = (covers place i place-number).0 (all (to_nat i) a)

          listed_quotient : HasQuotient T (In list) (In members) p
          listed_quotient = same_quotient T (Marked inner) (In list) (In members) p (λ i. (same (to_nat i)).1) (λ i. (same (to_nat i)).0) quotient

          listed_cover : (i : Fin h) → In members i → Cover T (In list) p place i
          listed_cover i a = let c = covered_all i a in (c.0, c.1, (same (to_nat (T.product (T.opposite (power T place c.0)) i))).1 c.2)

          pub level_normal : IsNormalOfIndex T list members p
          level_normal = record {
            subgroup = listed_subgroup inner size quotient.closed list increasing same;
            normal = quotient_normal T (In list) (In members) p (subgroup_closed members subgroup) listed_quotient;
            index = quotient_index T (In list) (In members) p (subgroup_closed members subgroup) listed_quotient place place-in positive prime
                (λ m. out (subst (IsMarked inner) place-number ((same (to_nat place)).0 m))) listed_cover;
          }

          pub level_generated : IsGenerated T list g members
          level_generated = record {
            subgroup = subgroup;
            has_inner = listed_quotient.within;
            has_generator = own;
            least = λ others other has mine i a. cover_within T (In list) p place (In others) (subgroup_closed others other) has
                (subst (Contains others) (sym place-number) mine) i (listed_cover i a);
          }
