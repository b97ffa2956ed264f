-- The quotient of a level is cyclic: the powers of its generator are representatives of the cosets.
--   cover-prime              each element of H is in the coset of a power of one outside K
--   level_quotient           it is commutative, of exponent p
--   level_covered            each element is in the coset of a power below the p-th
--   level_one_power          of one only
--   level_top                the p-th power is a member
use Rattle.std.specs.Prelude.{ℕ, ◌≡◌, ◌<◌, ◌⊎◌, List, Contains}
use Rattle.std.proofs.Common.{sym, subst, inl, inr, arith}
use Rattle.irr_algebra.specs.Fin.{Fin, to_nat}
use Rattle.irr_space.specs.PhaseTable.{PhaseTable, place_power}
use Rattle.irr_chain.specs.declared.series.Level.{Level}
use Rattle.irr_chain.specs.NormalSubgroup.{HasIndex, In, IsCoset, IsNormal}
use Rattle.irr_chain.specs.Quotient.{Cover, HasQuotient, IsClosed, power}
use Rattle.irr_chain.specs.Series.{IsLevel}
use Rattle.irr_chain.proofs.GroupLaws.{group_laws}
use Rattle.irr_chain.proofs.Cosets.{commutators_inside, coset-join, coset-swap, covered-three, covered-two, powers_inside, to_start}
use Rattle.irr_chain.proofs.Quotients.{powers_apart}
use Rattle.irr_chain.proofs.Levels.{contains_or_not, prime_above, subgroup_closed}
use Rattle.irr_chain.proofs.Chains.{generator_outside}

module _ {h : ℕ} (T : PhaseTable h) (K H : Fin h → Type 0) (closed : IsClosed T K) (outer : IsClosed T H) (normal : IsNormal T K H)
    (decide : (i : Fin h) → K i ⊎ (K i → ⊥)) (g : Fin h) (own : H g) (out : K g → ⊥) where
  cover-two : HasIndex T K H 2 → (i : Fin h) → H i → Cover T K 2 g i
  unfolding place_power
  cover-two index i a = elim (covered-two T K H closed outer normal decide index g i own a out) [
    | inl k ↦ (0, omega arith, to_start T K closed i k)
    | inr s ↦ (1, omega arith, subst (λ v. IsCoset T K v i) (sym (T.product-start g)) s)
  ]

  cover-three : HasIndex T K H 3 → (i : Fin h) → H i → Cover T K 3 g i
  unfolding place_power
  cover-three index i a = elim (covered-three T K H closed outer normal decide index g i own a out) [
    | inl (inl k) ↦ (0, omega arith, to_start T K closed i k)
    | inl (inr s) ↦ (1, omega arith, subst (λ v. IsCoset T K v i) (sym (T.product-start g)) s)
    | inr s ↦ (2, omega arith, subst (λ v. IsCoset T K v i) (let e : T.product g g ≡ power T g 2 = simp (group_laws, T) in e) s)
  ]

  pub cover-prime : (p : ℕ) → (p ≡ 2) ⊎ (p ≡ 3) → HasIndex T K H p → (i : Fin h) → H i → Cover T K p g i
  cover-prime p (inl e) index i a = subst (λ n. Cover T K n g i) (sym e) (cover-two (subst (HasIndex T K H) e index) i a)
  cover-prime p (inr e) index i a = subst (λ n. Cover T K n g i) (sym e) (cover-three (subst (HasIndex T K H) e index) i a)

module _ {h : ℕ} (T : PhaseTable h) (level : Level) (outer : List ℕ) (so : IsLevel T level outer) where
  members-closed : IsClosed T (In level.members.items)
  members-closed = subgroup_closed T level.members.items so.normal.subgroup

  outer-closed : IsClosed T (In outer)
  outer-closed = subgroup_closed T outer so.generated.subgroup

  decided : (i : Fin h) → In level.members.items i ⊎ (In level.members.items i → ⊥)
  decided i = contains_or_not level.members.items (to_nat i)

  pub level_quotient : HasQuotient T (In level.members.items) (In outer) level.p
  level_quotient = record {
    closed = members-closed;
    within = so.normal.normal.within;
    powers = powers_inside T (In level.members.items) (In outer) members-closed outer-closed so.normal.normal decided level.p so.two_or_three so.normal.index;
    commutators = commutators_inside T (In level.members.items) (In outer) members-closed outer-closed so.normal.normal decided level.p so.two_or_three so.normal.index;
  }

  module _ (g : Fin h) (is : to_nat g ≡ level.g) where
    own : In outer g
    own = subst (Contains outer) (sym is) so.generated.has_generator

    out : In level.members.items g → ⊥
    out m = generator_outside T level outer so (subst (Contains level.members.items) is m)

    pub level_covered : (i : Fin h) → In outer i → Cover T (In level.members.items) level.p g i
    level_covered = cover-prime T (In level.members.items) (In outer) members-closed outer-closed so.normal.normal decided g own out
        level.p so.two_or_three so.normal.index

    pub level_one_power : (i : Fin h) (a b : ℕ) → a < level.p → b < level.p → IsCoset T (In level.members.items) (power T g a) i
        → IsCoset T (In level.members.items) (power T g b) i → a ≡ b
    level_one_power i a b l m s t =
        let more : 1 < level.p = prime_above level.p so.two_or_three in
        powers_apart T (In level.members.items) (In outer) level.p outer-closed level_quotient g own (omega arith) so.two_or_three out a b l m
        (coset-join T (In level.members.items) members-closed (power T g a) i (power T g b) s
        (coset-swap T (In level.members.items) members-closed (power T g b) i t))

    pub level_top : In level.members.items (power T g level.p)
    level_top = level_quotient.powers g own
