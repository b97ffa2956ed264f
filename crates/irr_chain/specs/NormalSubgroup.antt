-- Normal subgroups of index 2 or 3 of the subgroups of a table of phases.
--   In members i                     the place i is in the list
--   IsNormal T K H                   K is in H, and conjugation by places of H keeps it
--   IsCoset T K r i                  i is in the left coset of r
--   HasIndex T K H p                 H is p left cosets of K
--   IsNormalOfIndex T inner outer p  the list inner is a normal subgroup of index p in the list outer
--   HasNormal T outer p              outer has a normal subgroup of index p
--   IsGenerated T inner g outer      outer is the subgroup that inner and g generate
--   IsUnchained T members            a subgroup of more than one element with no normal subgroup of index 2 or 3
--   HasSteps T                       each subgroup of more than one element has a normal subgroup of index 2 or 3
use Rattle.std.specs.Prelude.{ℕ, ◌≡◌, ◌<◌, ◌⊎◌, List, length, Contains}
use Rattle.irr_algebra.specs.Fin.{Fin, to_nat}
use Rattle.irr_space.specs.PhaseTable.{PhaseTable}
use Rattle.irr_rep.specs.Subgroup.{IsSubgroup}

-- the place is in the list
abbrev pub In : {h : ℕ} → List ℕ → Fin h → Type 0
In members i = Contains members (to_nat i)

-- K is in H, and j k j^-1 is in K for k of K and j of H
pub record IsNormal {h : ℕ} (T : PhaseTable h) (K H : Fin h → Type 0) : Type 0 where
  pub within : (i : Fin h) → K i → H i
  pub conjugates : (i j : Fin h) → K i → H j → K (T.product (T.product j i) (T.opposite j))

-- i is r k for some k of K
abbrev pub IsCoset : {h : ℕ} (T : PhaseTable h) (K : Fin h → Type 0) → Fin h → Fin h → Type 0
IsCoset T K r i = K (T.product (T.opposite r) i)

-- each place of H is in the coset of exactly one of p representatives
pub record HasIndex {h : ℕ} (T : PhaseTable h) (K H : Fin h → Type 0) (p : ℕ) : Type 0 where
  pub representative : Fin p → Fin h
  pub representative_inside : (a : Fin p) → H (representative a)
  pub coset : (i : Fin h) → H i → Fin p
  pub in_coset : (i : Fin h) (inside : H i) → IsCoset T K (representative (coset i inside)) i
  pub one_coset : (i : Fin h) (a b : Fin p) → IsCoset T K (representative a) i → IsCoset T K (representative b) i → a ≡ b

-- inner is a normal subgroup of index p in outer
pub record IsNormalOfIndex {h : ℕ} (T : PhaseTable h) (inner outer : List ℕ) (p : ℕ) : Type 0 where
  pub subgroup : IsSubgroup T inner
  pub normal : IsNormal T (In inner) (In outer)
  pub index : HasIndex T (In inner) (In outer) p

-- outer has a normal subgroup of index p
abbrev pub HasNormal : {h : ℕ} (T : PhaseTable h) → List ℕ → ℕ → Type 0
HasNormal T outer p = (inner : List ℕ) × IsNormalOfIndex T inner outer p

-- outer is the least subgroup that has g and the members of inner
pub record IsGenerated {h : ℕ} (T : PhaseTable h) (inner : List ℕ) (g : ℕ) (outer : List ℕ) : Type 0 where
  pub subgroup : IsSubgroup T outer
  pub has_inner : (i : Fin h) → In inner i → In outer i
  pub has_generator : Contains outer g
  pub least : (members : List ℕ) → IsSubgroup T members → ((i : Fin h) → In inner i → In members i) → Contains members g
      → (i : Fin h) → In outer i → In members i

-- a subgroup of more than one element that has no normal subgroup of index 2 or 3
pub record IsUnchained {h : ℕ} (T : PhaseTable h) (members : List ℕ) : Type 0 where
  pub subgroup : IsSubgroup T members
  pub more_than_one : 1 < length members
  pub none_of_two : HasNormal T members 2 → ⊥
  pub none_of_three : HasNormal T members 3 → ⊥

-- the premise of steps: each subgroup of more than one element has a normal subgroup of index 2 or 3
abbrev pub HasSteps : {h : ℕ} (T : PhaseTable h) → Type 0
HasSteps T = (members : List ℕ) → IsSubgroup T members → 1 < length members → HasNormal T members 2 ⊎ HasNormal T members 3
