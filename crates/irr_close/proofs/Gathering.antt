-- The translations of a list as it grows to a closed one.
--   lattice_in_cell, lattice_over      the translations are in the cell over one small denominator
--   kept_reduced                       kept operations may be multiplied
--   over_generators, over_seeds        all vectors are over one small denominator
--   from_generators, from_seeds        products come from the generators
--   start_lattice                      the list of 0
--   gathered_start, gathered_more      the translations of the products with the generators, and with the seeds
--   settled_start, settled_more        the differences and the turned ones of no translation, and of one more
use Rattle.std.proofs.Common.{◌≡◌, sym, ◌∙◌, ap, subst, refl, ℕ, ◌<◌, ◌≤◌, ◌+◌, inl, inr, List, [], ◌∷◌, length, get_or, arith}
use Rattle.std.specs.List.{All, HoldsAt}
use Rattle.std.specs.Int.{◌∣◌}
use Rattle.std.proofs.lemmas.List.{get_or_default}
use Rattle.std.proofs.lemmas.List.Elements.{All-cons, All-nil}
use Rattle.std.proofs.lemmas.Bool.{cases_lt}
use native.Mathlib.Nat as Nat
use Rattle.irr_algebra.specs.Matrix.{◌⊖◌, null}
use Rattle.irr_space.specs.Operation.{Operation, identity, translation}
use Rattle.irr_space.specs.SpaceGroup.{Generated}
use Rattle.irr_space.specs.SpaceGroup.Generated.{one}
use Rattle.irr_space.specs.CanonicalOperation.{IsInCell}
use Rattle.irr_lattice.proofs.Translations.{translation-null}
use Rattle.irr_lattice.proofs.OneOperation.{identity_canonical}
use Rattle.irr_rat.specs.VectorMeaning.{vector}
use Rattle.irr_rat.specs.declared.vec3.Vec3.{Vec3}
use Rattle.irr_seitz.specs.OperationMeaning.{operation}
use Rattle.irr_seitz.specs.declared.op.Op.{Op}
use Rattle.irr_close.specs.Limits.{operations, HasSmallDenominator}
use Rattle.irr_close.specs.Closing.{IsGenerator, IsKept, IsOneOf, IsLonger}
use Rattle.irr_close.specs.Centring.{AreInvertible, IsReducedOperation, AreInCell, AreOver, AreOverOne, AreFrom, IsCentring, IsFactor, HasQuotient, HasBothDifferences, IsPartialLattice, IsGathered, IsSettled}
use Rattle.irr_close.proofs.Keeping.{generated_at, longer-at, longer-length, longer_trans}
use Rattle.irr_close.proofs.Lattice.{translation_longer, has_quotient_longer}

pub lattice_in_cell : (gs : List Op) (cs : List Vec3) → HasSmallDenominator gs → IsPartialLattice gs cs → AreInCell cs
lattice_in_cell gs cs c p = record {
  common = c.common;
  positive = c.positive;
  small = c.small;
  divide = λ k d l. (p.centrings k d l).divides c.common c.positive c.multiple;
  in_cell = λ k d l. (p.centrings k d l).in_cell;
}

pub lattice_over : (gs kept : List Op) (cs : List Vec3) → HasSmallDenominator gs → All (IsKept gs) kept → IsPartialLattice gs cs → AreOverOne kept cs
lattice_over gs kept cs c all p = record {
  common = c.common;
  positive = c.positive;
  small = c.small;
  kept_divide = λ k d l. (all k d l).divides c.common c.positive c.multiple;
  divide = λ k d l. (p.centrings k d l).divides c.common c.positive c.multiple;
}

pub kept_reduced : (gs kept : List Op) → All (IsKept gs) kept → All IsReducedOperation kept
kept_reduced gs kept all k d l = record { within = (all k d l).within; in_cell = (all k d l).in_cell }

pub over_generators : (gs kept : List Op) (op : Op) → HasSmallDenominator gs → All (IsKept gs) kept → IsKept gs op → AreOver kept op gs
over_generators gs kept op c all h = record {
  common = c.common;
  positive = c.positive;
  small = c.small;
  kept_divide = λ k d l. (all k d l).divides c.common c.positive c.multiple;
  op_divides = h.divides c.common c.positive c.multiple;
  factors_divide = c.multiple;
}

pub over_seeds : (gs seeds kept : List Op) (op : Op) → HasSmallDenominator gs → All (IsOneOf gs) seeds → All (IsKept gs) kept → IsKept gs op
    → AreOver kept op seeds
over_seeds gs seeds kept op c from all h = record {
  common = c.common;
  positive = c.positive;
  small = c.small;
  kept_divide = λ k d l. (all k d l).divides c.common c.positive c.multiple;
  op_divides = h.divides c.common c.positive c.multiple;
  factors_divide = λ k d l. (let o = from k d l in subst (λ (x : Op). x.den ∣ c.common) (o.2 d) (c.multiple o.0 d o.1));
}

pub from_generators : (gs kept : List Op) (op : Op) → AreInvertible gs → All IsGenerator gs → All (IsKept gs) kept → IsKept gs op
    → AreFrom gs kept op gs
from_generators gs kept op inv numbers all h = record {
  invertible = inv;
  kept_from = all;
  op_from = h;
  factors_from = λ k d l. record { generated = generated_at gs k d l; numbers = numbers k d l; divides = λ D p den. den k d l };
}

pub from_seeds : (gs seeds kept : List Op) (op : Op) → AreInvertible gs → All IsGenerator gs → All (IsOneOf gs) seeds → All (IsKept gs) kept
    → IsKept gs op → AreFrom gs kept op seeds
from_seeds gs seeds kept op inv numbers from all h = record {
  invertible = inv;
  kept_from = all;
  op_from = h;
  factors_from = λ k d l. (let o = from k d l in subst (IsFactor gs) (o.2 d)
      (record { generated = generated_at gs o.0 d o.1; numbers = numbers o.0 d o.1; divides = λ D p den. den o.0 d o.1 }));
}

identity-vector : identity.vector ≡ null
unfolding identity
identity-vector = refl

pub start_lattice : (gs : List Op) (cs : List Vec3) (z : Vec3) → vector z ≡ null → z.den ≡ 1 → cs ≡ z ∷ [] → IsPartialLattice gs cs
start_lattice gs cs z e f h = subst (IsPartialLattice gs) (sym h) (record {
  nonempty = omega arith;
  zero_first = λ d. e;
  few = omega arith;
  centrings = All-cons (IsCentring gs) z [] (record {
    generated = subst (λ v. Generated (operations gs) (translation v)) (sym e) (subst (Generated (operations gs)) (sym translation-null) one);
    in_cell = subst IsInCell (identity-vector ∙ sym e) identity_canonical.in_cell;
    divides = λ D p all. subst (λ n. n ∣ D) (sym f) (Nat.one-dvd D);
  }) (All-nil (IsCentring gs));
  distinct = λ i j d l m. absurd (omega arith);
})

all_longer : (kept : List Op) (old new : List Vec3) (g : Operation) (xs : List Op) → IsLonger old new
    → All (λ s. HasQuotient kept old g (operation s)) xs → All (λ s. HasQuotient kept new g (operation s)) xs
all_longer kept old new g xs t h k d l = has_quotient_longer kept old new g (operation (get_or xs k d)) t (h k d l)

gathered_longer : (gs seeds kept : List Op) (old new : List Vec3) (n : ℕ) → IsLonger old new → IsGathered gs seeds kept old n
    → IsGathered gs seeds kept new n
gathered_longer gs seeds kept old new n t h = record {
  generators_in = λ d. all_longer kept old new (operation (get_or kept 0 d)) gs t (h.generators_in d);
  products_in = λ j l d. all_longer kept old new (operation (get_or kept j d)) seeds t (h.products_in j l d);
}

pub gathered_start : (gs seeds kept : List Op) (cs : List Vec3) (op : Op) → 0 < length kept → op ≡ get_or kept 0 op
    → All (λ s. HasQuotient kept cs (operation op) (operation s)) gs → IsGathered gs seeds kept cs 0
gathered_start gs seeds kept cs op l e h = record {
  generators_in = λ d. subst (λ (g : Op). All (λ s. HasQuotient kept cs (operation g) (operation s)) gs) (e ∙ get_or_default kept 0 op d l) h;
  products_in = λ j m. absurd (omega arith);
}

pub gathered_more : (gs seeds kept : List Op) (old new : List Vec3) (op : Op) (n : ℕ) → n < length kept → op ≡ get_or kept n op → IsLonger old new
    → All (λ s. HasQuotient kept new (operation op) (operation s)) seeds
    → IsGathered gs seeds kept old n → IsGathered gs seeds kept new (n + 1)
gathered_more gs seeds kept old new op n l e t q h = let g = gathered_longer gs seeds kept old new n t h in record {
  generators_in = g.generators_in;
  products_in = λ j m d. elim (cases_lt j n) [
    | inl less ↦ g.products_in j less d
    | inr last ↦ (let p : n ≡ j = omega arith in subst (λ (x : Op). All (λ s. HasQuotient kept new (operation x) (operation s)) seeds) (e
        ∙ get_or_default kept n op d l ∙ ap (λ k. get_or kept k d) p) q)
  ];
}

pub settled_start : (gs seeds kept : List Op) (cs : List Vec3) (n : ℕ) → length kept ≤ n → IsGathered gs seeds kept cs n
    → IsSettled gs seeds kept cs 0
settled_start gs seeds kept cs n l h = record {
  gathered = record { generators_in = h.generators_in; products_in = λ j m. h.products_in j (omega arith) };
  differences = λ i m. absurd (omega arith);
  turned = λ i m. absurd (omega arith);
}

both_longer : (old new : List Vec3) (a b : Vec3) → IsLonger old new → HasBothDifferences old a b → HasBothDifferences new a b
both_longer old new a b t h = (translation_longer old new (vector a ⊖ vector b) t h.0, translation_longer old new (vector b ⊖ vector a) t h.1)

-- what is said of the elements of the shorter list, of those of the longer one
moved : (old new : List Vec3) (P : Vec3 → Type 0) (k : ℕ) → IsLonger old new → k < length old → HoldsAt P old k → HoldsAt P new k
moved old new P k t l h d = subst P (longer-at old new t k d l) (h d)

differences_longer : (old new : List Vec3) (i : ℕ) → IsLonger old new → i < length old
    → HoldsAt (λ a. (j : ℕ) → j ≤ i → HoldsAt (λ b. HasBothDifferences new a b) old j) old i
    → HoldsAt (λ a. (j : ℕ) → j ≤ i → HoldsAt (λ b. HasBothDifferences new a b) new j) new i
differences_longer old new i t l h = moved old new (λ a. (j : ℕ) → j ≤ i → HoldsAt (λ b. HasBothDifferences new a b) new j) i t l
    (λ d j m. moved old new (HasBothDifferences new (get_or old i d)) j t (omega arith) (h d j m))

pub settled_more : (gs seeds kept : List Op) (old mid new : List Vec3) (i : ℕ) → i < length old → IsLonger old mid → IsLonger mid new
    → IsSettled gs seeds kept old i
    → HoldsAt (λ a. (j : ℕ) → j ≤ i → HoldsAt (λ b. HasBothDifferences mid a b) old j) old i
    → HoldsAt (λ c. All (λ g. HasQuotient kept new (operation g) (translation (vector c))) kept) mid i → IsSettled gs seeds kept new (i + 1)
settled_more gs seeds kept old mid new i l s t h both turns = record {
  gathered = gathered_longer gs seeds kept old new (length kept) all h.gathered;
  differences = λ k m. elim (cases_lt k i) [
    | inl less ↦ differences_longer old new k all (omega arith)
        (λ d j q b. both_longer old new (get_or old k d) (get_or old j b) all (h.differences k less d j q b))
    | inr last ↦ (let p : i ≡ k = omega arith in subst (λ n. HoldsAt (λ a. (j : ℕ) → j ≤ n → HoldsAt (λ b. HasBothDifferences new a b) new j) new n) p
        (differences_longer old new i all l (λ d j q b. both_longer mid new (get_or old i d) (get_or old j b) t (both d j q b))))
  ];
  turned = λ k m. elim (cases_lt k i) [
    | inl less ↦ moved old new (λ c. All (λ g. HasQuotient kept new (operation g) (translation (vector c))) kept) k all (omega arith)
        (λ d j b q. has_quotient_longer kept old new (operation (get_or kept j b)) (translation (vector (get_or old k d))) all
        (h.turned k less d j b q))
    | inr last ↦ (let p : i ≡ k = omega
        arith in subst (λ n. HoldsAt (λ c. All (λ g. HasQuotient kept new (operation g) (translation (vector c))) kept) new n) p
        (moved mid new (λ c. All (λ g. HasQuotient kept new (operation g) (translation (vector c))) kept) i t
        (let a : length old ≤ length mid = longer-length old mid s in omega arith) turns))
  ];
}
  where
    all : IsLonger old new
    all = longer_trans old mid new s t
