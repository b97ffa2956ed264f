-- Seeds without their vectors, and what follows for `close`.
--   bare_numbers, bare_small, bare_refused, bare_few     they may be closed, and are refused where the generators are
--   seeds_refusal, centrings_refusal                     the refusals of the steps are those of the whole
--   is_closing                                           the closed lists have a canonical form
--   group_stands                                         the closed lists stand for the generated group
use Rattle.std.proofs.Common.{map, refl}
use Rattle.std.proofs.lemmas.List.{length-map, get_or-map}
use Rattle.irr_algebra.specs.Matrix.{◌⊖◌}
use Rattle.irr_algebra.proofs.Matrices.{sub-null}
use Rattle.irr_space.specs.Operation.{Vector, identity, translation}
use Rattle.irr_rat.specs.VectorMeaning.{vector}
use Rattle.irr_close.specs.Whole.{IsWholeVector}
use Rattle.irr_close.specs.Limits.{HasFewCentrings}
use Rattle.irr_close.specs.Centring.{HasTranslation}
use Rattle.irr_close.specs.Canonical.{IsClosing}
use Rattle.irr_close.specs.StandsFor.{IsAccepted}
use Rattle.irr_close.proofs.Standing.{whole_in, difference_in, same_index}
use Rattle.std.proofs.Common.{◌≡◌, sym, ◌∙◌, ap, subst, ℕ, ◌<◌, ◌≤◌, ◌↔◌, List, [], ◌∷◌, length, get_or, unsigned_abs, arith}
use Rattle.std.specs.List.{All, Contains}
use Rattle.std.specs.Int.{◌∣◌}
use native.Mathlib.Nat as Nat
use Rattle.irr_rational.specs.Ratio.{entry}
use Rattle.irr_space.specs.Operation.{Operation}
use Rattle.irr_space.specs.SpaceGroup.{Generated}
use Rattle.irr_rat.specs.declared.vec3.Vec3.{Vec3}
use Rattle.irr_seitz.specs.Rotation.{IsWithin}
use Rattle.irr_seitz.specs.OperationMeaning.{operation}
use Rattle.irr_seitz.specs.declared.op.Op.{Op}
use Rattle.irr_close.specs.declared.CloseError.{CloseError}
use Rattle.irr_close.specs.declared.CloseError.TheVariants.{Rotations, Denominator, Centrings, Memory}
use Rattle.irr_close.specs.Limits.{operations, HasFewRotations, HasSmallDenominator}
use Rattle.irr_close.specs.Closing.{IsGenerator, IsPartial, HasRotation, HasProducts, IsOneOf, AreSeeds, IsClosingRefusal}
use Rattle.irr_close.specs.Centring.{AreInvertible, IsPartialLattice, IsSettled, IsLatticeRefusal}
use Rattle.irr_close.specs.Standing.{StandFor}
use Rattle.irr_close.specs.Bare.{AreBare}
use Rattle.irr_close.specs.Canonical.{IsClosing}
use Rattle.irr_close.specs.StandsFor.{IsRefusal}
use Rattle.irr_close.proofs.Standing.{whole_in, difference_in, contained_place, stands_for_generated}
use Rattle.irr_close.proofs.Seeds.{seed_generated, few_of_seeds, few_kept}
use Rattle.irr_close.proofs.Rotating.{kept_rotations, few_along, seeded_all, kept_all, HasGeneratedRotation}

pub first_of : {X : Type 0} (xs : List X) → 0 < length xs → X
first_of [] h = absurd (omega arith)
first_of (x ∷ xs) h = x

pub bare_numbers : (ops bare : List Op) → AreBare ops bare (length ops) → All IsGenerator ops → All IsGenerator bare
bare_numbers ops bare b all k d l = let m : k < length ops = (let e = b.long in omega arith) in record {
  within = subst (IsWithin 9) (sym (b.same k m d d)) (all k d m).within;
  numerators = λ i. (let a : unsigned_abs (entry (get_or bare k d).num i) ≤ 0 = (b.bare_all k d l).numerators i in omega arith);
}

pub bare_small : (ops bare : List Op) (n : ℕ) → AreBare ops bare n → HasSmallDenominator bare
bare_small ops bare n b = record {
  common = 1;
  positive = omega arith;
  small = omega arith;
  multiple = λ k d l. subst (λ n. n ∣ 1) (sym (b.bare_all k d l).denominator) (Nat.dvd_refl 1);
}

few_bare : (gs seeds bare : List Op) → AreBare seeds bare (length seeds) → All (IsOneOf gs) seeds → HasFewRotations (operations gs)
    → HasFewRotations (operations bare)
few_bare gs seeds bare b from few = few_along (operations bare) (operations gs) (λ s m. found bare b s m) few
  where
    found : (xs : List Op) → AreBare seeds xs (length seeds) → (s : Operation) → Contains (operations xs) s
        → HasGeneratedRotation (operations gs) s.rotation
    found [] c s m = absurd (let l : m.0 < 0 = m.1 in omega arith)
    found (x ∷ xs) c s m = let p = contained_place (x ∷ xs) s x m in
        let l : m.0 < length seeds = (let e = c.long in let q = p.0 in omega arith) in (
          operation (get_or seeds m.0 x),
          seed_generated gs (get_or seeds m.0 x) (from m.0 x l),
          sym (c.same m.0 l x x)
              ∙ ap (λ (g : Operation). g.rotation) p.1,
        )

bare_seeded : (gs seeds bare : List Op) → AreBare seeds bare (length seeds) → All (λ s. HasRotation seeds (operation s).rotation) gs
    → All (λ s. HasRotation bare (operation s).rotation) gs
bare_seeded gs seeds bare b all k d l = let h = all k d l in
    (h.0, (let e = b.long in let m : h.0 < length seeds = h.1 in omega arith), λ f. b.same h.0 h.1 f f ∙ h.2 f)

pub bare_refused : (gs seeds bare : List Op) (e : CloseError) → AreBare seeds bare (length seeds) → All (IsOneOf gs) seeds → IsClosingRefusal bare e
    → IsRefusal gs e
bare_refused gs seeds bare Rotations b from h = λ few. h (few_bare gs seeds bare b from few)
bare_refused gs seeds bare Denominator b from h = absurd h
bare_refused gs seeds bare Centrings b from h = absurd h
bare_refused gs seeds bare Memory b from h = h

pub bare_few : (gs seeds bare kept : List Op) → AreInvertible gs → AreSeeds gs seeds (length gs) → AreBare seeds bare (length seeds)
    → IsPartial bare kept
    → All (λ g. HasProducts kept (operation g).rotation bare (length bare)) kept → HasFewRotations (operations gs)
bare_few gs seeds bare kept inv s b partial products = few_kept gs bare kept inv (bare_seeded gs seeds bare b (seeded_all gs seeds s)) partial
    products (first_of kept partial.nonempty)

pub seeds_refusal : (gs seeds : List Op) (e : CloseError) → All (IsOneOf gs) seeds → IsClosingRefusal seeds e → IsRefusal gs e
seeds_refusal gs seeds Rotations from h = λ few. h (few_of_seeds gs seeds from few)
seeds_refusal gs seeds Denominator from h = absurd h
seeds_refusal gs seeds Centrings from h = absurd h
seeds_refusal gs seeds Memory from h = h

pub closing_refusal : (gs : List Op) (e : CloseError) → IsClosingRefusal gs e → IsRefusal gs e
closing_refusal gs Rotations h = h
closing_refusal gs Denominator h = absurd h
closing_refusal gs Centrings h = absurd h
closing_refusal gs Memory h = h

pub memory_refusal : (gs : List Op) (e : CloseError) → e ≡ Memory → IsRefusal gs e
memory_refusal gs e h = subst (IsRefusal gs) (sym h) tt

pub centrings_refusal : (gs seeds kept : List Op) (e : CloseError) → AreInvertible gs → AreSeeds gs seeds (length gs) → IsPartial seeds kept
    → All (λ g. HasProducts kept (operation g).rotation seeds (length seeds)) kept → HasSmallDenominator gs → IsLatticeRefusal gs e → IsRefusal gs e
centrings_refusal gs seeds kept Rotations inv s partial products small h = absurd h
centrings_refusal gs seeds kept Denominator inv s partial products small h = absurd h
centrings_refusal gs seeds kept Centrings inv s partial products small h =
    (few_kept gs seeds kept inv (seeded_all gs seeds s) partial products (first_of kept partial.nonempty), small, h)
centrings_refusal gs seeds kept Memory inv s partial products small h = h

pub group_stands : (gs seeds kept : List Op) (cs : List Vec3) → AreInvertible gs → AreSeeds gs seeds (length gs) → IsPartial seeds kept
    → All (λ g. HasProducts kept (operation g).rotation seeds (length seeds)) kept → IsPartialLattice gs cs → IsSettled gs seeds kept cs (length cs)
    → (g : Operation) → StandFor kept cs g ↔ Generated (operations gs) g
group_stands gs seeds kept cs inv s partial products lattice settled g = stands_for_generated gs seeds kept cs inv (seeded_all gs seeds s) s.from_list partial lattice settled
    (first_of kept partial.nonempty) (first_of cs lattice.nonempty)
    (λ k d l. (kept_all gs seeds kept inv s partial products k d l).generated) g

unit_rotation : (t : Vector) → (translation t).rotation ≡ identity.rotation
unfolding translation identity
unit_rotation t = refl

shift_of : (t : Vector) → (translation t).vector ⊖ identity.vector ≡ t
unfolding translation identity
shift_of t = sub-null t

pub few_centrings : (gs seeds kept : List Op) (cs : List Vec3) → AreInvertible gs → AreSeeds gs seeds (length gs) → IsPartial seeds kept
    → All (λ g. HasProducts kept (operation g).rotation seeds (length seeds)) kept → IsPartialLattice gs cs → IsSettled gs seeds kept cs (length cs)
    → HasFewCentrings (operations gs)
few_centrings gs seeds kept cs inv s partial products lattice settled = record {
  centrings = map vector cs;
  few = (let e : length (map vector cs) ≡ length cs = length-map cs vector in let f : length cs ≤ 32 = lattice.few in omega arith);
  all = λ t h. near t ((group_stands gs seeds kept cs inv s partial products lattice settled (translation t)).1 h);
}
  where
    near : (t : Vector) → StandFor kept cs (translation t) → (c : Vector) × Contains (map vector cs) c × IsWholeVector (t ⊖ c)
    near t q =
        let d = first_of kept partial.nonempty in
        let e = first_of cs lattice.nonempty in
        let zero : q.0 ≡ 0 = same_index kept d partial.distinct q.0 0 q.1 partial.nonempty (sym (q.2 d).0 ∙ unit_rotation t
        ∙ ap (λ (g : Operation). g.rotation) (sym (partial.identity_first d))) in
        let h : HasTranslation cs t = subst (HasTranslation cs) (ap (λ n. (translation t).vector ⊖ (operation (get_or kept n d)).vector) zero
        ∙ ap (λ (g : Operation). (translation t).vector ⊖ g.vector) (partial.identity_first d) ∙ shift_of t) (q.2 d).1 in (
          vector (get_or cs h.0 e),
          (
            h.0,
            (let f : length (map vector cs) ≡ length cs = length-map cs vector in let l : h.0 < length cs = h.1 in omega arith),
            get_or-map
                vector cs h.0 e (vector (get_or cs h.0 e)) h.1,
          ),
          h.2 e,
        )

pub accepted : (gs seeds kept : List Op) (cs : List Vec3) → AreInvertible gs → AreSeeds gs seeds (length gs) → IsPartial seeds kept
    → All (λ g. HasProducts kept (operation g).rotation seeds (length seeds)) kept → IsPartialLattice gs cs → IsSettled gs seeds kept cs (length cs)
    → HasSmallDenominator gs → IsAccepted gs
accepted gs seeds kept cs inv s partial products lattice settled small = record {
  rotations = few_kept gs seeds kept inv (seeded_all gs seeds s) partial products (first_of kept partial.nonempty);
  denominator = small;
  centrings = few_centrings gs seeds kept cs inv s partial products lattice settled;
}

pub is_closing : (gs seeds kept : List Op) (cs : List Vec3) → AreInvertible gs → AreSeeds gs seeds (length gs) → IsPartial seeds kept
    → All (λ g. HasProducts kept (operation g).rotation seeds (length seeds)) kept → IsPartialLattice gs cs → IsSettled gs seeds kept cs (length cs)
    → HasSmallDenominator gs → IsClosing kept cs
is_closing gs seeds kept cs inv s partial products lattice settled small =
    let all = kept_all gs seeds kept inv s partial products in
    let e = first_of cs lattice.nonempty in
    record {
      nonempty = partial.nonempty;
      identity_first = partial.identity_first;
      few = partial.few;
      reduced = λ k d l. record { within = (all k d l).within; in_cell = (all k d l).in_cell };
      distinct = partial.distinct;
      has_centring = lattice.nonempty;
      few_centrings = lattice.few;
      in_cell = λ k d l. (lattice.centrings k d l).in_cell;
      distinct_centrings = lattice.distinct;
      lattice = record { whole = whole_in gs seeds kept cs lattice settled e; difference = difference_in gs seeds kept cs lattice settled e };
      rotations = kept_rotations gs seeds kept inv s partial products;
      denominator = record {
        common = small.common;
        positive = small.positive;
        small = small.small;
        kept_divide = λ k d l. (all k d l).divides small.common small.positive small.multiple;
        divide = λ k d l. (lattice.centrings k d l).divides small.common small.positive small.multiple;
      };
    }
