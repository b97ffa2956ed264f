-- The families over one member of a full list, from what makes them.
--   member_read, member_sized    the family of the program at the place of a member
--   turn_fixed, turn_free        whether a member is its own turn, by the list of turns
--   turns_inside             the turns are places of the list
--   sized_of_one             the sizes of one family
--   fixed_family                 a member that is its own turn is equivalent to its conjugate
--   over_fixed, over_least, over_other      the families over it
--   over_at                  the list of turns may be read elsewhere
use Rattle.std.specs.Prelude.{ℕ, ◌≡◌, ◌<◌, ◌⊎◌, List, [], ◌∷◌, length, slice_index}
use Rattle.std.proofs.Common.{sym, ◌∙◌, ap, subst, get_or}
use Rattle.std.proofs.lemmas.List.Elements.{All-get_or, All-nil, All-push}
use Rattle.irr_algebra.specs.Fin.{Fin, to_nat}
use Rattle.irr_algebra.specs.Action.{Equivalent}
use Rattle.irr_algebra.specs.Pair.{times}
use Rattle.irr_algebra.proofs.Indices.{from_nat, to_nat-from_nat, to_nat-lt, to_nat_inj}
use Rattle.irr_number.proofs.NumberField.{number_field}
use Rattle.irr_theory.specs.Representations.{IsFull, Representations}
use Rattle.irr_clifford.specs.Cyclic.{conjugate}
use Rattle.irr_ascent.specs.Joined.{listed, none}
use Rattle.irr_ascent.specs.Over.{IsLeastOfOrbit}
use Rattle.irr_ascent.proofs.Members.{extensions_over, induced_over, none_over}
use Rattle.irr_cyc.specs.declared.scalars.Scalar.{Ghosts}
use Rattle.irr_rep.specs.declared.family.Family.{Family}
use Rattle.irr_rep.specs.Twisted.{place_count}
use Rattle.irr_climb.specs.declared.step.Step.{Step}
use Rattle.irr_climb.specs.Families.{AreRead, IsRead}
use Rattle.irr_climb.specs.Sizes.{AreSized, IsSized}
use Rattle.irr_climb.specs.Steps.{AreExtensions, AreFamiliesOver, AreTurns, IsFixedFamily, IsInducedFamily, IsStep, large, small}
use Rattle.irr_climb.proofs.FamilyLists.{read_none, read_one}
use Rattle.irr_climb.proofs.FullRows.{square_few}

-- the turns are places of the list
pub turns_inside : {M : ℕ} {step : Step} (is : IsStep M step) (L : Representations (small is)) (ts : List ℕ) (turns : AreTurns is L ts)
    → (k : ℕ) → k < length ts → slice_index ts k < length ts
turns_inside is L ts turns k below =
    let inside = subst (λ n. k < n) turns.count below in
    let p = from_nat L.count k inside in
    let e = to_nat-from_nat L.count k inside in
    subst (λ n. slice_index ts k < n) (sym turns.count)
    (subst (λ i. i < L.count) (sym (turns.listed_turn p) ∙ ap (slice_index ts) e) (to_nat-lt (turns.turn p)))

pub sized_of_one : {S : Type 0} {G : Ghosts S} (M n : ℕ) (fs : List (Family S G)) (f : Family S G) → fs ≡ f ∷ [] → IsSized M n f → AreSized M n fs
sized_of_one {S} {G} M n fs f e s = subst (λ gs. AreSized M n gs) (sym e)
    (All-push (λ (g : Family S G). IsSized M n g) [] f (All-nil (λ (g : Family S G). IsSized M n g)) s)

module _ {M : ℕ} {step : Step} (is : IsStep M step) (L : Representations (small is)) (full : IsFull L)
    (ts : List ℕ) (turns : AreTurns is L ts) (k : Fin L.count) (l : ℕ) (at : to_nat k ≡ l) where
  pub turn_fixed : slice_index ts l ≡ l → turns.turn k ≡ k
  turn_fixed e = to_nat_inj (turns.turn k) k (sym (turns.listed_turn k) ∙ ap (slice_index ts) at ∙ e ∙ sym at)

  pub turn_free : (slice_index ts l ≡ l → ⊥) → turns.turn k ≡ k → ⊥
  turn_free n e = n (sym (ap (slice_index ts) at) ∙ turns.listed_turn k ∙ ap to_nat e ∙ at)

  module _ {S : Type 0} {G : Ghosts S} (fs : List (Family S G)) (read : AreRead M (small is) L fs) (sized : AreSized M (place_count step.inner) fs)
      (f : Family S G) (own : f ≡ get_or fs l f) where
    pub member_read : IsRead M (small is) (L.member k) f
    member_read = subst (IsRead M (small is) (L.member k)) (ap (λ i. get_or fs i f) at ∙ sym own) (read.read k f)

    inside : l < length fs
    inside = subst (λ i. i < length fs) at (subst (λ n. to_nat k < n) (sym read.count) (to_nat-lt k))

    pub member_sized : IsSized M (place_count step.inner) f
    member_sized = subst (IsSized M (place_count step.inner)) (sym own)
        (All-get_or (λ (g : Family S G). IsSized M (place_count step.inner) g) fs l f inside sized)

    pub fixed_family : turns.turn k ≡ k → IsFixedFamily is (L.member k) f
    fixed_family e = record {
      read = member_read;
      sized = member_sized;
      positive = full.positive k;
      few = square_few L full k;
      simple = full.simple k;
      fixed = subst (λ m. Equivalent (conjugate is.quotient (L.member k)) (L.member m).at) e (turns.turns_to k);
    }

  pub over_fixed : {S : Type 0} {G : Ghosts S} → turns.turn k ≡ k → (gs : List (Family S G)) → AreExtensions is (L.member k) gs
      → AreFamiliesOver is L turns.turn k gs
  over_fixed {S} {G} fixed gs e = record {
    list = listed (L.size k) e.extension;
    over = extensions_over (number_field M is.positive) is.quotient L full turns.turn k fixed e.matrix e.stands e.roots e.extension e.extends;
    read = e.read;
  }

  least_here : IsLeastOfOrbit turns.turn step.index k → IsLeastOfOrbit turns.turn is.quotient.index k
  least_here h = subst (λ p. IsLeastOfOrbit turns.turn p k) is.index h

  pub over_least : {S : Type 0} {G : Ghosts S} → (turns.turn k ≡ k → ⊥) → IsLeastOfOrbit turns.turn step.index k → (g : Family S G)
      → IsInducedFamily is (L.member k) g
      → AreFamiliesOver is L turns.turn k (g ∷ [])
  over_least {S} {G} free least g e = record {
    list = listed (times is.quotient.index (L.size k)) (λ (i : Fin 1). e.family);
    over = induced_over is.quotient L turns.turn k e.family free (least_here least) e.induced;
    read = read_one M (large is) e.family g e.read;
  }

  pub over_other : {S : Type 0} {G : Ghosts S} → (turns.turn k ≡ k → ⊥) → (IsLeastOfOrbit turns.turn step.index k → ⊥)
      → AreFamiliesOver {S = S} {G = G} is L turns.turn k []
  over_other {S} {G} free other = record {
    list = none (large is);
    over = none_over is.quotient L turns.turn k free (λ h. other (subst (λ p. IsLeastOfOrbit turns.turn p k) (sym is.index) h));
    read = read_none M (large is);
  }

pub over_at : {S : Type 0} {G : Ghosts S} {M : ℕ} {step : Step} (is : IsStep M step) (L : Representations (small is)) (ts us : List ℕ) → us ≡ ts
    → (turns : AreTurns is L ts) (k : Fin L.count) (gs : List (Family S G)) → ((other : AreTurns is L us) → AreFamiliesOver is L other.turn k gs)
    → AreFamiliesOver is L turns.turn k gs
over_at is L ts us e turns k gs h =
    subst (λ vs. ((other : AreTurns is L vs) → AreFamiliesOver is L other.turn k gs) → AreFamiliesOver is L turns.turn k gs) (sym e) (λ f. f turns) h
