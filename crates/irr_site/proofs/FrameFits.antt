-- What the calls on a frame ask for.
--   listed_all           listed numbers are below
--   rows_within          what is left fits the rows of the site group
--   small_row            the traces of a small representation are a small row
--   repeated             one number so many times
use Rattle.std.proofs.Common.{◌≡◌, sym, ◌∙◌, ap, subst, refl, ℕ, zero, suc, ◌<◌, ◌≤◌, List, [], ◌∷◌, length, get_or, slice_index, Vec, arith}
use Rattle.std.specs.Prelude.{Option, Some, None}
use Rattle.std.specs.Global.{Global}
use Rattle.std.specs.List.{All}
use Rattle.std.specs.Int.{◌∣◌}
use Rattle.std.proofs.lemmas.List.{get_or_default}
use Rattle.std.proofs.lemmas.List.Elements.{Contains-get_or}
use Rattle.irr_algebra.specs.Fin.{Fin, to_nat}
use Rattle.irr_algebra.specs.Matrix.{trace}
use Rattle.irr_algebra.proofs.Indices.{from_nat, to_nat-from_nat, to_nat-lt}
use Rattle.irr_number.specs.Number.{Number}
use Rattle.irr_theory.specs.FactorSystem.{Representation}
use Rattle.irr_canonical.specs.RootSum.{IsRootSum}
use Rattle.irr_canonical.proofs.RootSums.{IsRootSum-more}
use Rattle.irr_space.specs.Operation.{Operation, Vector, WaveVector}
use Rattle.irr_space.specs.Reciprocal.{Sign}
use Rattle.irr_space.specs.PhaseTable.{PhaseTable, phases_over}
use Rattle.irr_space.specs.CompleteList.{over}
use Rattle.irr_rep.proofs.TraceRoots.{trace-IsRootSum}
use Rattle.irr_rep.specs.Twisted.{place_count}
use Rattle.irr_rep.specs.declared.table.Twisted.{Twisted}
use Rattle.irr_close.specs.declared.group.Group.{Group}
use Rattle.irr_char.specs.Characters.{IsRowOf, IsSmallRow}
use Rattle.irr_little.specs.Places.{AreListed}
use Rattle.irr_mult.specs.declared.star.SmallCharacter.{SmallCharacter}
use Rattle.irr_mult.specs.StarParts.{IsCharacterOf}
use Rattle.irr_orbit.specs.Site.{Orbit}
use Rattle.irr_site.specs.Families.{Frame}
use Rattle.irr_site.specs.Rests.{AreRests, IsRestAt}
use Rattle.irr_site.specs.Traces.{AreRestsWithin, AreRowsWithin, FitsIn}
use Rattle.irr_site.specs.declared.rest.Rest.{Rest}

pub listed_all : (P : ℕ → Type 0) (n : ℕ) (xs : List ℕ) → AreListed P n xs → All (λ p. p < n) xs
listed_all P n xs so k d l = subst (λ p. p < n) (get_or_default xs k 0 d l) (so.below (slice_index xs k) (Contains-get_or xs k 0 l))

pub repeated : {A : Type 0} → ℕ → A → List A
repeated zero x = []
repeated (suc n) x = x ∷ repeated n x

pub repeated-at : {A : Type 0} (n p : ℕ) (x d : A) → p < n → get_or (repeated n x) p d ≡ x
unfolding repeated
repeated-at zero p x d l = absurd (omega (arith, l))
repeated-at (suc n) zero x d l = refl
repeated-at (suc n) (suc p) x d l = repeated-at n p x d (omega (arith, l))

fits_at : (s : Sign) (k : WaveVector) (N : ℕ) {G : Operation → Type 0} {x : Vector} (O : Orbit G x) (g : Operation)
    (a : Fin O.sites) (r : Option Rest) → IsRestAt s k N O g a r → (h : ℕ) → O.places ≡ h → FitsIn N h r
unfolding IsRestAt FitsIn
fits_at s k N O g a (Some q) at h e = (at.is_phase.below, subst (λ m. m < h) at.number (subst (λ m. to_nat at.place < m) e (to_nat-lt at.place)))
fits_at s k N O g a None at h e = tt

pub rests_within : (s : Sign) (k : WaveVector) (N : ℕ) {G : Operation → Type 0} {x : Vector} (O : Orbit G x) (g : Operation)
    (rs : List (Option Rest)) → AreRests s k N O g rs → (h : ℕ) → O.places ≡ h → AreRestsWithin N h rs
rests_within s k N O g rs are h e b d l =
    let m : b < O.sites = subst (λ n. b < n) are.count l in
    let a = from_nat O.sites b m in
    subst (λ n. FitsIn N h (get_or rs n d)) (to_nat-from_nat O.sites b m)
    (fits_at s k N O g a (get_or rs (to_nat a) d) (are.each a d) h e)

module _ {S : Type 0} {order : S → ℕ} {value : (n : ℕ) → S → Number n} {group : Group} {x : Vector} {k : WaveVector}
    {n : ℕ} {t : Twisted} {small : List (SmallCharacter S)} {rows : List (Vec (Option Rest) Global)}
    {cs : List (SmallCharacter S)} {sites : ℕ} (f : Frame order value group x k n t small rows cs sites) where
  pub rows_within : (h : ℕ) → f.orbit.places ≡ h → AreRowsWithin n h rows
  rows_within h e b d l =
      let m : b < place_count t = subst (λ c. b < c) f.rests.count l in
      let i = from_nat (place_count t) b m in
      let are = f.rests.each i d in
      subst (λ c. (length (get_or rows c d).items ≤ 48) × AreRestsWithin n h (get_or rows c d).items) (to_nat-from_nat (place_count t) b m) (
        subst (λ c. c ≤ 48) (sym (are.count ∙ f.count)) f.few,
        rests_within _ k n f.orbit _ (get_or rows (to_nat i) d).items are h e,
      )

pub small_row : {S : Type 0} (order : S → ℕ) (value : (n : ℕ) → S → Number n) {h : ℕ} (T : PhaseTable h) (M : ℕ) → 0 < M
    → (v : T.order ∣ M) (d : ℕ) (A : Representation (phases_over T M v) d) → d ≤ 48 → (row : List S)
    → IsRowOf order value M (λ i. trace (A.at i)) row → IsSmallRow order value M h row
small_row order value T M positive v d A few row is = record {
  count = is.count;
  orders = is.orders;
  small = λ i. subst (IsRootSum M 48 1) (sym (is.numbers_at i)) (IsRootSum-more M 48 few (trace-IsRootSum M positive T v A i));
}
