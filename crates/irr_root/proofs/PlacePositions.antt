-- Positions in a list of places.
--   placed-none, placed-next         the positions of no place, and of one more
--   position_of                      the positions as a function from the places to the members of a subgroup
--   position_of-number, position_of-member     its number, and its value at a member
use Rattle.std.proofs.Common.{◌≡◌, sym, ◌∙◌, ap, refl, subst, ℕ, ◌+◌, ◌<◌, ◌≤◌, List, [], ◌∷◌, ◌++◌, get_or, length, slice_index, arith}
use native.Mathlib.Decide.{dec_le}
use Rattle.std.proofs.Math.ListN.{get_or-append, length-append}
use Rattle.std.proofs.Math.Seq.{get_or-append_seam}
use Rattle.std.proofs.lemmas.List.Elements.{All-get_or, All-push}
use Rattle.irr_algebra.specs.Ring.{Ring}
use Rattle.irr_algebra.specs.Fin.{Fin, to_nat}
use Rattle.irr_algebra.proofs.Indices.{from_nat, to_nat-from_nat, to_nat-lt, to_nat_inj}
use Rattle.irr_theory.specs.FactorSystem.{FactorSystem}
use Rattle.irr_clifford.specs.Subgroup.{Subgroup}
use Rattle.irr_root.specs.Positions.{ArePositionsIn}

pub placed-none : (members : List ℕ) → ArePositionsIn members 0 []
placed-none members = record {
  count = refl;
  within = λ i d l. absurd (omega (arith, l));
  placed = λ k l m. absurd (omega (arith, m));
}

pub placed-next : (members : List ℕ) (a : ℕ) (ps : List ℕ) (p : ℕ) → ArePositionsIn members a ps → p < length members
    → ((k : ℕ) → k < length members → slice_index members k ≡ a → p ≡ k) → ArePositionsIn members (a + 1) (ps ++ p ∷ [])
placed-next members a ps p now l is = record {
  count = length-append ps (p ∷ []) ∙ ap (λ n. n + 1) now.count;
  within = All-push (λ (k : ℕ). k < length members) ps p now.within l;
  placed = λ k below m. cases k below m (dec_le a (slice_index members k));
}
  where
    cases : (k : ℕ) → k < length members → slice_index members k < a + 1 → Dec (a ≤ slice_index members k)
        → slice_index (ps ++ p ∷ []) (slice_index members k) ≡ k
    cases k below m (no f) =
        let early : slice_index members k < a = omega (arith, f) in
        get_or-append ps (p ∷ []) 0 (slice_index members k) (subst (λ n. slice_index members k < n) (sym now.count) early) ∙ now.placed k below early
    cases k below m (yes f) =
        let last : slice_index members k ≡ a = omega (arith, m, f) in
        ap (λ n. get_or (ps ++ p ∷ []) n 0) (last ∙ sym now.count) ∙ get_or-append_seam ps p [] 0 ∙ is k below last

module _ {R : Ring} {T : FactorSystem R} (H : Subgroup T) (members positions : List ℕ) (count : H.table.places ≡ length members)
    (are : ArePositionsIn members T.places positions) where
  position-lt : (a : Fin T.places) → slice_index positions (to_nat a) < H.table.places
  position-lt a = subst (λ n. slice_index positions (to_nat a) < n) (sym count)
      (All-get_or (λ (k : ℕ). k < length members) positions (to_nat a) 0 (subst (λ n. to_nat a < n) (sym are.count) (to_nat-lt a)) are.within)

  pub position_of : Fin T.places → Fin H.table.places
  position_of a = from_nat H.table.places (slice_index positions (to_nat a)) (position-lt a)

  pub position_of-number : (a : Fin T.places) → slice_index positions (to_nat a) ≡ to_nat (position_of a)
  unfolding position_of
  position_of-number a = sym (to_nat-from_nat H.table.places (slice_index positions (to_nat a)) (position-lt a))

  pub position_of-member : ((i : Fin H.table.places) → slice_index members (to_nat i) ≡ to_nat (H.member i)) → (n : Fin H.table.places)
      → position_of (H.member n) ≡ n
  position_of-member at n =
      let l : to_nat n < length members = subst (λ m. to_nat n < m) count (to_nat-lt n) in
      to_nat_inj (position_of (H.member n)) n (sym (position_of-number (H.member n)) ∙ ap (slice_index positions) (sym (at n))
      ∙ are.placed (to_nat n) l (subst (λ m. m < T.places) (sym (at n)) (to_nat-lt (H.member n))))
