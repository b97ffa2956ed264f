-- The operations with listed numbers.
--   few_listed              an increasing list of numbers below n is not longer than n
--   reversing_at            an operation with a listed number carries k to -k
--   reversing_numbering     the operations that carry k to -k, by their numbers, are a numbering
use Rattle.std.proofs.Common.{◌≡◌, sym, ◌∙◌, ap, subst, subst₂, refl, ℕ, zero, suc, ◌<◌, ◌≤◌, List, length, get_or}
use Rattle.std.proofs.Common.{slice_index, Contains, arith}
use Rattle.std.proofs.lemmas.List.{get_or_default}
use Rattle.std.proofs.lemmas.List.Elements.{Contains-get_or}
use Rattle.irr_algebra.specs.Fin.{Fin, to_nat}
use Rattle.irr_algebra.specs.Matrix.{◌⊖◌, null}
use Rattle.irr_algebra.proofs.Indices.{from_nat, to_nat-from_nat, to_nat-lt}
use Rattle.irr_space.specs.Operation.{Operation, WaveVector, turned}
use Rattle.irr_space.specs.Reciprocal.{AreEquivalent}
use Rattle.irr_space.specs.CanonicalOperation.{IsNumberedBefore}
use Rattle.irr_seitz.specs.OperationMeaning.{operation}
use Rattle.irr_seitz.specs.declared.op.Op.{Op}
use Rattle.irr_close.specs.Canonical.{numbered}
use Rattle.irr_close.specs.StandsFor.{stands_for}
use Rattle.irr_close.specs.declared.group.Group.{Group}
use Rattle.irr_little.specs.Places.{AreListed}
use Rattle.irr_little.specs.Table.{listed_operations}
use Rattle.irr_little.proofs.Spaces.{canonical_at, numbering_of}
use Rattle.irr_reality.specs.Reality.{AreReversing, IsReversing}
use Rattle.irr_real.specs.Places.{AreReversingPlaces}

increasing_above : (xs : List ℕ) → ((a b : ℕ) → a < b → b < length xs → slice_index xs a < slice_index xs b) → (a : ℕ)
    → a < length xs
    → a ≤ slice_index xs a
increasing_above xs rising zero l = omega arith
increasing_above xs rising (suc a) l =
    let h : a ≤ slice_index xs a = increasing_above xs rising a (omega arith) in
    let r : slice_index xs a < slice_index xs (suc a) = rising a (suc a) (omega arith) l in
    omega arith

pub few_listed : (P : ℕ → Type 0) (n : ℕ) (xs : List ℕ) → AreListed P n xs → length xs ≤ n
few_listed P n xs so = at (length xs) refl
  where
    at : (h : ℕ) → length xs ≡ h → length xs ≤ n
    at zero e = omega arith
    at (suc h) e =
        let l : h < length xs = omega arith in
        let a : h ≤ slice_index xs h = increasing_above xs so.increasing h l in
        let b : slice_index xs h < n = so.below (slice_index xs h) (Contains-get_or xs h 0 l) in
        omega arith

module _ (group : Group) (k : WaveVector) (xs : List ℕ) (places : AreReversingPlaces group k xs) (d : Op) where
  abbrev G : Operation → Type 0
  G = stands_for group

  abbrev made : Fin (length xs) → Operation
  made = listed_operations group (length xs) xs d

  number_in : (i : Fin (length xs)) → Contains xs (slice_index xs (to_nat i))
  number_in i = Contains-get_or xs (to_nat i) 0 (to_nat-lt i)

  inside : (i : Fin (length xs)) → slice_index xs (to_nat i) < length group.ops.items
  inside i = places.below (slice_index xs (to_nat i)) (number_in i)

  place : Fin (length xs) → Fin (length group.ops.items)
  place i = from_nat (length group.ops.items) (slice_index xs (to_nat i)) (inside i)

  place-number : (i : Fin (length xs)) → to_nat (place i) ≡ slice_index xs (to_nat i)
  unfolding place
  place-number i = to_nat-from_nat (length group.ops.items) (slice_index xs (to_nat i)) (inside i)

  place-operation : (i : Fin (length xs)) → numbered group.ops.items d (place i) ≡ made i
  place-operation i = ap (λ n. operation (get_or group.ops.items n d)) (place-number i)

  pub reversing_at : (p : ℕ) → Contains xs p → IsReversing G k (operation (get_or group.ops.items p d))
  reversing_at p c = record {
    member = (canonical_at group d p (places.below p c)).member;
    reverses = places.holds p c
        d;
  }

  found : (g : Operation) → IsReversing G k g → (p : Fin (length group.ops.items)) × (numbered group.ops.items d p ≡ g)
      → (i : Fin (length xs)) × (made i ≡ g)
  found g m t = at (places.all (to_nat t.0) (to_nat-lt t.0) (λ f.
      subst (λ (x : Op). AreEquivalent G (turned k (operation x)) (null ⊖ k))
      (get_or_default group.ops.items (to_nat t.0) d f (to_nat-lt t.0))
      (subst (λ (x : Operation). AreEquivalent G (turned k x) (null ⊖ k)) (sym t.1) m.reverses)))
    where
      at : Contains xs (to_nat t.0) → (i : Fin (length xs)) × (made i ≡ g)
      at c = (
        from_nat (length xs) c.0 c.1,
        ap (λ n. operation (get_or group.ops.items (slice_index xs n) d)) (to_nat-from_nat (length xs) c.0 c.1)
            ∙ ap (λ n. operation (get_or group.ops.items n d)) (get_or_default xs c.0 0 (to_nat t.0) c.1 ∙ c.2) ∙ t.1,
      )

  pub reversing_numbering : AreReversing G k (listed_operations group (length xs) xs d)
  reversing_numbering = record {
    canonical = λ i. canonical_at group d (slice_index xs (to_nat i)) (inside i);
    member = λ i. reversing_at (slice_index xs (to_nat i)) (number_in i);
    all = λ g c m. found g m ((numbering_of group d).all g c tt);
    ordered = λ i j l. subst₂ (λ (f g : Operation). IsNumberedBefore f.rotation g.rotation) (place-operation i)
        (place-operation j)
        ((numbering_of group d).ordered (place i) (place j) (subst₂ (λ a b. a < b) (sym (place-number i))
        (sym (place-number j))
        (places.increasing (to_nat i) (to_nat j) l (to_nat-lt j))));
  }
