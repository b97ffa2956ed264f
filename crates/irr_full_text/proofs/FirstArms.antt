-- The first arm of a star.
--   first_arm      the star has an arm
--   first_wave     the first one is the reduced wave vector
use Rattle.std.proofs.Common.{◌≡◌, sym, ◌∙◌, ap, subst, inl, inr, ℕ, ◌<◌, ◌≤◌, arith}
use Rattle.std.proofs.lemmas.Bool.{cases_lt}
use Rattle.irr_algebra.specs.Fin.{Fin, to_nat}
use Rattle.irr_algebra.proofs.Indices.{from_nat, to_nat-from_nat, to_nat-lt, to_nat_inj}
use Rattle.irr_space.specs.Operation.{Operation, WaveVector, identity}
use Rattle.irr_space.specs.Reciprocal.{AreEquivalent, IsReduced}
use Rattle.irr_space.specs.CanonicalOperation.{IsCanonicalOperation, IsNumbering}
use Rattle.irr_space.specs.Star.{Carries, IsInStar, IsArms}
use Rattle.irr_cocycle.specs.SpaceGroupLaws.{IsGroup, HasCanonical}
use Rattle.irr_cocycle.proofs.Operations.{rotation-identity, turned-identity, turned-rotation}
use Rattle.irr_cocycle.proofs.Reciprocals.{equivalent_refl, equivalent_sym, equivalent_trans}

-- what stands before nothing stands at 0
none_before : {n : ℕ} (i : Fin n) → ((z : Fin n) → to_nat z < to_nat i → ⊥) → to_nat i ≡ 0
none_before {n} i none = elim (cases_lt 0 (to_nat i)) [
  | inl behind ↦ (
      let start : 0 < n = let l : to_nat i < n = to_nat-lt i in omega (arith, l) in
      let at : to_nat (from_nat n 0 start) ≡ 0 = to_nat-from_nat n 0 start in
      absurd (none (from_nat n 0 start) (omega (arith, at, behind))))
  | inr here ↦ omega (arith, here)
]

module _ (G : Operation → Type 0) (group : IsGroup G) (has : HasCanonical G) (k : WaveVector) {n a : ℕ}
    (ops : Fin n → Operation)
    (numbering : IsNumbering G (λ _. Unit {0}) ops) (arm : Fin a → WaveVector) (number : Fin a → Fin n)
    (arms : IsArms G k ops arm number) where
  canonical : (c : Operation) × IsCanonicalOperation G c × (c.rotation ≡ identity.rotation)
  canonical = has identity group.has_identity

  -- the number of the operation with the unit rotation
  start : (u : Fin n) × (ops u ≡ canonical.0)
  start = numbering.all canonical.0 canonical.1 tt

  rotation : (ops start.0).rotation ≡ identity.rotation
  rotation = ap (λ (g : Operation). g.rotation) start.1 ∙ canonical.2

  start_first : to_nat start.0 ≡ 0
  start_first = none_before start.0 (λ z l. (numbering.ordered z start.0 l).0 (rotation ∙ rotation-identity))

  in_star : IsInStar G k k
  in_star = record {
    operation = identity;
    member = group.has_identity;
    carries = record { image = k; turned_back = turned-identity k; equivalent = equivalent_refl G k };
  }

  found : (i : Fin a) × AreEquivalent G k (arm i)
  found = arms.all k in_star

  carried : Carries G (ops start.0) k (arm found.0)
  carried = record {
    image = k;
    turned_back = turned-rotation k (ops start.0) identity rotation ∙ turned-identity k;
    equivalent = equivalent_sym G k (arm found.0) found.1;
  }

  found_first : to_nat found.0 ≡ 0
  found_first = none_before found.0 (λ z l.
      let before : to_nat (number z) < to_nat (number found.0) = arms.ordered z found.0 l in
      let least : to_nat (number found.0) ≤ to_nat start.0 = arms.is_first found.0 start.0 carried in
      omega (arith, before, least, start_first))

  pub first_arm : 0 < a
  first_arm = let l : to_nat found.0 < a = to_nat-lt found.0 in omega (arith, l)

  found_reduced : IsReduced G k (arm found.0)
  found_reduced = let r = arms.reduced found.0 in record {
    equivalent = equivalent_sym G k (arm found.0) found.1;
    no_negative = r.no_negative;
    least = λ w e m. r.least w (equivalent_trans G w k (arm found.0) e found.1) m;
  }

  pub first_wave : (z : Fin a) → to_nat z ≡ 0 → IsReduced G k (arm z)
  first_wave z e = subst (λ i. IsReduced G k (arm i)) (to_nat_inj found.0 z (found_first ∙ sym e)) found_reduced
