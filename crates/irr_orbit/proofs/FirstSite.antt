-- The first site is the point itself.
--   first_site
use Rattle.std.proofs.Common.{◌≡◌, sym, ◌∙◌, ap, refl, ℕ, zero, suc, ◌<◌, ◌≤◌, arith}
use Rattle.irr_algebra.specs.Fin.{Fin, to_nat}
use Rattle.irr_algebra.proofs.Indices.{from_nat, to_nat-from_nat, to_nat-lt, to_nat_inj}
use Rattle.irr_space.specs.Operation.{Operation, Vector, identity}
use Rattle.irr_space.specs.CanonicalOperation.{IsCanonicalOperation}
use Rattle.irr_cocycle.specs.SpaceGroupLaws.{IsGroup, HasCanonical}
use Rattle.irr_cocycle.proofs.Operations.{rotation-identity}
use Rattle.irr_cocycle.proofs.Numberings.{unit_first}
use Rattle.irr_orbit.specs.Site.{Orbit, image, carrier, site}
use Rattle.irr_orbit.proofs.Points.{image-identity}
use Rattle.irr_full.proofs.StarLaws.{canonical_unit}

module _ (G : Operation → Type 0) (group : IsGroup G) (chosen : HasCanonical G) {x : Vector} (O : Orbit G x) where
  identity_place : (i : Fin O.count) × (O.canonical i ≡ identity)
  identity_place = from_chosen (chosen identity group.has_identity)
    where
      from_chosen : (c : Operation) × IsCanonicalOperation G c × (c.rotation ≡ identity.rotation) → (i : Fin O.count) × (O.canonical i ≡ identity)
      from_chosen (c, p, e) = let i = O.canonical_numbering.all c p tt in (i.0, i.1 ∙ canonical_unit G group c p (e ∙ rotation-identity))

  pub first_site : (a : Fin O.sites) × (to_nat a ≡ 0) × (carrier O a ≡ identity) × (site O a ≡ x)
  first_site = (a, stands_first (to_nat a) refl, carries, ap (λ g. image g x) carries ∙ image-identity x)
    where
      a : Fin O.sites
      a = (O.are_sites.all identity_place.0).0

      number_zero : to_nat (O.number a) ≡ 0
      number_zero =
          let l : to_nat (O.number a) ≤ to_nat identity_place.0 = (O.are_sites.all identity_place.0).1 in
          let z : to_nat identity_place.0 ≡ 0 = unit_first G (λ _. Unit {0}) O.canonical O.canonical_numbering identity_place.0 (ap (λ (g : Operation). g.rotation) identity_place.1 ∙ rotation-identity) in
          omega arith

      carries : carrier O a ≡ identity
      carries =
          let z : to_nat identity_place.0 ≡ 0 = unit_first G (λ _. Unit {0}) O.canonical O.canonical_numbering identity_place.0 (ap (λ (g : Operation). g.rotation) identity_place.1 ∙ rotation-identity) in
          ap O.canonical (to_nat_inj (O.number a) identity_place.0 (number_zero ∙ sym z)) ∙ identity_place.1

      stands_first : (k : ℕ) → to_nat a ≡ k → to_nat a ≡ 0
      stands_first zero p = p
      stands_first (suc k) p =
          let l : 0 < O.sites = let t : to_nat a < O.sites = to_nat-lt a in omega arith in
          let z : to_nat (from_nat O.sites 0 l) ≡ 0 = to_nat-from_nat O.sites 0 l in
          let m : to_nat (O.number (from_nat O.sites 0 l)) < to_nat (O.number a) = O.are_sites.ordered (from_nat O.sites 0 l) a (omega arith) in
          let n : to_nat (O.number a) ≡ 0 = number_zero in
          absurd (omega arith)
