-- The sites and the operations of a little group, one after another.
--   carried_here, carried_at      the carrier of a site with a number that was read
--   rests_so_far                  what is left at the sites so far, with one more
--   rows_so_far                   and at the operations so far
use Rattle.std.proofs.Common.{◌≡◌, sym, ◌∙◌, ap, subst, refl, ℕ, ◌+◌, ◌<◌, ◌++◌, ◌∷◌, [], List, length, get_or, slice_index, Vec}
use Rattle.std.specs.Prelude.{Option}
use Rattle.std.specs.Global.{Global}
use Rattle.irr_algebra.specs.Fin.{Fin, to_nat}
use Rattle.irr_algebra.proofs.Indices.{from_nat, to_nat-from_nat, to_nat-lt}
use Rattle.irr_space.specs.Operation.{Operation, Vector, WaveVector}
use Rattle.irr_space.specs.Reciprocal.{Sign}
use Rattle.irr_seitz.specs.OperationMeaning.{operation}
use Rattle.irr_seitz.specs.declared.op.Op.{Op}
use Rattle.irr_close.specs.StandsFor.{stands_for}
use Rattle.irr_close.specs.declared.group.Group.{Group}
use Rattle.irr_mult.proofs.StarFacts.{pushed}
use Rattle.irr_orbit.specs.Site.{Orbit, carrier}
use Rattle.irr_site.specs.Orbits.{HasSites}
use Rattle.irr_site.specs.Rests.{AreRests, IsRestAt}
use Rattle.irr_site.specs.declared.rest.Rest.{Rest}

module _ (group : Group) {x : Vector} (ys : List ℕ) (O : Orbit (stands_for group) x) (has : HasSites group ys O)
    (zs : List ℕ) (same : zs ≡ ys) (i : ℕ) (l : i < length zs) where
  pub carried_at : (a : Fin O.sites) → to_nat a ≡ i → (d : Op) → carrier O a ≡ operation (get_or group.ops.items (slice_index zs i) d)
  carried_at a e d = has.carrier_is a d
      ∙ ap (λ n. operation (get_or group.ops.items n d)) (ap (slice_index ys) e ∙ ap (λ xs. slice_index xs i) (sym same))

  below : i < O.sites
  below = subst (λ n. i < n) (ap length same ∙ sym has.count) l

  pub carried_here : (a : Fin O.sites) × ((d : Op) → carrier O a ≡ operation (get_or group.ops.items (slice_index zs i) d))
  carried_here = let a = from_nat O.sites i below in (a, carried_at a (to_nat-from_nat O.sites i below))

pub rests_so_far : (s : Sign) (k : WaveVector) (N : ℕ) {G : Operation → Type 0} {x : Vector} (O : Orbit G x) (g : Operation)
    (xs after : List (Option Rest)) (r : Option Rest) (n : ℕ) → length xs ≡ n → after ≡ xs ++ r ∷ []
    → ((a : Fin O.sites) (e : Option Rest) → to_nat a < n → IsRestAt s k N O g a (get_or xs (to_nat a) e))
    → ((a : Fin O.sites) → to_nat a ≡ n → IsRestAt s k N O g a r)
    → (a : Fin O.sites) (e : Option Rest) → to_nat a < n + 1 → IsRestAt s k N O g a (get_or after (to_nat a) e)
rests_so_far s k N O g xs after r n count is before here a e l =
    pushed (λ j q. (b : Fin O.sites) → to_nat b ≡ j → IsRestAt s k N O g b q) xs after r n count is
    (λ j d m b same. subst (λ q. IsRestAt s k N O g b (get_or xs q d)) same
    (before b d (subst (λ q. q < n) (sym same) m)))
    here (to_nat a) e l a refl

pub rows_so_far : (s : Sign) (k : WaveVector) (N : ℕ) {G : Operation → Type 0} {x : Vector} (O : Orbit G x) (h : ℕ)
    (ops : Fin h → Operation) (xs after : List (Vec (Option Rest) Global)) (r : Vec (Option Rest) Global) (n : ℕ)
    → length xs ≡ n → after ≡ xs ++ r ∷ []
    → ((i : Fin h) (e : Vec (Option Rest) Global) → to_nat i < n → AreRests s k N O (ops i) (get_or xs (to_nat i) e).items)
    → ((i : Fin h) → to_nat i ≡ n → AreRests s k N O (ops i) r.items)
    → (i : Fin h) (e : Vec (Option Rest) Global) → to_nat i < n + 1 → AreRests s k N O (ops i) (get_or after (to_nat i) e).items
rows_so_far s k N O h ops xs after r n count is before here a e l =
    pushed (λ j (q : Vec (Option Rest) Global). (b : Fin h) → to_nat b ≡ j → AreRests s k N O (ops b) q.items) xs after r n count is
    (λ j d m b same. subst (λ q. AreRests s k N O (ops b) (get_or xs q d).items) same
    (before b d (subst (λ q. q < n) (sym same) m)))
    here (to_nat a) e l a refl
