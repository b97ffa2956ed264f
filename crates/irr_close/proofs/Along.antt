-- What holds of a group of operations holds of each with the same operations.
--   canonical_along, numbering_along, centrings_along, exponent_along
use Rattle.std.proofs.Common.{◌↔◌, ℕ, List}
use Rattle.irr_algebra.specs.Fin.{Fin}
use Rattle.irr_space.specs.Operation.{Operation, translation}
use Rattle.irr_space.specs.SpaceGroup.{IsExponent}
use Rattle.irr_space.specs.CanonicalOperation.{IsCanonicalOperation, IsNumbering}
use Rattle.irr_rat.specs.declared.vec3.Vec3.{Vec3}
use Rattle.irr_kvec.specs.Centrings.{AreCentrings}

pub canonical_along : (G H : Operation → Type 0) → ((g : Operation) → G g ↔ H g) → (g : Operation) → IsCanonicalOperation G g
    → IsCanonicalOperation H g
canonical_along G H same g c = record { member = (same g).0 c.member; in_cell = c.in_cell; least = λ h m. c.least h ((same h).1 m) }

pub numbering_along : (G H : Operation → Type 0) → ((g : Operation) → G g ↔ H g) → (h : ℕ) (ops : Fin h → Operation)
    → IsNumbering G (λ _. Unit {0}) ops → IsNumbering H (λ _. Unit {0}) ops
numbering_along G H same h ops n = record {
  canonical = λ i. canonical_along G H same (ops i) (n.canonical i);
  member = λ i. tt;
  all = λ g c p. n.all g (canonical_along H G (λ k. ((same k).1, (same k).0)) g c) tt;
  ordered = n.ordered;
}

pub centrings_along : (G H : Operation → Type 0) → ((g : Operation) → G g ↔ H g) → (cs : List Vec3) → AreCentrings G cs → AreCentrings H cs
centrings_along G H same cs c = record {
  translations = λ t. (λ h. (c.translations t).0 ((same (translation t)).1 h), λ k. (same (translation t)).0 ((c.translations t).1 k));
  in_cell = c.in_cell;
  ordered = c.ordered;
}

pub exponent_along : (G H : Operation → Type 0) → ((g : Operation) → G g ↔ H g) → (n : ℕ) → IsExponent G n → IsExponent H n
exponent_along G H same n e =
    record { positive = e.positive; power = λ g h. e.power g ((same g).1 h); least = λ k p all. e.least k p (λ g m. all g ((same g).0 m)) }
