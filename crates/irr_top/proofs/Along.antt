-- What holds of a group of operations holds of each with the same operations.
--   reduced_along, arms_along, star_along      reduced wave vectors, arms and stars
use Rattle.std.proofs.Common.{◌↔◌, ℕ}
use Rattle.irr_algebra.specs.Fin.{Fin}
use Rattle.irr_space.specs.Operation.{Operation, WaveVector}
use Rattle.irr_space.specs.Reciprocal.{IsReduced, Sign}
use Rattle.irr_space.specs.Star.{Carries, IsArms, IsInStar}
use Rattle.irr_close.proofs.Along.{numbering_along as all_along}
use Rattle.irr_text.specs.StarText.{IsStarOf, StarContent}
use Rattle.irr_check.proofs.Along.{numbering_along, reciprocal_along, table_along}

module _ (G H : Operation → Type 0) (same : (g : Operation) → G g ↔ H g) where
  carries_along : (g : Operation) (k w : WaveVector) → Carries G g k w → Carries H g k w
  carries_along g k w c = record { image = c.image; turned_back = c.turned_back; equivalent = reciprocal_along G H same _ c.equivalent }

  in_star_along : (k w : WaveVector) → IsInStar G k w → IsInStar H k w
  in_star_along k w s = record {
    operation = s.operation;
    member = (same s.operation).0 s.member;
    carries = carries_along s.operation k w s.carries;
  }

module _ (G H : Operation → Type 0) (same : (g : Operation) → G g ↔ H g) where
  back : (g : Operation) → H g ↔ G g
  back g = ((same g).1, (same g).0)

  pub reduced_along : (k r : WaveVector) → IsReduced G k r → IsReduced H k r
  reduced_along k r e = record {
    equivalent = reciprocal_along G H same _ e.equivalent;
    no_negative = e.no_negative;
    least = λ w q m. e.least w (reciprocal_along H G back _ q) m;
  }

  pub arms_along : (k : WaveVector) {n a : ℕ} (ops : Fin n → Operation) (arm : Fin a → WaveVector) (number : Fin a → Fin n)
      → IsArms G k ops arm number → IsArms H k ops arm number
  arms_along k ops arm number s = record {
    reduced = λ i. reduced_along (arm i) (arm i) (s.reduced i);
    carries = λ i. carries_along G H same (ops (number i)) k (arm i) (s.carries i);
    is_first = λ i j c. s.is_first i j (carries_along H G back (ops j) k (arm i) c);
    all = λ w m. let t = s.all w (in_star_along H G back k w m) in (t.0, reciprocal_along G H same _ t.1);
    ordered = s.ordered;
  }

  pub star_along : (s : Sign) (k : WaveVector) (c : StarContent) → IsStarOf s G k c → IsStarOf s H k c
  star_along s k c t = record {
    wave = t.wave;
    reduced = reduced_along k t.wave t.reduced;
    count = t.count;
    canonical = t.canonical;
    canonical_numbering = all_along G H same t.count t.canonical t.canonical_numbering;
    arms = t.arms;
    arm = t.arm;
    number = t.number;
    are_arms = arms_along k t.canonical t.arm t.number t.are_arms;
    places = t.places;
    operation = t.operation;
    numbering = numbering_along G H same k t.operation t.numbering;
    table = t.table;
    is_table = table_along G H same s k t.operation t.table t.is_table;
    content = t.content;
  }
