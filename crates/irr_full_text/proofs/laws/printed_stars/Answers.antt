-- The star of the lists has the operations of the group.
use Rattle.std.proofs.Common.{ap, refl}
use Rattle.std.proofs.lemmas.List.{get_or_default}
use Rattle.irr_algebra.specs.Fin.{to_nat}
use Rattle.irr_algebra.proofs.Indices.{to_nat-lt}
use Rattle.irr_seitz.specs.OperationMeaning.{operation}
use Rattle.irr_full_text.proofs.laws.printed_stars.Goals as goal

pub returns : goal.returns
returns c = λ group k arms t d a canonical are_arms little reduced star. record {
  reduced = reduced;
  star = star;
  order = refl;
  count = refl;
  canonical = λ i e. ap operation (get_or_default group.ops.items (to_nat i) e d (to_nat-lt i));
}
