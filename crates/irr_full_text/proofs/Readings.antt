-- What a reading of a full representation gives.
--   represented             the value is a full representation
--   item_is, printable_at   an item of a list
use Rattle.std.proofs.Common.{◌≡◌, sym, ◌∙◌, ap, subst, ℕ, ◌<◌, List, length, get_or}
use Rattle.irr_seitz.specs.declared.op.Op.{Op}
use Rattle.irr_cyc.specs.declared.scalars.Scalar.{Ghosts}
use Rattle.irr_close.specs.declared.group.Group.{Group}
use Rattle.irr_star.specs.Induced.{IsFullRepresentation}
use Rattle.irr_star.specs.declared.full.Full.{Full}
use Rattle.irr_full_text.specs.Reading.{Reading, ArePrintable, IsPrintable}

pub represented : {X : Type 0} {V : Ghosts X} (full : Full X V) → Reading full → IsFullRepresentation full
represented full e = record {
  group = e.group;
  wave = e.wave;
  star = e.star;
  number = e.number;
  divides = e.divides;
  size = e.size;
  small = e.small;
  induced = e.induced;
}

pub printable_at : (group : Group) (ops : List Op) → ArePrintable group ops → (i : ℕ) (x : Op) → i < length ops → x
    ≡ get_or ops i x → IsPrintable group x
printable_at group ops all i x l is = subst (IsPrintable group) (sym is) (all i x l)

pub item_is : {X : Type 0} (xs : List X) (i : ℕ) (x : X) (n : ℕ) → x ≡ get_or xs i x → n ≡ i → get_or xs n x ≡ x
item_is xs i x n is e = ap (λ k. get_or xs k x) e ∙ sym is
