-- Operations that are read of a list.
--   in_length     a place of an equal list
--   read_at       the operation there, whatever stands past the end
use Rattle.std.proofs.Common.{◌≡◌, sym, ◌∙◌, ap, subst, ℕ, ◌<◌, List, length, get_or}
use Rattle.std.proofs.lemmas.List.{get_or_default}
use Rattle.irr_seitz.specs.declared.op.Op.{Op}

pub in_length : (xs ys : List Op) → xs ≡ ys → (i : ℕ) → i < length ys → i < length xs
in_length xs ys e i l = subst (λ (zs : List Op). i < length zs) (sym e) l

pub read_at : (xs ys : List Op) → xs ≡ ys → (i : ℕ) (g d : Op) → i < length ys → g ≡ get_or xs i g → g ≡ get_or ys i d
read_at xs ys e i g d l h = h ∙ ap (λ (zs : List Op). get_or zs i g) e ∙ get_or_default ys i g d l
