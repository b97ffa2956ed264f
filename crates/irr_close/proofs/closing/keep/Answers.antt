use Rattle.std.proofs.Common.{◌≡◌, sym, ◌∙◌, subst, ℕ, inl, refl, ◌<◌, length, List, true, Option, None, Some}
use Rattle.std.specs.List.{HoldsAt}
use Rattle.std.specs.Option.{IfSome, is_some}
use Rattle.irr_seitz.specs.OperationMeaning.{operation}
use Rattle.irr_space.specs.Operation.{Rotation}
use Rattle.irr_seitz.specs.declared.op.Op.{Op}
use Rattle.irr_close.specs.Closing.{HasRotation}
use Rattle.irr_close.proofs.closing.keep.Goals as goal

found : (r : Option ℕ) (ops : List Op) (R : Rotation) → is_some r ≡ true → IfSome r (λ k. k < length ops)
    → IfSome r (λ k. HoldsAt (λ g. (operation g).rotation ≡ R) ops k) → HasRotation ops R
found None ops R e h k = absurd (cc)
found (Some k) ops R e h m = (k, h, m)

pub returns-then-is_some-clause-kept : goal.returns-then-is_some-clause-kept
returns-then-is_some-clause-kept c = inl (
  subst (λ ops. HasRotation ops (operation c.args.op).rotation) c.deref.ensures.value
      (found c.place.result c.deref.result.now (operation c.args.op).rotation (sym c.is_some.ensures ∙ c.if-is_some.true) c.place.ensures.within
      c.place.ensures.found),
  refl,
)
