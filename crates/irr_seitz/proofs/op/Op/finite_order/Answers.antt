use Rattle.std.proofs.Common.{◌≡◌, sym, ◌∙◌, ap, subst, IsTrue, false, true, arith}
use Rattle.irr_algebra.specs.Matrix.{◌·◌}
use Rattle.irr_space.specs.Operation.{Rotation}
use Rattle.irr_seitz.specs.Rotation.{rotation_of, IsWithin}
use Rattle.irr_seitz.proofs.Orders.{power-one, power-suc, none_more}
use Rattle.irr_seitz.proofs.op.Op.finite_order.Goals as goal

not_true : IsTrue false → ⊥
not_true h = let e : false ≡ true = h in cc

pub loop-n-init : goal.loop-n-init
loop-n-init c = record { power = sym (power-one (rotation_of c.args.self.now.rot)); none = λ k p l u. absurd (omega (arith, p, l)) }

pub loop-n-preserved : goal.loop-n-preserved
loop-n-preserved c = record {
  power = c.product-power.ensures ∙ ap (λ (S : Rotation). rotation_of c.args.self.now.rot · S) c.loop-n.invariant.power ∙ sym (power-suc (rotation_of c.args.self.now.rot) c.loop-n.n);
  none = none_more (rotation_of c.args.self.now.rot) (rotation_of c.loop-n.power) c.loop-n.n c.loop-n.invariant.power (λ e. not_true (c.if-is_unit.ensures.1 e)) c.loop-n.invariant.none;
}

pub product-power-requires-clause-left : goal.product-power-requires-clause-left
product-power-requires-clause-left c = subst (IsWithin 9) (power-one (rotation_of c.args.self.now.rot)) (c.requires 1 (omega (arith, c.loop-n-test.true, c.loop-n.auto.n)))
