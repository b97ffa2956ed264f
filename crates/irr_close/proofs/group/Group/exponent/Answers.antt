use Rattle.std.proofs.Common.{sym, subst, ℕ, ◌<◌, ◌≤◌, List}
use Rattle.irr_seitz.specs.declared.op.Op.{Op}
use Rattle.irr_close.specs.Exponent.{HaveSmallPowers, Return, IsLeastReturn}
use Rattle.irr_close.specs.StandsFor.{stands_for}
use Rattle.irr_close.proofs.Untruncated.{untruncated}
use Rattle.irr_close.proofs.Exponents.{small_powers, some_return, exponent_of}
use Rattle.irr_close.proofs.group.Group.exponent.Goals as goal

pub exponent-requires-clause-powers : goal.exponent-requires-clause-powers
exponent-requires-clause-powers c = subst HaveSmallPowers (sym c.as_slice.ensures.value)
    (small_powers c.args.self.now.ops.items c.args.self.now.centrings.items
    (untruncated c.args.self.now.ops.items c.args.self.now.centrings.items c.args.self.now.form))

pub exponent-requires-clause-some : goal.exponent-requires-clause-some
exponent-requires-clause-some c = subst (λ (xs : List Op). (h : ℕ) × (0 < h) × (h ≤ 48) × Return xs h) (sym c.as_slice.ensures.value)
    (some_return c.args.self.now.ops.items c.args.self.now.centrings.items
    (untruncated c.args.self.now.ops.items c.args.self.now.centrings.items c.args.self.now.form))

pub returns-clause-exponent : goal.returns-clause-exponent
unfolding stands_for
returns-clause-exponent c = exponent_of c.args.self.now.ops.items c.args.self.now.centrings.items
    (untruncated c.args.self.now.ops.items c.args.self.now.centrings.items c.args.self.now.form) c.exponent.result
    (subst (λ (xs : List Op). IsLeastReturn xs c.exponent.result) c.as_slice.ensures.value c.exponent.ensures.least)
