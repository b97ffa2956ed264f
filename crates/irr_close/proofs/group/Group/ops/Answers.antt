use Rattle.std.proofs.Common.{sym, subst}
use Rattle.irr_space.specs.CanonicalOperation.{IsNumbering}
use Rattle.irr_close.specs.Canonical.{AreCanonical, numbered}
use Rattle.irr_close.specs.StandsFor.{stands_for}
use Rattle.irr_close.proofs.Untruncated.{untruncated}
use Rattle.irr_close.proofs.group.Group.ops.Goals as goal

pub returns-clause-numbering : goal.returns-clause-numbering
unfolding stands_for
returns-clause-numbering c = λ d. subst (λ xs. IsNumbering (stands_for c.args.self.now) (λ _. Unit {0}) (numbered xs d))
    (sym c.as_slice.ensures.value) ((untruncated c.args.self.now.ops.items c.args.self.now.centrings.items c.args.self.now.form).numbering d)

pub returns-clause-canonical : goal.returns-clause-canonical
returns-clause-canonical c = subst (λ xs. AreCanonical xs c.args.self.now.centrings.items) (sym c.as_slice.ensures.value)
    (untruncated c.args.self.now.ops.items c.args.self.now.centrings.items c.args.self.now.form)
