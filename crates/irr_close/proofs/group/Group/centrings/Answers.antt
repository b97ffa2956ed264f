use Rattle.std.proofs.Common.{sym, subst, length, ◌<◌, ◌≤◌}
use Rattle.irr_kvec.specs.Centrings.{AreCentrings}
use Rattle.irr_close.specs.StandsFor.{stands_for}
use Rattle.irr_close.proofs.Untruncated.{untruncated}
use Rattle.irr_close.proofs.group.Group.centrings.Goals as goal

pub returns-clause-centrings : goal.returns-clause-centrings
unfolding stands_for
returns-clause-centrings c = subst (λ xs. AreCentrings (stands_for c.args.self.now) xs) (sym c.as_slice.ensures.value)
    (untruncated c.args.self.now.ops.items c.args.self.now.centrings.items c.args.self.now.form).centrings

pub returns-clause-nonempty : goal.returns-clause-nonempty
returns-clause-nonempty c = subst (λ xs. 0 < length xs) (sym c.as_slice.ensures.value)
    (untruncated c.args.self.now.ops.items c.args.self.now.centrings.items c.args.self.now.form).has_centring

pub returns-clause-few : goal.returns-clause-few
returns-clause-few c = subst (λ xs. length xs ≤ 32) (sym c.as_slice.ensures.value)
    (untruncated c.args.self.now.ops.items c.args.self.now.centrings.items c.args.self.now.form).few_centrings
