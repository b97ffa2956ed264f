-- The subgroup is one in its own setting.
use Rattle.std.proofs.Common.{sym, subst}
use Rattle.irr_setting.specs.declared.setting.Setting.{Setting}
use Rattle.irr_subduce.specs.Subgroup.{IsSub}
use Rattle.irr_subduce.proofs.tests.restricted.Goals as goal

pub subduce-requires-clause-sub : goal.subduce-requires-clause-sub
subduce-requires-clause-sub c = (
  c.args.inner.now,
  subst (λ (s : Setting). IsSub c.in_ok-group.group s c.args.inner.now c.in-Ok.sub) (sym c.in-Ok.ensures.sub.setting) c.in-Ok.ensures.sub,
)
