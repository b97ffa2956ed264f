-- One more table.
use Rattle.std.proofs.Common.{rules, ◌≡◌, sym, subst, length, get_or, Vec, Global}
use Rattle.irr_star.specs.declared.full.Full.{Full}
use Rattle.irr_side.specs.ArmTraces.{AreArmRows, AreEach, HasMembers}
use Rattle.irr_side.proofs.EachItems.{each_none, each_of_list}
use Rattle.irr_side.proofs.traces.tables.Goals as goal

pub loop-full-init : goal.loop-full-init
loop-full-init g c = each_none _ c.new-tables.result.items c.new-tables.ensures.items

pub arm_rows-requires : goal.arm_rows-requires
arm_rows-requires g c = subst (λ (f : Full g.row.S.Denot g.S.Scalar). HasMembers c.args.order.now.n c.args.ops.now f) (sym c.full-item.is)
    (c.requires c.loop-full.full-index c.full-item.result c.loop-full-test.true)

pub loop-full-preserved : goal.loop-full-preserved
loop-full-preserved g c = each_of_list
    (λ (full : Full g.row.S.Denot g.S.Scalar) (rows : Vec (Vec g.row.S.Denot Global) Global). AreArmRows {V = g.S.Scalar} full c.args.ops.now
    c.args.order.now.n rows.items)
    c.args.fulls.now c.loop-full.full-index c.loop-full-test.true c.full-item.result c.full-item.is c.loop-full.tables.items
    c.push.new.self.items c.in_ok-rows.rows c.in_ok-push.ensures.items c.loop-full.invariant c.in_ok-rows.ensures

pub returns : goal.returns
returns g c =
    let done : c.loop-full.full-index ≡ length c.args.fulls.now = search rules in
    subst (λ n. AreEach (λ m (rows : Vec (Vec g.row.S.Denot Global) Global). (full : Full g.row.S.Denot g.S.Scalar)
    → AreArmRows {V = g.S.Scalar} (get_or c.args.fulls.now m full) c.args.ops.now c.args.order.now.n rows.items) n c.loop-full.tables.items)
    done c.loop-full.invariant
