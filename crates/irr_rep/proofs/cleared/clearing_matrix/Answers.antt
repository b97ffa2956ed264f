-- Entry by entry.
use Rattle.std.proofs.Common.{◌<◌, rules}
use Rattle.irr_rep.proofs.CommonDenominators.{entry_within}
use Rattle.irr_rep.proofs.cleared.clearing_matrix.Goals as goal

pub clearing_entry-requires : goal.clearing_entry-requires
clearing_entry-requires g c =
    let r = c.requires in
    let m = c.args.m.now in
    let li : c.loop-i.i < m.rows = search rules in
    let lj : c.loop-j.j < m.cols = search rules in (
      r.2,
      r.6,
      c.loop-j.invariant r.0 r.1 r.2 r.3 r.4 r.5 r.7,
      entry_within r.0 r.1 _ r.2 r.3 m r.4 r.5 c.loop-i.i c.loop-j.j c.at.result.now li lj c.at.ensures.order c.at.ensures.entry,
    )

pub loop-j-preserved : goal.loop-j-preserved
loop-j-preserved g c n r d a is w v =
    let m = c.args.m.now in
    let li : c.loop-i.i < m.rows = search rules in
    let lj : c.loop-j.j < m.cols = search rules in
    c.in_ok-common.ensures d (c.loop-j.invariant n r d a is w v)
    (entry_within n r _ d a m is w c.loop-i.i c.loop-j.j c.at.result.now li lj c.at.ensures.order c.at.ensures.entry)
