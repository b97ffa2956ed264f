-- The entry of a member.
use Rattle.std.proofs.Common.{◌≡◌, ◌<◌, ◌+◌, ℕ, suc, arith, subst, sym}
use Rattle.irr_subduce.specs.Meetings.{AreStarRows}
use Rattle.irr_subduce.proofs.RestrictedEntries.{entry_dim, entry_of_rows, few_label, is_represented, representation_of_rows, rows_asked}
use Rattle.irr_subduce.proofs.entries.entry_at.Goals as goal

pub star_rows-requires : goal.star_rows-requires
star_rows-requires g c = rows_asked c.requires.meetings.5 c.args.a c.index-full.result.now c.index-full.ensures c.args.order.now.positive
    c.requires.member

pub all_parts-requires : goal.all_parts-requires
all_parts-requires g c = representation_of_rows c.requires.meetings.5 c.args.a c.index-full.result.now c.index-full.ensures
    c.args.order.now.positive c.requires.member c.as_slice.result.now
    (subst (λ rows. AreStarRows {V = g.S.Scalar} c.args.order.now.n c.index-full.result.now c.args.meetings.now rows) (sym c.as_slice.ensures.value)
    c.in_ok-traces.ensures)

pub dim-requires : goal.dim-requires
dim-requires g c = is_represented c.requires.meetings.5 c.args.a c.index-full.result.now c.index-full.ensures c.args.order.now.positive
    c.requires.member

next : (n : ℕ) → n + 1 ≡ suc n
next n = omega arith

pub returns : goal.returns
returns g c group sub image k ws s = entry_of_rows s c.args.a c.index-full.result.now c.index-full.ensures c.as_slice.result.now
    (subst (λ rows. AreStarRows {V = g.S.Scalar} c.args.order.now.n c.index-full.result.now c.args.meetings.now rows) (sym c.as_slice.ensures.value)
    c.in_ok-traces.ensures)
    (record { label = c.args.a + 1; dim = c.dim.result; parts = c.in_ok-parts.parts })
    c.in_ok-parts.ensures (next c.args.a)
    (entry_dim s c.args.a c.index-full.result.now c.index-full.ensures c.dim.result c.dim.ensures.dim) c.args.order.now.positive
