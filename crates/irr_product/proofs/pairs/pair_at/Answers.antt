-- The entry of two members.
use Rattle.std.proofs.Common.{◌≡◌, ◌<◌, ◌+◌, ◌*◌, ℕ, suc, arith, subst, sym}
use Rattle.irr_product.specs.Meetings.{ArePairRows}
use Rattle.irr_product.proofs.PairEntries.{entry_dim, entry_of_rows, few_dim, left_is_full, right_is_full}
use Rattle.irr_product.proofs.PairEntries.{rows_asked, rows_of_representation}
use Rattle.irr_product.proofs.pairs.pair_at.Goals as goal

pub star_rows-requires-clause-count : goal.star_rows-requires-clause-count
star_rows-requires-clause-count g c = c.requires.setting.4.meetings.count

pub star_rows-requires-clause-rows : goal.star_rows-requires-clause-rows
star_rows-requires-clause-rows g c = rows_asked c.requires.setting.4 c.args.a c.args.b c.args.order.now.positive c.requires.first
    c.requires.second

pub all_parts-requires : goal.all_parts-requires
all_parts-requires g c = rows_of_representation c.requires.setting.4 c.args.a c.args.b c.args.order.now.positive c.requires.first
    c.requires.second c.as_slice.result.now
    (subst (λ rows. ArePairRows g.S.Scalar.order_of g.S.Scalar.value c.args.order.now.n c.args.a c.args.b c.args.stars.now
    c.args.meetings.now rows) (sym c.as_slice.ensures.value) c.in_ok-traces.ensures)

pub dim-rows-requires : goal.dim-rows-requires
dim-rows-requires g c = left_is_full c.requires.setting.4 c.args.a c.args.b c.requires.first c.index-first.result.now c.index-first.ensures

pub dim-requires : goal.dim-requires
dim-requires g c = right_is_full c.requires.setting.4 c.args.a c.args.b c.requires.second c.index-second.result.now
    c.index-second.ensures

pub overflow_mul-dim : goal.overflow_mul-dim
overflow_mul-dim g c =
    let few = few_dim c.requires.setting.4 c.args.a c.args.b c.dim-rows.result c.dim.result c.requires.first c.requires.second
    (entry_dim c.requires.setting.4 c.args.a c.args.b c.dim-rows.result c.dim.result c.index-first.result.now
    c.index-second.result.now c.requires.first c.requires.second c.index-first.ensures c.index-second.ensures c.dim-rows.ensures.dim
    c.dim.ensures.dim) in
    omega (arith, few)

next : (n : ℕ) → n + 1 ≡ suc n
next n = omega arith

pub returns : goal.returns
returns g c group k w sums s = entry_of_rows s c.args.a c.args.b c.args.order.now.positive c.as_slice.result.now
    (subst (λ rows. ArePairRows g.S.Scalar.order_of g.S.Scalar.value c.args.order.now.n c.args.a c.args.b c.args.stars.now
    c.args.meetings.now rows) (sym c.as_slice.ensures.value) c.in_ok-traces.ensures)
    (record { a = c.args.a + 1; b = c.args.b + 1; dim = c.dim-rows.result * c.dim.result; parts = c.in_ok-parts.parts })
    c.in_ok-parts.ensures (next c.args.a) (next c.args.b)
    (entry_dim s c.args.a c.args.b c.dim-rows.result c.dim.result c.index-first.result.now
    c.index-second.result.now c.requires.first c.requires.second c.index-first.ensures c.index-second.ensures c.dim-rows.ensures.dim
    c.dim.ensures.dim)
