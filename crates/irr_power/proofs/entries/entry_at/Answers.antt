-- The entry of one member.
use Rattle.std.proofs.Common.{◌≡◌, ◌+◌, ℕ, suc, arith, subst, sym}
use Rattle.irr_power.specs.Halves.{difference_of, sum_of}
use Rattle.irr_power.specs.Meetings.{AreSquareRows}
use Rattle.irr_power.proofs.SquareEntries.{dim_of, entry_of_rows, few_dim, is_full_one, rows_asked, skew_of_rows, symmetric_of_rows}
use Rattle.irr_power.proofs.entries.entry_at.Goals as goal

pub star_rows-requires : goal.star_rows-requires
star_rows-requires g c = rows_asked c.requires.setting.3 c.args.member c.index-full.result.now c.index-full.ensures c.requires.member
    c.args.order.now.positive

pub all_parts-requires : goal.all_parts-requires
all_parts-requires g c = symmetric_of_rows c.requires.setting.3 c.args.member c.index-full.result.now c.index-full.ensures c.requires.member
    c.args.order.now.positive c.as_slice.result.now
    (subst (λ rows. AreSquareRows {V = g.S.Scalar} sum_of c.args.order.now.n c.index-full.result.now c.args.meetings.now rows)
    (sym c.as_slice.ensures.value) c.in_ok-symmetric.ensures.0)

pub all_parts-requires-2 : goal.all_parts-requires-2
all_parts-requires-2 g c = skew_of_rows c.requires.setting.3 c.args.member c.index-full.result.now c.index-full.ensures c.requires.member
    c.args.order.now.positive c.as_slice-2.result.now
    (subst (λ rows. AreSquareRows {V = g.S.Scalar} difference_of c.args.order.now.n c.index-full.result.now c.args.meetings.now rows)
    (sym c.as_slice-2.ensures.value) c.in_ok-symmetric.ensures.1)

pub dim-rows-requires : goal.dim-rows-requires
dim-rows-requires g c = is_full_one c.requires.setting.3 c.args.member c.index-full.result.now c.index-full.ensures c.requires.member

pub symmetric_size-requires : goal.symmetric_size-requires
symmetric_size-requires g c = few_dim c.requires.setting.3 c.args.member c.index-full.result.now c.index-full.ensures c.requires.member
    c.dim-rows.result
    (dim_of c.requires.setting.3 c.args.member c.index-full.result.now c.index-full.ensures c.dim-rows.result c.dim-rows.ensures.dim)

pub antisymmetric_size-requires : goal.antisymmetric_size-requires
antisymmetric_size-requires g c = few_dim c.requires.setting.3 c.args.member c.index-full.result.now c.index-full.ensures c.requires.member
    c.dim-rows.result
    (dim_of c.requires.setting.3 c.args.member c.index-full.result.now c.index-full.ensures c.dim-rows.result c.dim-rows.ensures.dim)

next : (n : ℕ) → n + 1 ≡ suc n
next n = omega arith

pub returns : goal.returns
returns g c group k sums s = entry_of_rows s c.args.member c.index-full.result.now c.index-full.ensures c.as_slice.result.now c.as_slice-2.result.now
    (subst (λ rows. AreSquareRows {V = g.S.Scalar} sum_of c.args.order.now.n c.index-full.result.now c.args.meetings.now rows)
    (sym c.as_slice.ensures.value) c.in_ok-symmetric.ensures.0)
    (subst (λ rows. AreSquareRows {V = g.S.Scalar} difference_of c.args.order.now.n c.index-full.result.now c.args.meetings.now rows)
    (sym c.as_slice-2.ensures.value) c.in_ok-symmetric.ensures.1)
    (record {
      label = c.args.member + 1;
      sym_dim = c.symmetric_size.result;
      anti_dim = c.antisymmetric_size.result;
      sym = c.in_ok-sym.sym;
      anti = c.in_ok-anti.anti;
    })
    c.in_ok-sym.ensures c.in_ok-anti.ensures c.dim-rows.result
    (dim_of s c.args.member c.index-full.result.now c.index-full.ensures c.dim-rows.result c.dim-rows.ensures.dim)
    (next c.args.member) c.symmetric_size.ensures c.antisymmetric_size.ensures
