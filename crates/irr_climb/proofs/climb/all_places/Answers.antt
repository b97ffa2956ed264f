-- A range gives its numbers.
use Rattle.std.proofs.Common.{arith, refl, sym, subst, ◌∙◌, zero-add}
use Rattle.std.proofs.lemmas.Iterator.{items_from_collect, YieldsList-from_range}
use Rattle.std.proofs.lemmas.List.FromFn.{get_or-range_with_len, length-range_with_len}
use Rattle.std.proofs.lemmas.Result.{IfOk-weaker}
use Rattle.irr_climb.specs.Climbed.{IsWhole}
use Rattle.irr_climb.proofs.climb.all_places.Goals as goal

pub returns : goal.returns
returns c =
    let count = c.args.count in
    IfOk-weaker c.collect.result _ _ (λ v e. subst (IsWhole count) (sym e) (record {
      count = length-range_with_len 0 count;
      numbers = λ a l. get_or-range_with_len 0 count a 0 l ∙ zero-add a;
    })) (items_from_collect _ c.collect.ensures.ran (YieldsList-from_range 0 count count refl (omega arith)))
