use Rattle.std.proofs.Common.{rules, is_lt}
use Rattle.std.proofs.lemmas.Fn.{always_returns_same}
use Rattle.irr_space.specs.CanonicalOperation.{IsNumberedBefore}
use Rattle.irr_seitz.specs.OperationMeaning.{operation}
use Rattle.irr_close.proofs.Sorting.{order, weak, answers, strictly}
use Rattle.irr_close.proofs.Numbering.{numbered_irrefl, numbered_chain, numbered_cases}
use Rattle.irr_close.proofs.CanonicalLists.{apart_canonical}
use Rattle.irr_close.proofs.canonical.number.Goals as goal

pub returns-clause-numbered : goal.returns-clause-numbered
returns-clause-numbered c = record {
  made = c.in_ok-numbered.numbered.items;
  canonical = c.in_ok-numbered.ensures.canonical;
  permuted = c.sort_by.ensures.permutation;
  ordered = λ apart. strictly IsNumberedBefore numbered_irrefl numbered_chain numbered_cases (λ g. (operation g).rotation)
      c.in_ok-numbered.numbered.items c.sort_by.new.self.items c.sort_by.ensures.permutation
      (apart_canonical c.args.centrings.now c.args.ops.now c.in_ok-numbered.numbered.items c.in_ok-numbered.ensures.canonical apart)
      (c.in_ok-sort_by.ensures.sorted
      (λ a b. is_lt (order IsNumberedBefore numbered_irrefl numbered_chain numbered_cases (operation a).rotation (operation b).rotation))
      (weak IsNumberedBefore numbered_irrefl numbered_chain numbered_cases (λ g. (operation g).rotation))
      (always_returns_same _ _ _
      (λ a r q k. (
        answers IsNumberedBefore numbered_irrefl numbered_chain numbered_cases (operation a.0.now).rotation
            (operation a.1.0.now).rotation r (search rules),
        search rules,
      ))));
}
