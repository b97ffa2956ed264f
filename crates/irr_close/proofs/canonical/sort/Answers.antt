use Rattle.std.proofs.Common.{rules, is_lt}
use Rattle.std.proofs.lemmas.Fn.{always_returns_same}
use Rattle.irr_rat.specs.VectorMeaning.{vector}
use Rattle.irr_close.proofs.Sorting.{order, weak, answers, strictly}
use Rattle.irr_close.proofs.Numbering.{IsVectorBelow, vector_irrefl, vector_chain, vector_cases}
use Rattle.irr_close.proofs.canonical.sort.Goals as goal

pub returns-clause-sorted : goal.returns-clause-sorted
returns-clause-sorted c = record {
  permuted = c.sort_by.ensures.permutation;
  ordered = λ apart. strictly IsVectorBelow vector_irrefl vector_chain vector_cases vector c.args.vectors.items c.sort_by.new.self.items
      c.sort_by.ensures.permutation apart
      (c.in_ok-sort_by.ensures.sorted (λ a b. is_lt (order IsVectorBelow vector_irrefl vector_chain vector_cases (vector a) (vector b)))
      (weak IsVectorBelow vector_irrefl vector_chain vector_cases vector)
      (always_returns_same _ _ _
      (λ a r q k. (
        answers IsVectorBelow vector_irrefl vector_chain vector_cases (vector a.0.now) (vector a.1.0.now) r (search rules),
        search
            rules,
      ))));
}
