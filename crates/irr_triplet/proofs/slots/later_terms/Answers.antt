-- Term by term, while a sign follows.
use Rattle.std.proofs.Common.{rules}
use Rattle.irr_triplet.specs.WrittenTerms.{written_term}
use Rattle.irr_triplet.proofs.SlotReading.{BeginsWithSign, progress-more, progress-last}
use Rattle.irr_triplet.proofs.slots.later_terms.Goals as goal

pub loop-left-preserved : goal.loop-left-preserved
loop-left-preserved c =
    let sign : BeginsWithSign c.loop-left.left.text.now = search rules in (
      search rules,
      c.with_term-all.ensures.digits,
      λ ts tail d is sp. progress-more c.args.slots c.loop-left.all c.with_term-all.result c.loop-left.left.place c.term.result.1.place c.loop-left.left.text.now c.term.result.1.text.now ts tail
          (written_term c.term.result.0) is sign c.term.ensures.term c.with_term-all.ensures.with (c.loop-left.invariant.2 ts tail d is sp),
    )

pub returns-clause-terms : goal.returns-clause-terms
returns-clause-terms c =
    let none : ¬ (BeginsWithSign c.loop-left.left.text.now) = search rules in
    λ ts tail d is sp. progress-last c.args.slots c.loop-left.all c.loop-left.left.place c.loop-left.left.text.now ts tail none (c.loop-left.invariant.2 ts tail d is sp)
