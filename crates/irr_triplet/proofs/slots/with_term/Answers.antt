use Rattle.std.proofs.Common.{◌∙◌, ◌++◌, sym, subst}
use Rattle.irr_triplet.specs.WrittenTerms.{IsZeroAnswer, IsBeyondAnswer, written_term}
use Rattle.irr_triplet.specs.TripletFault.{body_denominators, body_numbers}
use Rattle.irr_triplet.proofs.SlotReading.{with_faults, zero_or, beyond_or}
use Rattle.irr_triplet.proofs.slots.with_term.Goals as goal

pub returns-clause-with : goal.returns-clause-with
returns-clause-with c = record {
  slots = λ k. with_faults c.in_its_slot.result c.or-zero.result c.or-beyond.result k ∙ c.in_its_slot.ensures.slots k;
  zero = λ ns h. subst (λ o. IsZeroAnswer o (ns ++ body_denominators (written_term c.args.term).body)) (sym c.or-zero.ensures) (zero_or c.args.slots.zero c.zero_of_term.result ns (body_denominators (written_term c.args.term).body) h c.zero_of_term.ensures);
  beyond = λ ns h. subst (λ o. IsBeyondAnswer o (ns ++ body_numbers (written_term c.args.term).body)) (sym c.or-beyond.ensures) (beyond_or c.args.slots.beyond c.beyond_of_term.result ns (body_numbers (written_term c.args.term).body) h c.beyond_of_term.ensures);
}
