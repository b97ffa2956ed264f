-- The reply for the group of generators.
use Rattle.std.proofs.Common.{rules}
use Rattle.irr_kvec.specs.WaveMeaning.{wave_vector}
use Rattle.irr_top.specs.GroupOf.{group_of}
use Rattle.irr_top.specs.Question.Question.{small}
use Rattle.irr_top.specs.Answer.{IsNoReply}
use Rattle.irr_top.proofs.SmallTexts.{small_reply_of}
use Rattle.irr_top.proofs.small.small_reply.Goals as goal

pub returns-clause-reply : goal.returns-clause-reply
returns-clause-reply c = λ gens is. small_reply_of gens (wave_vector c.args.k.now) c.in_ok-text.text.items (c.in_ok-text.ensures.text gens is)

pub returns-in_err-text-clause-none : goal.returns-in_err-text-clause-none
returns-in_err-text-clause-none c = λ gens is.
    let r : IsNoReply (small (wave_vector c.args.k.now)) (group_of gens) c.in_err-text.field-0.0 = c.in_err-text.ensures.none gens is in
    search rules
