-- The words of a command that is served, or the first faulty one.
use Rattle.std.proofs.Common.{refl, subst, IsTrue}
use Rattle.irr_input.specs.Command.{texts, AreLimited}
use Rattle.irr_top.proofs.RequestWords.{faulty_served, faulty_unserved, unserved_first}
use Rattle.irr_top.proofs.request.served.Goals as goal

pub returns-in-Some-clause-limits : goal.returns-in-Some-clause-limits
returns-in-Some-clause-limits c = subst AreLimited c.in-Some.ensures.some c.in-Ok.ensures.limits

pub returns-then-begins_served-clause-faulty : goal.returns-then-begins_served-clause-faulty
returns-then-begins_served-clause-faulty c = faulty_served (texts c.args.words.now) c.in-Err.field-0.0 (c.begins_served.ensures.0 c.if-begins_served.true)
    c.in-Err.ensures.faulty

pub returns-else-begins_served-clause-faulty : goal.returns-else-begins_served-clause-faulty
returns-else-begins_served-clause-faulty c = faulty_unserved (texts c.args.words.now) (λ b. let t = subst IsTrue c.if-begins_served.false (c.begins_served.ensures.1 b) in cc)

pub returns-in-None-clause-faulty : goal.returns-in-None-clause-faulty
returns-in-None-clause-faulty c = faulty_unserved (texts c.args.words.now)
    (unserved_first (texts c.args.words.now) c.in-Ok.command c.in-Ok.ensures.words (c.in-None.ensures.none refl))
