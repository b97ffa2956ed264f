use Rattle.irr_setting_text.proofs.LineParts.{word_behind, too_short}
use Rattle.irr_setting_text.proofs.row.behind_word.Goals as goal

pub returns-then-rest-count-clause-rest : goal.returns-then-rest-count-clause-rest
returns-then-rest-count-clause-rest c = λ n qs sp. absurd (too_short c.args.line.now c.args.word.now c.behind-rest.result.place c.behind-rest.result.text.now c.requires
    c.behind-rest.ensures.rest c.if-rest-count.true n qs sp)

pub returns-clause-rest : goal.returns-clause-rest
returns-clause-rest c = word_behind c.args.line.now c.args.word.now c.behind-rest.result.place c.behind-rest.result.text.now c.split_at.result.1.now c.requires
    c.behind-rest.ensures.rest c.split_at.ensures.back
