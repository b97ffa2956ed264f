-- What stands behind the blanks at the front tells.
use Rattle.std.proofs.Common.{◌≡◌, refl, []}
use Rattle.irr_input.specs.declared.keyword.Keyword.{Keyword}
use Rattle.irr_input.specs.SectionLines.{Begins, word_of}
use Rattle.irr_input.proofs.SkippedLines.{parted}
use Rattle.irr_input.proofs.SectionWords.{begins_of, word_of_line, some_more}
use Rattle.irr_input.proofs.keyword.keyword_of.Goals as goal

pub returns-clause-found : goal.returns-clause-found
returns-clause-found c =
    let p = parted c.args.line.now in
    let rest : c.behind-rest.result.text.now ≡ p.rest = (c.behind-rest.ensures.rest [] p.blanks p.rest refl p.are_blanks p.no_blank p.joins).0 in
    some_more (λ (k : Keyword). c.first_word.result.now ≡ word_of k) (λ (k : Keyword). Begins k c.args.line.now) c.named_keyword.result
    (λ k h. begins_of c.args.line.now c.behind-rest.result.text.now c.first_word.result.now p k rest c.first_word.ensures.ends h) c.named_keyword.ensures.found

pub returns-clause-only : goal.returns-clause-only
returns-clause-only c = λ k b.
    let p = parted c.args.line.now in
    let rest : c.behind-rest.result.text.now ≡ p.rest = (c.behind-rest.ensures.rest [] p.blanks p.rest refl p.are_blanks p.no_blank p.joins).0 in
    c.named_keyword.ensures.only k (word_of_line c.args.line.now c.behind-rest.result.text.now c.first_word.result.now p k rest c.first_word.ensures.ends c.first_word.ensures.no_blank b)
