-- What stands behind the blanks at the front tells.
use Rattle.std.proofs.Common.{◌≡◌, refl, sym, ◌∙◌, ap, subst, [], inl, inr, length, arith}
use Rattle.std.proofs.lemmas.Grind.{common_steps}
use Rattle.irr_token.specs.Reading.{BeginsWith}
use Rattle.irr_input.proofs.SkippedLines.{parted, skipped-rest, empty-list}
use Rattle.irr_input.proofs.lines.is_skipped.Goals as goal

pub returns-then-is_empty : goal.returns-then-is_empty
returns-then-is_empty c =
    let p = parted c.args.line.now in
    let rest : c.behind-rest.result.text.now ≡ p.rest = (c.behind-rest.ensures.rest [] p.blanks p.rest refl p.are_blanks p.no_blank p.joins).0 in
    let none : length c.behind-rest.result.text.now ≡ 0 = grind (arith, common_steps) in
    (λ t. (skipped-rest c.args.line.now p).0 (inl (sym rest ∙ empty-list c.behind-rest.result.text.now none)), λ s. c.if-is_empty.true)

pub returns-else-is_empty : goal.returns-else-is_empty
returns-else-is_empty c =
    let p = parted c.args.line.now in
    let rest : c.behind-rest.result.text.now ≡ p.rest = (c.behind-rest.ensures.rest [] p.blanks p.rest refl p.are_blanks p.no_blank p.joins).0 in
    let some : length c.behind-rest.result.text.now ≡ 0 → ⊥ = grind (arith, common_steps) in (
      λ t. (skipped-rest c.args.line.now p).0 (inr (subst (BeginsWith 35) rest (c.begins_with.ensures.0 t))),
      λ s. elim ((skipped-rest c.args.line.now p).1 s) [
        | inl e ↦ absurd (some (ap length (rest ∙ e)))
        | inr h ↦ c.begins_with.ensures.1 (subst (BeginsWith 35) (sym rest) h)
      ],
    )
