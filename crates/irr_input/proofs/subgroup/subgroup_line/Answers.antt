-- The word, the blanks behind it, and what follows these.
use Rattle.std.proofs.Common.{◌≡◌, refl, sym, ◌∙◌, ap, subst, ◌+◌, ◌≤◌, [], ◌++◌, length, codes, arith}
use Rattle.std.proofs.lemmas.Grind.{common_steps}
use Rattle.std.proofs.lemmas.List.{nil_from_length}
use Rattle.irr_input.specs.declared.keyword.Keyword.TheVariants.{Subgroup}
use Rattle.irr_input.proofs.SkippedLines.{parted}
use Rattle.irr_input.proofs.SectionWords.{no_blank_first}
use Rattle.irr_input.proofs.SubgroupLines.{subgroup_alone, subgroup_place, word_length}
use Rattle.irr_input.proofs.subgroup.subgroup_line.Goals as goal

pub behind-rest-requires-clause-within : goal.behind-rest-requires-clause-within
behind-rest-requires-clause-within c =
    let b = c.requires in
    let word : c.behind-word.result.text.now ≡ codes "subgroup" ++ b.behind = (c.behind-word.ensures.rest [] b.blanks (codes "subgroup" ++ b.behind) refl b.are_blanks (no_blank_first Subgroup b.behind) b.spelled).0 in
    subst (λ l. 8 ≤ length l) (sym word) (word_length b.behind)

pub returns-then-is_empty-clause-text : goal.returns-then-is_empty-clause-text
returns-then-is_empty-clause-text c = λ t.
    let b = c.requires in
    let q = parted b.behind in
    let word : c.behind-word.result.text.now ≡ codes "subgroup" ++ b.behind = (c.behind-word.ensures.rest [] b.blanks (codes "subgroup" ++ b.behind) refl b.are_blanks (no_blank_first Subgroup b.behind) b.spelled).0 in
    let rest : c.behind-rest.result.text.now ≡ q.rest = (c.behind-rest.ensures.rest (codes "subgroup") q.blanks q.rest refl q.are_blanks q.no_blank (word ∙ ap (λ l. codes "subgroup" ++ l) q.joins)).0 in
    let none : length c.behind-rest.result.text.now ≡ 0 = grind (arith, common_steps) in
    subgroup_alone c.args.line.now b q (sym rest ∙ nil_from_length c.behind-rest.result.text.now none)

pub returns-clause-fault : goal.returns-clause-fault
returns-clause-fault c =
    let b = c.requires in
    let q = parted b.behind in
    let word = c.behind-word.ensures.rest [] b.blanks (codes "subgroup" ++ b.behind) refl b.are_blanks (no_blank_first Subgroup b.behind) b.spelled in
    let rest = c.behind-rest.ensures.rest (codes "subgroup") q.blanks q.rest refl q.are_blanks q.no_blank (word.0 ∙ ap (λ l. codes "subgroup" ++ l) q.joins) in
    let some : length c.behind-rest.result.text.now ≡ 0 → ⊥ = grind (arith, common_steps) in
    let before : c.behind-word.result.place ≡ 0 + 0 + length b.blanks = word.1 in
    let behind : c.behind-rest.result.place ≡ c.behind-word.result.place + 8 + length q.blanks = rest.1 in
    let place : c.behind-rest.result.place ≡ length b.blanks + 8 + length q.blanks = omega (arith, before, behind) in
    (_, refl, subgroup_place c.args.line.now b q c.behind-rest.result.place (λ e. some (ap length (rest.0 ∙ e))) place)
