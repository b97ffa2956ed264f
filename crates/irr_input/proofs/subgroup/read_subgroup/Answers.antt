use Rattle.std.specs.Prelude.{IsTrue}
use Rattle.irr_input.specs.declared.keyword.Keyword.TheVariants.{Subgroup}
use Rattle.irr_input.specs.InputLines.{IsAt}
use Rattle.irr_input.proofs.SubgroupReadings.{no_sub, stops_before, stops_behind}
use Rattle.irr_input.proofs.subgroup.read_subgroup.Goals as goal

pub returns-then-not-is_at-clause-read : goal.returns-then-not-is_at-clause-read
returns-then-not-is_at-clause-read c = no_sub c.args.left.lines c.args.left.text.now

pub returns-then-not-is_at-clause-stops : goal.returns-then-not-is_at-clause-stops
returns-then-not-is_at-clause-stops c =
    let none : ¬ (IsAt Subgroup c.args.left.text.now) = (λ a. let t : IsTrue c.is_at.result = c.is_at.ensures.1 a in absurd (cc (c.if-not-is_at.true))) in
    stops_before c.args.left.text.now none c.requires.ends

pub returns-clause-stops : goal.returns-clause-stops
returns-clause-stops c = stops_behind c.in_ok-sub.sub c.in_ok-sub.left.text.now c.in_ok-sub.ensures.ends
