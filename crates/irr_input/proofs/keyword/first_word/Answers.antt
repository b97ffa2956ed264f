use Rattle.std.proofs.Common.{◌≡◌, sym, drop, get_or, [], append-nil, rules}
use Rattle.std.proofs.lemmas.List.{take-append-drop}
use Rattle.irr_token.specs.Kinds.{kind_of}
use Rattle.irr_token.specs.declared.kind.Kind.TheVariants.{Blank}
use Rattle.irr_input.proofs.SectionWords.{ends_at}
use Rattle.irr_input.proofs.keyword.first_word.Goals as goal

pub returns-in-Some-clause-ends : goal.returns-in-Some-clause-ends
returns-in-Some-clause-ends c =
    let blank : kind_of (get_or c.args.text.now c.in-Some.at 0) ≡ Blank = search rules in
    record { behind = drop c.in-Some.at c.args.text.now; spelled = sym (take-append-drop c.in-Some.at c.args.text.now); ends = ends_at c.args.text.now c.in-Some.at blank }

pub returns-in-None-clause-ends : goal.returns-in-None-clause-ends
returns-in-None-clause-ends c = record { behind = []; spelled = sym (append-nil c.args.text.now); ends = tt }
