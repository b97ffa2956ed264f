-- By whether the words stand at the front.
use Rattle.std.specs.Prelude.{Option, Some, None, IfSome, IsNone}
use Rattle.std.specs.Option.{MatchOption}
use Rattle.std.proofs.lemmas.Bool.Decides.{Decides-eqb}
use Rattle.std.proofs.lemmas.Slice.Eq.{strip_prefix_is}
use Rattle.irr_report.proofs.words.behind.Goals as goal

some_case : {A : Type 0} (N : Type 0) (P : A → Type 0) (r : Option A) → MatchOption r N P → IfSome r P
some_case N P None h = tt
some_case N P (Some x) h = h

none_case : {A : Type 0} (N : Type 0) (P : A → Type 0) (r : Option A) → MatchOption r N P → IsNone r → N
none_case N P None h i = h
none_case N P (Some x) h i = absurd (cc)

pub returns-clause-some : goal.returns-clause-some
returns-clause-some c = some_case _ _ c.strip_prefix.result (strip_prefix_is Decides-eqb c.args.line.now c.args.words.now c.strip_prefix.result c.strip_prefix.ensures.cases)

pub returns-clause-none : goal.returns-clause-none
returns-clause-none c = none_case _ _ c.strip_prefix.result (strip_prefix_is Decides-eqb c.args.line.now c.args.words.now c.strip_prefix.result c.strip_prefix.ensures.cases)
