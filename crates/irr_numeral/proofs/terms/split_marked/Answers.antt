-- By whether the mark stands at the front.
use Rattle.std.proofs.Common.{◌≡◌, ◌≢◌, ◌∙◌, sym, ap, List, ℕ, Some, None, ◌++◌}
use Rattle.std.proofs.lemmas.Bool.Decides.{Decides-eqb}
use Rattle.std.proofs.lemmas.List.{append_cancel_left}
use Rattle.std.proofs.lemmas.Slice.Eq.{strip_prefix_is}
use Rattle.irr_numeral.proofs.terms.split_marked.Goals as goal

pub returns-in-Some-clause-marked : goal.returns-in-Some-clause-marked
returns-in-Some-clause-marked c = λ digits rest all no e.
    let at : c.args.text.now ≡ c.args.mark.now ++ c.in-Some.behind.now = strip_prefix_is Decides-eqb c.args.text.now c.args.mark.now (Some c.in-Some.behind) c.in-Some.ensures.cases in
    let parts = c.split_digits.ensures digits rest all no (append_cancel_left c.args.mark.now c.in-Some.behind.now (digits ++ rest) (sym at ∙ e)) in
    (ap Some parts.0, parts.1)

pub returns-in-Some-clause-unmarked : goal.returns-in-Some-clause-unmarked
returns-in-Some-clause-unmarked c = λ n.
    let at : c.args.text.now ≡ c.args.mark.now ++ c.in-Some.behind.now = strip_prefix_is Decides-eqb c.args.text.now c.args.mark.now (Some c.in-Some.behind) c.in-Some.ensures.cases in
    absurd (n c.in-Some.behind.now at)

pub returns-in-None-clause-marked : goal.returns-in-None-clause-marked
returns-in-None-clause-marked c = λ digits rest all no e.
    let not_at : (zs : List ℕ) → c.args.text.now ≢ c.args.mark.now ++ zs = strip_prefix_is Decides-eqb c.args.text.now c.args.mark.now None c.in-None.ensures.cases in
    absurd (not_at (digits ++ rest) e)
