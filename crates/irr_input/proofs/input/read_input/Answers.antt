-- What was read, or refused, is all that the bytes say.
use Rattle.irr_input.proofs.OneInput.{input_unique, input_or_fault, input_or_limit, only_memory, same_error, same_limit, matched}
use Rattle.irr_input.proofs.input.read_input.Goals as goal

pub returns-clause-only : goal.returns-clause-only
returns-clause-only g c = λ gens sub report i.
    matched _ _ _ _ c.read_sections.result (λ a h. input_unique c.args.text.now _ gens _ sub _ report h i) (λ e h. only_memory c.args.text.now e gens sub report h i)
    c.read_sections.ensures.input c.read_sections.ensures.fault

pub returns-clause-refused : goal.returns-clause-refused
returns-clause-refused g c = λ n reason f.
    matched _ _ _ _ c.read_sections.result (λ a h. input_or_fault c.args.text.now _ _ _ n reason h f) (λ e h. same_error c.args.text.now e n reason h f)
    c.read_sections.ensures.input c.read_sections.ensures.fault

pub returns-clause-limited_line : goal.returns-clause-limited_line
returns-clause-limited_line g c = λ n f.
    matched _ _ _ _ c.read_sections.result (λ a h. input_or_limit c.args.text.now _ _ _ n h f) (λ e h. same_limit c.args.text.now e n h f)
    c.read_sections.ensures.input c.read_sections.ensures.fault
