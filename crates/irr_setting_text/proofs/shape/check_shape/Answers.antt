-- The front stays where the bytes so far lead; where it has no next one, the line leaves the grammar.
use Rattle.std.proofs.Common.{◌≡◌, ◌∙◌, refl, sym, ap, length, None, Some, take, get_or, ℕ, List, ◌≤◌, true}
use Rattle.std.proofs.lemmas.List.{take_all}
use Rattle.std.specs.Option.{option_map}
use Rattle.irr_grammar.proofs.Recognisers.{state_after, state_after-none, state_after-more, grammar-end, place-whole, place-stopped}
use Rattle.irr_grammar.proofs.ShapePlaces.{place-before}
use Rattle.irr_setting_text.specs.declared.shape.Stage.TheVariants.{Start}
use Rattle.irr_setting_text.specs.WrittenLine.{IsLine}
use Rattle.irr_setting_text.specs.LineFront.{State, state_of, next_state, ends_line}
use Rattle.irr_setting_text.proofs.LineRecogniser.{line_recogniser, line_recognises}
use Rattle.irr_setting_text.proofs.shape.check_shape.Goals as goal

-- at the start, and at the end of the line
abbrev at_start : List ℕ → ℕ → State
at_start word n = record { stage = Start; word = word; left = n }

at_end : (word : List ℕ) (n : ℕ) (xs : List ℕ) (k : ℕ) (s : State) → length xs ≤ k → state_after (line_recogniser word n) (at_start word n) (take k xs) ≡ Some s
    → state_after (line_recogniser word n) (at_start word n) xs ≡ Some s
at_end word n xs k s le e = ap (state_after (line_recogniser word n) (at_start word n)) (sym (take_all k xs le)) ∙ e

pub loop-place-init : goal.loop-place-init
loop-place-init c = state_after-none (line_recogniser c.args.word.now c.args.count) (at_start c.args.word.now c.args.count)

pub returns-in-None-clause-place : goal.returns-in-None-clause-place
returns-in-None-clause-place c =
    let f = c.loop-place.front in
    let none : next_state f.stage f.word.now f.left (get_or c.args.line.now c.loop-place.place 0) ≡ None = sym c.after.ensures ∙ ap (option_map state_of) c.in-None.is in
    place-stopped (line_recogniser c.args.word.now c.args.count) (IsLine c.args.word.now c.args.count) (line_recognises c.args.word.now c.args.count c.requires) c.args.line.now
    c.loop-place.place (state_of f) 0 c.loop-place-test.true c.loop-place.invariant none

pub returns-in-None-clause-line : goal.returns-in-None-clause-line
returns-in-None-clause-line c = (
  λ h. absurd (cc),
  λ h. let f = c.loop-place.front in
      let none : next_state f.stage f.word.now f.left (get_or c.args.line.now c.loop-place.place 0) ≡ None = sym c.after.ensures ∙ ap (option_map state_of) c.in-None.is in
      absurd (place-before (IsLine c.args.word.now c.args.count) c.args.line.now c.loop-place.place
      (place-stopped (line_recogniser c.args.word.now c.args.count) (IsLine c.args.word.now c.args.count) (line_recognises c.args.word.now c.args.count c.requires) c.args.line.now
      c.loop-place.place (state_of f) 0 c.loop-place-test.true c.loop-place.invariant none) c.loop-place-test.true h),
)

pub loop-place-preserved : goal.loop-place-preserved
loop-place-preserved c =
    let f = c.loop-place.front in
    state_after-more (line_recogniser c.args.word.now c.args.count) c.args.line.now c.loop-place.place (state_of f) 0 c.loop-place-test.true c.loop-place.invariant
    ∙ sym c.after.ensures ∙ ap (option_map state_of) c.in-Some.is

pub returns-then-ends-clause-line : goal.returns-then-ends-clause-line
returns-then-ends-clause-line c = let end : ends_line (state_of c.loop-place.front) ≡ true = cc in (
  λ h. (grammar-end (line_recogniser c.args.word.now c.args.count) (IsLine c.args.word.now c.args.count) (line_recognises c.args.word.now c.args.count c.requires) c.args.line.now
      (state_of c.loop-place.front) (at_end c.args.word.now c.args.count c.args.line.now c.loop-place.place (state_of c.loop-place.front) c.loop-place-test.false c.loop-place.invariant)).0 end,
  λ h. refl,
)

pub returns-else-ends-clause-line : goal.returns-else-ends-clause-line
returns-else-ends-clause-line c = (
  λ h. absurd (cc),
  λ h. let end : ends_line (state_of c.loop-place.front) ≡ true =
      (grammar-end (line_recogniser c.args.word.now c.args.count) (IsLine c.args.word.now c.args.count) (line_recognises c.args.word.now c.args.count c.requires) c.args.line.now
      (state_of c.loop-place.front) (at_end c.args.word.now c.args.count c.args.line.now c.loop-place.place (state_of c.loop-place.front) c.loop-place-test.false c.loop-place.invariant)).1 h in cc,
)

pub returns-else-ends-clause-place : goal.returns-else-ends-clause-place
returns-else-ends-clause-place c = place-whole (line_recogniser c.args.word.now c.args.count) (IsLine c.args.word.now c.args.count)
    (line_recognises c.args.word.now c.args.count c.requires) c.args.line.now (state_of c.loop-place.front)
    (at_end c.args.word.now c.args.count c.args.line.now c.loop-place.place (state_of c.loop-place.front) c.loop-place-test.false c.loop-place.invariant)
