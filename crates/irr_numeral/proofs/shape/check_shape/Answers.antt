-- The front stays where the bytes so far lead; where it has no next one, the text leaves the grammar.
use Rattle.std.proofs.Common.{◌≡◌, ◌∙◌, refl, sym, ap, length, Some, take, get_or, ℕ, List, ◌≤◌, true}
use Rattle.std.proofs.lemmas.List.{take_all}
use Rattle.irr_grammar.proofs.Recognisers.{state_after, state_after-none, state_after-more, grammar-end, place-whole, place-stopped}
use Rattle.irr_grammar.proofs.ShapePlaces.{place-before}
use Rattle.irr_numeral.specs.declared.shape.Front.{Front}
use Rattle.irr_numeral.specs.declared.shape.Front.TheVariants.{Start}
use Rattle.irr_numeral.specs.Front.{ends_text, kind_of, next_front}
use Rattle.irr_numeral.specs.WrittenNumber.{IsNumber}
use Rattle.irr_numeral.proofs.NumberRecogniser.{number_recogniser, number_recognises}
use Rattle.irr_numeral.proofs.shape.check_shape.Goals as goal

pub loop-place-init : goal.loop-place-init
loop-place-init c = state_after-none number_recogniser Start

pub returns-in-None-clause-place : goal.returns-in-None-clause-place
returns-in-None-clause-place c = place-stopped number_recogniser IsNumber number_recognises c.args.text.now c.loop-place.place c.loop-place.front 0 c.loop-place-test.true c.loop-place.invariant (cc)

pub returns-in-None-clause-number : goal.returns-in-None-clause-number
returns-in-None-clause-number c = (
  λ h. absurd (cc),
  λ h. absurd (place-before IsNumber c.args.text.now c.loop-place.place
      (place-stopped number_recogniser IsNumber number_recognises c.args.text.now c.loop-place.place c.loop-place.front 0 c.loop-place-test.true c.loop-place.invariant (cc)) c.loop-place-test.true h),
)

pub loop-place-preserved : goal.loop-place-preserved
loop-place-preserved c = let next : next_front c.loop-place.front (kind_of (get_or c.args.text.now c.loop-place.place 0)) ≡ Some c.in-Some.next = cc in
    state_after-more number_recogniser c.args.text.now c.loop-place.place c.loop-place.front 0 c.loop-place-test.true c.loop-place.invariant ∙ next

-- at the end of the text
at_end : (xs : List ℕ) (n : ℕ) (f : Front) → length xs ≤ n → state_after number_recogniser Start (take n xs) ≡ Some f → state_after number_recogniser Start xs ≡ Some f
at_end xs n f le e = ap (state_after number_recogniser Start) (sym (take_all n xs le)) ∙ e

pub returns-then-ends-clause-number : goal.returns-then-ends-clause-number
returns-then-ends-clause-number c = let end : ends_text c.loop-place.front ≡ true = cc in (
  λ h. (grammar-end number_recogniser IsNumber number_recognises c.args.text.now c.loop-place.front
      (at_end c.args.text.now c.loop-place.place c.loop-place.front c.loop-place-test.false c.loop-place.invariant)).0 end,
  λ h. refl,
)

pub returns-else-ends-clause-number : goal.returns-else-ends-clause-number
returns-else-ends-clause-number c = (
  λ h. absurd (cc),
  λ h. let end : ends_text c.loop-place.front ≡ true = (grammar-end number_recogniser IsNumber number_recognises c.args.text.now c.loop-place.front
      (at_end c.args.text.now c.loop-place.place c.loop-place.front c.loop-place-test.false c.loop-place.invariant)).1 h in cc,
)

pub returns-else-ends-clause-place : goal.returns-else-ends-clause-place
returns-else-ends-clause-place c = place-whole number_recogniser IsNumber number_recognises c.args.text.now c.loop-place.front
    (at_end c.args.text.now c.loop-place.place c.loop-place.front c.loop-place-test.false c.loop-place.invariant)
