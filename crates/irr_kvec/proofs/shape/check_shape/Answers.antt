-- The front stays where the bytes so far lead; where it has no next one, the text leaves the grammar.
use Rattle.std.proofs.Common.{◌≡◌, ◌∙◌, refl, sym, ap, length, None, Some, take, get_or, ℕ, List, ◌≤◌, true}
use Rattle.std.proofs.lemmas.List.{take_all}
use Rattle.irr_grammar.proofs.Recognisers.{state_after, state_after-none, state_after-more, grammar-end, place-whole, place-stopped}
use Rattle.irr_grammar.proofs.ShapePlaces.{place-before}
use Rattle.irr_token.specs.declared.kind.Kind.{Kind}
use Rattle.irr_token.specs.declared.kind.Kind.TheVariants.{Mark}
use Rattle.irr_token.specs.Kinds.{kind_of}
use Rattle.irr_kvec.specs.declared.shape.Part.TheVariants.{First}
use Rattle.irr_kvec.specs.declared.shape.Front.{Front}
use Rattle.irr_kvec.specs.declared.shape.Front.TheVariants.{Start}
use Rattle.irr_kvec.specs.WaveFront.{ends_front, front_after}
use Rattle.irr_kvec.specs.WrittenWave.{IsWave}
use Rattle.irr_kvec.proofs.WaveRecogniser.{wave_recogniser, wave_recognises, step-some, step-none, is-end, end-is}
use Rattle.irr_kvec.proofs.shape.check_shape.Goals as goal

pub loop-place-init : goal.loop-place-init
loop-place-init c = state_after-none wave_recogniser (Start First, Mark)

pub returns-in-None-clause-place : goal.returns-in-None-clause-place
returns-in-None-clause-place c =
    let none : front_after c.loop-place.front c.loop-place.last (kind_of (get_or c.args.text.now c.loop-place.place 0)) (get_or c.args.text.now c.loop-place.place 0) ≡ None = cc in
    place-stopped wave_recogniser IsWave wave_recognises c.args.text.now c.loop-place.place (c.loop-place.front, c.loop-place.last) 0 c.loop-place-test.true c.loop-place.invariant
    (step-none c.loop-place.front c.loop-place.last (get_or c.args.text.now c.loop-place.place 0) none)

pub returns-in-None-clause-wave : goal.returns-in-None-clause-wave
returns-in-None-clause-wave c =
    let none : front_after c.loop-place.front c.loop-place.last (kind_of (get_or c.args.text.now c.loop-place.place 0)) (get_or c.args.text.now c.loop-place.place 0) ≡ None = cc in (
      λ h. absurd (cc),
      λ h. absurd (place-before IsWave c.args.text.now c.loop-place.place
          (place-stopped wave_recogniser IsWave wave_recognises c.args.text.now c.loop-place.place (c.loop-place.front, c.loop-place.last) 0 c.loop-place-test.true c.loop-place.invariant
          (step-none c.loop-place.front c.loop-place.last (get_or c.args.text.now c.loop-place.place 0) none)) c.loop-place-test.true h),
    )

pub loop-place-preserved : goal.loop-place-preserved
loop-place-preserved c =
    let next : front_after c.loop-place.front c.loop-place.last (kind_of (get_or c.args.text.now c.loop-place.place 0)) (get_or c.args.text.now c.loop-place.place 0) ≡ Some c.in-Some.next = cc in
    state_after-more wave_recogniser c.args.text.now c.loop-place.place (c.loop-place.front, c.loop-place.last) 0 c.loop-place-test.true c.loop-place.invariant
    ∙ step-some c.loop-place.front c.in-Some.next c.loop-place.last (get_or c.args.text.now c.loop-place.place 0) next
    ∙ ap (λ (k : Kind). Some (c.in-Some.next, k)) (sym c.kind_of_byte-last.ensures)

-- at the end of the text
at_end : (xs : List ℕ) (n : ℕ) (f : Front) (last : Kind) → length xs ≤ n → state_after wave_recogniser (Start First, Mark) (take n xs) ≡ Some (f, last)
    → state_after wave_recogniser (Start First, Mark) xs ≡ Some (f, last)
at_end xs n f last le e = ap (state_after wave_recogniser (Start First, Mark)) (sym (take_all n xs le)) ∙ e

pub returns-then-ends-clause-wave : goal.returns-then-ends-clause-wave
returns-then-ends-clause-wave c = let end : ends_front c.loop-place.front c.loop-place.last ≡ true = cc in (
  λ h. (grammar-end wave_recogniser IsWave wave_recognises c.args.text.now (c.loop-place.front, c.loop-place.last)
      (at_end c.args.text.now c.loop-place.place c.loop-place.front c.loop-place.last c.loop-place-test.false c.loop-place.invariant)).0 (is-end c.loop-place.front c.loop-place.last end),
  λ h. refl,
)

pub returns-else-ends-clause-wave : goal.returns-else-ends-clause-wave
returns-else-ends-clause-wave c = (
  λ h. absurd (cc),
  λ h. let end : ends_front c.loop-place.front c.loop-place.last ≡ true = end-is c.loop-place.front c.loop-place.last
      ((grammar-end wave_recogniser IsWave wave_recognises c.args.text.now (c.loop-place.front, c.loop-place.last)
      (at_end c.args.text.now c.loop-place.place c.loop-place.front c.loop-place.last c.loop-place-test.false c.loop-place.invariant)).1 h) in cc,
)

pub returns-else-ends-clause-place : goal.returns-else-ends-clause-place
returns-else-ends-clause-place c = place-whole wave_recogniser IsWave wave_recognises c.args.text.now (c.loop-place.front, c.loop-place.last)
    (at_end c.args.text.now c.loop-place.place c.loop-place.front c.loop-place.last c.loop-place-test.false c.loop-place.invariant)
