-- The front stays where the bytes so far lead; where it has no next one, the text leaves the grammar.
use Rattle.std.proofs.Common.{◌≡◌, ◌∙◌, refl, sym, ap, length, None, Some, take, get_or, ℕ, List, ◌≤◌, true}
use Rattle.std.proofs.lemmas.List.{take_all}
use Rattle.irr_grammar.proofs.Recognisers.{state_after, state_after-none, state_after-more, grammar-end, place-whole, place-stopped}
use Rattle.irr_grammar.proofs.ShapePlaces.{place-before}
use Rattle.irr_token.specs.declared.kind.Kind.{Kind}
use Rattle.irr_token.specs.declared.kind.Kind.TheVariants.{Mark}
use Rattle.irr_token.specs.Kinds.{kind_of}
use Rattle.irr_triplet.specs.declared.shape.Front.{Front}
use Rattle.irr_triplet.specs.declared.shape.Front.TheVariants.{Before}
use Rattle.irr_triplet.specs.TripletFront.{ends_triplet, front_after}
use Rattle.irr_triplet.specs.WrittenTriplet.{IsTriplet}
use Rattle.irr_triplet.proofs.TripletRecogniser.{triplet_recogniser, triplet_recognises, step-some, step-none, live-after, is-end, end-is}
use Rattle.irr_triplet.proofs.shape.check_shape.Goals as goal

pub loop-place-init : goal.loop-place-init
loop-place-init c = (state_after-none triplet_recogniser (Before, Mark), refl)

pub returns-in-None-clause-place : goal.returns-in-None-clause-place
returns-in-None-clause-place c =
    let none : front_after c.loop-place.front c.loop-place.last (kind_of (get_or c.args.text.now c.loop-place.place 0)) (get_or c.args.text.now c.loop-place.place 0) ≡ None = cc in
    place-stopped triplet_recogniser IsTriplet triplet_recognises c.args.text.now c.loop-place.place (c.loop-place.front, c.loop-place.last) 0 c.loop-place-test.true c.loop-place.invariant.0
    (step-none c.loop-place.front c.loop-place.last (get_or c.args.text.now c.loop-place.place 0) none)

pub returns-in-None-clause-triplet : goal.returns-in-None-clause-triplet
returns-in-None-clause-triplet c =
    let none : front_after c.loop-place.front c.loop-place.last (kind_of (get_or c.args.text.now c.loop-place.place 0)) (get_or c.args.text.now c.loop-place.place 0) ≡ None = cc in (
      λ h. absurd (cc),
      λ h. absurd (place-before IsTriplet c.args.text.now c.loop-place.place
          (place-stopped triplet_recogniser IsTriplet triplet_recognises c.args.text.now c.loop-place.place (c.loop-place.front, c.loop-place.last) 0 c.loop-place-test.true c.loop-place.invariant.0
          (step-none c.loop-place.front c.loop-place.last (get_or c.args.text.now c.loop-place.place 0) none)) c.loop-place-test.true h),
    )

pub loop-place-preserved : goal.loop-place-preserved
loop-place-preserved c =
    let next : front_after c.loop-place.front c.loop-place.last (kind_of (get_or c.args.text.now c.loop-place.place 0)) (get_or c.args.text.now c.loop-place.place 0) ≡ Some c.in-Some.next = cc in (
      state_after-more triplet_recogniser c.args.text.now c.loop-place.place (c.loop-place.front, c.loop-place.last) 0 c.loop-place-test.true c.loop-place.invariant.0
          ∙ step-some c.loop-place.front c.in-Some.next c.loop-place.last (get_or c.args.text.now c.loop-place.place 0) next
          ∙ ap (λ (k : Kind). Some (c.in-Some.next, k)) (sym c.kind_of_byte-last.ensures),
      live-after c.loop-place.front c.in-Some.next c.loop-place.last (kind_of (get_or c.args.text.now c.loop-place.place 0)) (get_or c.args.text.now c.loop-place.place 0) next c.loop-place.invariant.1,
    )

-- at the end of the text
at_end : (xs : List ℕ) (n : ℕ) (f : Front) (last : Kind) → length xs ≤ n → state_after triplet_recogniser (Before, Mark) (take n xs) ≡ Some (f, last)
    → state_after triplet_recogniser (Before, Mark) xs ≡ Some (f, last)
at_end xs n f last le e = ap (state_after triplet_recogniser (Before, Mark)) (sym (take_all n xs le)) ∙ e

pub returns-then-ends-clause-triplet : goal.returns-then-ends-clause-triplet
returns-then-ends-clause-triplet c = let end : ends_triplet c.loop-place.front ≡ true = cc in (
  λ h. (grammar-end triplet_recogniser IsTriplet triplet_recognises c.args.text.now (c.loop-place.front, c.loop-place.last)
      (at_end c.args.text.now c.loop-place.place c.loop-place.front c.loop-place.last c.loop-place-test.false c.loop-place.invariant.0)).0 (is-end c.loop-place.front c.loop-place.last end),
  λ h. refl,
)

pub returns-else-ends-clause-triplet : goal.returns-else-ends-clause-triplet
returns-else-ends-clause-triplet c = (
  λ h. absurd (cc),
  λ h. let end : ends_triplet c.loop-place.front ≡ true = end-is c.loop-place.front c.loop-place.last c.loop-place.invariant.1
      ((grammar-end triplet_recogniser IsTriplet triplet_recognises c.args.text.now (c.loop-place.front, c.loop-place.last)
      (at_end c.args.text.now c.loop-place.place c.loop-place.front c.loop-place.last c.loop-place-test.false c.loop-place.invariant.0)).1 h) in cc,
)

pub returns-else-ends-clause-place : goal.returns-else-ends-clause-place
returns-else-ends-clause-place c = place-whole triplet_recogniser IsTriplet triplet_recognises c.args.text.now (c.loop-place.front, c.loop-place.last)
    (at_end c.args.text.now c.loop-place.place c.loop-place.front c.loop-place.last c.loop-place-test.false c.loop-place.invariant.0)
