-- Term by term.
use Rattle.std.proofs.Common.{arith, ◌≡◌, ◌<◌, sym, refl, ◌-◌, subst, length, map}
use Rattle.std.proofs.lemmas.Grind.{common_steps}
use Rattle.irr_numeral.specs.TermPlaces.{written_term}
use Rattle.irr_numeral.proofs.Splits.{IsReadTo, IsSignSplit, next-term, unsigned-fits, rest-smaller, read-more, read-all}
use Rattle.irr_numeral.proofs.terms.terms.Goals as goal

pub overflow_sub-text : goal.overflow_sub-text
overflow_sub-text c =
    let some : 0 < length c.loop-text.rest.now = grind (arith, common_steps) in
    let sign : IsSignSplit c.loop-text.rest.now c.split_sign-negative.result.0 c.split_sign-negative.result.1.now = record { minus = c.split_sign-negative.ensures.minus; plus = c.split_sign-negative.ensures.plus; none = c.split_sign-negative.ensures.none } in
    unsigned-fits c.args.text.now c.loop-text.rest.now c.split_sign-negative.result.1.now (map written_term c.loop-text.terms.items) c.split_sign-negative.result.0
    (next-term c.args.text.now c.loop-text.rest.now c.split_sign-negative.result.1.now c.loop-text.terms.items c.split_sign-negative.result.0 c.loop-text.invariant some sign)

pub loop-text-smaller : goal.loop-text-smaller
loop-text-smaller c =
    let some : 0 < length c.loop-text.rest.now = grind (arith, common_steps) in
    let sign : IsSignSplit c.loop-text.rest.now c.split_sign-negative.result.0 c.split_sign-negative.result.1.now = record { minus = c.split_sign-negative.ensures.minus; plus = c.split_sign-negative.ensures.plus; none = c.split_sign-negative.ensures.none } in
    rest-smaller c.args.text.now c.loop-text.rest.now c.split_sign-negative.result.1.now (map written_term c.loop-text.terms.items) c.split_sign-negative.result.0 c.split_term-parts.result.rest.now
    (next-term c.args.text.now c.loop-text.rest.now c.split_sign-negative.result.1.now c.loop-text.terms.items c.split_sign-negative.result.0 c.loop-text.invariant some sign)
    (λ t ys is behind e. (c.split_term-parts.ensures t ys is behind e).rest)

pub loop-text-preserved : goal.loop-text-preserved
loop-text-preserved c =
    let some : 0 < length c.loop-text.rest.now = grind (arith, common_steps) in
    let sign : IsSignSplit c.loop-text.rest.now c.split_sign-negative.result.0 c.split_sign-negative.result.1.now = record { minus = c.split_sign-negative.ensures.minus; plus = c.split_sign-negative.ensures.plus; none = c.split_sign-negative.ensures.none } in
    let read = read-more c.args.text.now c.loop-text.rest.now c.split_sign-negative.result.1.now c.loop-text.terms.items
    (record { negative = c.split_sign-negative.result.0; place = length c.args.text.now - length c.split_sign-negative.result.1.now; numerator = c.split_term-parts.result.numerator; denominator = c.split_term-parts.result.denominator; exponent = c.split_term-parts.result.exponent })
    c.split_term-parts.result.rest.now c.loop-text.invariant
    (next-term c.args.text.now c.loop-text.rest.now c.split_sign-negative.result.1.now c.loop-text.terms.items c.split_sign-negative.result.0 c.loop-text.invariant some sign)
    (λ t ys is behind e. let s = c.split_term-parts.ensures t ys is behind e in (s.numerator, s.denominator, s.exponent, s.rest)) (refl) in
    subst (λ l. IsReadTo c.args.text.now l c.split_term-parts.result.rest.now) (sym c.in_ok-push.ensures.items) read

pub returns-clause-are_terms : goal.returns-clause-are_terms
returns-clause-are_terms c = let none : length c.loop-text.rest.now ≡ 0 = grind (arith, common_steps) in (read-all c.args.text.now c.loop-text.rest.now c.loop-text.terms.items c.loop-text.invariant none).0

pub returns-clause-spells : goal.returns-clause-spells
returns-clause-spells c = let none : length c.loop-text.rest.now ≡ 0 = grind (arith, common_steps) in (read-all c.args.text.now c.loop-text.rest.now c.loop-text.terms.items c.loop-text.invariant none).1
