-- The terms' texts, one after another.
use Rattle.std.proofs.Common.{rules, arith, ℕ, ℤ, pos, ◌≡◌, ◌≢◌, ◌<◌, ◌≤◌, ◌+◌, ◌++◌, ◌∙◌, ap, ap₂, sym, subst, List, [], IfOk, take, length, get_or, FitsSigned}
use Rattle.std.specs.Int.{w128}
use Rattle.std.specs.List.{flat_map}
use Rattle.std.proofs.lemmas.Int.{to_z-of_z}
use Rattle.std.proofs.lemmas.List.{flat_map_more, take_all, take_more}
use Rattle.irr_rational.specs.Rational.{ratio}
use Rattle.irr_canonical.specs.Coefficient.{canonical, denominator}
use Rattle.irr_text.specs.NumberText.{sum_text, term_text}
use Rattle.irr_cyc.specs.Terms.{nonzero_terms}
use Rattle.irr_numeral.proofs.PrintedTerms.{written, nonzero-terms, number_text-terms, denominator-pos}
use Rattle.irr_numeral.proofs.print.print_number.Goals as goal

pub push_term-requires-clause-positive : goal.push_term-requires-clause-positive
push_term-requires-clause-positive g c = let n = g.S.Scalar.order_of c.args.x.now in let positive = denominator-pos n (g.S.Scalar.value n c.args.x.now) in omega (arith, positive, c.in_ok-canonical.ensures.denominator)

some_of : (xs ys : List (ℕ × ℤ)) (i : ℕ) (a : ℤ) → xs ≡ ys → ((k : ℕ) (d : ℕ × ℤ) → k < length ys → (get_or ys k d).1 ≢ pos 0) → i < length xs → a ≡ (get_or xs i (0, pos 0)).1 → a ≢ pos 0
some_of xs ys i a e all h f z = all i (0, pos 0) (subst (λ (l : List (ℕ × ℤ)). i < length l) e h) (ap (λ (l : List (ℕ × ℤ)). (get_or l i (0, pos 0)).1) (sym e) ∙ sym f ∙ z)

pub push_term-requires-clause-some : goal.push_term-requires-clause-some
push_term-requires-clause-some g c = let n = g.S.Scalar.order_of c.args.x.now in let f = (canonical n (g.S.Scalar.value n c.args.x.now)).num.at in
    let fits : FitsSigned w128 (get_or c.deref-term-items.result.now c.loop-term.term-index (0, pos 0)).1 = search rules in
    some_of c.deref-term-items.result.now (nonzero_terms n f) c.loop-term.term-index _ (c.deref-term-items.ensures.value ∙ c.in_ok-canonical.ensures.terms) (nonzero-terms n f) c.loop-term-test.true (to_z-of_z w128 _ fits)

one_more : (d e i : ℕ) (xs : List (ℕ × ℤ)) (text new : List ℕ) (a : ℤ) → i < length xs → text ≡ flat_map (written e) (take i xs) → new ≡ text ++ term_text (ratio a d) (get_or xs i (0, pos 0)).0
    → d ≡ e → a ≡ (get_or xs i (0, pos 0)).1 → new ≡ flat_map (written e) (take (i + 1) xs)
one_more d e i xs text new a h t n f g =
    n ∙ ap₂ (λ l b. l ++ term_text b (get_or xs i (0, pos 0)).0) t (ap₂ ratio g f) ∙ flat_map_more (written e) [] (take i xs) (get_or xs i (0, pos 0)) ∙ ap (flat_map (written e)) (sym (take_more xs i (0, pos 0) h))

pub loop-term-preserved : goal.loop-term-preserved
loop-term-preserved g c =
    let fits : FitsSigned w128 (get_or c.deref-term-items.result.now c.loop-term.term-index (0, pos 0)).1 = search rules in
    one_more c.in_ok-canonical.canonical.den _ c.loop-term.term-index c.deref-term-items.result.now c.loop-term.text.items c.push_term.new.text.items _ c.loop-term-test.true c.loop-term.invariant c.in_ok-push_term.ensures
    c.in_ok-canonical.ensures.denominator (to_z-of_z w128 _ fits)

all_terms : (e : ℕ) (xs ys : List (ℕ × ℤ)) (i : ℕ) (text : List ℕ) → length xs ≤ i → text ≡ flat_map (written e) (take i xs) → xs ≡ ys → sum_text text ≡ sum_text (flat_map (written e) ys)
all_terms e xs ys i text le t f = ap sum_text (t ∙ ap (flat_map (written e)) (take_all i xs le ∙ f))

pub returns : goal.returns
returns g c = let n = g.S.Scalar.order_of c.args.x.now in let x = g.S.Scalar.value n c.args.x.now in
    let whole = all_terms (denominator n x) c.deref-term-items.result.now (nonzero_terms n (canonical n x).num.at) c.loop-term.term-index c.loop-term.text.items c.loop-term-test.false c.loop-term.invariant (c.deref-term-items.ensures.value ∙ c.in_ok-canonical.ensures.terms) in
    subst (λ (t : List ℕ). IfOk c.as_sum.result (λ text. text.items ≡ t)) (whole ∙ sym (number_text-terms n x)) c.as_sum.ensures
