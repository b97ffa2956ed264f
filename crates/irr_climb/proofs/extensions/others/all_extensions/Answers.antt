-- The families one after another.
use Rattle.std.proofs.Common.{◌≡◌, ◌∙◌, ap, refl, sym, subst, [], ◌∷◌, rules}
use Rattle.irr_algebra.specs.Matrix.{scale}
use Rattle.irr_number.specs.Number.{numbers}
use Rattle.irr_rep.specs.Twisted.{place_count}
use Rattle.irr_climb.specs.Extensions.{exponent_root}
use Rattle.irr_climb.specs.Sizes.{IsSized}
use Rattle.irr_climb.specs.Steps.{large}
use Rattle.irr_climb.proofs.ExtensionLists.{FamiliesSoFar, families_all, families_more, families_none, families_read}
use Rattle.irr_climb.proofs.ExtensionRoots.{first_stands, other, other_at, other_first, other_is, step_roots}
use Rattle.irr_climb.proofs.ExtensionTerms.{extension_sized}
use Rattle.irr_climb.proofs.extensions.others.all_extensions.Goals as goal

pub other_extension-requires-clause-first : goal.other_extension-requires-clause-first
other_extension-requires-clause-first g c =
    let e = c.requires.extension in
    let read = c.in_ok-first.ensures e in
    (e.is, e.d, e.E, read, extension_sized e.is e.D e.E e.fixed e.at-member e.few_members c.in_ok-first.first read)

pub loop-a-init : goal.loop-a-init
loop-a-init g c e =
    let M = c.args.order.now.n in
    let K = other e.is e.D e.E e.at-member in
    families_more M (large e.is) K 0 [] (c.in_ok-first.first ∷ c.new-extensions.result.items) c.in_ok-first.first
    (families_none M (large e.is) K [] refl) (ap (λ fs. c.in_ok-first.first ∷ fs) c.new-extensions.ensures.items)
    (λ i q. other_first e.is e.D e.E e.at-member c.in_ok-first.first (c.in_ok-first.ensures e) i q)

pub loop-a-preserved : goal.loop-a-preserved
loop-a-preserved g c e =
    let M = c.args.order.now.n in
    let K = other e.is e.D e.E e.at-member in
    let first = c.in_ok-first.first in
    families_more M (large e.is) K c.loop-a.a (first ∷ c.loop-a.extensions.items) (first ∷ c.push.new.self.items) c.in_ok-next.next
    (c.loop-a.invariant e) (ap (λ fs. first ∷ fs) c.in_ok-push.ensures.items)
    (λ i q. c.in_ok-next.ensures e.is e.d e.E (K i) (c.in_ok-first.ensures e)
    (λ p. subst (λ k. (K i).at p ≡ scale (numbers M) (exponent_root e.is k p) (e.E.at p)) q (other_at e.is e.D e.E e.at-member i p)))

pub returns-clause-extensions : goal.returns-clause-extensions
returns-clause-extensions g c e =
    let M = c.args.order.now.n in
    let K = other e.is e.D e.E e.at-member in
    let done : c.loop-a.a ≡ c.args.step.now.index = search rules in
    let all = subst (λ k. FamiliesSoFar M (large e.is) K k (c.in_ok-first.first ∷ c.loop-a.extensions.items)) (done ∙ e.is.index) (c.loop-a.invariant e) in
    let whole = subst (λ fs. FamiliesSoFar M (large e.is) K e.is.quotient.index fs) (sym c.in_ok-insert.ensures.items) all in
    record {
      matrix = e.E.at e.is.quotient.generator;
      stands = first_stands e.is e.D e.E e.at-member;
      roots = step_roots e.is;
      extension = K;
      extends = other_is e.is e.D e.E e.at-member;
      read = families_read M (large e.is) K c.insert.new.self.items whole;
    }

pub returns-clause-sizes : goal.returns-clause-sizes
returns-clause-sizes g c e =
    let M = c.args.order.now.n in
    let K = other e.is e.D e.E e.at-member in
    let done : c.loop-a.a ≡ c.args.step.now.index = search rules in
    let all = subst (λ k. FamiliesSoFar M (large e.is) K k (c.in_ok-first.first ∷ c.loop-a.extensions.items)) (done ∙ e.is.index) (c.loop-a.invariant e) in
    let whole = subst (λ fs. FamiliesSoFar M (large e.is) K e.is.quotient.index fs) (sym c.in_ok-insert.ensures.items) all in
    families_all M (large e.is) K (λ f. IsSized M (place_count c.args.step.now.outer) f)
    (λ a f r. extension_sized e.is e.D (K a) e.fixed (λ n.
    (other_is e.is e.D e.E e.at-member a).at-member n) e.few_members f r) c.insert.new.self.items whole
