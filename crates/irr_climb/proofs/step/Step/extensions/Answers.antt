-- The extensions from the traces of one of them.
use Rattle.std.proofs.Common.{◌≡◌, ◌<◌, ◌≤◌, sym, ◌∙◌, ap, subst, length, get_or, ℕ, List, IfOk, rules}
use Rattle.std.specs.List.{All}
use Rattle.std.proofs.lemmas.List.Elements.{All-get_or}
use Rattle.irr_rep.specs.Twisted.{place_count}
use Rattle.irr_climb.specs.Extensions.{HasExtension}
use Rattle.irr_climb.specs.Sizes.{AreSized}
use Rattle.irr_climb.specs.Steps.{AreExtensions}
use Rattle.irr_climb.proofs.ExtensionFrom.{has_extension}
use Rattle.irr_climb.proofs.ExtensionTerms.{members_positive}
use Rattle.irr_climb.proofs.step.Step.extensions.Goals as goal

-- the order of the first number
first_is : {S : Type 0} (order : S → ℕ) (M : ℕ) (xs : List S) (x : S) → 0 < length xs → x ≡ get_or xs 0 x → All (λ y. order y ≡ M) xs → order x ≡ M
first_is order M xs x l e h = ap order e ∙ All-get_or (λ y. order y ≡ M) xs 0 x l h

pub index-requires : goal.index-requires
index-requires g c =
    let r = c.requires in
    let t = c.in_ok-traces.ensures r.0 r.1 r.2 r.3 r.4 in
    let l : 0 < length c.in_ok-traces.traces.items = subst (λ k. 0 < k) (sym t.2.count) (members_positive r.1) in
    search rules

pub all_extensions-requires-clause-admitted : goal.all_extensions-requires-clause-admitted
all_extensions-requires-clause-admitted g c =
    subst (λ k. g.S.Scalar.admits k) (sym (c.in_ok-order.ensures ∙ c.order.ensures)) (g.met.S.Scalar.order_admitted c.index.result.now)

pub all_extensions-requires-clause-extension : goal.all_extensions-requires-clause-extension
all_extensions-requires-clause-extension g c =
    let step = c.args.self.now in
    let f = c.args.family.now in
    let traces = c.in_ok-traces.traces.items in
    let r = c.requires in
    let t = c.in_ok-traces.ensures r.0 r.1 r.2 r.3 r.4 in
    let l : 0 < length traces = subst (λ k. 0 < k) (sym t.2.count) (members_positive r.1) in
    let same = c.in_ok-order.ensures ∙ c.order.ensures ∙ first_is g.S.Scalar.order_of r.0 traces c.index.result.now l c.index.ensures t.2.orders in
    subst (λ xs. HasExtension c.in_ok-order.order.n step f xs) (sym c.as_slice.ensures.value)
    (subst (λ k. HasExtension k step f traces) (sym same) (has_extension r.1 r.3 f traces step.outer.places_within r.4 t.0 t.1 t.2))

pub returns-clause-extensions : goal.returns-clause-extensions
returns-clause-extensions g c M step d D fixed =
    let f = c.args.family.now in
    let traces = c.in_ok-traces.traces.items in
    let t = c.in_ok-traces.ensures M step d D fixed in
    let l : 0 < length traces = subst (λ k. 0 < k) (sym t.2.count) (members_positive step) in
    let same = c.in_ok-order.ensures ∙ c.order.ensures ∙ first_is g.S.Scalar.order_of M traces c.index.result.now l c.index.ensures t.2.orders in
    subst (λ k. (e : HasExtension k c.args.self.now f traces) → IfOk c.all_extensions.result (λ fs. AreExtensions e.is e.D fs.items)) same
    (subst (λ xs. (e : HasExtension c.in_ok-order.order.n c.args.self.now f xs) → IfOk c.all_extensions.result
    (λ fs. AreExtensions e.is e.D fs.items))
    c.as_slice.ensures.value c.all_extensions.ensures.extensions)
    (has_extension step D f traces c.args.self.now.outer.places_within fixed t.0 t.1 t.2)

pub returns-clause-sizes : goal.returns-clause-sizes
returns-clause-sizes g c M step d D fixed =
    let f = c.args.family.now in
    let traces = c.in_ok-traces.traces.items in
    let t = c.in_ok-traces.ensures M step d D fixed in
    let l : 0 < length traces = subst (λ k. 0 < k) (sym t.2.count) (members_positive step) in
    let same = c.in_ok-order.ensures ∙ c.order.ensures ∙ first_is g.S.Scalar.order_of M traces c.index.result.now l c.index.ensures t.2.orders in
    subst (λ k. HasExtension k c.args.self.now f traces → IfOk c.all_extensions.result (λ fs. AreSized k
    (place_count c.args.self.now.outer) fs.items)) same
    (subst (λ xs. HasExtension c.in_ok-order.order.n c.args.self.now f xs
    → IfOk c.all_extensions.result (λ fs. AreSized c.in_ok-order.order.n (place_count c.args.self.now.outer) fs.items))
    c.as_slice.ensures.value c.all_extensions.ensures.sizes)
    (has_extension step D f traces c.args.self.now.outer.places_within fixed t.0 t.1 t.2)

pub new-requires-clause-positive : goal.new-requires-clause-positive
new-requires-clause-positive g c =
    let x = c.index.result.now in
    subst (λ k. 0 < k) (sym c.order.ensures) (g.met.S.Scalar.admitted_positive (g.S.Scalar.order_of x) (g.met.S.Scalar.order_admitted x))

pub new-requires-clause-limited : goal.new-requires-clause-limited
new-requires-clause-limited g c =
    let x = c.index.result.now in
    subst (λ k. k ≤ 12000) (sym c.order.ensures) (g.met.S.Scalar.admitted_limited (g.S.Scalar.order_of x) (g.met.S.Scalar.order_admitted x))
