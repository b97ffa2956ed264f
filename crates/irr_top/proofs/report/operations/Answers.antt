-- One operation more.
use Rattle.std.proofs.Common.{◌≡◌, ◌<◌, ◌≤◌, sym, ◌∙◌, ap, subst, ℕ, ◌+◌, [], ◌∷◌, List, length, length-append, get_or, slice_index, Contains, arith}
use Rattle.std.proofs.lemmas.List.{get_or_default}
use Rattle.std.proofs.lemmas.List.Elements.{Contains-get_or}
use Rattle.irr_seitz.specs.declared.op.Op.{Op}
use Rattle.irr_top.proofs.Members.{pushed}
use Rattle.irr_top.proofs.report.operations.Goals as goal

-- the number at a place of the table is that of an operation
within : (places : List ℕ) (count i p : ℕ) (xs ys : List Op) → ((q : ℕ) → Contains places q → q < length xs) → i < length places
    → p ≡ slice_index places i → ys ≡ xs → p < length ys
within places count i p xs ys all inside is same = subst (λ (zs : List Op). p < length zs) (sym same)
    (subst (λ q. q < length xs) (sym is) (all (slice_index places i) (Contains-get_or places i 0 inside)))

pub bounds-all-place : goal.bounds-all-place
bounds-all-place c =
    let inside : c.loop-i.i < length c.args.t.now.places.items = subst (λ n. c.loop-i.i < n) (c.len-i-end.ensures.count ∙ c.args.t.now.places.ok.0)
    c.loop-i-test.true in
    within c.args.t.now.places.items c.len-i-end.result c.loop-i.i c.place.result c.args.group.now.ops.items c.ops-all.result.now c.requires.places
    inside c.place.ensures c.ops-all.ensures.list

-- the operation that is read is the one with the number
read : (places : List ℕ) (i p : ℕ) (xs ys : List Op) (x : Op) → p < length ys → p ≡ slice_index places i → ys ≡ xs → x ≡ get_or ys p x → (d : Op)
    → x ≡ get_or xs (slice_index places i) d
read places i p xs ys x inside is same at d = at ∙ get_or_default ys p x d inside ∙ ap (λ (zs : List Op). get_or zs p d) same
    ∙ ap (λ n. get_or xs n d) is

pub loop-i-preserved : goal.loop-i-preserved
loop-i-preserved c =
    let inside : c.loop-i.i < length c.args.t.now.places.items = subst (λ n. c.loop-i.i < n) (c.len-i-end.ensures.count ∙ c.args.t.now.places.ok.0)
    c.loop-i-test.true in
    let below : c.place.result < length c.ops-all.result.now = within c.args.t.now.places.items c.len-i-end.result c.loop-i.i c.place.result
    c.args.group.now.ops.items c.ops-all.result.now c.requires.places inside c.place.ensures c.ops-all.ensures.list in
    let items = c.in_ok-push.ensures.items in
    record {
      count = ap length items ∙ length-append c.loop-i.ops.items (c.index-all-place.result ∷ []) ∙ ap (λ n. n + 1) c.loop-i.invariant.count;
      ops = pushed (λ d a x. x ≡ get_or c.args.group.now.ops.items (slice_index c.args.t.now.places.items a) d)
          c.loop-i.ops.items c.push.new.self.items
          c.index-all-place.result c.loop-i.i c.loop-i.invariant.count items c.loop-i.invariant.ops
          (read c.args.t.now.places.items c.loop-i.i c.place.result c.args.group.now.ops.items c.ops-all.result.now c.index-all-place.result below
          c.place.ensures c.ops-all.ensures.list c.index-all-place.is);
    }

pub returns-clause-ops : goal.returns-clause-ops
returns-clause-ops c =
    let past : c.len-i-end.result ≤ c.loop-i.i = c.loop-i-test.false in
    let count = c.len-i-end.ensures.count in
    λ a d l. c.loop-i.invariant.ops a d (omega (arith, past, count, l))
