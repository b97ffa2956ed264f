-- The terms, one after another.
use Rattle.std.proofs.Common.{◌≡◌, sym, ◌∙◌, subst, ℕ, ◌+◌, ◌*◌, ◌<◌, ◌≤◌, ◌^◌, List, length, get_or, slice_index}
use Rattle.std.proofs.Common.{arith, rules}
use Rattle.std.specs.Int.{◌∣◌}
use Rattle.std.proofs.lemmas.List.{get_or_default}
use Rattle.std.proofs.lemmas.List.Elements.{Contains-get_or}
use Rattle.irr_number.specs.Number.{numbers}
use Rattle.irr_canonical.specs.RootSum.{IsRootSum}
use Rattle.irr_canonical.proofs.RootSums.{IsRootSum-add_same, IsRootSum-more, IsRootSum-zero}
use Rattle.irr_kvec.specs.WaveMeaning.{wave_vector}
use Rattle.irr_mat.proofs.Sizes.{sum_denominators, sum_sizes}
use Rattle.irr_rep.specs.Twisted.{phase_table}
use Rattle.irr_little.proofs.Spaces.{form_of}
use Rattle.irr_real.specs.Places.{IsReversingPlace}
use Rattle.irr_real.specs.Squares.{IsSquareAt}
use Rattle.irr_real.proofs.FamilyTraces.{add_room, admitted, same_place}
use Rattle.irr_real.proofs.Listed.{few_listed}
use Rattle.irr_real.proofs.TermSums.{TermsSoFar, terms_all, terms_more, terms_none}
use Rattle.irr_real.proofs.sums.square_sum.Goals as goal

-- a number that was read of the list
read : (xs : List ℕ) (i n : ℕ) → n ≡ get_or xs i n → i < length xs → n ≡ slice_index xs i
read xs i n e l = e ∙ get_or_default xs i n 0 l

pub zero-requires : goal.zero-requires
zero-requires g c = record {
  admitted = admitted (phase_table c.args.t.now) c.args.order.now.n c.args.f.now c.requires.family g.S.Scalar.admits
      g.met.S.Scalar.order_admitted;
}

pub loop-i-init : goal.loop-i-init
loop-i-init g c =
    let n = c.args.order.now.n in
    record {
      has_order = c.in_ok-sum.ensures.order;
      few = subst (IsRootSum n 0 1) (sym c.in_ok-sum.ensures.value) (IsRootSum-zero n 1 (omega arith));
      so_far = λ h d D is. terms_none c.args.group.now (wave_vector c.args.k.now) c.args.t.now n D
          c.in_ok-places.places.items
          (g.S.Scalar.value n c.in_ok-sum.sum) c.in_ok-sum.ensures.value;
    }

pub square-square-requires-clause-divides : goal.square-square-requires-clause-divides
square-square-requires-clause-divides g c = subst (λ n. (phase_table c.args.t.now).order ∣ n) (sym c.n.ensures.value)
    c.requires.family.divides

pub square-square-requires-clause-place : goal.square-square-requires-clause-place
square-square-requires-clause-place g c =
    let xs = c.in_ok-places.places.items in
    let i = c.loop-i.i in
    let l : i < length xs = search rules in
    subst (λ n. n < length c.args.group.now.ops.items) (sym (read xs i c.index.result.now c.index.ensures l))
    (c.in_ok-places.ensures.below (slice_index xs i) (Contains-get_or xs i 0 l))

pub square-square-requires-clause-reverses : goal.square-square-requires-clause-reverses
square-square-requires-clause-reverses g c =
    let xs = c.in_ok-places.places.items in
    let i = c.loop-i.i in
    let l : i < length xs = search rules in
    subst (IsReversingPlace c.args.group.now (wave_vector c.args.k.now))
    (sym (read xs i c.index.result.now c.index.ensures l))
    (c.in_ok-places.ensures.holds (slice_index xs i) (Contains-get_or xs i 0 l))

pub add-requires-clause-denominators : goal.add-requires-clause-denominators
add-requires-clause-denominators g c =
    let n = c.args.order.now.n in
    let sum = c.loop-i.sum in
    sum_denominators g.S.Scalar.value (g.S.Scalar.order_of sum) n
    (g.met.S.Scalar.admitted_positive (g.S.Scalar.order_of sum) (g.met.S.Scalar.order_admitted sum))
    c.loop-i.invariant.has_order
    (c.loop-i.i * 48) 1 48 1 sum c.in_ok-term.term c.loop-i.invariant.few c.in_ok-term.ensures.few (2 ^ 60)
    (omega arith)

few_places : (a b i : ℕ) → a ≤ b → b ≤ 48 → i < a → i ≤ 48
few_places a b i p q l = omega (arith, p, q, l)

pub add-requires-clause-sizes : goal.add-requires-clause-sizes
add-requires-clause-sizes g c =
    let n = c.args.order.now.n in
    let sum = c.loop-i.sum in
    let group = c.args.group.now in
    let xs = c.in_ok-places.places.items in
    let l : c.loop-i.i < length xs = search rules in
    sum_sizes g.S.Scalar.value (g.S.Scalar.order_of sum) n
    (g.met.S.Scalar.admitted_positive (g.S.Scalar.order_of sum) (g.met.S.Scalar.order_admitted sum))
    c.loop-i.invariant.has_order
    (c.loop-i.i * 48) 1 48 1 sum c.in_ok-term.term c.loop-i.invariant.few c.in_ok-term.ensures.few (2 ^ 110)
    (add_room c.loop-i.i n
    (few_places (length xs) (length group.ops.items) c.loop-i.i
    (few_listed (IsReversingPlace group (wave_vector c.args.k.now)) (length group.ops.items) xs
    c.in_ok-places.ensures) (form_of group).few l)
    c.args.order.now.limited)

next : (i : ℕ) → i * 48 + 48 ≡ (i + 1) * 48
next i = omega arith

pub loop-i-preserved : goal.loop-i-preserved
loop-i-preserved g c =
    let value = g.S.Scalar.value in
    let n = c.args.order.now.n in
    let sum = c.loop-i.sum in
    let term = c.in_ok-term.term in
    let after = c.in_ok-sum-2.sum in
    let group = c.args.group.now in
    let k = wave_vector c.args.k.now in
    let t = c.args.t.now in
    let xs = c.in_ok-places.places.items in
    let i = c.loop-i.i in
    let l : i < length xs = search rules in
    let added = subst (λ m. value m after ≡ (numbers m).add (value m sum) (value m term)) c.loop-i.invariant.has_order
    c.in_ok-sum-2.ensures.value in
    record {
      has_order = c.in_ok-sum-2.ensures.order ∙ c.loop-i.invariant.has_order;
      few = subst (IsRootSum n ((i + 1) * 48) 1) (sym added)
          (subst (λ m. IsRootSum n m 1 ((numbers n).add (value n sum) (value n term))) (next i)
          (IsRootSum-add_same n c.loop-i.invariant.few c.in_ok-term.ensures.few));
      so_far = λ h d D is.
          let q = c.square-square.result in
          let p = same_place (phase_table t) n c.args.f.now c.requires.family D is q.place
          c.square-square.ensures.place in
          terms_more group k t n D xs i (value n sum) (value n term) (value n after)
          (c.loop-i.invariant.so_far h d D is)
          (record {
            place = p.0;
            exponent = q.exponent;
            square = subst (λ j. IsSquareAt group k t n (slice_index xs i) j q.exponent) (sym p.1)
                (subst (λ j. IsSquareAt group k t n j q.place q.exponent)
                (read xs i c.index.result.now c.index.ensures l)
                (subst (λ m. IsSquareAt group k t m c.index.result.now q.place q.exponent) c.n.ensures.value
                c.square-square.ensures.square));
            is = c.in_ok-term.ensures.trace h d D is p.0 p.1;
          })
          added;
    }

at_end : (a b i : ℕ) → a ≤ b → b ≤ 48 → i ≤ a → i * 48 ≤ 2304
at_end a b i p q l = omega (arith, p, q, l)

pub returns-clause-few : goal.returns-clause-few
returns-clause-few g c =
    let group = c.args.group.now in
    let xs = c.in_ok-places.places.items in
    let last : c.loop-i.i ≤ length xs = search rules in
    IsRootSum-more c.args.order.now.n 2304
    (at_end (length xs) (length group.ops.items) c.loop-i.i
    (few_listed (IsReversingPlace group (wave_vector c.args.k.now)) (length group.ops.items) xs
    c.in_ok-places.ensures) (form_of group).few last)
    c.loop-i.invariant.few

pub returns-clause-sum : goal.returns-clause-sum
returns-clause-sum g c h d D is =
    let n = c.args.order.now.n in
    let xs = c.in_ok-places.places.items in
    let last : c.loop-i.i ≡ length xs = search rules in
    terms_all c.args.group.now (wave_vector c.args.k.now) c.args.t.now n D xs (g.S.Scalar.value n c.loop-i.sum)
    c.in_ok-places.ensures
    (subst (λ j. TermsSoFar c.args.group.now (wave_vector c.args.k.now) c.args.t.now n D xs j
    (g.S.Scalar.value n c.loop-i.sum)) last
    (c.loop-i.invariant.so_far h d D is))
