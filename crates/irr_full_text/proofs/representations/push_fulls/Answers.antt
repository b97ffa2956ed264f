-- One more representation.
use Rattle.std.proofs.Common.{◌≡◌, ◌∙◌, ◌++◌, ◌<◌, ◌≤◌, ◌+◌, sym, ap, subst, List, ℕ, suc, arith}
use Rattle.irr_algebra.specs.Fin.{to_nat}
use Rattle.irr_algebra.proofs.Indices.{from_nat, to_nat-from_nat}
use Rattle.irr_star.specs.declared.full.Full.{Full}
use Rattle.irr_full_text.specs.Lines.{representation_text}
use Rattle.irr_full_text.specs.Reading.{Reading, ArePrintable}
use Rattle.irr_full_text.proofs.FirstPieces.{pieces_none, pieces_step, pieces_all}
use Rattle.irr_full_text.proofs.Readings.{item_is}
use Rattle.irr_full_text.proofs.representations.push_fulls.Goals as goal

pub loop-i-init : goal.loop-i-init
loop-i-init g c = λ e. pieces_none c.args.text.now.items e.text

pub push_full-requires-clause-reading : goal.push_full-requires-clause-reading
push_full-requires-clause-reading g c =
    let e = c.requires in
    let x = c.index-fulls-i.result in
    let inside : c.loop-i.i < e.count = subst (λ n. c.loop-i.i < n) e.is_count c.loop-i-test.true in
    let m = from_nat e.count c.loop-i.i inside in
    subst (λ (f : Full _ _). Reading f) (item_is c.args.fulls.now c.loop-i.i x (to_nat m) c.index-fulls-i.is
    (to_nat-from_nat e.count c.loop-i.i inside)) (e.reading m x)

pub push_full-requires-clause-order : goal.push_full-requires-clause-order
push_full-requires-clause-order g c =
    let e = c.requires in
    let x = c.index-fulls-i.result in
    let inside : c.loop-i.i < e.count = subst (λ n. c.loop-i.i < n) e.is_count c.loop-i-test.true in
    let m = from_nat e.count c.loop-i.i inside in
    subst (λ (f : Full _ _). c.args.order.now.n ≡ f.order.n) (item_is c.args.fulls.now c.loop-i.i x (to_nat m)
    c.index-fulls-i.is (to_nat-from_nat e.count c.loop-i.i inside)) (e.is_order m x)

pub push_full-requires-clause-operations : goal.push_full-requires-clause-operations
push_full-requires-clause-operations g c =
    let e = c.requires in
    let x = c.index-fulls-i.result in
    let inside : c.loop-i.i < e.count = subst (λ n. c.loop-i.i < n) e.is_count c.loop-i-test.true in
    let m = from_nat e.count c.loop-i.i inside in
    subst (λ (f : Full _ _). ArePrintable f.group c.args.ops.now) (item_is c.args.fulls.now c.loop-i.i x (to_nat m)
    c.index-fulls-i.is (to_nat-from_nat e.count c.loop-i.i inside)) (e.operations m x)

pub push_full-requires-clause-generators : goal.push_full-requires-clause-generators
push_full-requires-clause-generators g c =
    let e = c.requires in
    let x = c.index-fulls-i.result in
    let inside : c.loop-i.i < e.count = subst (λ n. c.loop-i.i < n) e.is_count c.loop-i-test.true in
    let m = from_nat e.count c.loop-i.i inside in
    subst (λ (f : Full _ _). ArePrintable f.group c.args.gens.now) (item_is c.args.fulls.now c.loop-i.i x (to_nat m)
    c.index-fulls-i.is (to_nat-from_nat e.count c.loop-i.i inside)) (e.generators m x)

plus_one : (k n : ℕ) → n ≡ k → k + 1 ≡ suc n
plus_one k n e = omega (arith, e)

pub loop-i-preserved : goal.loop-i-preserved
loop-i-preserved g c = λ e.
    let x = c.index-fulls-i.result in
    let inside : c.loop-i.i < e.count = subst (λ n. c.loop-i.i < n) e.is_count c.loop-i-test.true in
    let m = from_nat e.count c.loop-i.i inside in
    let is = to_nat-from_nat e.count c.loop-i.i inside in
    let told = subst (λ (f : Full _ _). (r : Reading f) → c.push_full.new.text.items ≡ c.loop-i.text.items
    ++ representation_text r.number r.matrix c.args.ops.now c.args.gens.now (c.loop-i.i + 1))
    (sym (item_is c.args.fulls.now c.loop-i.i x (to_nat m) c.index-fulls-i.is is)) c.in_ok-push_full.ensures in
    told (e.reading m x)
    ∙ ap (λ n. c.loop-i.text.items ++ representation_text (e.reading m x).number (e.reading m x).matrix c.args.ops.now
    c.args.gens.now n) (plus_one c.loop-i.i (to_nat m) is)
    ∙ ap (λ (w : List ℕ). c.loop-i.text.items ++ w) (sym (e.is_text m x))
    ∙ pieces_step c.args.text.now.items e.text c.loop-i.text.items c.loop-i.i m is (c.loop-i.invariant e)

pub returns : goal.returns
returns g c = λ e. pieces_all c.args.text.now.items e.text c.loop-i.text.items c.loop-i.i
    (subst (λ n. n ≤ c.loop-i.i) e.is_count c.loop-i-test.false)
    (c.loop-i.invariant e)
