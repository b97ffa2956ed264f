-- The operation of one line more.
use Rattle.std.proofs.Common.{◌≡◌, sym, ◌∙◌, ap, ℕ, ◌+◌, ◌<◌, List, map, take, length, ◌++◌, ◌∷◌, [], get_or, add-one, arith}
use Rattle.std.proofs.Math.Seq.{take-suc, take-length}
use Rattle.std.proofs.lemmas.List.{map-append}
use Rattle.irr_seitz.specs.declared.op.Op.{Op}
use Rattle.irr_input.specs.declared.input.GenLine.{GenLine}
use Rattle.irr_top.proofs.answer.operations.Goals as goal

one_more : (xs : List GenLine) (i : ℕ) (item : GenLine) (ops : List Op) → i < length xs → get_or xs i item ≡ item → ops ≡ map (λ (g : GenLine). g.op) (take i xs)
    → ops ++ item.op ∷ [] ≡ map (λ (g : GenLine). g.op) (take (i + 1) xs)
one_more xs i item ops lt is e =
    let next : take (i + 1) xs ≡ take i xs ++ get_or xs i item ∷ [] = rw add-one (take-suc xs i item lt) in
    let same : take i xs ++ item ∷ [] ≡ take (i + 1) xs = sym (next ∙ ap (λ (k : GenLine). take i xs ++ k ∷ []) is) in
    ap (λ (k : List Op). k ++ item.op ∷ []) e ∙ sym (map-append (λ (g : GenLine). g.op) (take i xs) (item ∷ [])) ∙ ap (map (λ (g : GenLine). g.op)) same

pub loop-line-preserved : goal.loop-line-preserved
loop-line-preserved c = c.in_ok-push.ensures.items
    ∙ one_more c.args.lines.now c.loop-line.line-index c.line-item.result c.loop-line.ops.items c.loop-line-test.true (sym c.line-item.is) c.loop-line.invariant

pub returns : goal.returns
returns c =
    let e : c.loop-line.line-index ≡ length c.args.lines.now = let a = c.loop-line-test.false in let b = c.loop-line.auto.line-index-end in omega (arith, a, b) in
    c.loop-line.invariant ∙ ap (λ n. map (λ (g : GenLine). g.op) (take n c.args.lines.now)) e ∙ ap (map (λ (g : GenLine). g.op)) (take-length c.args.lines.now)
