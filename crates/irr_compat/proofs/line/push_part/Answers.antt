-- A part that stands there, or none.
use Rattle.std.proofs.Common.{◌≡◌, sym, ◌∙◌, ap, ℕ, zero, suc, ◌+◌, List, [], ◌∷◌, ◌++◌, append-nil, refl, arith}
use Rattle.irr_compat.specs.Parts.{part_of}
use Rattle.irr_compat.specs.declared.table.LinePart.{LinePart}
use Rattle.irr_compat.proofs.line.push_part.Goals as goal

none_here : (xs : List LinePart) (j q d : ℕ) → q ≡ 0 → xs ≡ xs ++ part_of j q d
unfolding part_of
none_here xs j zero d e = sym (append-nil xs)
none_here xs j (suc q) d e = absurd (omega (arith, e))

one_here : (j q d label : ℕ) → ¬ (q ≡ 0) → label ≡ suc j → record { label = label; mult = q; dim = d } ∷ [] ≡ part_of j q d
unfolding part_of
one_here j zero d label f e = absurd (f refl)
one_here j (suc q) d label f e = ap (λ (n : ℕ). record { label = n; mult = suc q; dim = d } ∷ []) e

pub returns-then-mult-eq0 : goal.returns-then-mult-eq0
returns-then-mult-eq0 c = none_here c.args.parts.now.items c.args.place c.args.mult c.args.dim c.if-mult-eq0.true

pub returns : goal.returns
returns c = c.in_ok-push.ensures.items ∙ ap (λ (xs : List LinePart). c.args.parts.now.items ++ xs)
    (one_here c.args.place c.args.mult c.args.dim (c.args.place + 1) c.if-mult-eq0.false (omega arith))
