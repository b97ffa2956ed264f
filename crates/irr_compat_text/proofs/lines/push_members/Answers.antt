-- One more representation.
use Rattle.std.proofs.Common.{◌≡◌, sym, ◌∙◌, ap, ℕ, ◌+◌, ◌<◌, ◌++◌, List, length, get_or, map, Vec, Global, arith}
use Rattle.std.proofs.lemmas.List.{get_or-map, get_or_default, length-map}
use Rattle.irr_compat_text.proofs.Numbers.{members_first, members_next, members_all}
use Rattle.irr_compat_text.proofs.lines.push_members.Goals as goal

-- the slice of an item of a list of vectors
row_at : {S : Type 0} (rows : List (Vec S Global)) (i : ℕ) (x : Vec S Global) (row : List S) → i < length rows → x ≡ get_or rows i x → row ≡ x.items
    → row ≡ get_or (map (λ (v : Vec S Global). v.items) rows) i row
row_at {S = S} rows i x row l is e = e ∙ ap (λ (v : Vec S Global). v.items) is ∙ sym (get_or-map (λ (v : Vec S Global). v.items) rows i x row l)

pub loop-i-init : goal.loop-i-init
loop-i-init g c = members_first g.S.Scalar.order_of g.S.Scalar.value 1 c.args.text.now.items

pub bounds-chars-i : goal.bounds-chars-i
bounds-chars-i g c = omega (arith, c.loop-i-test.true, c.requires)

pub loop-i-preserved : goal.loop-i-preserved
loop-i-preserved g c =
    let dims = c.args.dims.now in
    let rows = c.args.chars.now in
    let i = c.loop-i.i in
    c.in_ok-push_member.ensures ∙ members_next g.S.Scalar.order_of g.S.Scalar.value 1 c.args.text.now.items c.loop-i.text.items dims
    (map (λ (v : Vec g.row.S.Denot Global). v.items) rows) i (i + 1) (get_or dims i 0) c.as_slice.result.now (omega arith)
    (c.requires ∙ sym (length-map rows (λ (v : Vec g.row.S.Denot Global). v.items))) c.loop-i-test.true
    (get_or_default dims i 0 (get_or dims i 0) c.loop-i-test.true)
    (row_at rows i c.index-chars-i.result c.as_slice.result.now (omega (arith, c.loop-i-test.true, c.requires)) c.index-chars-i.is c.as_slice.ensures.value)
    c.loop-i.invariant

pub returns : goal.returns
returns g c = members_all g.S.Scalar.order_of g.S.Scalar.value 1 c.args.text.now.items c.loop-i.text.items c.args.dims.now
    (map (λ (v : Vec g.row.S.Denot Global). v.items) c.args.chars.now) c.loop-i.i (c.requires ∙ sym (length-map c.args.chars.now (λ (v : Vec g.row.S.Denot Global). v.items)))
    (omega (arith, c.loop-i-test.false)) c.loop-i.invariant
