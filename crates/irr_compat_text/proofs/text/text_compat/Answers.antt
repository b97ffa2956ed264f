-- The parts of the text, one after another.
use Rattle.std.proofs.Common.{◌≡◌, sym, ◌∙◌, ap, ap₂, subst, ℕ, ◌<◌, ◌++◌, List, length, map, rules, Vec, Global}
use Rattle.std.specs.Prelude.{codes}
use Rattle.std.specs.Fmt.{decimal}
use Rattle.std.specs.List.{All}
use Rattle.std.proofs.lemmas.List.{length-map}
use Rattle.irr_seitz.specs.PhaseMeaning.{sign_of}
use Rattle.irr_seitz.specs.declared.op.Op.{Op}
use Rattle.irr_rep.specs.Twisted.{operation_places}
use Rattle.irr_close.proofs.Bareness.{first_of}
use Rattle.irr_little.proofs.Spaces.{form_of}
use Rattle.irr_heading.specs.Heading.{heading}
use Rattle.irr_report.specs.Printed.{numbered}
use Rattle.irr_compat.specs.declared.table.PointRow.{PointRow}
use Rattle.irr_compat_text.specs.Printed.{members_text, place_line, rows_text}
use Rattle.irr_compat_text.proofs.Contents.{text_here}
use Rattle.irr_compat_text.proofs.text.text_compat.Goals as goal

pub push_places-requires : goal.push_places-requires
push_places-requires g c = subst (λ (ops : List Op). All (λ p. p < length ops) (operation_places c.args.table.now.line)) (sym c.ops.ensures.list)
    c.requires.3.shown.places

pub push_members-requires : goal.push_members-requires
push_members-requires g c =
    let shown = c.requires.3.shown in
    ap length c.deref.ensures.value ∙ shown.count ∙ sym shown.characters.count
    ∙ length-map c.args.table.now.chars.items (λ (v : Vec g.row.S.Denot Global). v.items) ∙ sym (ap length c.deref-2.ensures.value)

pub returns : goal.returns
returns g c = λ n d size e.
    let order = g.S.Scalar.order_of in
    let value = g.S.Scalar.value in
    let group = c.args.group.now in
    let t = c.args.table.now in
    let v = c.args.version in
    let s = sign_of c.args.phase in
    let o : Op = first_of group.ops.items (form_of group).nonempty in
    let first = heading (codes "compat") v s in
    let begun = c.push_heading.new.text.items in
    let ordered = c.extend_from_slice.new.self.items in
    let pointed = c.push_points.new.text.items in
    let counted = c.extend_from_slice-2.new.self.items in
    let listed = c.push_places.new.text.items in
    let told = c.extend_from_slice-3.new.self.items in
    let filled = c.push_members.new.text.items in
    let count : c.len-members.result ≡ length t.dims.items = (let l = c.len-members.ensures in search rules) in
    text_here order value group c.args.points.now n d size o t e v s begun ordered pointed counted listed told filled c.push_rows.new.text.items
    c.extend_from_slice-4.new.self.items
    (c.in_ok-push_heading.ensures ∙ ap (λ (k : List ℕ). k ++ first) c.new-text.ensures.items)
    (c.in_ok-extend_from_slice.ensures.items ∙ ap (λ (k : List ℕ). begun ++ k) (c.as_bytes.ensures.value ∙ c.in_ok-format.ensures.ok
    ∙ ap (λ (m : ℕ). codes "order " ++ (decimal m ++ codes "\n")) c.order-order.ensures.order))
    c.in_ok-push_points.ensures
    (c.in_ok-extend_from_slice-2.ensures.items ∙ ap (λ (k : List ℕ). pointed ++ k) (c.as_bytes-2.ensures.value ∙ c.in_ok-format-2.ensures.ok
    ∙ ap (λ (m : ℕ). codes "ops " ++ (decimal m ++ codes "\n")) c.len-places.ensures.count))
    (c.in_ok-push_places.ensures o ∙ ap (λ (ops : List Op). counted ++ numbered (place_line ops o) 1 (operation_places t.line)) c.ops.ensures.list)
    (c.in_ok-extend_from_slice-3.ensures.items ∙ ap (λ (k : List ℕ). listed ++ k) (c.as_bytes-3.ensures.value ∙ c.in_ok-format-3.ensures.ok
    ∙ ap (λ (m : ℕ). codes "reps " ++ (decimal m ++ codes "\n")) count))
    (c.in_ok-push_members.ensures ∙ ap₂ (λ (dims : List ℕ) (chars : List (Vec g.row.S.Denot Global)). told ++ members_text order value 1 dims
    (map (λ (v : Vec g.row.S.Denot Global). v.items) chars)) c.deref.ensures.value c.deref-2.ensures.value)
    (c.in_ok-push_rows.ensures ∙ ap (λ (rows : List PointRow). filled ++ rows_text rows) c.deref-3.ensures.value)
    c.in_ok-extend_from_slice-4.ensures.items
