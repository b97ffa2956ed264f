-- One more row, and all of them.
use Rattle.std.proofs.Common.{rules, ◌≡◌, sym, ◌∙◌, ap, subst, ℕ, ◌<◌, List, [], ◌∷◌, length, map, Vec, Global}
use Rattle.std.specs.List.{All}
use Rattle.std.proofs.lemmas.List.{length-map, map-append}
use Rattle.irr_number.specs.Number.{Number}
use Rattle.irr_char.specs.declared.forms.Form.{Form}
use Rattle.irr_char.specs.Rows.{AreFormsOf, row_of}
use Rattle.irr_char.proofs.MadeForms.{rows-more, rows-all}
use Rattle.irr_char.proofs.RowLists.{row_read}
use Rattle.irr_char.proofs.rows.forms_of_rows.Goals as goal

-- what holds of the slice holds of the row
of_slice : {X : Type 0} (order_of : X → ℕ) (value : (n : ℕ) → X → Number n) (slice row : List X) (made : List Form) → slice ≡ row
    → ((n h : ℕ) → length slice ≡ h → All (λ x. order_of x ≡ n) slice → AreFormsOf {h = h} n (row_of n (map (value n) slice)) made)
    → (n h : ℕ) → length row ≡ h → All (λ x. order_of x ≡ n) row → AreFormsOf {h = h} n (row_of n (map (value n) row)) made
of_slice {X} order_of value slice row made e f = subst
    (λ (xs : List X). (n h : ℕ) → length xs ≡ h → All (λ x. order_of x ≡ n) xs → AreFormsOf {h = h} n (row_of n (map (value n) xs)) made) e f

pub loop-row-preserved : goal.loop-row-preserved
loop-row-preserved g c =
    let l : c.loop-row.row-index < length c.args.rows.now = search rules in
    rows-more g.S.Scalar.order_of g.S.Scalar.value (map (λ v. v.items) c.args.rows.now) (map (λ v. v.items) c.loop-row.forms.items)
    (map (λ v. v.items) c.push.new.self.items) c.loop-row.row-index
    c.row-item.result.items c.in_ok-forms_of.field-0.items c.loop-row.invariant
    (subst (λ k. c.loop-row.row-index < k) (sym (length-map c.args.rows.now (λ v. v.items))) l)
    (row_read (λ v. v.items) c.args.rows.now c.loop-row.row-index c.row-item.result [] l c.row-item.is)
    (ap (map (λ (v : Vec Form Global). v.items)) c.in_ok-push.ensures.items
    ∙ map-append (λ (v : Vec Form Global). v.items) c.loop-row.forms.items (c.in_ok-forms_of.field-0 ∷ []))
    (of_slice g.S.Scalar.order_of g.S.Scalar.value c.as_slice.result.now c.row-item.result.items c.in_ok-forms_of.field-0.items
    c.as_slice.ensures.value c.in_ok-forms_of.ensures)

pub returns-clause-forms : goal.returns-clause-forms
returns-clause-forms g c n h s o =
    let e : c.loop-row.row-index ≡ length c.args.rows.now = search rules in
    rows-all g.S.Scalar.order_of g.S.Scalar.value (map (λ v. v.items) c.args.rows.now)
    (map (λ v. v.items) c.loop-row.forms.items) c.loop-row.row-index c.loop-row.invariant
    (e ∙ sym (length-map c.args.rows.now (λ v. v.items))) n h s o
