-- The rows at places of the list.
use Rattle.irr_char.proofs.rows.compare_places.Goals as goal
use Rattle.std.proofs.Common.{◌≡◌, sym, ◌∙◌, subst, ℕ, ◌<◌, List, [], length, get_or, map, Vec, Global}
use Rattle.std.proofs.lemmas.List.{length-map}
use Rattle.irr_algebra.specs.Fin.{Fin}
use Rattle.irr_number.specs.Number.{Number}
use Rattle.irr_char.specs.declared.forms.Form.{Form}
use Rattle.irr_char.specs.Rows.{AreFormsOf, AreRowsOf}
use Rattle.irr_char.proofs.RowLists.{row_read}

forms_read : {h : ℕ} (n : ℕ) (f : ℕ → Fin h → Number n) (rows : List (Vec Form Global)) (a : ℕ) (row : Vec Form Global) (slice : List Form)
    → a < length rows → row ≡ get_or rows a row → slice ≡ row.items
    → AreRowsOf n f (map (λ (v : Vec Form Global). v.items) rows) → AreFormsOf n (f a) slice
forms_read n f rows a row slice l e s h = subst (AreFormsOf n (f a)) (row_read (λ (v : Vec Form Global). v.items) rows a row [] l e ∙ sym s)
    (h.forms a (subst (λ k. a < k) (sym (length-map rows (λ (v : Vec Form Global). v.items))) l))

pub returns-then-b-rows-clause-rows : goal.returns-then-b-rows-clause-rows
returns-then-b-rows-clause-rows c l m n h f start s p rows = c.compare_rows.ensures n h (f c.args.a) (f c.args.b) start s p
    (forms_read n f c.args.rows.now c.args.a c.index-rows-a.result c.as_slice.result.now l c.index-rows-a.is c.as_slice.ensures.value rows)
    (forms_read n f c.args.rows.now c.args.b c.index-rows-b.result c.as_slice-then-b-rows.result.now m c.index-rows-b.is
    c.as_slice-then-b-rows.ensures.value rows)
