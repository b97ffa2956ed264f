-- Lists of rows.
--   row_read             the row that is read at a place
use Rattle.std.proofs.Common.{◌≡◌, sym, ◌∙◌, ap, ℕ, ◌<◌, List, length, get_or, map}
use Rattle.std.proofs.lemmas.List.{get_or-map}

pub row_read : {X Y : Type 0} (f : X → Y) (xs : List X) (a : ℕ) (x : X) (e : Y) → a < length xs → x ≡ get_or xs a x → get_or (map f xs) a e ≡ f x
row_read f xs a x e l s = get_or-map f xs a x e l ∙ ap f (sym s)
