-- The lines of a made input.
--   no_products, one_product        no product yet, and one more
--   pushed_product                  one more as the program keeps it
--   line_drawn                      the line that a draw names
--   all_pushed                      what holds of each, with one more
--   text_step                       the text of one more line
use Rattle.std.proofs.Common.{◌≡◌, refl, sym, ◌∙◌, ap, subst, subst₂, ℕ, suc, ◌+◌, ◌<◌, List, [], ◌∷◌, ◌++◌, length, get_or, map, take, arith}
use Rattle.std.proofs.lemmas.List.{length-map, get_or-map, map_push, take_more, flat_map_more}
use Rattle.std.proofs.lemmas.List.Elements.{All-push}
use Rattle.std.specs.List.{All, flat_map}
use Rattle.irr_space.specs.Operation.{Operation, identity}
use Rattle.irr_text.specs.TripletText.{triplet_text}
use Rattle.irr_text.specs.ReportText.{line}
use Rattle.irr_seitz.specs.OperationMeaning.{operation}
use Rattle.irr_seitz.specs.declared.op.Op.{Op}
use Rattle.irr_gen.specs.MadeInput.{AreMadeLinesTo, IsDrawnProduct, next_number, drawn, drawn_line, item, lines_text}
use Rattle.irr_gen.specs.Signed.{IsSigned}

pub no_products : (gs : List Operation) (s : ℕ) → AreMadeLinesTo gs s 0 gs s
unfolding AreMadeLinesTo
no_products gs s = (refl, refl)

pub one_product : (gs : List Operation) (s k : ℕ) (earlier : List Operation) (r : ℕ) (f : Operation) → AreMadeLinesTo gs s k earlier r
    → IsDrawnProduct r earlier f → AreMadeLinesTo gs s (k + 1) (earlier ++ f ∷ []) (next_number (next_number r))
unfolding AreMadeLinesTo
one_product gs s k earlier r f h p = let one : suc k ≡ k + 1 = omega arith in
    subst (λ n. AreMadeLinesTo gs s n (earlier ++ f ∷ []) (next_number (next_number r))) one (another h)
  where
    another : AreMadeLinesTo gs s k earlier r → AreMadeLinesTo gs s (suc k) (earlier ++ f ∷ []) (next_number (next_number r))
    another h = (earlier, r, f, h, p, refl, refl)

pub pushed_product : (gs : List Operation) (s k : ℕ) (old : List Op) (r : ℕ) (f : Op) (new : List Op) (t : ℕ) → AreMadeLinesTo gs s k (map operation old) r
    → IsDrawnProduct r (map operation old) (operation f) → new ≡ old ++ f ∷ [] → t ≡ next_number (next_number r)
    → AreMadeLinesTo gs s (k + 1) (map operation new) t
pushed_product gs s k old r f new t h p e n = subst₂ (λ lines u. AreMadeLinesTo gs s (k + 1) lines u)
    (sym (ap (map operation) e ∙ map_push operation old f)) (sym n) (one_product gs s k (map operation old) r (operation f) h p)

pub line_drawn : (lines : List Op) (g : Op) (s i : ℕ) → i < length lines → g ≡ get_or lines i g → i ≡ drawn (length lines) s
    → operation g ≡ drawn_line s (map operation lines)
line_drawn lines g s i l e n = ap operation e ∙ sym (get_or-map operation lines i g identity l)
    ∙ ap (item (map operation lines)) (n ∙ ap (λ c. drawn c s) (sym (length-map lines operation)))

pub all_pushed : (old : List Op) (g : Op) (new : List Op) → new ≡ old ++ g ∷ [] → All IsSigned old → IsSigned g → All IsSigned new
all_pushed old g new e h s = subst (All IsSigned) (sym e) (All-push IsSigned old g h s)

pub text_step : (text : List ℕ) (ops : List Op) (i : ℕ) (x : Op) → i < length ops → x ≡ get_or ops i x → text ≡ lines_text (map operation (take i ops))
    → text ++ line (triplet_text (operation x)) ≡ lines_text (map operation (take (i + 1) ops))
text_step text ops i x l e t = ap (λ u. u ++ line (triplet_text (operation x))) t
    ∙ flat_map_more (λ g. line (triplet_text g)) [] (map operation (take i ops)) (operation x)
    ∙ ap (flat_map (λ g. line (triplet_text g))) (sym (map_push operation (take i ops) x)
    ∙ ap (map operation) (ap (λ y. take i ops ++ y ∷ []) e ∙ sym (take_more ops i x l)))
