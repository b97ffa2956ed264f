-- The first of some texts, one after another.
--   first_pieces k f        the texts at the first k places
--   pieces_none, pieces_step, pieces_all     no place, one more, and all places, after another text
use Rattle.std.proofs.Common.{◌≡◌, sym, ◌∙◌, ap, refl, ℕ, zero, suc, ◌+◌, ◌≤◌, List, [], ◌++◌, append-nil, append_assoc, arith}
use Rattle.irr_algebra.specs.Fin.{Fin, to_nat}
use Rattle.irr_algebra.specs.Fin.Fin.{first, next}
use Rattle.irr_text.specs.ReportText.{pieces}

pub first_pieces : ℕ → {n : ℕ} → (Fin n → List ℕ) → List ℕ
first_pieces zero f = []
first_pieces (suc k) {n = zero} f = []
first_pieces (suc k) {n = suc n} f = f first ++ first_pieces k (λ i. f (next i))

one_more : (k n : ℕ) (f : Fin n → List ℕ) (q : Fin n) → to_nat q ≡ k → first_pieces (suc k) f ≡ first_pieces k f ++ f q
unfolding first_pieces to_nat
one_more zero zero f q e = elim q [ ]
one_more (suc k) zero f q e = elim q [ ]
one_more zero (suc n) f first e = append-nil (f first)
one_more (suc k) (suc n) f first e = absurd (omega (arith, e))
one_more zero (suc n) f (next q) e = absurd (omega (arith, e))
one_more (suc k) (suc n) f (next q) e = ap (λ t. f first ++ t) (one_more k n (λ i. f (next i)) q (omega (arith, e)))
    ∙ sym (append_assoc (f first) (first_pieces k (λ i. f (next i))) (f (next q)))

all_of : (k n : ℕ) (f : Fin n → List ℕ) → n ≤ k → first_pieces k f ≡ pieces n f
unfolding first_pieces pieces
all_of zero zero f l = refl
all_of (suc k) zero f l = refl
all_of zero (suc n) f l = absurd (omega (arith, l))
all_of (suc k) (suc n) f l = ap (λ t. f first ++ t) (all_of k n (λ i. f (next i)) (omega (arith, l)))

plus_one : (k : ℕ) → suc k ≡ k + 1
plus_one k = omega arith

module _ (before : List ℕ) {n : ℕ} (f : Fin n → List ℕ) where
  pub pieces_none : before ≡ before ++ first_pieces 0 f
  unfolding first_pieces
  pieces_none = sym (append-nil before)

  pub pieces_step : (text : List ℕ) (k : ℕ) (q : Fin n) → to_nat q ≡ k → text ≡ before ++ first_pieces k f
      → text ++ f q ≡ before ++ first_pieces (k + 1) f
  pieces_step text k q e t = ap (λ u. u ++ f q) t ∙ append_assoc before (first_pieces k f) (f q)
      ∙ ap (λ u. before ++ u) (sym (one_more k n f q e) ∙ ap (λ j. first_pieces j f) (plus_one k))

  pub pieces_all : (text : List ℕ) (k : ℕ) → n ≤ k → text ≡ before ++ first_pieces k f → text ≡ before ++ pieces n f
  pieces_all text k l t = t ∙ ap (λ u. before ++ u) (all_of k n f l)
