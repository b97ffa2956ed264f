-- Rows compared form by form.
--   form_at              the form that is read at a place
--   same_at              equal numbers at a place
--   decided_at           the first place at which rows differ decides
use Rattle.std.proofs.Common.{◌≡◌, refl, sym, ◌∙◌, ap, subst, ℕ, ◌<◌, ◌≤◌, ◌+◌, ◌⊎◌, inl, inr, Bool, true, false, not, List, get_or, arith, Ordering}
use Rattle.std.proofs.Common.{Less, Equal, Greater}
use Rattle.std.specs.Bool.{◌==◌}
use Rattle.std.proofs.lemmas.Bool.{cases_lt}
use Rattle.std.specs.Ordering.{MatchOrdering, ordering_index}
use Rattle.irr_algebra.specs.Fin.{Fin, to_nat}
use Rattle.irr_algebra.proofs.Indices.{from_nat, to_nat-from_nat}
use Rattle.irr_number.specs.Number.{Number}
use Rattle.irr_space.specs.CompleteList.{IsNumberBefore, IsRowBefore}
use Rattle.irr_char.specs.declared.forms.Form.{Form}
use Rattle.irr_char.specs.Rows.{IsFormOf, AreFormsOf}

pub form_at : {h : ℕ} (n : ℕ) (f : Fin h → Number n) (forms : List Form) → AreFormsOf n f forms → (i : Fin h) (k : ℕ) (x : Form) → to_nat i ≡ k
    → x ≡ get_or forms k x → IsFormOf n (f i) x.den x.terms.items
form_at n f forms a i k x e q = subst (λ (y : Form). IsFormOf n (f i) y.den y.terms.items) (ap (λ j. get_or forms j x) e ∙ sym q) (a.form i x)

-- an answer that is not told from `Equal` is it
pub is_equal : (o : Ordering) (b : Bool) → b ≡ not (ordering_index o == 1) → b ≡ false → o ≡ Equal
is_equal Less b e f = absurd (let t : true ≡ false = sym e ∙ f in cc)
is_equal Equal b e f = refl
is_equal Greater b e f = absurd (let t : true ≡ false = sym e ∙ f in cc)

-- what the comparison of two numbers says
abbrev pub Compares : Form → Form → Ordering → Type 0
Compares x y o = (n : ℕ) (a b : Number n) → 0 < n → IsFormOf n a x.den x.terms.items → IsFormOf n b y.den y.terms.items
    → MatchOrdering o (IsNumberBefore n a b) (a ≡ b) (IsNumberBefore n b a)

module _ {h : ℕ} (n : ℕ) (f g : Fin h → Number n) (xs ys : List Form) (p : 0 < n) (fx : AreFormsOf n f xs) (gy : AreFormsOf n g ys) (k : ℕ)
    (x y : Form) (ex : x ≡ get_or xs k x) (ey : y ≡ get_or ys k y) where
  pub compared_at : (o : Ordering) → Compares x y o → (i : Fin h) → to_nat i ≡ k
      → MatchOrdering o (IsNumberBefore n (f i) (g i)) (f i ≡ g i) (IsNumberBefore n (g i) (f i))
  compared_at o c i e = c n (f i) (g i) p (form_at n f xs fx i k x e ex) (form_at n g ys gy i k y e ey)

  pub same_at : (o : Ordering) → Compares x y o → o ≡ Equal → (i : Fin h) → to_nat i ≡ k → f i ≡ g i
  same_at o c q i e = subst (λ a. MatchOrdering a (IsNumberBefore n (f i) (g i)) (f i ≡ g i) (IsNumberBefore n (g i) (f i))) q (compared_at o c i e)

pub before_or_at : (i k : ℕ) → i < k + 1 → (i < k) ⊎ (i ≡ k)
before_or_at i k l = elim (less_or_not i k) [ inl h ↦ inl h | inr m ↦ (let e : i ≡ k = omega arith in inr e) ]
  where
    less_or_not : (i k : ℕ) → (i < k) ⊎ (k ≤ i)
    less_or_not i k = cases_lt i k

pub decided_at : {h : ℕ} (n : ℕ) (f g : Fin h → Number n) (start : Fin h) → to_nat start ≡ 0 → (k : ℕ) → 1 ≤ k → k < h
    → ((i : Fin h) → to_nat i < k → f i ≡ g i) → (o : Ordering) → ¬ (o ≡ Equal)
    → ((i : Fin h) → to_nat i ≡ k → MatchOrdering o (IsNumberBefore n (f i) (g i)) (f i ≡ g i) (IsNumberBefore n (g i) (f i)))
    → MatchOrdering o (IsRowBefore n start f g) ((i : Fin h) → f i ≡ g i) (IsRowBefore n start g f)
decided_at {h} n f g start s k some l same Less u c = inr (
  same start (omega arith),
  record {
    place = from_nat h k l;
    before = λ i m. same i (let e : to_nat (from_nat h k l) ≡ k = to_nat-from_nat h k l in omega arith);
    ahead = c (from_nat h k l) (to_nat-from_nat h k l);
  },
)
decided_at n f g start s k some l same Equal u c = absurd (u refl)
decided_at {h} n f g start s k some l same Greater u c = inr (
  sym (same start (omega arith)),
  record {
    place = from_nat h k l;
    before = λ i m. sym (same i (let e : to_nat (from_nat h k l) ≡ k = to_nat-from_nat h k l in omega arith));
    ahead = c (from_nat h k l) (to_nat-from_nat h k l);
  },
)
