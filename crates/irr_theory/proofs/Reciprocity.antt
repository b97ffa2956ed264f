-- Intertwiners from an induced representation are those from its first block.
use Rattle.std.proofs.Common.{◌≡◌, sym, ◌∙◌, ap, refl, ℕ}
use mathlib.Core.Path.{fun_ext}
use Rattle.irr_algebra.specs.Ring.{Ring}
use Rattle.irr_algebra.specs.Fin.{Fin}
use Rattle.irr_algebra.specs.Matrix.{Matrix, ◌·◌, scale, null, total, combination}
use Rattle.irr_algebra.specs.Action.{IsIntertwiner, HasDimension}
use Rattle.irr_algebra.proofs.Matrices.{mul_assoc, unit-mul, mul-unit, mul-null, null-mul, mul-scale, scale-mul}
use Rattle.irr_algebra.proofs.Totals.{scale-total, mul-total, total-mul, total-ext, total-permuted, total_swap, combination-delta}
use Rattle.irr_theory.specs.Reciprocity.{Cosets, EmbeddedPart, IsReciprocal}

module _ {R : Ring} {G I : Type 0} {H : Cosets G I} {e d m n : ℕ} {s : G → Matrix R e e} {b : I → Matrix R d d} {t : G → Matrix R m m} {c : I → Matrix R n n}
    (S : EmbeddedPart H s b) (U : EmbeddedPart H t c) where
  -- from a matrix between the parts to one between the wholes
  spread : Matrix R n d → Matrix R m e
  spread y = total H.index (λ a. t (H.representative a) · U.into · y · S.out · s (H.inverse a))

  -- the other way round
  narrow : Matrix R m e → Matrix R n d
  narrow x = U.out · x · S.into

  narrow-intertwines : (x : Matrix R m e) → IsIntertwiner s t x → IsIntertwiner b c (narrow x)
  unfolding narrow
  narrow-intertwines x h = record {
    intertwines = λ i.
        sym (mul_assoc (c i) (U.out · x) S.into) ∙ ap (λ (z : Matrix R n e). z · S.into) (
        sym (mul_assoc (c i) U.out x) ∙ ap (λ (z : Matrix R n m). z · x) (sym (U.out-subgroup i)) ∙ mul_assoc U.out (t (H.subgroup i)) x
        ∙ ap (λ (z : Matrix R m e). U.out · z) (h.intertwines (H.subgroup i)) ∙ sym (mul_assoc U.out x (s (H.subgroup i))))
        ∙ mul_assoc (U.out · x) (s (H.subgroup i)) S.into ∙ ap (λ (z : Matrix R e d). U.out · x · z) (S.subgroup-into i) ∙ sym (mul_assoc (U.out · x) S.into (b i));
  }

  spread-intertwines : (y : Matrix R n d) → IsIntertwiner b c y → IsIntertwiner s t (spread y)
  unfolding spread
  spread-intertwines y h = record {
    intertwines = λ g.
        mul-total H.index (t g) (λ a. t (H.representative a) · U.into · y · S.out · s (H.inverse a))
        ∙ total-ext H.index (moved g)
        ∙ total-permuted H.index (H.to g) (H.from g) (H.to-from g) (H.from-to g) (λ a. t (H.representative a) · U.into · y · S.out · s (H.inverse a) · s g)
        ∙ sym (total-mul H.index (λ a. t (H.representative a) · U.into · y · S.out · s (H.inverse a)) (s g));
  }
    where
      step : (i : I) (x : Matrix R m m) (w : Matrix R e e) → x · t (H.subgroup i) · U.into · y · S.out · w ≡ x · U.into · y · S.out · (s (H.subgroup i) · w)
      step i x w =
          simp mul_assoc (ap (λ (z : Matrix R m e). x · z) (sym (mul_assoc (t (H.subgroup i)) U.into (y · (S.out · w)))
          ∙ ap (λ (z : Matrix R m n). z · (y · (S.out · w))) (U.subgroup-into i) ∙ mul_assoc U.into (c i) (y · (S.out · w))
          ∙ ap (λ (z : Matrix R n e). U.into · z) (sym (mul_assoc (c i) y (S.out · w)) ∙ ap (λ (z : Matrix R n d). z · (S.out · w)) (h.intertwines i) ∙ mul_assoc y (b i) (S.out · w)
          ∙ ap (λ (z : Matrix R d e). y · z) (sym (mul_assoc (b i) S.out w) ∙ ap (λ (z : Matrix R d e). z · w) (sym (S.out-subgroup i)) ∙ mul_assoc S.out (s (H.subgroup i)) w))))

      moved : (g : G) (a : Fin H.index) → t g · (t (H.representative a) · U.into · y · S.out · s (H.inverse a))
          ≡ t (H.representative (H.to g a)) · U.into · y · S.out · s (H.inverse (H.to g a)) · s g
      moved g a =
          simp (← mul_assoc) (ap (λ (z : Matrix R m m). z · U.into · y · S.out · s (H.inverse a)) (U.multiplies g (H.representative a) ∙ ap t (H.product-representative g a) ∙ sym (U.multiplies (H.representative (H.to g a)) (H.subgroup (H.rest g a))))
          ∙ step (H.rest g a) (t (H.representative (H.to g a))) (s (H.inverse a))
          ∙ ap (λ (z : Matrix R e e). t (H.representative (H.to g a)) · U.into · y · S.out · z) (S.multiplies (H.subgroup (H.rest g a)) (H.inverse a) ∙ ap s (H.rest-inverse g a) ∙ sym (S.multiplies (H.inverse (H.to g a)) g))
          ∙ sym (mul_assoc (t (H.representative (H.to g a)) · U.into · y · S.out) (s (H.inverse (H.to g a))) (s g)))

  narrow-spread : IsReciprocal S U → (y : Matrix R n d) → narrow (spread y) ≡ y
  unfolding narrow spread
  narrow-spread h y =
      ap (λ (z : Matrix R n e). z · S.into) (mul-total H.index U.out (λ a. t (H.representative a) · U.into · y · S.out · s (H.inverse a)))
      ∙ total-mul H.index (λ a. U.out · (t (H.representative a) · U.into · y · S.out · s (H.inverse a))) S.into
      ∙ total-ext H.index (λ a.
      simp mul_assoc (ap (λ (z : Matrix R d d). U.out · (t (H.representative a) · (U.into · (y · z)))) (sym (mul_assoc S.out (s (H.inverse a)) S.into) ∙ h.apart a)
      ∙ simp (mul-scale, mul-unit)))
      ∙ combination-delta H.index h.start (λ a. U.out · (t (H.representative a) · (U.into · y)))
      ∙ simp (← mul_assoc) (ap (λ (z : Matrix R n n). z · y) h.start-block ∙ unit-mul y)

  spread-narrow : IsReciprocal S U → (x : Matrix R m e) → IsIntertwiner s t x → spread (narrow x) ≡ x
  unfolding narrow spread
  spread-narrow h x i =
      total-ext H.index (λ a.
      simp mul_assoc (ap (λ (z : Matrix R m e). t (H.representative a) · z) (block (s (H.inverse a)))
      ∙ sym (mul_assoc (t (H.representative a)) x (S.into · (S.out · s (H.inverse a))))
      ∙ ap (λ (z : Matrix R m e). z · (S.into · (S.out · s (H.inverse a)))) (i.intertwines (H.representative a))
      ∙ mul_assoc x (s (H.representative a)) (S.into · (S.out · s (H.inverse a)))))
      ∙ sym (mul-total H.index x (λ a. s (H.representative a) · (S.into · S.out) · s (H.inverse a))) ∙ ap (λ (z : Matrix R e e). x · z) h.all_blocks ∙ mul-unit x
    where
      block : (w : Matrix R e e) → U.into · (U.out · (x · (S.into · (S.out · w)))) ≡ x · (S.into · (S.out · w))
      block w =
          sym (mul_assoc U.into U.out (x · (S.into · (S.out · w)))) ∙ sym (mul_assoc (U.into · U.out) x (S.into · (S.out · w)))
          ∙ ap (λ (z : Matrix R m e). z · (S.into · (S.out · w))) (sym (h.takes_block x i))
          ∙ simp mul_assoc (ap (λ (z : Matrix R d e). x · (S.into · z)) (sym (mul_assoc S.out S.into (S.out · w)) ∙ ap (λ (z : Matrix R d d). z · (S.out · w)) S.out-into ∙ unit-mul (S.out · w)))

  narrow-total : (k : ℕ) (q : Fin k → R.Carrier) (x : Fin k → Matrix R m e) → narrow (combination R k q x) ≡ combination R k q (λ l. narrow (x l))
  unfolding narrow
  narrow-total k q x = simp (mul-total, total-mul, mul-scale, scale-mul)

  spread-total : (k : ℕ) (q : Fin k → R.Carrier) (y : Fin k → Matrix R n d) → spread (combination R k q y) ≡ combination R k q (λ l. spread (y l))
  unfolding spread
  spread-total k q y =
      total-ext H.index (λ a. simp (mul-total, total-mul, mul-scale, scale-mul) refl)
      ∙ total_swap H.index k (λ a l. scale R (q l) (t (H.representative a) · U.into · y l · S.out · s (H.inverse a)))
      ∙ total-ext k (λ l. sym (scale-total R H.index (q l) (λ a. t (H.representative a) · U.into · y l · S.out · s (H.inverse a))))

  narrow-null : narrow null ≡ null
  unfolding narrow
  narrow-null = simp (mul-null, null-mul)

  -- Frobenius reciprocity: the dimension of the intertwiners of the whole is that of the parts
  pub reciprocity : IsReciprocal S U → {k : ℕ} → HasDimension b c k → HasDimension s t k
  reciprocity h {k} g = record {
    members = λ l. spread (g.members l);
    are_intertwiners = λ l. spread-intertwines (g.members l) (g.are_intertwiners l);
    independent = λ q z. g.independent q (ap (total k) (fun_ext (λ l. ap (scale R (q l)) (sym (narrow-spread h (g.members l)))))
        ∙ sym (narrow-total k q (λ l. spread (g.members l))) ∙ ap narrow z ∙ narrow-null);
    spanning = λ x i. (
      (g.spanning (narrow x) (narrow-intertwines x i)).0,
      sym (spread-narrow h x i) ∙ ap spread (g.spanning (narrow x) (narrow-intertwines x i)).1
          ∙ spread-total k (g.spanning (narrow x) (narrow-intertwines x i)).0 g.members,
    );
  }
