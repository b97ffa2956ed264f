-- The canonical form is the one canonical fraction of a number.
--   IsCanonical-canonical     it is canonical
--   number-canonical          it stands for the number
--   canonical_of_number       a canonical fraction of a number is its canonical form
--   canonical-number          the canonical form of a canonical fraction's number is that fraction
--   canonical_injective       numbers of one canonical form are one number
use mathlib.Core.Path.{◌≡◌, refl, sym, ◌∙◌, ap}
use Prim.Native.Nat.{ℕ, ◌<◌}
use native.Mathlib.Decide.{dec_lt}
use Rattle.irr_number.specs.Basis.{IsCanonical}
use Rattle.irr_number.specs.Element.{Element}
use Rattle.irr_number.specs.Fraction.{Fraction}
use Rattle.irr_number.specs.Number.{Number, number}
use Rattle.irr_number.proofs.Canonical.{canonical_form, canonical_unique}
use Rattle.irr_canonical.specs.Coefficient.{canonical, canonical_if}

module _ (N : ℕ) (hN : 0 < N) where
  form_if : (d : Dec (0 < N)) (x : Number N) → IsCanonical N (canonical_if N d x) × (number N (canonical_if N d x) ≡ x)
  unfolding canonical_if
  form_if (yes h) x = (canonical_form N h x).1
  form_if (no f) x = absurd (f hN)

  form : (x : Number N) → IsCanonical N (canonical N x) × (number N (canonical N x) ≡ x)
  unfolding canonical
  form x = form_if (dec_lt 0 N) x

  pub IsCanonical-canonical : (x : Number N) → IsCanonical N (canonical N x)
  IsCanonical-canonical x = (form x).0

  pub number-canonical : (x : Number N) → number N (canonical N x) ≡ x
  number-canonical x = (form x).1

  pub canonical_of_number : (a : Fraction (Element N)) (x : Number N) → IsCanonical N a → number N a ≡ x → canonical N x ≡ a
  canonical_of_number a x c e = canonical_unique N hN (canonical N x) a (IsCanonical-canonical x) c (number-canonical x ∙ sym e)

  pub canonical-number : (a : Fraction (Element N)) → IsCanonical N a → canonical N (number N a) ≡ a
  canonical-number a c = canonical_of_number a (number N a) c refl

  pub canonical_injective : (x y : Number N) → canonical N x ≡ canonical N y → x ≡ y
  canonical_injective x y e = sym (number-canonical x) ∙ ap (number N) e ∙ number-canonical y
