-- How a text parts into a term and what stands behind it.
--   IsBehindTerm ys      ys is empty or begins with a sign
--   IsSplit t ys r       the parts r are those of the term t and the text ys
use Rattle.std.specs.Prelude.{ℕ, ◌≡◌, ◌⊎◌, List, [], ◌∷◌}
use Rattle.std.specs.Option.{option_copied}
use Rattle.irr_numeral.specs.declared.terms.Parts.{Parts}
use Rattle.irr_numeral.specs.WrittenNumber.{WrittenTerm}

abbrev pub IsBehindTerm : List ℕ → Type 0
IsBehindTerm [] = Unit {0}
IsBehindTerm (c ∷ cs) = (c ≡ 43) ⊎ (c ≡ 45)

pub record IsSplit (t : WrittenTerm) (ys : List ℕ) (parts : Parts) : Type 0 where
  pub numerator : parts.numerator.now ≡ t.numerator
  pub denominator : option_copied parts.denominator ≡ t.denominator
  pub exponent : option_copied parts.exponent ≡ t.exponent
  pub rest : parts.rest.now ≡ ys
