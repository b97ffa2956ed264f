-- The printed forms of numbers: this project's own.
--   fraction_text a b      a, or a/b where b is not 1
--   rational_text x        the rational x in lowest terms
--   number_text n x        the number x of order n: its terms in the basis with coefficients that are not zero, in increasing exponent
use Rattle.std.specs.Prelude.{ℕ, ℤ, zero, suc, pos, negsuc, List, [], ◌∷◌, ◌++◌, nat_eq, if◌then◌else◌, codes}
use Rattle.std.specs.Fmt.{decimal, signed_decimal}
use Rattle.irr_number.specs.Number.{Number}
use Rattle.irr_rational.specs.Rational.{Rational}
use Rattle.irr_canonical.specs.Coefficient.{canonical, denominator, coefficient}

abbrev pub fraction_text : ℤ → ℕ → List ℕ
fraction_text a b = if nat_eq b 1 then signed_decimal a else (signed_decimal a ++ 47 ∷ decimal b)

-- the numerator of a rational number in lowest terms
unfoldable pub numerator : Rational → ℤ
numerator x = (canonical 1 x).num.at 0

unfoldable pub rational_text : Rational → List ℕ
rational_text x = fraction_text (numerator x) (denominator 1 x)

-- a over b with its sign, + too, and nothing for 0
unfoldable pub signed_fraction : ℤ → ℕ → List ℕ
signed_fraction (pos zero) b = []
signed_fraction (pos (suc n)) b = 43 ∷ fraction_text (pos (suc n)) b
signed_fraction (negsuc n) b = fraction_text (negsuc n) b

-- *z^j, and nothing where j is 0
unfoldable pub power_text : ℕ → List ℕ
power_text zero = []
power_text (suc j) = codes "*z^" ++ decimal (suc j)

-- the text after nothing, and otherwise the first text and the second
unfoldable pub behind : List ℕ → List ℕ → List ℕ
behind ys [] = []
behind ys (x ∷ xs) = (x ∷ xs) ++ ys

-- c*z^j with its sign, and nothing where c is 0
unfoldable pub term_text : Rational → ℕ → List ℕ
term_text c j = behind (power_text j) (signed_fraction (numerator c) (denominator 1 c))

-- the texts f 0, .., f (n - 1), one after another
unfoldable pub pieces_below : ℕ → (ℕ → List ℕ) → List ℕ
pieces_below zero f = []
pieces_below (suc n) f = pieces_below n f ++ f n

-- terms with their signs as a sum: no + at the front, and 0 for none
unfoldable pub sum_text : List ℕ → List ℕ
sum_text [] = codes "0"
sum_text (c ∷ cs) = if nat_eq c 43 then cs else (c ∷ cs)

unfoldable pub number_text : (n : ℕ) → Number n → List ℕ
number_text n x = sum_text (pieces_below n (λ j. term_text (coefficient n x j) j))
