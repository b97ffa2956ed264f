-- What stands at the front of a fraction, and behind its numerator.
--   minus_step, plus_step     a sign
--   over_step                 a slash and a denominator
use Rattle.std.proofs.Common.{◌≡◌, refl, sym, ◌∙◌, ap, subst, ℕ, Bool, true, false, List, [], ◌∷◌, ◌++◌, Option, None, Some, arith}
use Rattle.std.specs.Str.Parse.{IsNumeral}
use Rattle.irr_token.specs.declared.kind.Kind.TheVariants.{Digit, Mark}
use Rattle.irr_token.specs.Kinds.{kind_of}
use Rattle.irr_token.specs.Token.{PlacedNumber, Token}
use Rattle.irr_token.specs.Token.Token.{number, mark}
use Rattle.irr_token.specs.Spelling.{AreSpelled}
use Rattle.irr_token.specs.Quotient.{is_negative, sign_tokens, over_tokens}
use Rattle.irr_token.specs.Reading.{BeginsWith, IsBehindNumber, IsBehindQuotient}
use Rattle.irr_token.proofs.Lexing.{digit_kind}

-- a mark at the front is the first token, and no number stands there
pub front_mark : (at : ℕ) (c b : ℕ) (ts : List Token) (text : List ℕ) → AreSpelled at (mark c ∷ ts) text → BeginsWith b text → c ≡ b
front_mark at c b ts text sp h = subst (BeginsWith b) sp.1.joins h

pub front_number : (at : ℕ) (n : PlacedNumber) (b : ℕ) (ts : List Token) (text : List ℕ) → AreSpelled at (number n ∷ ts) text → BeginsWith b text → kind_of b ≡ Digit
front_number at n b ts text sp h = of_digits n.digits sp.0 (subst (BeginsWith b) sp.2.joins h)
  where
    of_digits : (ds : List ℕ) → IsNumeral 10 ds → BeginsWith b (ds ++ (sp.2.blanks ++ sp.2.rest)) → kind_of b ≡ Digit
    of_digits [] is g = absurd (omega (arith, is.0))
    of_digits (d ∷ ds) is g = ap kind_of (sym g) ∙ digit_kind d is.1.0

abbrev pub IsBehindMark : ℕ → List ℕ → ℕ → List ℕ → Type 0
IsBehindMark place text to left = (c : ℕ) (us : List Token) → AreSpelled place (mark c ∷ us) text → AreSpelled to us left

pub minus_step : (place : ℕ) (text : List ℕ) (to : ℕ) (left : List ℕ) (s : Option Bool) (n : PlacedNumber) (ts : List Token) → BeginsWith 45 text → IsBehindMark place text to left
    → AreSpelled place (sign_tokens s ++ (number n ∷ ts)) text → (true ≡ is_negative s) × AreSpelled to (number n ∷ ts) left
minus_step place text to left None n ts at f sp = absurd (let e : Mark ≡ Digit = front_number place n 45 ts text sp at in cc)
minus_step place text to left (Some true) n ts at f sp = (refl, f 45 (number n ∷ ts) sp)
minus_step place text to left (Some false) n ts at f sp = absurd (let e : 43 ≡ 45 = front_mark place 43 45 (number n ∷ ts) text sp at in omega (arith, e))

pub plus_step : (place : ℕ) (text : List ℕ) (to : ℕ) (left : List ℕ) (s : Option Bool) (n : PlacedNumber) (ts : List Token) → BeginsWith 43 text → IsBehindMark place text to left
    → AreSpelled place (sign_tokens s ++ (number n ∷ ts)) text → (false ≡ is_negative s) × AreSpelled to (number n ∷ ts) left
plus_step place text to left None n ts at f sp = absurd (let e : Mark ≡ Digit = front_number place n 43 ts text sp at in cc)
plus_step place text to left (Some true) n ts at f sp = absurd (let e : 45 ≡ 43 = front_mark place 45 43 (number n ∷ ts) text sp at in omega (arith, e))
plus_step place text to left (Some false) n ts at f sp = (refl, f 43 (number n ∷ ts) sp)

behind_number : (ts : List Token) → IsBehindQuotient ts → IsBehindNumber ts
behind_number [] is = tt
behind_number (number n ∷ ts) is = is
behind_number (mark c ∷ ts) is = tt

pub over_step : (place : ℕ) (text : List ℕ) (at : ℕ) (middle : List ℕ) (to : ℕ) (left : List ℕ) (q : PlacedNumber) (d : Option PlacedNumber) (ts : List Token) → BeginsWith 47 text → IsBehindQuotient ts
    → IsBehindMark place text at middle → ((n : PlacedNumber) (us : List Token) → IsBehindNumber us → AreSpelled at (number n ∷ us) middle → (q ≡ n) × AreSpelled to us left)
    → AreSpelled place (over_tokens d ++ ts) text → (Some q ≡ d) × AreSpelled to ts left
over_step place text at middle to left q None [] h is f g sp = absurd (subst (BeginsWith 47) sp h)
over_step place text at middle to left q None (number n ∷ ts) h is f g sp = absurd is
over_step place text at middle to left q None (mark c ∷ ts) h is f g sp = absurd (is (front_mark place c 47 ts text sp h))
over_step place text at middle to left q (Some d) ts h is f g sp = let s = g d ts (behind_number ts is) (f 47 (number d ∷ ts) sp) in (ap Some s.0, s.1)
