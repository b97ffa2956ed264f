-- A text spells one list of tokens, where numbers stand apart.
--   spelled_once         two spellings of a text have the same tokens
--   apart-number, apart_quotient      numbers stand apart where a mark, or nothing, follows a number or a fraction
--   quotient_once        a fraction, and what follows it, are told by the tokens
use Rattle.std.proofs.Common.{◌≡◌, refl, sym, ◌∙◌, ap, ap₂, subst, ℕ, ◌+◌, Bool, true, false, List, [], ◌∷◌, ◌++◌, append_assoc, length, Option, None, Some, arith}
use Rattle.std.specs.Str.Parse.{IsNumeral}
use Rattle.irr_digits.proofs.Numerals.{run_unique}
use Rattle.irr_token.specs.declared.kind.Kind.TheVariants.{Digit, Mark}
use Rattle.irr_token.specs.Kinds.{kind_of, AreBlanks}
use Rattle.irr_token.specs.Token.{PlacedNumber, Token}
use Rattle.irr_token.specs.Token.Token.{number, mark}
use Rattle.irr_token.specs.Spelling.{AreSpelled, NumbersApart}
use Rattle.irr_token.specs.Quotient.{WrittenQuotient, sign_byte, sign_tokens, over_tokens, quotient_tokens}
use Rattle.irr_token.specs.Reading.{IsBehindNumber, IsBehindQuotient}
use Rattle.irr_token.proofs.Lexing.{digit_kind}
use Rattle.irr_token.proofs.Blanks.{blanks_unique, no_blank-spelled, no_digit-behind}

-- what stands behind a number, and further on
behind_number : (n : PlacedNumber) (ts : List Token) → NumbersApart (number n ∷ ts) → IsBehindNumber ts
behind_number n [] a = tt
behind_number n (number m ∷ ts) a = a
behind_number n (mark c ∷ ts) a = tt

further : (n : PlacedNumber) (ts : List Token) → NumbersApart (number n ∷ ts) → NumbersApart ts
further n [] a = tt
further n (number m ∷ ts) a = absurd a
further n (mark c ∷ ts) a = a

-- a numeral is not empty, and begins with a digit
no_numeral : (ds rest : List ℕ) → IsNumeral 10 ds → ds ++ rest ≡ [] → ⊥
no_numeral [] rest is e = omega (arith, is.0)
no_numeral (d ∷ ds) rest is e = cc

no_mark : (ds rest more : List ℕ) (c : ℕ) → IsNumeral 10 ds → kind_of c ≡ Mark → ds ++ rest ≡ c ∷ more → ⊥
no_mark [] rest more c is k e = omega (arith, is.0)
no_mark (d ∷ ds) rest more c is k e =
    let same : d ≡ c = cc in
    let f : Digit ≡ Mark = sym (digit_kind d is.1.0) ∙ ap kind_of same ∙ k in cc

same_number : (p q : ℕ) (ds es : List ℕ) → p ≡ q → ds ≡ es
    → ◌≡◌ {A = PlacedNumber} (record { place = p; digits = ds }) (record { place = q; digits = es })
same_number p q ds es e f = cc

-- blanks and a rest, twice
module _ (at : ℕ) (ts us : List Token) (bs cs s t : List ℕ) (p : AreBlanks bs) (q : AreBlanks cs) (front : ℕ)
    (first : AreSpelled (at + front + length bs) ts s) (second : AreSpelled (at + front + length cs) us t) (e : bs ++ s ≡ cs ++ t) where
  both_rests : (bs ≡ cs) × (s ≡ t)
  both_rests = blanks_unique bs cs s t p q (no_blank-spelled (at + front + length bs) ts s first) (no_blank-spelled (at + front + length cs) us t second) e

  second_here : AreSpelled (at + front + length bs) us s
  second_here = subst (AreSpelled (at + front + length bs) us) (sym both_rests.1)
      (subst (λ k. AreSpelled (at + front + length k) us t) (sym both_rests.0) second)

pub spelled_once : (at : ℕ) (ts us : List Token) (text : List ℕ) → NumbersApart ts → NumbersApart us → AreSpelled at ts text → AreSpelled at us text
    → ts ≡ us
spelled_once at [] [] text a b x y = refl
spelled_once at [] (number m ∷ us) text a b x y = absurd (no_numeral m.digits (y.2.blanks ++ y.2.rest) y.0 (sym y.2.joins ∙ x))
spelled_once at [] (mark c ∷ us) text a b x y = let e : c ∷ (y.1.blanks ++ y.1.rest) ≡ [] = sym y.1.joins ∙ x in cc
spelled_once at (number n ∷ ts) [] text a b x y = absurd (no_numeral n.digits (x.2.blanks ++ x.2.rest) x.0 (sym x.2.joins ∙ y))
spelled_once at (mark c ∷ ts) [] text a b x y = let e : c ∷ (x.1.blanks ++ x.1.rest) ≡ [] = sym x.1.joins ∙ y in cc
spelled_once at (number n ∷ ts) (mark c ∷ us) text a b x y =
    absurd (no_mark n.digits (x.2.blanks ++ x.2.rest) (y.1.blanks ++ y.1.rest) c x.0 y.0 (sym x.2.joins ∙ y.1.joins))
spelled_once at (mark c ∷ ts) (number m ∷ us) text a b x y =
    absurd (no_mark m.digits (y.2.blanks ++ y.2.rest) (x.1.blanks ++ x.1.rest) c y.0 x.0 (sym y.2.joins ∙ x.1.joins))
spelled_once at (number n ∷ ts) (number m ∷ us) text a b x y =
    let X = x.2 in
    let Y = y.2 in
    let run = run_unique n.digits m.digits (X.blanks ++ X.rest) (Y.blanks ++ Y.rest) x.0.1 y.0.1
    (no_digit-behind (at + length n.digits + length X.blanks) ts X.blanks X.rest (behind_number n ts a) X.are_blanks X.is_rest)
    (no_digit-behind (at + length m.digits + length Y.blanks) us Y.blanks Y.rest (behind_number m us b) Y.are_blanks Y.is_rest) (sym X.joins ∙ Y.joins) in
    let other : AreSpelled (at + length n.digits + length Y.blanks) us Y.rest =
    subst (λ ds. AreSpelled (at + length ds + length Y.blanks) us Y.rest) (sym run.0) Y.is_rest in
    let rest : ts ≡ us = spelled_once (at + length n.digits + length X.blanks) ts us X.rest (further n ts a) (further m us b) X.is_rest
    (second_here at ts us X.blanks Y.blanks X.rest Y.rest X.are_blanks Y.are_blanks (length n.digits) X.is_rest other run.1) in
    ap₂ (λ k ks. number k ∷ ks) (same_number n.place m.place n.digits m.digits (x.1 ∙ sym y.1) run.0) rest
spelled_once at (mark c ∷ ts) (mark d ∷ us) text a b x y =
    let X = x.1 in
    let Y = y.1 in
    let e : c ∷ (X.blanks ++ X.rest) ≡ d ∷ (Y.blanks ++ Y.rest) = sym X.joins ∙ Y.joins in
    let f : X.blanks ++ X.rest ≡ Y.blanks ++ Y.rest = cc in
    let g : c ≡ d = cc in
    let rest : ts ≡ us = spelled_once (at + 1 + length X.blanks) ts us X.rest a b X.is_rest
    (second_here at ts us X.blanks Y.blanks X.rest Y.rest X.are_blanks Y.are_blanks 1 X.is_rest Y.is_rest f) in
    ap₂ (λ k ks. mark k ∷ ks) g rest

-- the tokens of a sign and a number
mark_number : (c : ℕ) (n : PlacedNumber) (ts us : List Token) → mark c ∷ ts ≡ number n ∷ us → ⊥
mark_number c n ts us e = cc

same_marks : (c d : ℕ) (ts us : List Token) → mark c ∷ ts ≡ mark d ∷ us → (c ≡ d) × (ts ≡ us)
same_marks c d ts us e = (cc, cc)

same_numbers : (n m : PlacedNumber) (ts us : List Token) → number n ∷ ts ≡ number m ∷ us → (n ≡ m) × (ts ≡ us)
same_numbers n m ts us e = (cc, cc)

-- a sign and what follows, which begins with a number
sign_once : (s t : Option Bool) (n m : PlacedNumber) (ts us : List Token) → sign_tokens s ++ (number n ∷ ts) ≡ sign_tokens t ++ (number m ∷ us)
    → (s ≡ t) × (n ≡ m) × (ts ≡ us)
sign_once None None n m ts us e = let k = same_numbers n m ts us e in (refl, k.0, k.1)
sign_once None (Some b) n m ts us e = absurd (mark_number (sign_byte b) n (number m ∷ us) ts (sym e))
sign_once (Some b) None n m ts us e = absurd (mark_number (sign_byte b) m (number n ∷ ts) us e)
sign_once (Some b) (Some c) n m ts us e =
    let k = same_marks (sign_byte b) (sign_byte c) (number n ∷ ts) (number m ∷ us) e in
    let l = same_numbers n m ts us k.1 in
    (ap Some (sign_byte_once b c k.0), l.0, l.1)
  where
    sign_byte_once : (b c : Bool) → sign_byte b ≡ sign_byte c → b ≡ c
    sign_byte_once true true f = refl
    sign_byte_once true false f = absurd (let g : 45 ≡ 43 = f in omega (arith, g))
    sign_byte_once false true f = absurd (let g : 43 ≡ 45 = f in omega (arith, g))
    sign_byte_once false false f = refl

-- a denominator, where there is one, and what follows, which is no slash
over_once : (d e : Option PlacedNumber) (r s : List Token) → IsBehindQuotient r → IsBehindQuotient s → over_tokens d ++ r ≡ over_tokens e ++ s
    → (d ≡ e) × (r ≡ s)
over_once None None r s a b f = (refl, f)
over_once None (Some m) r s a b f = absurd (subst IsBehindQuotient f a refl)
over_once (Some n) None r s a b f = absurd (subst IsBehindQuotient (sym f) b refl)
over_once (Some n) (Some m) r s a b f =
    let k = same_marks 47 47 (number n ∷ r) (number m ∷ s) f in
    let l = same_numbers n m r s k.1 in
    (ap Some l.0, l.1)

same_quotient : (s t : Option Bool) (n m : PlacedNumber) (d e : Option PlacedNumber) → s ≡ t → n ≡ m → d ≡ e
    → ◌≡◌ {A = WrittenQuotient} (record { sign = s; numerator = n; denominator = d }) (record { sign = t; numerator = m; denominator = e })
same_quotient s t n m d e f g h = cc

pub quotient_once : (q p : WrittenQuotient) (r s : List Token) → IsBehindQuotient r → IsBehindQuotient s
    → quotient_tokens q ++ r ≡ quotient_tokens p ++ s → (q ≡ p) × (r ≡ s)
quotient_once q p r s a b e =
    let f : sign_tokens q.sign ++ (number q.numerator ∷ (over_tokens q.denominator ++ r)) ≡ sign_tokens p.sign ++ (number p.numerator ∷ (over_tokens
    p.denominator ++ s)) = sym (append_assoc (sign_tokens q.sign) (number q.numerator ∷ over_tokens q.denominator) r) ∙ e
    ∙ append_assoc (sign_tokens p.sign) (number p.numerator ∷ over_tokens p.denominator) s in
    let k = sign_once q.sign p.sign q.numerator p.numerator (over_tokens q.denominator ++ r) (over_tokens p.denominator ++ s) f in
    let l = over_once q.denominator p.denominator r s a b k.2 in
    (same_quotient q.sign p.sign q.numerator p.numerator q.denominator p.denominator k.0 k.1 l.0, l.1)

pub apart-number : (n : PlacedNumber) (r : List Token) → IsBehindNumber r → NumbersApart r → NumbersApart (number n ∷ r)
apart-number n [] b a = tt
apart-number n (number m ∷ r) b a = b
apart-number n (mark c ∷ r) b a = a

behind_quotient : (r : List Token) → IsBehindQuotient r → IsBehindNumber r
behind_quotient [] b = tt
behind_quotient (number m ∷ r) b = b
behind_quotient (mark c ∷ r) b = tt

apart-over : (n : PlacedNumber) (d : Option PlacedNumber) (r : List Token) → IsBehindQuotient r → NumbersApart r
    → NumbersApart (number n ∷ (over_tokens d ++ r))
apart-over n None r b a = apart-number n r (behind_quotient r b) a
apart-over n (Some d) r b a = apart-number d r (behind_quotient r b) a

apart-sign : (s : Option Bool) (n : PlacedNumber) (r : List Token) → NumbersApart (number n ∷ r) → NumbersApart (sign_tokens s ++ (number n ∷ r))
apart-sign None n r a = a
apart-sign (Some b) n r a = a

pub apart_quotient : (q : WrittenQuotient) (r : List Token) → IsBehindQuotient r → NumbersApart r → NumbersApart (quotient_tokens q ++ r)
apart_quotient q r b a = subst NumbersApart (sym (append_assoc (sign_tokens q.sign) (number q.numerator ∷ over_tokens q.denominator) r))
    (apart-sign q.sign q.numerator (over_tokens q.denominator ++ r) (apart-over q.numerator q.denominator r b a))
