-- Fractions with no blank inside, as bytes.
--   sign_bytes, over_bytes         the bytes of a sign, and of a slash with a denominator
--   placed at s ds over            the fraction with these parts, which begins at the place at
--   placed-spelled, placed-no_blank     its bytes spell it, with no blank
--   IsInBytes q run                the run is the bytes of q, whose numbers are numerals
--   quotient-bytes                 where the run spells q with no blank, it is the bytes of q
use Rattle.std.proofs.Common.{◌≡◌, refl, sym, ◌∙◌, ap, subst, ℕ, ◌+◌, Bool, true, false, List, [], ◌∷◌, ◌++◌, length, append-nil, Option, None, Some, IfSome, arith}
use Rattle.std.specs.Str.Parse.{AllDigits, IsNumeral}
use Rattle.irr_token.specs.declared.kind.Kind.TheVariants.{Blank, Digit, Mark}
use Rattle.irr_token.specs.Kinds.{kind_of, AreBlanks}
use Rattle.irr_token.specs.Token.{PlacedNumber, Token}
use Rattle.irr_token.specs.Token.Token.{number}
use Rattle.irr_token.specs.Spelling.{IsBehind, AreSpelled}
use Rattle.irr_token.specs.Quotient.{WrittenQuotient, sign_byte, sign_tokens, over_tokens, quotient_tokens}
use Rattle.irr_token.proofs.Lexing.{digit_kind}
use Rattle.irr_setting_text.specs.WrittenLine.{HasNoBlank}

abbrev pub sign_bytes : Option Bool → List ℕ
sign_bytes None = []
sign_bytes (Some negative) = sign_byte negative ∷ []

abbrev pub over_part : Option (List ℕ) → List ℕ
over_part None = []
over_part (Some ds) = 47 ∷ ds

abbrev pub over_number : ℕ → Option (List ℕ) → Option PlacedNumber
over_number p None = None
over_number p (Some ds) = Some (record { place = p; digits = ds })

abbrev pub placed : ℕ → Option Bool → List ℕ → Option (List ℕ) → WrittenQuotient
placed at s ds over = record {
  sign = s;
  numerator = record { place = at + length (sign_bytes s); digits = ds };
  denominator = over_number (at + length (sign_bytes s) + length ds + 1) over;
}

spelled-at : (m n : ℕ) (ts : List Token) (xs : List ℕ) → m ≡ n → AreSpelled m ts xs → AreSpelled n ts xs
spelled-at m n ts xs e h = subst (λ k. AreSpelled k ts xs) e h

over-spelled : (p : ℕ) (over : Option (List ℕ)) → IfSome over (λ es. IsNumeral 10 es) → AreSpelled p (over_tokens (over_number (p + 1) over)) (over_part over)
over-spelled p None h = refl
over-spelled p (Some es) h = (
  refl,
  record {
    blanks = [];
    rest = es;
    are_blanks = tt;
    joins = refl;
    is_rest = (
      h,
      omega arith,
      record {
        blanks = [];
        rest = [];
        are_blanks = tt;
        joins = sym (append-nil es);
        is_rest = refl;
      },
    );
  },
)

number-spelled : (p : ℕ) (ds : List ℕ) (over : Option (List ℕ)) → IsNumeral 10 ds → IfSome over (λ es. IsNumeral 10 es)
    → AreSpelled p (number (record { place = p; digits = ds }) ∷ over_tokens (over_number (p + length ds + 1) over)) (ds ++ over_part over)
number-spelled p ds over is h = (
  is,
  refl,
  record {
    blanks = [];
    rest = over_part over;
    are_blanks = tt;
    joins = refl;
    is_rest = spelled-at (p + length ds) (p + length ds + length {A = ℕ} []) (over_tokens (over_number (p + length ds + 1) over)) (over_part over) (omega arith)
        (over-spelled (p + length ds) over h);
  },
)

sign_mark : (b : Bool) → kind_of (sign_byte b) ≡ Mark
sign_mark true = refl
sign_mark false = refl

pub placed-spelled : (at : ℕ) (s : Option Bool) (ds : List ℕ) (over : Option (List ℕ)) → IsNumeral 10 ds → IfSome over (λ es. IsNumeral 10 es)
    → AreSpelled at (quotient_tokens (placed at s ds over)) (sign_bytes s ++ (ds ++ over_part over))
placed-spelled at None ds over is h = subst (λ p. AreSpelled at (number (record { place = p; digits = ds }) ∷ over_tokens (over_number (p + length ds + 1) over))
    (ds ++ over_part over)) (let e : at ≡ at + length {A = ℕ} [] = omega arith in e) (number-spelled at ds over is h)
placed-spelled at (Some b) ds over is h = (
  sign_mark b,
  record {
    blanks = [];
    rest = ds ++ over_part over;
    are_blanks = tt;
    joins = refl;
    is_rest = spelled-at (at + length (sign_byte b ∷ [])) (at + length (sign_byte b ∷ []) + length {A = ℕ} [])
        (number (record { place = at + length (sign_byte b ∷ []); digits = ds }) ∷ over_tokens (over_number (at + length (sign_byte b ∷ []) + length ds + 1) over))
        (ds ++ over_part over) (omega arith) (number-spelled (at + length (sign_byte b ∷ [])) ds over is h);
  },
)

no_blank-digits : (ds rest : List ℕ) → AllDigits 10 ds → HasNoBlank rest → HasNoBlank (ds ++ rest)
no_blank-digits [] rest all h = h
no_blank-digits (d ∷ ds) rest all h = ((λ e. let f : Digit ≡ Blank = sym (digit_kind d all.0) ∙ e in cc), no_blank-digits ds rest all.1 h)

no_blank-over : (over : Option (List ℕ)) → IfSome over (λ es. IsNumeral 10 es) → HasNoBlank (over_part over)
no_blank-over None h = tt
no_blank-over (Some es) h = ((λ e. let f : Mark ≡ Blank = e in cc), subst HasNoBlank (append-nil es) (no_blank-digits es [] h.1 tt))

pub placed-no_blank : (s : Option Bool) (ds : List ℕ) (over : Option (List ℕ)) → IsNumeral 10 ds → IfSome over (λ es. IsNumeral 10 es)
    → HasNoBlank (sign_bytes s ++ (ds ++ over_part over))
placed-no_blank None ds over is h = no_blank-digits ds (over_part over) is.1 (no_blank-over over h)
placed-no_blank (Some b) ds over is h = ((λ e. let f : Mark ≡ Blank = sym (sign_mark b) ∙ e in cc), no_blank-digits ds (over_part over) is.1 (no_blank-over over h))

-- From the spelling to the bytes.

abbrev pub over_bytes : Option PlacedNumber → List ℕ
over_bytes None = []
over_bytes (Some d) = 47 ∷ d.digits

pub record IsInBytes (q : WrittenQuotient) (run : List ℕ) : Type 0 where
  pub numerator : IsNumeral 10 q.numerator.digits
  pub denominator : IfSome q.denominator (λ d. IsNumeral 10 d.digits)
  pub are : run ≡ sign_bytes q.sign ++ (q.numerator.digits ++ over_bytes q.denominator)

behind-no_blank : (front rest : List ℕ) → HasNoBlank (front ++ rest) → HasNoBlank rest
behind-no_blank [] rest h = h
behind-no_blank (c ∷ cs) rest h = behind-no_blank cs rest h.1

no_blanks : (bs rest : List ℕ) → AreBlanks bs → HasNoBlank (bs ++ rest) → bs ≡ []
no_blanks [] rest are h = refl
no_blanks (b ∷ bs) rest are h = absurd (h.0 are.0)

-- what stands behind a front in a text with no blank
record IsJoined (front : List ℕ) (P : ℕ → List ℕ → Type 0) (text : List ℕ) : Type 0 where
  pub rest : List ℕ
  pub joins : text ≡ front ++ rest
  pub no_blank : HasNoBlank rest
  pub at : ℕ
  pub is_rest : P at rest

joined : (front : List ℕ) (at : ℕ) (P : ℕ → List ℕ → Type 0) (text : List ℕ) → HasNoBlank text → IsBehind front at P text → IsJoined front P text
joined front at P text h b =
    let all : HasNoBlank (b.blanks ++ b.rest) = behind-no_blank front (b.blanks ++ b.rest) (subst HasNoBlank b.joins h) in
    let none : b.blanks ≡ [] = no_blanks b.blanks b.rest b.are_blanks all in
    record {
      rest = b.rest;
      joins = b.joins ∙ ap (λ bs. front ++ (bs ++ b.rest)) none;
      no_blank = behind-no_blank b.blanks b.rest all;
      at = at + length front + length b.blanks;
      is_rest = b.is_rest;
    }

over-in_bytes : (d : Option PlacedNumber) (at : ℕ) (text : List ℕ) → HasNoBlank text → AreSpelled at (over_tokens d) text
    → IfSome d (λ n. IsNumeral 10 n.digits) × (text ≡ over_bytes d)
over-in_bytes None at text h sp = (tt, sp)
over-in_bytes (Some d) at text h sp =
    let j = joined (47 ∷ []) at (λ p rest. AreSpelled p (number d ∷ []) rest) text h sp.1 in
    let i = joined d.digits j.at (λ p rest. AreSpelled p [] rest) j.rest j.no_blank j.is_rest.2 in
    (j.is_rest.0, j.joins ∙ ap (λ l. 47 ∷ l) (i.joins ∙ ap (λ l. d.digits ++ l) i.is_rest ∙ append-nil d.digits))

unsigned-bytes : (n : PlacedNumber) (d : Option PlacedNumber) (at : ℕ) (text : List ℕ) → HasNoBlank text → AreSpelled at (number n ∷ over_tokens d) text
    → IsNumeral 10 n.digits × IfSome d (λ m. IsNumeral 10 m.digits) × (text ≡ n.digits ++ over_bytes d)
unsigned-bytes n d at text h sp =
    let j = joined n.digits at (λ p rest. AreSpelled p (over_tokens d) rest) text h sp.2 in
    let o = over-in_bytes d j.at j.rest j.no_blank j.is_rest in
    (sp.0, o.0, j.joins ∙ ap (λ l. n.digits ++ l) o.1)

signed-bytes : (s : Option Bool) (n : PlacedNumber) (d : Option PlacedNumber) (at : ℕ) (text : List ℕ) → HasNoBlank text
    → AreSpelled at (sign_tokens s ++ (number n ∷ over_tokens d)) text
    → IsNumeral 10 n.digits × IfSome d (λ m. IsNumeral 10 m.digits) × (text ≡ sign_bytes s ++ (n.digits ++ over_bytes d))
signed-bytes None n d at text h sp = unsigned-bytes n d at text h sp
signed-bytes (Some b) n d at text h sp =
    let j = joined (sign_byte b ∷ []) at (λ p rest. AreSpelled p (number n ∷ over_tokens d) rest) text h sp.1 in
    let u = unsigned-bytes n d j.at j.rest j.no_blank j.is_rest in
    (u.0, u.1, j.joins ∙ ap (λ l. sign_byte b ∷ l) u.2)

pub quotient-bytes : (q : WrittenQuotient) (at : ℕ) (run : List ℕ) → HasNoBlank run → AreSpelled at (quotient_tokens q) run → IsInBytes q run
quotient-bytes q at run h sp = let s = signed-bytes q.sign q.numerator q.denominator at run h sp in record { numerator = s.0; denominator = s.1; are = s.2 }
