-- How a text parts into terms.
--   not_digit-behind        what stands behind a term begins with no digit
--   split_parts             the parts of a term, one after another
--   digit_of_whole          a whole number begins with a digit, and has only digits
use Rattle.std.proofs.Common.{◌≡◌, ◌≢◌, refl, sym, ◌∙◌, ap, ap₂, subst, ℕ, suc, ◌<◌, ◌≤◌, ◌+◌, Bool, true, false, List, [], ◌∷◌, ◌++◌, length, append_assoc, append-nil, Option, None, Some, arith, ◌⊎◌, inl, inr, lit<, ◌-◌, map, take, get_or, IsTrue, IsFalse, length-append}
use Rattle.std.specs.Option.{option_copied}
use Rattle.std.proofs.lemmas.Bool.{cases_lt}
use Rattle.std.proofs.lemmas.List.{take-append-le, get_or_append_left}
use Rattle.std.proofs.Math.Seq.{take-append_seam, get_or-append_seam}
use Rattle.std.specs.Char.{digit_value}
use Rattle.std.specs.Str.Parse.{AllDigits}
use Rattle.irr_digits.specs.DigitRun.{BeginsWithDigit}
use Rattle.irr_numeral.specs.declared.terms.Written.{Written}
use Rattle.irr_numeral.specs.Split.{IsBehindTerm}
use Rattle.irr_numeral.specs.TermPlaces.{numerator_place, written_term, ArePlaced}
use Rattle.irr_numeral.specs.WrittenNumber.{WrittenTerm, IsWhole, IsDenominator, IsTerm, AreLater, AreTerms, quotient_text, exponent_text, unsigned_text, first_sign, later_sign, spelled_later, spelled, IsNumber}
use Rattle.irr_numeral.proofs.ByteKinds.{digit-range}

pub digits_of_whole : (ds : List ℕ) → IsWhole ds → AllDigits 10 ds
digits_of_whole [] w = absurd w
digits_of_whole (d ∷ ds) w = (digit-range d (w.0, w.1), w.2)

pub digits_of_denominator : (ds : List ℕ) → IsDenominator ds → AllDigits 10 ds
digits_of_denominator ds (inl e) = subst (AllDigits 10) (sym e) (lit< tt, tt)
digits_of_denominator ds (inr w) = digits_of_whole ds w

-- texts that begin with no digit

no_digit : (c : ℕ) → (c ≡ 43) ⊎ (c ≡ 45) → ¬ (digit_value c < 10)
no_digit c (inl e) h = let bad : digit_value 43 < 10 = subst (λ d. digit_value d < 10) e h in omega (arith, bad)
no_digit c (inr e) h = let bad : digit_value 45 < 10 = subst (λ d. digit_value d < 10) e h in omega (arith, bad)

pub no_digit-behind : (ys : List ℕ) → IsBehindTerm ys → ¬ (BeginsWithDigit ys)
no_digit-behind [] b h = h
no_digit-behind (c ∷ cs) b h = no_digit c b h

pub no_digit-exponent : (e : Option (List ℕ)) (ys : List ℕ) → IsBehindTerm ys → ¬ (BeginsWithDigit (exponent_text e ++ ys))
no_digit-exponent None ys b h = no_digit-behind ys b h
no_digit-exponent (Some ds) ys b h = omega (arith, h)

pub no_digit-quotient : (d e : Option (List ℕ)) (ys : List ℕ) → IsBehindTerm ys → ¬ (BeginsWithDigit (quotient_text d ++ (exponent_text e ++ ys)))
no_digit-quotient None e ys b h = no_digit-exponent e ys b h
no_digit-quotient (Some ds) e ys b h = omega (arith, h)

-- and without the marks

differ : (a b : ℕ) → a ≡ b → (a ≡ b → ⊥) → ⊥
differ a b e n = n e

pub no_star : (ys zs : List ℕ) → IsBehindTerm ys → ys ≢ 42 ∷ zs
no_star [] zs b e = cc
no_star (c ∷ cs) zs (inl f) e = differ 43 42 (cc) (omega arith)
no_star (c ∷ cs) zs (inr f) e = differ 45 42 (cc) (omega arith)

pub no_slash : (e : Option (List ℕ)) (ys zs : List ℕ) → IsBehindTerm ys → exponent_text e ++ ys ≢ 47 ∷ zs
no_slash None [] zs b e = cc
no_slash None (c ∷ cs) zs (inl f) e = differ 43 47 (cc) (omega arith)
no_slash None (c ∷ cs) zs (inr f) e = differ 45 47 (cc) (omega arith)
no_slash (Some ds) ys zs b e = differ 42 47 (cc) (omega arith)

pub regrouped : (t : WrittenTerm) (ys : List ℕ) → unsigned_text t ++ ys ≡ t.numerator ++ (quotient_text t.denominator ++ (exponent_text t.exponent ++ ys))
regrouped t ys = simp append_assoc

-- The texts of terms that follow others.

-- what is left of the text of the terms before and behind
abbrev pub remaining : List WrittenTerm → List WrittenTerm → List ℕ
remaining [] [] = []
remaining [] (t ∷ ts) = spelled (t ∷ ts)
remaining (b ∷ before) ts = spelled_later ts

pub behind_later : (ts : List WrittenTerm) → IsBehindTerm (spelled_later ts)
behind_later [] = tt
behind_later (t ∷ ts) = signed t.negative
  where
    signed : (negative : Bool) → (later_sign negative ≡ 43) ⊎ (later_sign negative ≡ 45)
    signed true = inr refl
    signed false = inl refl

spelled_later-append : (ts us : List WrittenTerm) → spelled_later (ts ++ us) ≡ spelled_later ts ++ spelled_later us
spelled_later-append [] us = refl
spelled_later-append (t ∷ ts) us = ap (λ l. later_sign t.negative ∷ (unsigned_text t ++ l)) (spelled_later-append ts us) ∙ ap (λ l. later_sign t.negative ∷ l) (sym (append_assoc (unsigned_text t) (spelled_later ts) (spelled_later us)))

pub spelled-append : (b : WrittenTerm) (bs us : List WrittenTerm) → spelled ((b ∷ bs) ++ us) ≡ spelled (b ∷ bs) ++ spelled_later us
spelled-append b bs us = ap (λ l. first_sign b.negative ++ (unsigned_text b ++ l)) (spelled_later-append bs us) ∙ regroup (first_sign b.negative) (unsigned_text b) (spelled_later bs) (spelled_later us)
  where
    regroup : (p q r s : List ℕ) → p ++ (q ++ (r ++ s)) ≡ (p ++ (q ++ r)) ++ s
    regroup p q r s = simp append_assoc

are_later-append : (ts us : List WrittenTerm) → AreLater (ts ++ us) → AreLater us
are_later-append [] us h = h
are_later-append (t ∷ ts) us h = are_later-append ts us h.2

pub term-at : (before : List WrittenTerm) (t : WrittenTerm) (ts : List WrittenTerm) → AreTerms (before ++ (t ∷ ts)) → IsTerm t
term-at [] t ts h = h.0
term-at (b ∷ before) t ts h = (are_later-append before (t ∷ ts) h.1).0

-- One term more.

-- the text is read as far as its terms ws, and rest is left
pub record IsReadTo (text : List ℕ) (ws : List Written) (rest : List ℕ) : Type 0 where
  pub after : List WrittenTerm
  pub are_terms : AreTerms (map written_term ws ++ after)
  pub spells : spelled (map written_term ws ++ after) ≡ text
  pub left : rest ≡ remaining (map written_term ws) after
  pub placed : ArePlaced ws

pub term_ext : (a b : Bool) (c d : List ℕ) (e f g h : Option (List ℕ)) → a ≡ b → c ≡ d → e ≡ f → g ≡ h
    → ◌≡◌ {A = WrittenTerm} (record { negative = a; numerator = c; denominator = e; exponent = g }) (record { negative = b; numerator = d; denominator = f; exponent = h })
term_ext a b c d e f g h p q r s = cc

-- what the sign of the next term says
pub record IsSignSplit (text : List ℕ) (negative : Bool) (unsigned : List ℕ) : Type 0 where
  pub minus : (rest : List ℕ) → text ≡ 45 ∷ rest → IsTrue negative × (unsigned ≡ rest)
  pub plus : (rest : List ℕ) → text ≡ 43 ∷ rest → IsFalse negative × (unsigned ≡ rest)
  pub none : (c : ℕ) (rest : List ℕ) → text ≡ c ∷ rest → c ≢ 43 → c ≢ 45 → IsFalse negative × (unsigned ≡ text)

plain : (text unsigned ds ys : List ℕ) (negative : Bool) → IsWhole ds → text ≡ ds ++ ys → IsSignSplit text negative unsigned → (negative ≡ false) × (unsigned ≡ ds ++ ys)
plain text unsigned [] ys negative w e s = absurd w
plain text unsigned (d ∷ ds) ys negative w e s = let r = s.none d (ds ++ ys) e (λ f. omega (arith, f, w)) (λ f. omega (arith, f, w)) in (r.0, r.1 ∙ e)

sign_of : (before : List WrittenTerm) (t : WrittenTerm) (ts : List WrittenTerm) (text unsigned : List ℕ) (negative : Bool) → IsTerm t → text ≡ remaining before (t ∷ ts) → IsSignSplit text negative unsigned
    → (negative ≡ t.negative) × (unsigned ≡ unsigned_text t ++ spelled_later ts)
sign_of [] t ts text unsigned negative is e s = by_sign t.negative e
  where
    by_sign : (m : Bool) → text ≡ first_sign m ++ (unsigned_text t ++ spelled_later ts) → (negative ≡ m) × (unsigned ≡ unsigned_text t ++ spelled_later ts)
    by_sign true f = s.minus (unsigned_text t ++ spelled_later ts) f
    by_sign false f = let r = plain text unsigned t.numerator (quotient_text t.denominator ++ (exponent_text t.exponent ++ spelled_later ts)) negative is.numerator (f ∙ regrouped t (spelled_later ts)) s in
        (r.0, r.1 ∙ sym (regrouped t (spelled_later ts)))
sign_of (b ∷ before) t ts text unsigned negative is e s = by_sign t.negative e
  where
    by_sign : (m : Bool) → text ≡ later_sign m ∷ (unsigned_text t ++ spelled_later ts) → (negative ≡ m) × (unsigned ≡ unsigned_text t ++ spelled_later ts)
    by_sign true f = s.minus (unsigned_text t ++ spelled_later ts) f
    by_sign false f = s.plus (unsigned_text t ++ spelled_later ts) f

-- the place of the next term
pub place_of : (before : List WrittenTerm) (t : WrittenTerm) (ts : List WrittenTerm) (text unsigned : List ℕ) → spelled (before ++ (t ∷ ts)) ≡ text → unsigned ≡ unsigned_text t ++ spelled_later ts
    → length text ≡ numerator_place before t + length unsigned
place_of [] t ts text unsigned e f = ap length (sym e ∙ ap (λ l. first_sign t.negative ++ l) (sym f)) ∙ length-append (first_sign t.negative) unsigned
place_of (b ∷ before) t ts text unsigned e f =
    let whole : length text ≡ length (spelled (b ∷ before)) + suc (length unsigned) = ap length (sym e ∙ spelled-append b before (t ∷ ts) ∙ ap (λ l. spelled (b ∷ before) ++ (later_sign t.negative ∷ l)) (sym f)) ∙ length-append (spelled (b ∷ before)) (later_sign t.negative ∷ unsigned) in
    omega (arith, whole)

-- a term's text is not empty
long : (t : WrittenTerm) (ys : List ℕ) → IsTerm t → 0 < length (unsigned_text t)
long t ys is = from_digits t.numerator is.numerator
  where
    from_digits : (ds : List ℕ) → IsWhole ds → 0 < length (ds ++ (quotient_text t.denominator ++ exponent_text t.exponent))
    from_digits [] w = absurd w
    from_digits (d ∷ ds) w = omega arith

length-remaining : (before : List WrittenTerm) (t : WrittenTerm) (ts : List WrittenTerm) → length (unsigned_text t ++ spelled_later ts) ≤ length (remaining before (t ∷ ts))
length-remaining [] t ts = omega (arith, length-append (first_sign t.negative) (unsigned_text t ++ spelled_later ts))
length-remaining (b ∷ before) t ts = omega arith

-- the next term
pub record IsNext (text rest unsigned : List ℕ) (before : List WrittenTerm) (negative : Bool) : Type 0 where
  pub term : WrittenTerm
  pub later : List WrittenTerm
  pub are_terms : AreTerms (before ++ (term ∷ later))
  pub spells : spelled (before ++ (term ∷ later)) ≡ text
  pub sign : negative ≡ term.negative
  pub body : unsigned ≡ unsigned_text term ++ spelled_later later
  pub left : rest ≡ remaining before (term ∷ later)

pub next-term : (text rest unsigned : List ℕ) (ws : List Written) (negative : Bool) → IsReadTo text ws rest → 0 < length rest → IsSignSplit rest negative unsigned → IsNext text rest unsigned (map written_term ws) negative
next-term text rest unsigned ws negative h some sign = of_terms h.after h.are_terms h.spells h.left
  where
    no_more : (before : List WrittenTerm) → rest ≡ remaining before [] → ⊥
    no_more [] g = omega (arith, ap length g)
    no_more (b ∷ before) g = omega (arith, ap length g)

    of_terms : (after : List WrittenTerm) → AreTerms (map written_term ws ++ after) → spelled (map written_term ws ++ after) ≡ text → rest ≡ remaining (map written_term ws) after → IsNext text rest unsigned (map written_term ws) negative
    of_terms [] are e f = absurd (no_more (map written_term ws) f)
    of_terms (t ∷ ts) are e f = let s = sign_of (map written_term ws) t ts rest unsigned negative (term-at (map written_term ws) t ts are) f sign in
        record { term = t; later = ts; are_terms = are; spells = e; sign = s.0; body = s.1; left = f }

pub unsigned-fits : (text rest unsigned : List ℕ) (before : List WrittenTerm) (negative : Bool) → IsNext text rest unsigned before negative → length unsigned ≤ length text
unsigned-fits text rest unsigned before negative n = let whole = place_of before n.term n.later text unsigned n.spells n.body in omega (arith, whole)

abbrev IsSplitAt : List ℕ → Written → List ℕ → Type 0
IsSplitAt unsigned w left = (t : WrittenTerm) (ys : List ℕ) → IsTerm t → IsBehindTerm ys → unsigned ≡ unsigned_text t ++ ys
    → (w.numerator.now ≡ t.numerator) × (option_copied w.denominator ≡ t.denominator) × (option_copied w.exponent ≡ t.exponent) × (left ≡ ys)

pub rest-smaller : (text rest unsigned : List ℕ) (before : List WrittenTerm) (negative : Bool) (left : List ℕ) → IsNext text rest unsigned before negative
    → ((t : WrittenTerm) (ys : List ℕ) → IsTerm t → IsBehindTerm ys → unsigned ≡ unsigned_text t ++ ys → left ≡ ys) → length left < length rest
rest-smaller text rest unsigned before negative left n split =
    let is = term-at before n.term n.later n.are_terms in
    let some : 0 < length (unsigned_text n.term) = long n.term (spelled_later n.later) is in
    let same = split n.term (spelled_later n.later) is (behind_later n.later) n.body in
    omega (arith, some, ap length same, ap length n.left, length-remaining before n.term n.later, length-append (unsigned_text n.term) (spelled_later n.later))

-- a term more at the end
placed-push : (ws : List Written) (w : Written) → ArePlaced ws → w.place ≡ numerator_place (map written_term ws) (written_term w) → ArePlaced (ws ++ (w ∷ []))
placed-push ws w old new k d lt = elim (cases_lt k (length ws)) [
  | inl l ↦ (let at : get_or (ws ++ (w ∷ [])) k d ≡ get_or ws k d = get_or_append_left ws (w ∷ []) d k l in let front : take k (ws ++ (w ∷ [])) ≡ take k ws = take-append-le k ws (w ∷ []) (omega arith) in
      ap (λ (v : Written). v.place) at ∙ old k d l ∙ sym (ap₂ (λ (l : List Written) (v : Written). numerator_place (map written_term l) (written_term v)) front at))
  | inr g ↦ (let same : k ≡ length ws = omega (arith, lt, length-append ws (w ∷ [])) in
      subst (λ j. (get_or (ws ++ (w ∷ [])) j d).place ≡ numerator_place (map written_term (take j (ws ++ (w ∷ [])))) (written_term (get_or (ws ++ (w ∷ [])) j d))) (sym same)
      (let at : get_or (ws ++ (w ∷ [])) (length ws) d ≡ w = get_or-append_seam ws w [] d in let front : take (length ws) (ws ++ (w ∷ [])) ≡ ws = take-append_seam ws (w ∷ []) in
      ap (λ (v : Written). v.place) at ∙ new ∙ sym (ap₂ (λ (l : List Written) (v : Written). numerator_place (map written_term l) (written_term v)) front at)))
]

left-push : (ws : List Written) (w : Written) (ts : List WrittenTerm) → remaining (map written_term (ws ++ (w ∷ []))) ts ≡ spelled_later ts
left-push [] w ts = refl
left-push (v ∷ vs) w ts = refl

terms-push : (ws : List Written) (w : Written) (t : WrittenTerm) (ts : List WrittenTerm) → written_term w ≡ t → map written_term (ws ++ (w ∷ [])) ++ ts ≡ map written_term ws ++ (t ∷ ts)
terms-push [] w t ts e = ap (λ u. u ∷ ts) e
terms-push (v ∷ vs) w t ts e = ap (λ l. written_term v ∷ l) (terms-push vs w t ts e)

-- what one step reads
pub read-more : (text rest unsigned : List ℕ) (ws : List Written) (w : Written) (left : List ℕ) → IsReadTo text ws rest → IsNext text rest unsigned (map written_term ws) w.negative → IsSplitAt unsigned w left
    → w.place ≡ length text - length unsigned → IsReadTo text (ws ++ (w ∷ [])) left
read-more text rest unsigned ws w left h n split place =
    let before = map written_term ws in
    let t = n.term in
    let ts = n.later in
    let is : IsTerm n.term = term-at before n.term n.later n.are_terms in
    let p = split n.term (spelled_later n.later) is (behind_later n.later) n.body in
    let same : written_term w ≡ n.term = term_ext w.negative t.negative w.numerator.now t.numerator (option_copied w.denominator) t.denominator (option_copied w.exponent) t.exponent n.sign p.0 p.1 p.2 in
    let list : map written_term (ws ++ (w ∷ [])) ++ n.later ≡ map written_term ws ++ (n.term ∷ n.later) = terms-push ws w n.term n.later same in
    let whole = place_of before n.term n.later text unsigned n.spells n.body in
    let at : w.place ≡ numerator_place (map written_term ws) n.term = omega (arith, place, whole) in
    record {
      after = ts;
      are_terms = subst AreTerms (sym list) n.are_terms;
      spells = ap spelled list ∙ n.spells;
      left = p.3 ∙ sym (left-push ws w ts);
      placed = placed-push ws w h.placed (at ∙ ap (numerator_place before) (sym same));
    }

pub read-none : (text : List ℕ) → IsNumber text → text ≢ 48 ∷ [] → IsReadTo text [] text
read-none text h n = of_terms h.terms h.are_terms h.spells
  where
    of_terms : (ts : List WrittenTerm) → AreTerms ts → spelled ts ≡ text → IsReadTo text [] text
    of_terms [] are e = absurd (n (sym e))
    of_terms (t ∷ ts) are e = record { after = t ∷ ts; are_terms = are; spells = e; left = sym e; placed = λ k d lt. absurd (omega (arith, lt)) }

pub read-all : (text rest : List ℕ) (ws : List Written) → IsReadTo text ws rest → length rest ≡ 0 → AreTerms (map written_term ws) × (spelled (map written_term ws) ≡ text)
read-all text rest ws h e = of_terms h.after h.are_terms h.spells h.left
  where
    of_terms : (after : List WrittenTerm) → AreTerms (map written_term ws ++ after) → spelled (map written_term ws ++ after) ≡ text → rest ≡ remaining (map written_term ws) after → AreTerms (map written_term ws) × (spelled (map written_term ws) ≡ text)
    of_terms [] are f g = (subst AreTerms (append-nil (map written_term ws)) are, ap spelled (sym (append-nil (map written_term ws))) ∙ f)
    of_terms (t ∷ ts) are f g = absurd (more (map written_term ws) are g)
      where
        first : (ds ys : List ℕ) → IsWhole ds → 0 < length (ds ++ ys)
        first [] ys w = absurd w
        first (d ∷ ds) ys w = omega arith

        more : (before : List WrittenTerm) → AreTerms (before ++ (t ∷ ts)) → rest ≡ remaining before (t ∷ ts) → ⊥
        more [] a k =
            let long : 0 < length (unsigned_text t ++ spelled_later ts) = subst (λ l. 0 < length l) (sym (regrouped t (spelled_later ts))) (first t.numerator (quotient_text t.denominator ++ (exponent_text t.exponent ++ spelled_later ts)) a.0.numerator) in
            omega (arith, e, ap length k, long, length-append (first_sign t.negative) (unsigned_text t ++ spelled_later ts))
        more (b ∷ before) a k = omega (arith, e, ap length k)
